-- Partitions by the places in which they stand.
use Rattle.std.specs.Prelude.{◌≡◌, ◌<◌, ◌⊎◌, ℕ, List, length, slice_index_or, Option, Some, None}
use Rattle.pt_members.specs.declared.layout.Layout.{Layout}
use Rattle.pt_members.specs.declared.member.Kind.TheVariants.{Slice}
use Rattle.pt_members.specs.declared.member.Member.{Member}
use Rattle.pt_members.specs.Members.{slots, parts}

-- the member stands in one of the places
abbrev pub AtPlace : List (Option Member) → Member → Type 0
AtPlace places m = (k : ℕ) × (k < length places) × (slice_index_or places k None ≡ Some m)

-- x is m, or a partition of its label
abbrev pub IsNear : Layout → Member → Member → Type 0
IsNear o m x = (x ≡ m) ⊎ ((m.kind ≡ Slice) × AtPlace (parts o m) x)

-- x is a record, an entry, a logical partition, or a partition of the label of one
abbrev pub InLayout : ℕ → Layout → Member → Type 0
InLayout b o x = (m : Member) × AtPlace (slots b o.body) m × IsNear o m x

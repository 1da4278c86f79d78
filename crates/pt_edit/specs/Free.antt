-- Where a new partition of a layout may lie, and the blocks of free sectors there.
use Rattle.std.specs.Prelude.{◌≡◌, ◌+◌, ◌^◌, ◌++◌, ◌∷◌, ◌&&◌, [], ℕ, List, Option, Some, None, if◌then◌else◌, flat_map, map, nat_le, nat_lt}
use Rattle.pt_bsd.specs.declared.label.Label.{Label}
use Rattle.pt_mbr.specs.declared.ebr.Ebr.{Ebr}
use Rattle.pt_mbr.specs.declared.record.Record.{Record}
use Rattle.pt_mbr.specs.Records.{is_extended}
use Rattle.pt_members.specs.declared.layout.Body.{Body}
use Rattle.pt_members.specs.declared.layout.Body.TheVariants.{Mbr, Gpt}
use Rattle.pt_members.specs.declared.layout.Labelled.{Labelled}
use Rattle.pt_members.specs.declared.layout.Layout.{Layout}
use Rattle.pt_members.specs.declared.member.Kind.TheVariants.{Leaf, Slice, Extended}
use Rattle.pt_members.specs.declared.member.Member.{Member}
use Rattle.pt_members.specs.Members.{label_of}
use Rattle.pt_members.specs.Rows.{body_rows}
use Rattle.pt_edit.specs.declared.free.FreeBlock.{FreeBlock}
use Rattle.pt_edit.specs.declared.space.Run.{Run}
use Rattle.pt_edit.specs.Chains.{logical_area}
use Rattle.pt_edit.specs.Entries.{table_area}
use Rattle.pt_edit.specs.MbrEdits.{disk_area}
use Rattle.pt_edit.specs.SliceLabels.{area_in}
use Rattle.pt_edit.specs.Space.{Area, AreBlocks}

-- ## At the table's own level.

-- on n sectors
abbrev pub area_on : ℕ → Body → Area
area_on n (Mbr records chain) = disk_area n records
area_on n (Gpt t) = table_area t

-- what `n` without a letter looks for a place in, but for a logical partition
abbrev pub free_area : Layout → Area
free_area o = area_on o.sectors o.body

-- ## And inside the extended partition and the slices.

-- an area, and the number of the extended partition or the slice that it lies inside
pub record Place : Type 0 where
  pub inside : Option ℕ
  pub area : Area

abbrev pub place_of : Option ℕ → Area → Place
place_of inside area = record { inside = inside; area = area }

-- the first extended record, with its number, where the first record has number n
unfoldable pub extended_from : ℕ → List (Option Record) → Option (ℕ × Record)
extended_from n [] = None
extended_from n (None ∷ rs) = extended_from (n + 1) rs
extended_from n (Some r ∷ rs) = if is_extended r.kind then Some (n, r) else extended_from (n + 1) rs

-- where `n` places logical partitions
abbrev pub extended_place : List Ebr → Option (ℕ × Record) → List Place
extended_place chain None = []
extended_place chain (Some x) = place_of (Some x.0) (logical_area x.1 chain) ∷ []

abbrev pub extended_places : Body → List Place
extended_places (Mbr records chain) = extended_place chain (extended_from 1 records)
extended_places (Gpt t) = []

-- where `n` with a letter places the partitions of a slice's label, if the slice's sectors exist
abbrev pub label_place : Member → Option Label → List Place
label_place m None = []
label_place m (Some l) =
    if nat_le m.first m.last && nat_lt m.last (2 ^ 63) then place_of (Some m.path.number) (area_in l m) ∷ [] else []

abbrev pub slice_place : List Labelled → Member → List Place
slice_place labels m = elim m.kind as (λ k. List Place) [
  | Leaf ↦ []
  | Slice ↦ label_place m (label_of labels m.path.number)
  | Extended ↦ []
]

-- the slices in the order of their numbers
abbrev pub slice_places : ℕ → Layout → List Place
slice_places b o = flat_map (λ row. slice_place o.labels row.member) (body_rows b o.body)

-- all of them, the table's own level first
abbrev pub free_places : ℕ → Layout → List Place
free_places b o = place_of None (free_area o) ∷ (extended_places o.body ++ slice_places b o)

-- a block of a place
abbrev pub block_of : Option ℕ → Run → FreeBlock
block_of inside run = record { first = run.first; last = run.last; inside = inside }

-- all blocks of each place, one place after another
abbrev pub AreFree : List Place → List FreeBlock → Type 0
AreFree [] list = list ≡ []
AreFree (p ∷ ps) list =
    (runs : List Run) × (rest : List FreeBlock) × AreBlocks p.area runs × AreFree ps rest × (list ≡ map (block_of p.inside) runs ++ rest)

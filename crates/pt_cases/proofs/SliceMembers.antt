-- Lemmas on specs/Keeps.antt: slices as members, where they lie, and their label places.
use Rattle.std.specs.Prelude.{◌≡◌, ◌<◌, ◌≤◌, ◌+◌, ◌-◌, ◌^◌, ◌∷◌, [], ℕ, zero, suc, List, Contains, Option, Some, None, flat_map}
use Rattle.std.proofs.Common.{refl, sym, ap, ◌∙◌, arith, inl, inr}
use Rattle.std.proofs.lemmas.List.Elements.{Contains-append_cases}
use Rattle.pt_members.specs.Members.{extent_len, slice_from, slice_as, slice_of, slice_in, slices_of, number_path, slots, Group}
use Rattle.pt_members.specs.Members.{top_group}
use Rattle.pt_members.specs.Rows.{IsMember}
use Rattle.pt_members.specs.declared.layout.Slice.{Slice}
use Rattle.pt_members.specs.declared.layout.Layout.{Layout}
use Rattle.pt_members.specs.declared.layout.Body.{Body}
use Rattle.pt_members.specs.declared.member.Kind.{Kind}
use Rattle.pt_members.specs.declared.member.Kind.TheVariants as kind
use Rattle.pt_members.specs.declared.member.Member.{Member}
use Rattle.pt_members.proofs.ByRows.{place_member}
use Rattle.pt_members.proofs.Paths.{slot_whole}
use Rattle.pt_members.proofs.Standing.{AtPlace}
use Rattle.pt_layout.specs.Sound.{LiesInside, Sound}
use Rattle.pt_cases.proofs.Slots.{slot_usable_lem}
use Rattle.pt_cases.specs.Keeps.{IsSliceMember, LiesUsable}

none_there : (s : Slice) → Contains [] s → ⊥
none_there s (k, lt, at) = omega (arith, lt)

only : (x s : Slice) → Contains (x ∷ []) s → x ≡ s
only x s (zero, lt, at) = at
only x s (suc k, lt, at) = absurd (omega (arith, lt))

-- a slice that is made by a kind
made : (k : Kind) (x s : Slice) → Contains (slice_as k x) s → (k ≡ kind.Slice) × (x ≡ s)
made kind.Leaf x s has = absurd (none_there s has)
made kind.Slice x s has = (refl, only x s has)
made kind.Extended x s has = absurd (none_there s has)

-- a slice stands where its member does
abbrev StandsIn : List (Option Member) → Slice → Type 0
StandsIn places s = (m : Member) × AtPlace places m × Contains (slice_of m) s

stands_tail : (o : Option Member) (os : List (Option Member)) (s : Slice) → StandsIn os s → StandsIn (o ∷ os) s
stands_tail o os s (m, (k, lt, at), is) = (m, (suc k, omega (arith, lt), at), is)

stands : (os : List (Option Member)) (s : Slice) → Contains (flat_map slice_in os) s → StandsIn os s
stands [] s has = absurd (none_there s has)
stands (None ∷ os) s has = stands_tail None os s (stands os s has)
stands (Some m ∷ os) s has = elim (Contains-append_cases (slice_of m) (flat_map slice_in os) s has) as (λ _. StandsIn (Some m ∷ os) s) [
  | inl here ↦ (m, (0, omega arith, refl), here)
  | inr there ↦ stands_tail (Some m) os s (stands os s there)
]

slice_is : (b : ℕ) (y : Body) (m : Member) (s : Slice) → AtPlace (slots b y) m → m.kind ≡ kind.Slice
    → slice_from m.path.number m.first m.last ≡ s → IsSliceMember s m
slice_is b y m s at is same =
    let number : m.path.number ≡ s.number = ap (λ (x : Slice). x.number) same in
    record {
      kind = is;
      path = slot_whole b y m at ∙ ap (λ (k : ℕ). number_path k) number;
      slice = sym same ∙ ap (λ (k : ℕ). slice_from k m.first m.last) number;
    }

-- each slice, of any length, is a member in a slot
pub slice_member_lem : (b : ℕ) (y : Body) (s : Slice) → Contains (slices_of b y) s → (m : Member) × AtPlace (slots b y) m
    × IsSliceMember s m
unfolding slices_of
slice_member_lem b y s has =
    let h = stands (slots b y) s has in
    let is = made h.0.kind (slice_from h.0.path.number h.0.first h.0.last) s h.2 in
    (h.0, h.1, slice_is b y h.0 s h.1 is.0 is.1)

-- so it is a member of its number, on its sectors
pub slices_are_members_lem : (b : ℕ) (o : Layout) (s : Slice) → Contains (slices_of b o.body) s
    → (m : Member) × IsMember b o m × IsSliceMember s m
slices_are_members_lem b o s has =
    let h = slice_member_lem b o.body s has in
    (h.0, place_member b o h.0 (h.0, h.1, inl refl), h.2)

len_is : (first last : ℕ) → first ≤ last → last < 2 ^ 63 → extent_len first last ≡ last - first + 1
len_is first last order below = grind arith

-- the sectors of a slice are those of its member
pub same_sectors : (s : Slice) (m : Member) (g : Group) → IsSliceMember s m → LiesInside g m
    → (s.first ≡ m.first) × (s.first + s.len ≡ m.last + 1)
same_sectors s m g is inside =
    let first : s.first ≡ m.first = ap (λ (x : Slice). x.first) is.slice in
    let len : s.len ≡ m.last - m.first + 1 = ap (λ (x : Slice). x.len) is.slice ∙ len_is m.first m.last inside.exists.0 inside.exists.1 in
    (first, omega (arith, first, len, inside.exists.0))

pub slice_lies_lem : (b : ℕ) (o : Layout) (s : Slice) → Sound b o → Contains (slices_of b o.body) s → LiesUsable b o s
slice_lies_lem b o s sound has =
    let h = slice_member_lem b o.body s has in
    let inside = slot_usable_lem b o h.0 sound h.1 in
    let same = same_sectors s h.0 (top_group b o.sectors o.body) h.2 inside in
    record {
      some = omega (arith, same, inside.exists.0);
      low = omega (arith, same.0, inside.low);
      high = omega (arith, same.1, inside.high);
    }

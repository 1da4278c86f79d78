-- The partitions of a layout, one after the other: those that are listed are those that stand in its places.
use Rattle.std.proofs.Common.{◌≡◌, ℕ, zero, suc, List, [], ◌∷◌, ◌++◌, Option, Some, None, refl, sym, subst, inl, inr, ⊎_elim, arith}
use Rattle.std.specs.Prelude.{◌⊎◌, Contains, flat_map}
use Rattle.std.proofs.lemmas.List.Elements.{Contains-append_cases, Contains-append_left, Contains-append_right, Contains-push}
use Rattle.std.proofs.lemmas.List.Elements.{Contains-push_cases}
use Rattle.pt_members.specs.declared.layout.Layout.{Layout}
use Rattle.pt_members.specs.declared.member.Kind.{Kind}
use Rattle.pt_members.specs.declared.member.Kind.TheVariants.{Leaf, Slice, Extended}
use Rattle.pt_members.specs.declared.member.Member.{Member}
use Rattle.pt_members.specs.Members.{parts, present, slots}
use Rattle.pt_members.specs.Rows.{IsMember, members_below, members_of}
use Rattle.pt_members.specs.Tables.{Owns}
use Rattle.pt_members.specs.inner.Members.{IsLeafWith}
use Rattle.pt_members.proofs.Standing.{AtPlace, InLayout, IsNear}
use Rattle.pt_members.proofs.Grouped.{InGroups, contains_cases, contains_head, contains_none, contains_tail, from_present, grouped_place}
use Rattle.pt_members.proofs.Grouped.{place_grouped, place_tail, to_present}
use Rattle.pt_members.proofs.RowMembers.{at_place, members_by_place}

below_near : (o : Layout) (m x : Member) (k : Kind) → m.kind ≡ k → Contains (members_below k o m) x → IsNear o m x
below_near o m x Leaf is at = absurd (contains_none x at)
below_near o m x Slice is at = inr (is, from_present (parts o m) x at)
below_near o m x Extended is at = absurd (contains_none x at)

near_below : (o : Layout) (m x : Member) (k : Kind) → k ≡ Slice → AtPlace (parts o m) x → Contains (members_below k o m) x
near_below o m x Leaf is at = absurd cc
near_below o m x Slice is at = to_present (parts o m) x at
near_below o m x Extended is at = absurd cc

there : (o : Layout) (ms : List (Option Member)) (x : Member) → Contains (flat_map (at_place o) ms) x
    → (m : Member) × AtPlace ms m × IsNear o m x
there o [] x is = absurd (contains_none x is)
there o (None ∷ ms) x is = let r = there o ms x is in (r.0, place_tail None ms r.0 r.1, r.2)
there o (Some m ∷ ms) x is =
    ⊎_elim
    (λ here. (
      m,
      (0, omega arith, refl),
      ⊎_elim (λ same. inl (sym same)) (λ at. below_near o m x m.kind refl at)
          (contains_cases m (members_below m.kind o m) x here),
    ))
    (λ later. (let r = there o ms x later in (r.0, place_tail (Some m) ms r.0 r.1, r.2)))
    (Contains-append_cases (m ∷ members_below m.kind o m) (flat_map (at_place o) ms) x is)

at_head : (o : Layout) (z m x : Member) → z ≡ m → IsNear o m x → Contains (z ∷ members_below z.kind o z) x
at_head o z m x same near = subst (λ (y : Member). Contains (y ∷ members_below y.kind o y) x) (sym same)
    (⊎_elim (λ is. subst (λ (y : Member). Contains (m ∷ members_below m.kind o m) y) (sym is) (contains_head m (members_below m.kind o m)))
    (λ part. contains_tail m (members_below m.kind o m) x (near_below o m x m.kind part.0 part.1)) near)

back : (o : Layout) (ms : List (Option Member)) (m x : Member) → AtPlace ms m → IsNear o m x → Contains (flat_map (at_place o) ms) x
back o [] m x at near = absurd (omega (arith, at.1))
back o (None ∷ ms) m x (zero, lt, at) near = absurd (cc at)
back o (None ∷ ms) m x (suc k, lt, at) near = back o ms m x (k, omega arith, at) near
back o (Some z ∷ ms) m x (zero, lt, at) near =
    let same : z ≡ m = cc in
    Contains-append_left (z ∷ members_below z.kind o z) (flat_map (at_place o) ms) x (at_head o z m x same near)
back o (Some z ∷ ms) m x (suc k, lt, at) near =
    Contains-append_right (z ∷ members_below z.kind o z) (flat_map (at_place o) ms) x (back o ms m x (k, omega arith, at) near)

pub member_place : (b : ℕ) (o : Layout) (x : Member) → IsMember b o x → InLayout b o x
member_place b o x is =
    there o (slots b o.body) x (subst (λ (ms : List Member). Contains ms x) (members_by_place b o) is)

pub place_member : (b : ℕ) (o : Layout) (x : Member) → InLayout b o x → IsMember b o x
place_member b o x is =
    subst (λ (ms : List Member). Contains ms x) (sym (members_by_place b o)) (back o (slots b o.body) is.0 x is.1 is.2)

-- they are those of the groups
pub member_grouped : (b : ℕ) (o : Layout) (x : Member) → IsMember b o x → InGroups b o x
member_grouped b o x is = place_grouped b o x (member_place b o x is)

pub grouped_member : (b : ℕ) (o : Layout) (x : Member) → InGroups b o x → IsMember b o x
grouped_member b o x is = place_member b o x (grouped_place b o x is)

-- ## The leaves among them that have a sector.

-- one of these is a leaf with the sector
abbrev pub HasLeafAmong : List Member → ℕ → Type 0
HasLeafAmong ms s = (x : Member) × Contains ms x × IsLeafWith x s

pub among_none : (s : ℕ) → HasLeafAmong [] s → ⊥
among_none s is = contains_none is.0 is.1

pub among_before : (ms : List Member) (m : Member) (s : ℕ) → HasLeafAmong ms s → HasLeafAmong (ms ++ m ∷ []) s
among_before ms m s is = (is.0, Contains-append_left ms (m ∷ []) is.0 is.1, is.2)

pub among_last : (ms : List Member) (m : Member) (s : ℕ) → IsLeafWith m s → HasLeafAmong (ms ++ m ∷ []) s
among_last ms m s is = (m, Contains-push ms m, is)

pub among_cases : (ms : List Member) (m : Member) (s : ℕ) → HasLeafAmong (ms ++ m ∷ []) s → HasLeafAmong ms s ⊎ IsLeafWith m s
among_cases ms m s is = ⊎_elim
    (λ was. inl (is.0, was, is.2)) (λ same. inr (subst (λ (y : Member). IsLeafWith y s) (sym same) is.2))
    (Contains-push_cases ms m is.0 is.1)

-- what a layout's partitions own are the sectors of the leaves among them
pub among_owns : (b : ℕ) (o : Layout) (s : ℕ) → HasLeafAmong (members_of b o) s → Owns b o s
among_owns b o s has = record {
  leaf = has.0;
  is_member = has.1;
  is_leaf = has.2.1;
  exists = has.2.0;
  holds = has.2.2;
}

pub owns_among : (b : ℕ) (o : Layout) (s : ℕ) → Owns b o s → HasLeafAmong (members_of b o) s
owns_among b o s owns = (owns.leaf, owns.is_member, (owns.exists, owns.is_leaf, owns.holds))

-- The first fault among the groups is the first finding of a layout.
use Rattle.std.proofs.Common.{◌≡◌, ◌<◌, ◌≤◌, ◌^◌, ℕ, suc, List, ◌++◌, length, get_or, take, drop, Some, None, refl, sym, ap, ◌∙◌, subst}
use Rattle.std.proofs.Common.{arith, inl, inr, drop-cons, length-take, get_or-take}
use Rattle.std.specs.Prelude.{Contains}
use Rattle.std.proofs.lemmas.Bool.{cases_lt}
use Rattle.std.proofs.lemmas.List.{get_or_default, take-append-drop}
use Rattle.std.proofs.lemmas.List.Elements.{Contains-get_or}
use Rattle.pt_members.specs.declared.layout.Layout.{Layout}
use Rattle.pt_path.specs.declared.path.Path.{Path}
use Rattle.pt_members.specs.declared.member.Member.{Member}
use Rattle.pt_layout.specs.declared.sound.overlap.Overlap.{Overlap}
use Rattle.pt_layout.specs.declared.sound.spot.Spot.{Spot}
use Rattle.pt_layout.specs.declared.sound.faults.Fault.TheVariants.{Outside, Buried}
use Rattle.pt_path.specs.Paths.{rank}
use Rattle.pt_members.specs.Members.{Exists, Group, groups_of}
use Rattle.pt_members.specs.Rows.{IsMember}
use Rattle.pt_members.proofs.ByRows.{grouped_member, member_grouped}
use Rattle.pt_layout.specs.Sound.{nobody, IsApart, LiesInside, IsMemberOf, AllInside, AllApart, OffTables, IsBuried, IsOutside}
use Rattle.pt_layout.specs.Sound.{IsFirstOutside, IsFirstShared, IsFirstBuried}
use Rattle.pt_layout.specs.inner.Sound.{SpotIsBefore, spot, LeastIs, FaultAmong, no_group, AllOrdered, SharedIs}

stable_le : (a b : ℕ) → ¬ (¬ (a ≤ b)) → a ≤ b
stable_le a b nn = elim (cases_lt b a) as (λ _. a ≤ b) [ inl lt ↦ absurd (nn (λ le. omega arith)) | inr ge ↦ ge ]

stable_lt : (a b : ℕ) → ¬ (¬ (a < b)) → a < b
stable_lt a b nn = elim (cases_lt a b) as (λ _. a < b) [ inl lt ↦ lt | inr ge ↦ absurd (nn (λ lt. omega arith)) ]

inside_stable : (g : Group) (m : Member) → ¬ (¬ LiesInside g m) → LiesInside g m
inside_stable g m nn = record {
  exists = (stable_le m.first m.last (λ no. nn (λ is. no is.exists.0)), stable_lt m.last (2 ^ 63) (λ no. nn (λ is. no is.exists.1)));
  low = stable_le g.low m.first (λ no. nn (λ is. no is.low));
  high = stable_le m.last g.high (λ no. nn (λ is. no is.high));
}

-- a member of a group is a member
pub member_there : (b : ℕ) (o : Layout) (g : Group) (m : Member) → IsMemberOf b o g m → IsMember b o m
member_there b o g m is = grouped_member b o m (record { group = g; stands = is.stands; sibling = is.sibling })

-- a member of a group, by places
of_place : (b : ℕ) (o : Layout) (j i : ℕ) → j < length (groups_of b o) → i < length (get_or (groups_of b o) j no_group).members
    → IsMemberOf b o (get_or (groups_of b o) j no_group) (get_or (get_or (groups_of b o) j no_group).members i nobody)
of_place b o j i low lt = record {
  stands = Contains-get_or (groups_of b o) j no_group low;
  sibling = Contains-get_or (get_or (groups_of b o) j no_group).members i nobody lt;
}

-- what holds of a member of a group holds of one by places
record Placed (b : ℕ) (o : Layout) (P : Group → Member → Type 0) : Type 0 where
  j : ℕ
  i : ℕ
  low : j < length (groups_of b o)
  lt : i < length (get_or (groups_of b o) j no_group).members
  here : P (get_or (groups_of b o) j no_group) (get_or (get_or (groups_of b o) j no_group).members i nobody)

to_place : (b : ℕ) (o : Layout) (P : Group → Member → Type 0) (g : Group) (m : Member) → IsMemberOf b o g m → P g m → Placed b o P
to_place b o P g m is p =
    let j = is.stands.0 in
    let i = is.sibling.0 in
    let same : get_or (groups_of b o) j no_group ≡ g = get_or_default (groups_of b o) j no_group g is.stands.1 ∙ is.stands.2 in
    let member : get_or g.members i nobody ≡ m = get_or_default g.members i nobody m is.sibling.1 ∙ is.sibling.2 in
    let q : P g (get_or g.members i nobody) = subst (λ (x : Member). P g x) (sym member) p in
    record {
      j = j;
      i = i;
      low = is.stands.1;
      lt = subst (λ (h : Group). i < length h.members) (sym same) is.sibling.1;
      here = subst (λ (h : Group). P h (get_or h.members i nobody)) (sym same) q;
    }

abbrev IsOut : Path → Group → Member → Type 0
IsOut q g m = (m.path ≡ q) × (¬ LiesInside g m)

outside_of : (b : ℕ) (o : Layout) (q : Path) (t : ℕ) → FaultAmong b o Outside (groups_of b o) q t → IsOutside b o q
outside_of b o q t (j, low, (i, lt, (zero_at, path, out))) = record {
  group = get_or (groups_of b o) j no_group;
  member = get_or (get_or (groups_of b o) j no_group).members i nobody;
  is_of = of_place b o j i low lt;
  path = path;
  outside = out;
}

outside_at : (b : ℕ) (o : Layout) (q : Path) → IsOutside b o q → FaultAmong b o Outside (groups_of b o) q 0
outside_at b o q is =
    let p = to_place b o (IsOut q) is.group is.member is.is_of (is.path, is.outside) in
    (p.j, p.low, (p.i, p.lt, (refl, p.here.0, p.here.1)))

not_before : (p q : Path) (s t : ℕ) → ¬ SpotIsBefore (spot q t) (spot p s) → rank p ≤ rank q
not_before p q s t none = elim (cases_lt (rank q) (rank p)) as (λ _. rank p ≤ rank q) [ inl lt ↦ absurd (none (inl lt)) | inr ge ↦ ge ]

not_lower : (p q : Path) (s t : ℕ) → q ≡ p → ¬ SpotIsBefore (spot q t) (spot p s) → s ≤ t
not_lower p q s t same none = elim (cases_lt t s) as (λ _. s ≤ t) [ inl lt ↦ absurd (none (inr (ap rank same, lt))) | inr ge ↦ ge ]

pub inside_all : (b : ℕ) (o : Layout) → LeastIs (FaultAmong b o Outside (groups_of b o)) None → AllInside b o
inside_all b o none g m is =
    inside_stable g m (λ out. none m.path 0 (outside_at b o m.path
    (record { group = g; member = m; is_of = is; path = refl; outside = out })))

pub outside_first : (b : ℕ) (o : Layout) (s : Spot) → LeastIs (FaultAmong b o Outside (groups_of b o)) (Some s) → IsFirstOutside b o s.path
outside_first b o s is = record {
  here = outside_of b o s.path s.lba is.0;
  first = λ q out. not_before s.path q s.lba 0 (is.1 q 0 (outside_at b o q out));
}

-- tables in members
buried_of : (b : ℕ) (o : Layout) (q : Path) (t : ℕ) → FaultAmong b o Buried (groups_of b o) q t
    → (m : Member) × (m.path ≡ q) × IsBuried b o m t
buried_of b o q t (j, low, (i, lt, (path, exists, (kind, holds, table, foreign)))) = (
  get_or (get_or (groups_of b o) j no_group).members i nobody,
  path,
  record {
    is_member = member_there b o _ _ (of_place b o j i low lt);
    kind = kind;
    holds = holds;
    table = table;
    foreign = foreign;
  },
)

abbrev IsIn : ℕ → Layout → ℕ → Path → Group → Member → Type 0
IsIn b o t q g m = (m.path ≡ q) × Exists m × IsBuried b o m t

buried_at : (b : ℕ) (o : Layout) (m : Member) (t : ℕ) → AllInside b o → IsBuried b o m t → FaultAmong b o Buried (groups_of b o) m.path t
buried_at b o m t inside is =
    let g = member_grouped b o m is.is_member in
    let of : IsMemberOf b o g.group m = record { stands = g.stands; sibling = g.sibling } in
    let p = to_place b o (IsIn b o t m.path) g.group m of (refl, (inside g.group m of).exists, is) in
    (p.j, p.low, (p.i, p.lt, (p.here.0, p.here.1, (p.here.2.kind, p.here.2.holds, p.here.2.table, p.here.2.foreign))))

pub off_all : (b : ℕ) (o : Layout) → AllInside b o → LeastIs (FaultAmong b o Buried (groups_of b o)) None → OffTables b o
off_all b o inside none m s is = none m.path s (buried_at b o m s inside is)

pub buried_first : (b : ℕ) (o : Layout) (s : Spot) → AllInside b o → LeastIs (FaultAmong b o Buried (groups_of b o)) (Some s)
    → IsFirstBuried b o s.path s.lba
buried_first b o s inside is =
    let h = buried_of b o s.path s.lba is.0 in
    record {
      member = h.0;
      path = h.1;
      here = h.2;
      first = λ m t buried. not_before s.path m.path s.lba t (is.1 m.path t (buried_at b o m t inside buried));
      lowest = λ m t buried same. not_lower s.path m.path s.lba t same (is.1 m.path t (buried_at b o m t inside buried));
    }

-- overlaps
pub ordered_all : (b : ℕ) (o : Layout) → AllInside b o → AllOrdered (groups_of b o)
ordered_all b o inside k g lt same i d below =
    (inside g (get_or g.members i d) (record { stands = (k, lt, same); sibling = Contains-get_or g.members i d below })).exists.0

pub apart_all : (b : ℕ) (o : Layout) → SharedIs (groups_of b o) None → AllApart b o
apart_all b o none g is =
    let same : get_or (groups_of b o) is.0 no_group ≡ g = get_or_default (groups_of b o) is.0 no_group g is.1 ∙ is.2 in
    subst (λ (h : Group). IsApart h.members) same (none is.0 is.1)

-- apart from the lemma below, so that no tactic reads what holds of each group
taken_low : (groups : List Group) (j k : ℕ) → j < length (take k groups) → j < k
taken_low groups j k lt = omega (arith, lt, length-take k groups)

below_both : (j k n : ℕ) → j < k → k < n → j < n
below_both j k n low lt = omega arith

apart_front : (groups : List Group) (k : ℕ) (g : Group) → ((j : ℕ) → j < k → IsApart (get_or groups j no_group).members)
    → k < length groups → Contains (take k groups) g → IsApart g.members
apart_front groups k g apart lt is =
    let low : is.0 < k = taken_low groups is.0 k is.1 in
    let same : get_or groups is.0 no_group ≡ g =
    get_or_default groups is.0 no_group g (below_both is.0 k (length groups) low lt) ∙ sym (get_or-take k groups is.0 g low) ∙ is.2 in
    subst (λ (h : Group). IsApart h.members) same (apart is.0 low)

pub shared_first : (b : ℕ) (o : Layout) (x : Overlap) → SharedIs (groups_of b o) (Some x) → IsFirstShared b o x.before x.it
shared_first b o x (k, is) = record {
  before = take k (groups_of b o);
  group = get_or (groups_of b o) k no_group;
  rest = drop (suc k) (groups_of b o);
  stands =
      sym (take-append-drop k (groups_of b o))
      ∙ ap (λ (l : List Group). take k (groups_of b o) ++ l) (drop-cons (groups_of b o) k no_group is.below);
  apart = λ g front. apart_front (groups_of b o) k g is.apart is.below front;
  here = is.here;
}

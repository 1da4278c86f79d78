-- The members by groups are the members by place.
use Rattle.std.proofs.Common.{◌≡◌, ◌+◌, ℕ, zero, suc, List, [], ◌∷◌, ◌++◌, length, Option, Some, None, refl, sym, ap, ◌∙◌, subst, arith}
use Rattle.std.proofs.Common.{inl, inr, true, false, length-append}
use Rattle.std.specs.Prelude.{◌⊎◌, option_map, Bool, flat_map, Contains, nat_eq, ◌&&◌}
use Rattle.std.proofs.lemmas.Bool.{and_right}
use Rattle.std.proofs.lemmas.List.{get_or_append_left, get_or-append-add}
use Rattle.std.proofs.lemmas.List.Elements.{Contains-append_left, Contains-append_right, Contains-append_cases}
use Rattle.pt_mbr.specs.Records.{extended_of, is_extended}
use Rattle.pt_mbr.specs.declared.record.Record.{Record}
use Rattle.pt_members.specs.declared.layout.Labelled.{Labelled}
use Rattle.pt_members.specs.declared.layout.Layout.{Layout}
use Rattle.pt_members.specs.declared.layout.Body.{Body}
use Rattle.pt_members.specs.declared.layout.Body.TheVariants.{Mbr, Gpt}
use Rattle.pt_members.specs.declared.member.Kind.{Kind}
use Rattle.pt_members.specs.declared.member.Kind.TheVariants.{Leaf, Slice, Extended}
use Rattle.pt_members.specs.declared.member.Member.{Member}
use Rattle.pt_members.specs.Members.{Group, group_of, groups_of, group_in, top_group, strays, present, slots, tops, logicals}
use Rattle.pt_members.specs.Members.{logicals_as, parts, record_kind, records_as, record_member}
use Rattle.pt_members.proofs.Standing.{AtPlace, InLayout}

-- m is one of a group
pub record InGroups (b : ℕ) (o : Layout) (m : Member) : Type 0 where
  pub group : Group
  pub stands : Contains (groups_of b o) group
  pub sibling : Contains group.members m

-- membership, by cases on the list
pub contains_head : {X : Type 0} (x : X) (xs : List X) → Contains (x ∷ xs) x
contains_head x xs = (0, omega arith, refl)

pub contains_tail : {X : Type 0} (x : X) (xs : List X) (y : X) → Contains xs y → Contains (x ∷ xs) y
contains_tail x xs y in_xs = (suc in_xs.0, omega (arith, in_xs.1), in_xs.2)

pub contains_cases : {X : Type 0} (x : X) (xs : List X) (y : X) → Contains (x ∷ xs) y → (x ≡ y) ⊎ Contains xs y
contains_cases x xs y (zero, lt, at) = inl at
contains_cases x xs y (suc k, lt, at) = inr (k, omega arith, at)

pub contains_none : {X : Type 0} (y : X) → Contains [] y → ⊥
contains_none y (k, lt, at) = omega arith

pub from_flat : {X Y : Type 0} (f : X → List Y) (xs : List X) (y : Y) → Contains (flat_map f xs) y
    → (x : X) × Contains xs x × Contains (f x) y
from_flat f [] y is = absurd (contains_none y is)
from_flat f (x ∷ xs) y is =
    elim (Contains-append_cases (f x) (flat_map f xs) y is) as (λ _. (z : _) × Contains (x ∷ xs) z × Contains (f z) y) [
      | inl here ↦ (x, contains_head x xs, here)
      | inr there ↦ (let r = from_flat f xs y there in (r.0, contains_tail x xs r.0 r.1, r.2))
    ]

pub to_flat : {X Y : Type 0} (f : X → List Y) (xs : List X) (x : X) (y : Y) → Contains xs x → Contains (f x) y → Contains (flat_map f xs) y
to_flat f [] x y in_xs in_f = absurd (contains_none x in_xs)
to_flat f (z ∷ xs) x y in_xs in_f = elim (contains_cases z xs x in_xs) as (λ _. Contains (f z ++ flat_map f xs) y) [
  | inl here ↦ Contains-append_left (f z) (flat_map f xs) y (subst (λ (w : _). Contains (f w) y) (sym here) in_f)
  | inr there ↦ Contains-append_right (f z) (flat_map f xs) y (to_flat f xs x y there in_f)
]

-- a present one stands in a place
pub place_tail : (o : Option Member) (os : List (Option Member)) (m : Member) → AtPlace os m → AtPlace (o ∷ os) m
place_tail o os m at = (suc at.0, omega (arith, at.1), at.2)

pub from_present : (os : List (Option Member)) (m : Member) → Contains (present os) m → AtPlace os m
from_present [] m is = absurd (contains_none m is)
from_present (None ∷ os) m is = place_tail None os m (from_present os m is)
from_present (Some x ∷ os) m is = elim (contains_cases x (present os) m is) as (λ _. AtPlace (Some x ∷ os) m) [
  | inl here ↦ (0, omega arith, ap (λ (w : Member). Some w) here)
  | inr there ↦ place_tail (Some x) os m (from_present os m there)
]

pub to_present : (os : List (Option Member)) (m : Member) → AtPlace os m → Contains (present os) m
to_present [] m at = absurd (omega (arith, at.1))
to_present (None ∷ os) m (zero, lt, at) = absurd (cc at)
to_present (None ∷ os) m (suc k, lt, at) = to_present os m (k, omega arith, at)
to_present (Some x ∷ os) m (zero, lt, at) =
    (let e : x ≡ m = cc in subst (λ (w : Member). Contains (x ∷ present os) w) e (contains_head x (present os)))
to_present (Some x ∷ os) m (suc k, lt, at) = contains_tail x (present os) m (to_present os m (k, omega arith, at))

pub place_left : (xs ys : List (Option Member)) (m : Member) → AtPlace xs m → AtPlace (xs ++ ys) m
place_left xs ys m at = (at.0, omega (arith, at.1, length-append xs ys), get_or_append_left xs ys None at.0 at.1 ∙ at.2)

pub place_right : (xs ys : List (Option Member)) (m : Member) → AtPlace ys m → AtPlace (xs ++ ys) m
place_right xs ys m at = (length xs + at.0, omega (arith, at.1, length-append xs ys), get_or-append-add xs ys at.0 None ∙ at.2)

pub present_split : (xs ys : List (Option Member)) (m : Member) → AtPlace (xs ++ ys) m → AtPlace xs m ⊎ AtPlace ys m
present_split [] ys m at = inr at
present_split (x ∷ xs) ys m (zero, lt, at) = inl (0, omega arith, at)
present_split (x ∷ xs) ys m (suc k, lt, at) =
    elim (present_split xs ys m (k, omega arith, at)) as (λ _. AtPlace (x ∷ xs) m ⊎ AtPlace ys m) [
      | inl here ↦ inl (place_tail x xs m here)
      | inr there ↦ inr there
    ]

-- what a container holds
pub slice_group : (o : Layout) (m : Member) → Group
slice_group o m = record { low = m.first + 16; high = m.last; members = present (parts o m) }

pub extended_group : (b : ℕ) (o : Layout) (m : Member) → Group
extended_group b o m = record { low = m.first; high = m.last; members = present (logicals b o.body) }

pub held_by_slice : (b : ℕ) (o : Layout) (m : Member) → m.kind ≡ Slice → group_in b o m ≡ slice_group o m ∷ []
unfolding group_in slice_group
held_by_slice b o m is = rw is refl

pub held_by_extended : (b : ℕ) (o : Layout) (m : Member) → m.kind ≡ Extended → group_in b o m ≡ extended_group b o m ∷ []
unfolding group_in extended_group
held_by_extended b o m is = rw is refl

held_by_leaf : (b : ℕ) (o : Layout) (m : Member) → m.kind ≡ Leaf → group_in b o m ≡ []
unfolding group_in
held_by_leaf b o m is = rw is refl

only : {X : Type 0} (x y : X) → Contains (x ∷ []) y → x ≡ y
only x y is = elim (contains_cases x [] y is) as (λ _. x ≡ y) [ inl here ↦ here | inr there ↦ absurd (contains_none y there) ]

pub top_members : (b n : ℕ) (y : Body) → (top_group b n y).members ≡ present (tops b y)
unfolding top_group
top_members b n (Mbr rs chain) = refl
top_members b n (Gpt t) = refl

-- a member in place, of a group
top_place : (b : ℕ) (o : Layout) (x : Member) → Contains (top_group b o.sectors o.body).members x → AtPlace (slots b o.body) x
top_place b o x is =
    place_left (tops b o.body) (logicals b o.body) x (from_present (tops b o.body) x
    (subst (λ (l : List Member). Contains l x) (top_members b o.sectors o.body) is))

logical_place : (b : ℕ) (o : Layout) (x : Member) → Contains (present (logicals b o.body)) x → AtPlace (slots b o.body) x
logical_place b o x is = place_right (tops b o.body) (logicals b o.body) x (from_present (logicals b o.body) x is)

held_place : (b : ℕ) (o : Layout) (m x : Member) (g : Group) (k : Kind) → m.kind ≡ k → AtPlace (slots b o.body) m
    → Contains (group_in b o m) g → Contains g.members x → InLayout b o x
unfolding slice_group extended_group
held_place b o m x g Leaf is at in_group in_members =
    absurd (contains_none g (subst (λ (l : List Group). Contains l g) (held_by_leaf b o m is) in_group))
held_place b o m x g Slice is at in_group in_members =
    let e : slice_group o m ≡ g = only (slice_group o m) g (subst (λ (l : List Group). Contains l g) (held_by_slice b o m is) in_group) in
    (m, at, inr (is, from_present (parts o m) x (subst (λ (h : Group). Contains h.members x) (sym e) in_members)))
held_place b o m x g Extended is at in_group in_members =
    let e : extended_group b o m ≡ g =
    only (extended_group b o m) g (subst (λ (l : List Group). Contains l g) (held_by_extended b o m is) in_group) in
    (x, logical_place b o x (subst (λ (h : Group). Contains h.members x) (sym e) in_members), inl refl)

-- a stray is a logical partition
stray_place : (b : ℕ) (y : Body) (g : Group) (x : Member) → Contains (strays b y) g → Contains g.members x
    → Contains (present (logicals b y)) x
unfolding strays logicals
stray_place b (Gpt t) g x in_strays in_members = absurd (contains_none g in_strays)
stray_place b (Mbr rs chain) g x in_strays in_members = by_case (extended_of rs) refl where
  by_case : (es : List Record) → extended_of rs ≡ es → Contains (present (logicals_as b 5 chain)) x
  by_case [] e =
      let h : strays b (Mbr rs chain) ≡ record { low = 1; high = 0; members = present (logicals_as b 5 chain) } ∷ [] =
      rw (e, strays) refl in
      let same : record { low = 1; high = 0; members = present (logicals_as b 5 chain) } ≡ g =
      only _ g (subst (λ (l : List Group). Contains l g) h in_strays) in
      subst (λ (h : Group). Contains h.members x) (sym same) in_members
  by_case (r ∷ es) e =
      let h : strays b (Mbr rs chain) ≡ [] = rw (e, strays) refl in
      absurd (contains_none g (subst (λ (l : List Group). Contains l g) h in_strays))

pub grouped_place : (b : ℕ) (o : Layout) (x : Member) → InGroups b o x → InLayout b o x
unfolding groups_of
grouped_place b o x is =
    elim (contains_cases (top_group b o.sectors o.body) (flat_map (group_in b o)
    (present (slots b o.body)) ++ strays b o.body) is.group is.stands) as (λ _. InLayout b o x) [
      | inl top ↦ (x, top_place b o x (subst (λ (g : Group). Contains g.members x) (sym top) is.sibling), inl refl)
      | inr rest ↦ elim (Contains-append_cases (flat_map (group_in b o) (present (slots b o.body)))
          (strays b o.body) is.group rest) as (λ _. InLayout b o x) [
            | inl held ↦ (let f = from_flat (group_in b o) (present (slots b o.body)) is.group held in
                held_place b o f.0 x is.group f.0.kind refl (from_present (slots b o.body) f.0 f.1) f.2 is.sibling)
            | inr stray ↦ (x, logical_place b o x (stray_place b o.body is.group x stray is.sibling), inl refl)
          ]
    ]

-- an extended record is a member of that kind
pub kind_extended : (b k : ℕ) → is_extended k ≡ true → record_kind b k ≡ Extended
kind_extended b k is =
    let other : nat_eq k 0xA5 ≡ false = grind (arith, is) in
    let no : (nat_eq b 512 && nat_eq k 0xA5) ≡ false = and_right (nat_eq b 512) (nat_eq k 0xA5) other in
    rw no (rw is refl)

pub extended_member : (b n : ℕ) (rs : List (Option Record)) (r : Record) (es : List Record) → extended_of rs ≡ r ∷ es
    → (m : Member) × AtPlace (records_as b n rs) m × (m.kind ≡ Extended)
unfolding extended_of records_as
extended_member b n [] r es e = absurd cc
extended_member b n (None ∷ rs) r es e =
    let h = extended_member b (n + 1) rs r es e in (h.0, place_tail None (records_as b (n + 1) rs) h.0 h.1, h.2)
extended_member b n (Some x ∷ rs) r es e = by_kind (extended_member b (n + 1) rs r es) (is_extended x.kind) refl where
  by_kind : (extended_of rs ≡ r ∷ es → (m : Member) × AtPlace (records_as b (n + 1) rs) m × (m.kind ≡ Extended)) → (c : Bool)
      → is_extended x.kind ≡ c → (m : Member) × AtPlace (records_as b n (Some x ∷ rs)) m × (m.kind ≡ Extended)
  by_kind more true is = (record_member b n x, (0, omega arith, refl), kind_extended b x.kind is)
  by_kind more false is =
      let f : extended_of (Some x ∷ rs) ≡ extended_of rs = rw (is, extended_of) refl in
      let h = more (sym f ∙ e) in
      (h.0, place_tail (option_map (record_member b n) (Some x)) (records_as b (n + 1) rs) h.0 h.1, h.2)

abbrev pub layout_of : ℕ → Body → List Labelled → Layout
layout_of n y ls = record { sectors = n; body = y; labels = ls }

-- each logical partition is in the group of an extended record, or is a stray
abbrev IsHeld : ℕ → Layout → Member → Type 0
IsHeld b o x = (g : Group) × Contains (flat_map (group_in b o) (present (slots b o.body)) ++ strays b o.body) g × Contains g.members x

held_by : (b : ℕ) (o : Layout) (m x : Member) → AtPlace (slots b o.body) m → m.kind ≡ Extended
    → Contains (present (logicals b o.body)) x → IsHeld b o x
unfolding extended_group
held_by b o m x at is in_logicals = (
  extended_group b o m,
  Contains-append_left (flat_map (group_in b o) (present (slots b o.body))) (strays b o.body) (extended_group b o m)
      (to_flat (group_in b o) (present (slots b o.body)) m (extended_group b o m) (to_present (slots b o.body) m at)
      (subst (λ (l : List Group). Contains l (extended_group b o m)) (sym (held_by_extended b o m is))
      (contains_head (extended_group b o m) []))),
  in_logicals,
)

logical_held : (b n : ℕ) (y : Body) (ls : List Labelled) (x : Member) → Contains (present (logicals b y)) x → IsHeld b (layout_of n y ls) x
unfolding logicals strays tops
logical_held b n (Gpt t) ls x is = absurd (contains_none x is)
logical_held b n (Mbr rs chain) ls x is = by_case (extended_of rs) refl where
  by_case : (es : List Record) → extended_of rs ≡ es → IsHeld b (layout_of n (Mbr rs chain) ls) x
  by_case [] e =
      let o : Layout = layout_of n (Mbr rs chain) ls in
      let g : Group = record { low = 1; high = 0; members = present (logicals_as b 5 chain) } in
      let h : strays b (Mbr rs chain) ≡ g ∷ [] = rw (e, strays) refl in (
        g,
        Contains-append_right (flat_map (group_in b o) (present (slots b o.body))) (strays b o.body) g
            (subst (λ (l : List Group). Contains l g) (sym h) (contains_head g [])),
        is,
      )
  by_case (r ∷ es) e =
      let f = extended_member b 1 rs r es e in
      held_by b (layout_of n (Mbr rs chain) ls) f.0 x (place_left (records_as b 1 rs) (logicals_as b 5 chain) f.0 f.1) f.2 is

in_top : (b : ℕ) (o : Layout) (x : Member) → AtPlace (tops b o.body) x → InGroups b o x
unfolding groups_of
in_top b o x at = record {
  group = top_group b o.sectors o.body;
  stands = contains_head (top_group b o.sectors o.body) (flat_map (group_in b o) (present (slots b o.body)) ++ strays b o.body);
  sibling = subst (λ (l : List Member). Contains l x) (sym (top_members b o.sectors o.body)) (to_present (tops b o.body) x at);
}

in_held : (b : ℕ) (o : Layout) (x : Member) → IsHeld b o x → InGroups b o x
unfolding groups_of
in_held b o x is = record {
  group = is.0;
  stands = contains_tail (top_group b o.sectors o.body) (flat_map (group_in b o) (present (slots b o.body)) ++ strays b o.body) is.0 is.1;
  sibling = is.2;
}

in_slot : (b : ℕ) (o : Layout) (x : Member) → AtPlace (slots b o.body) x → InGroups b o x
in_slot b o x at = elim (present_split (tops b o.body) (logicals b o.body) x at) as (λ _. InGroups b o x) [
  | inl top ↦ in_top b o x top
  | inr logical ↦ in_held b o x (logical_held b o.sectors o.body o.labels x (to_present (logicals b o.body) x logical))
]

in_label : (b : ℕ) (o : Layout) (m x : Member) → AtPlace (slots b o.body) m → m.kind ≡ Slice → AtPlace (parts o m) x → InGroups b o x
unfolding slice_group
in_label b o m x at is part = in_held b o x (
  slice_group o m,
  Contains-append_left (flat_map (group_in b o) (present (slots b o.body))) (strays b o.body) (slice_group o m)
      (to_flat (group_in b o) (present (slots b o.body)) m (slice_group o m) (to_present (slots b o.body) m at)
      (subst (λ (l : List Group). Contains l (slice_group o m)) (sym (held_by_slice b o m is)) (contains_head (slice_group o m) []))),
  to_present (parts o m) x part,
)

pub place_grouped : (b : ℕ) (o : Layout) (x : Member) → InLayout b o x → InGroups b o x
place_grouped b o x (m, at, inl same) = subst (λ (w : Member). InGroups b o w) (sym same) (in_slot b o m at)
place_grouped b o x (m, at, inr (is, part)) = in_label b o m x at is part

pub slice_group_is : (o : Layout) (m : Member) → slice_group o m ≡ group_of (m.first + 16) m.last (present (parts o m))
unfolding slice_group
slice_group_is o m = refl

pub extended_group_is : (b : ℕ) (o : Layout) (m : Member) → extended_group b o m ≡ group_of m.first m.last (present (logicals b o.body))
unfolding extended_group
extended_group_is b o m = refl

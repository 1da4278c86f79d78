-- In a sound layout a sector has one partition at most.
use Rattle.std.specs.Prelude.{◌≢◌, ◌≡◌, ◌<◌, ◌≤◌, ◌+◌, ◌++◌, ◌∷◌, [], ℕ, List, Contains, length, flat_map}
use Rattle.std.proofs.Common.{get_or, refl, sym, ap, subst, ◌∙◌, arith, inl, inr}
use Rattle.std.proofs.lemmas.Bool.{cases_lt}
use Rattle.std.proofs.lemmas.List.{get_or_default}
use Rattle.std.proofs.lemmas.List.Elements.{Contains-append_left, Contains-append_right}
use Rattle.pt_mbr.specs.declared.record.Record.{Record}
use Rattle.pt_mbr.specs.Records.{extended_of}
use Rattle.pt_members.specs.declared.layout.Layout.{Layout}
use Rattle.pt_members.specs.declared.layout.Labelled.{Labelled}
use Rattle.pt_members.specs.declared.layout.Body.{Body}
use Rattle.pt_members.specs.declared.layout.Body.TheVariants.{Mbr, Gpt}
use Rattle.pt_path.specs.declared.path.Path.{Path}
use Rattle.pt_members.specs.declared.member.Kind.TheVariants.{Leaf, Slice, Extended}
use Rattle.pt_members.specs.declared.member.Member.{Member}
use Rattle.pt_members.specs.Members.{Holds, Group, group_of, groups_of, group_in, top_group, strays, present, slots, tops, logicals}
use Rattle.pt_members.specs.Members.{logicals_as, parts}
use Rattle.pt_members.specs.Rows.{IsMember}
use Rattle.pt_layout.specs.Sound.{IsApart, Sound}
use Rattle.pt_layout.proofs.Apart.{two_in}
use Rattle.pt_members.proofs.Standing.{AtPlace, IsNear, InLayout}
use Rattle.pt_members.specs.Tables.{IsPlaceOf}
use Rattle.pt_members.proofs.Grouped.{layout_of, present_split, place_left, to_present, to_flat, contains_head, contains_tail}
use Rattle.pt_members.proofs.Grouped.{top_members, slice_group, extended_group, held_by_slice, held_by_extended, extended_member}
use Rattle.pt_members.proofs.Grouped.{slice_group_is, extended_group_is}
use Rattle.pt_members.proofs.ByRows.{member_place}

-- of siblings that are apart, one has the sector
pub same_index : (s : ℕ) (ms : List Member) (i j : ℕ) (d e : Member) → IsApart ms → i < length ms → j < length ms
    → Holds (get_or ms i d) s → Holds (get_or ms j e) s → i ≡ j
same_index s ms i j d e apart a b p q = elim (cases_lt i j) as (λ _. i ≡ j) [
  | inl lt ↦ absurd (omega (arith, two_in s ms i j d e lt b p q, apart s))
  | inr ge ↦ elim (cases_lt j i) as (λ _. i ≡ j) [
    | inl lt ↦ absurd (omega (arith, two_in s ms j i e d lt a q p, apart s))
    | inr le ↦ omega arith
  ]
]

pub same_member : (s : ℕ) (ms : List Member) (x y : Member) → IsApart ms → Contains ms x → Contains ms y → Holds x s → Holds y s → x ≡ y
same_member s ms x y apart a b p q =
    let i = a.0 in
    let j = b.0 in
    let at_i : Holds (get_or ms i x) s = subst (λ (m : Member). Holds m s) (sym a.2) p in
    let at_j : Holds (get_or ms j y) s = subst (λ (m : Member). Holds m s) (sym b.2) q in
    let same : i ≡ j = same_index s ms i j x y apart a.1 b.1 at_i at_j in
    sym a.2 ∙ get_or_default ms i x y a.1 ∙ ap (λ (k : ℕ). get_or ms k y) same ∙ b.2

-- the group of what a member holds is one of the layout's
held_stands : (b : ℕ) (o : Layout) (m : Member) (g : Group) → AtPlace (slots b o.body) m → Contains (group_in b o m) g
    → Contains (groups_of b o) g
unfolding groups_of
held_stands b o m g at is =
    contains_tail (top_group b o.sectors o.body) (flat_map (group_in b o) (present (slots b o.body)) ++ strays b o.body) g
    (Contains-append_left (flat_map (group_in b o) (present (slots b o.body))) (strays b o.body) g
    (to_flat (group_in b o) (present (slots b o.body)) m g (to_present (slots b o.body) m at) is))

slice_stands : (b : ℕ) (o : Layout) (m : Member) → AtPlace (slots b o.body) m → m.kind ≡ Slice → Contains (groups_of b o) (slice_group o m)
slice_stands b o m at is =
    held_stands b o m (slice_group o m) at (subst (λ (l : List Group). Contains l (slice_group o m)) (sym (held_by_slice b o m is))
    (contains_head (slice_group o m) []))

extended_stands : (b : ℕ) (o : Layout) (m : Member) → AtPlace (slots b o.body) m → m.kind ≡ Extended
    → Contains (groups_of b o) (extended_group b o m)
extended_stands b o m at is =
    held_stands b o m (extended_group b o m) at (subst (λ (l : List Group). Contains l (extended_group b o m))
    (sym (held_by_extended b o m is)) (contains_head (extended_group b o m) []))

top_stands : (b : ℕ) (o : Layout) → Contains (groups_of b o) (top_group b o.sectors o.body)
unfolding groups_of
top_stands b o = contains_head (top_group b o.sectors o.body) (flat_map (group_in b o) (present (slots b o.body)) ++ strays b o.body)

in_top_group : (b : ℕ) (o : Layout) (x : Member) → AtPlace (tops b o.body) x → Contains (top_group b o.sectors o.body).members x
in_top_group b o x at = subst (λ (l : List Member). Contains l x) (sym (top_members b o.sectors o.body)) (to_present (tops b o.body) x at)

-- two members at the top
pub top_one : (b : ℕ) (o : Layout) (s : ℕ) (x y : Member) → Sound b o → AtPlace (tops b o.body) x → AtPlace (tops b o.body) y
    → Holds x s → Holds y s → x ≡ y
top_one b o s x y sound a c p q =
    same_member s (top_group b o.sectors o.body).members x y (sound.apart (top_group b o.sectors o.body) (top_stands b o))
    (in_top_group b o x a) (in_top_group b o y c) p q

-- an extended partition, if a logical one lies in a sound layout
pub record Holder (b : ℕ) (o : Layout) : Type 0 where
  pub extended : Member
  pub at_top : AtPlace (tops b o.body) extended
  pub kind : extended.kind ≡ Extended

pub stray_none : (b : ℕ) (o : Layout) (x : Member) (ms : List Member) → Sound b o → Contains (strays b o.body) (group_of 1 0 ms)
    → Contains ms x → ⊥
unfolding groups_of
stray_none b o x ms sound stands is =
    let g : Group = group_of 1 0 ms in
    let inside = sound.inside g x (record {
      stands =
          contains_tail (top_group b o.sectors o.body) (flat_map (group_in b o) (present (slots b o.body)) ++ strays b o.body) g
          (Contains-append_right (flat_map (group_in b o) (present (slots b o.body))) (strays b o.body) g stands);
      sibling = is;
    }) in
    omega (arith, inside.low, inside.high, inside.exists.0)

pub holder_in : (b n : ℕ) (y : Body) (ls : List Labelled) (x : Member) → Sound b (layout_of n y ls) → AtPlace (logicals b y) x
    → Holder b (layout_of n y ls)
unfolding logicals strays tops
holder_in b n (Gpt t) ls x sound at = absurd (omega (arith, at.1))
holder_in b n (Mbr rs chain) ls x sound at = by_case (extended_of rs) refl where
  by_case : (es : List Record) → extended_of rs ≡ es → Holder b (layout_of n (Mbr rs chain) ls)
  by_case [] e =
      let o : Layout = layout_of n (Mbr rs chain) ls in
      let g : Group = group_of 1 0 (present (logicals_as b 5 chain)) in
      let h : strays b (Mbr rs chain) ≡ g ∷ [] = rw (e, strays) refl in
      absurd (stray_none b o x (present (logicals_as b 5 chain)) sound
      (subst (λ (l : List Group). Contains l g) (sym h) (contains_head g [])) (to_present (logicals_as b 5 chain) x at))
  by_case (r ∷ es) e = let f = extended_member b 1 rs r es e in record { extended = f.0; at_top = f.1; kind = f.2 }

pub holder : (b : ℕ) (o : Layout) (x : Member) → Sound b o → AtPlace (logicals b o.body) x → Holder b o
holder b o x sound at = holder_in b o.sectors o.body o.labels x sound at

in_extended : (b : ℕ) (o : Layout) (h : Holder b o) (x : Member) → AtPlace (logicals b o.body) x
    → Contains (extended_group b o h.extended).members x
in_extended b o h x at =
    subst (λ (g : Group). Contains g.members x) (sym (extended_group_is b o h.extended)) (to_present (logicals b o.body) x at)

pub holder_stands : (b : ℕ) (o : Layout) (h : Holder b o) → Contains (groups_of b o) (extended_group b o h.extended)
holder_stands b o h = extended_stands b o h.extended (place_left (tops b o.body) (logicals b o.body) h.extended h.at_top) h.kind

pub holder_holds : (b : ℕ) (o : Layout) (s : ℕ) (h : Holder b o) (x : Member) → Sound b o → AtPlace (logicals b o.body) x
    → Holds x s → Holds h.extended s
holder_holds b o s h x sound at p =
    let inside =
    sound.inside (extended_group b o h.extended) x (record { stands = holder_stands b o h; sibling = in_extended b o h x at }) in
    let same = extended_group_is b o h.extended in
    let low : h.extended.first ≤ x.first = subst (λ (g : Group). g.low ≤ x.first) same inside.low in
    let high : x.last ≤ h.extended.last = subst (λ (g : Group). x.last ≤ g.high) same inside.high in
    (omega (arith, p.0), omega (arith, p.1))

pub logical_one : (b : ℕ) (o : Layout) (s : ℕ) (x y : Member) → Sound b o → AtPlace (logicals b o.body) x
    → AtPlace (logicals b o.body) y → Holds x s → Holds y s → x ≡ y
logical_one b o s x y sound a c p q =
    let h = holder b o x sound a in
    same_member s (extended_group b o h.extended).members x y (sound.apart (extended_group b o h.extended) (holder_stands b o h))
    (in_extended b o h x a) (in_extended b o h y c) p q

-- a logical partition shares no sector with one at the top
pub mixed_none : (b : ℕ) (o : Layout) (s : ℕ) (x y : Member) → Sound b o → AtPlace (tops b o.body) x → AtPlace (logicals b o.body) y
    → x.kind ≢ Extended → Holds x s → Holds y s → ⊥
mixed_none b o s x y sound a c kind p q =
    let h = holder b o y sound c in
    let same : h.extended ≡ x = top_one b o s h.extended x sound h.at_top a (holder_holds b o s h y sound c q) p in
    kind (ap (λ (m : Member). m.kind) (sym same) ∙ h.kind)

-- nor do two others
pub slot_one : (b : ℕ) (o : Layout) (s : ℕ) (x y : Member) → Sound b o → AtPlace (slots b o.body) x → AtPlace (slots b o.body) y
    → x.kind ≢ Extended → y.kind ≢ Extended → Holds x s → Holds y s → x ≡ y
slot_one b o s x y sound a c u v p q = elim (present_split (tops b o.body) (logicals b o.body) x a) as (λ _. x ≡ y) [
  | inl top ↦ elim (present_split (tops b o.body) (logicals b o.body) y c) as (λ _. x ≡ y) [
    | inl other ↦ top_one b o s x y sound top other p q
    | inr logical ↦ absurd (mixed_none b o s x y sound top logical u p q)
  ]
  | inr logical ↦ elim (present_split (tops b o.body) (logicals b o.body) y c) as (λ _. x ≡ y) [
    | inl top ↦ absurd (mixed_none b o s y x sound top logical v q p)
    | inr other ↦ logical_one b o s x y sound logical other p q
  ]
]

in_slice : (o : Layout) (u x : Member) → AtPlace (parts o u) x → Contains (slice_group o u).members x
in_slice o u x at = subst (λ (g : Group). Contains g.members x) (sym (slice_group_is o u)) (to_present (parts o u) x at)

-- where a leaf has a sector, so has the member that it is or that holds it
record Home (b : ℕ) (o : Layout) (s : ℕ) (x : Member) : Type 0 where
  slot : Member
  at_slot : AtPlace (slots b o.body) slot
  near : IsNear o slot x
  kind : slot.kind ≢ Extended
  holds_it : Holds slot s

slice_holds : (b : ℕ) (o : Layout) (s : ℕ) (u x : Member) → Sound b o → AtPlace (slots b o.body) u → u.kind ≡ Slice
    → AtPlace (parts o u) x → Holds x s → Holds u s
slice_holds b o s u x sound at is part p =
    let inside = sound.inside (slice_group o u) x (record { stands = slice_stands b o u at is; sibling = in_slice o u x part }) in
    let same = slice_group_is o u in
    let low : u.first + 16 ≤ x.first = subst (λ (g : Group). g.low ≤ x.first) same inside.low in
    let high : x.last ≤ u.last = subst (λ (g : Group). x.last ≤ g.high) same inside.high in
    (omega (arith, p.0), omega (arith, p.1))

home : (b : ℕ) (o : Layout) (s : ℕ) (x : Member) → Sound b o → InLayout b o x → x.kind ≡ Leaf → Holds x s → Home b o s x
home b o s x sound (u, at, inl same) leaf p = record {
  slot = u;
  at_slot = at;
  near = inl same;
  kind = λ e. (let f : Leaf ≡ Extended = sym leaf ∙ ap (λ (m : Member). m.kind) same ∙ e in absurd cc);
  holds_it = subst (λ (m : Member). Holds m s) same p;
}
home b o s x sound (u, at, inr (is, part)) leaf p = record {
  slot = u;
  at_slot = at;
  near = inr (is, part);
  kind = λ e. (let f : Slice ≡ Extended = sym is ∙ e in absurd cc);
  holds_it = slice_holds b o s u x sound at is part p;
}

near_one : (b : ℕ) (o : Layout) (s : ℕ) (u x y : Member) → Sound b o → AtPlace (slots b o.body) u → x.kind ≡ Leaf → y.kind ≡ Leaf
    → Holds x s → Holds y s → IsNear o u x → IsNear o u y → x ≡ y
near_one b o s u x y sound at l m p q (inl a) (inl c) = a ∙ sym c
near_one b o s u x y sound at l m p q (inl a) (inr c) = absurd (let f : Leaf ≡ Slice = sym l ∙ ap (λ (z : Member). z.kind) a ∙ c.0 in cc)
near_one b o s u x y sound at l m p q (inr a) (inl c) = absurd (let f : Leaf ≡ Slice = sym m ∙ ap (λ (z : Member). z.kind) c ∙ a.0 in cc)
near_one b o s u x y sound at l m p q (inr a) (inr c) =
    same_member s (slice_group o u).members x y (sound.apart (slice_group o u) (slice_stands b o u at a.0)) (in_slice o u x a.1)
    (in_slice o u y c.1) p q

leaf_one : (b : ℕ) (o : Layout) (s : ℕ) (x y : Member) → Sound b o → IsMember b o x → IsMember b o y → x.kind ≡ Leaf → y.kind ≡ Leaf
    → Holds x s → Holds y s → x ≡ y
leaf_one b o s x y sound a c l m p q =
    let h = home b o s x sound (member_place b o x a) l p in
    let k = home b o s y sound (member_place b o y c) m q in
    let same : k.slot ≡ h.slot = slot_one b o s k.slot h.slot sound k.at_slot h.at_slot k.kind h.kind k.holds_it h.holds_it in
    near_one b o s h.slot x y sound h.at_slot l m p q h.near (subst (λ (u : Member). IsNear o u y) same k.near)

-- in a sound layout a sector is one partition's, at one place in it
pub place_one : (b : ℕ) (o : Layout) (p q : Path) (j k s : ℕ) → Sound b o → IsPlaceOf b o p j s → IsPlaceOf b o q k s → (p ≡ q) × (j ≡ k)
place_one b o p q j k s sound x y =
    let first : Holds x.leaf s = (omega (arith, x.place), omega (arith, x.place, x.within)) in
    let second : Holds y.leaf s = (omega (arith, y.place), omega (arith, y.place, y.within)) in
    let same : x.leaf ≡ y.leaf = leaf_one b o s x.leaf y.leaf sound x.is_member y.is_member x.is_leaf y.is_leaf first second in
    let starts : x.leaf.first ≡ y.leaf.first = ap (λ (m : Member). m.first) same in
    (sym x.path ∙ ap (λ (m : Member). m.path) same ∙ y.path, omega (arith, x.place, y.place, starts))

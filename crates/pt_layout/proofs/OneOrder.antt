-- Members in order are in one order, and the first that meets the one before it is one.
use Rattle.std.proofs.Common.{◌≡◌, ◌<◌, ◌≤◌, ◌+◌, ℕ, suc, List, [], ◌∷◌, length, get_or, refl, sym, ap, subst, ◌∙◌, arith, inl, inr, Bool}
use Rattle.std.proofs.Common.{true, false}
use Rattle.std.specs.Prelude.{◌&&◌, not, filter, if◌then◌else◌}
use Rattle.std.proofs.lemmas.Bool.{cases_lt}
use Rattle.std.specs.Cmp.{nat_cmp_is}
use Rattle.std.specs.declared.cmp.Ordering.TheVariants.{Less, Equal, Greater}
use Rattle.std.specs.Ordering.{nat_cmp, is_lt}
use Rattle.std.specs.List.Sorted.{IsNonDecreasingBy, ties}
use Rattle.pt_layout.specs.Sound.{member_at, nobody, IsFirstMeeting, IsFirstOverlap}
use Rattle.pt_members.specs.declared.member.Member.{Member}
use Rattle.pt_layout.specs.declared.sound.overlap.Overlap.{Overlap}

-- they have one first sector
abbrev tied : Member → Member → Bool
tied x y = ties (λ (a b : Member). is_lt (nat_cmp a.first b.first)) x y

below : (x y : Member) → x.first < y.first → is_lt (nat_cmp x.first y.first) ≡ true
below x y lt = ap is_lt (sym (nat_cmp_is x.first y.first Less lt))

not_below : (x y : Member) → y.first ≤ x.first → is_lt (nat_cmp x.first y.first) ≡ false
not_below x y le = elim (cases_lt y.first x.first) as (λ _. is_lt (nat_cmp x.first y.first) ≡ false) [
  | inl lt ↦ ap is_lt (sym (nat_cmp_is x.first y.first Greater lt))
  | inr ge ↦ (let same : x.first ≡ y.first = omega arith in ap is_lt (sym (nat_cmp_is x.first y.first Equal same)))
]

tied_same : (x y : Member) → x.first ≡ y.first → tied x y ≡ true
tied_same x y same =
    let p = not_below x y (omega arith) in
    let q = not_below y x (omega arith) in
    λ i. not (p i) && not (q i)

tied_above : (x y : Member) → x.first < y.first → tied x y ≡ false
tied_above x y lt =
    let p = below x y lt in
    let q = not_below y x (omega arith) in
    λ i. not (p i) && not (q i)

-- what a list keeps of one more
kept_in : (b : Bool) (x : Member) (xs : List Member) → List Member
kept_in b x xs = if b then x ∷ xs else xs

kept_more : (x y : Member) (ys : List Member) → filter (tied x) (y ∷ ys) ≡ kept_in (tied x y) y (filter (tied x) ys)
unfolding kept_in
kept_more x y ys = refl

kept_tied : (x y : Member) (ys : List Member) → x.first ≡ y.first → filter (tied x) (y ∷ ys) ≡ y ∷ filter (tied x) ys
unfolding kept_in
kept_tied x y ys same = kept_more x y ys ∙ ap (λ (b : Bool). kept_in b y (filter (tied x) ys)) (tied_same x y same)

none_kept : (x : Member) (ys : List Member) → ((k : ℕ) (d : Member) → k < length ys → x.first < (get_or ys k d).first)
    → filter (tied x) ys ≡ []
unfolding kept_in
none_kept x [] up = refl
none_kept x (y ∷ ys) up =
    kept_more x y ys ∙ ap (λ (b : Bool). kept_in b y (filter (tied x) ys)) (tied_above x y (up 0 x (omega arith)))
    ∙ none_kept x ys (λ k d lt. up (suc k) d (omega arith))

rest_same : (b : Bool) (x : Member) (us vs : List Member) → kept_in b x us ≡ kept_in b x vs → us ≡ vs
unfolding kept_in
rest_same true x us vs same = cc
rest_same false x us vs same = same

later : (x : Member) (xs : List Member) → IsNonDecreasingBy (λ (m : Member). m.first) (x ∷ xs)
    → IsNonDecreasingBy (λ (m : Member). m.first) xs
later x xs up i j d le lt = up (suc i) (suc j) d (omega arith) (omega arith)

-- the first of one list is below all of the other
not_first : (x y : Member) (xs ys : List Member) → IsNonDecreasingBy (λ (m : Member). m.first) (y ∷ ys)
    → filter (tied x) (x ∷ xs) ≡ filter (tied x) (y ∷ ys) → x.first < y.first → ⊥
not_first x y xs ys up same lt =
    let none : filter (tied x) (y ∷ ys) ≡ [] =
    none_kept x (y ∷ ys) (λ k d w. (let z : y.first ≤ (get_or (y ∷ ys) k d).first = up 0 k d (omega arith) w in omega arith)) in
    let some : x ∷ filter (tied x) xs ≡ [] = sym (kept_tied x x xs refl) ∙ same ∙ none in
    absurd cc

pub order_one : (xs ys : List Member) → IsNonDecreasingBy (λ (m : Member). m.first) xs
    → IsNonDecreasingBy (λ (m : Member). m.first) ys → ((x : Member) → filter (tied x) xs ≡ filter (tied x) ys) → xs ≡ ys
order_one [] [] p q same = refl
order_one [] (y ∷ ys) p q same = (let e : [] ≡ y ∷ filter (tied y) ys = same y ∙ kept_tied y y ys refl in absurd cc)
order_one (x ∷ xs) [] p q same = (let e : [] ≡ x ∷ filter (tied x) xs = sym (same x) ∙ kept_tied x x xs refl in absurd cc)
order_one (x ∷ xs) (y ∷ ys) p q same = elim (cases_lt x.first y.first) as (λ _. x ∷ xs ≡ y ∷ ys) [
  | inl lt ↦ absurd (not_first x y xs ys q (same x) lt)
  | inr ge ↦ elim (cases_lt y.first x.first) as (λ _. x ∷ xs ≡ y ∷ ys) [
    | inl lt ↦ absurd (not_first y x ys xs p (sym (same y)) lt)
    | inr le ↦
        (let start : x.first ≡ y.first = omega arith in
        let both : x ∷ filter (tied x) xs ≡ y ∷ filter (tied x) ys = sym (kept_tied x x xs refl) ∙ same x ∙ kept_tied x y ys start in
        let heads : x ≡ y = cc in
        let tails : (z : Member) → filter (tied z) xs ≡ filter (tied z) ys =
        λ z. rest_same (tied z x) x (filter (tied z) xs) (filter (tied z) ys)
        (sym (kept_more z x xs) ∙ same z ∙ subst (λ (m : Member). filter (tied z) (m ∷ ys) ≡ kept_in (tied z x) x
        (filter (tied z) ys)) heads (kept_more z x ys)) in
        let rest = order_one xs ys (later x xs p) (later y ys q) tails in
        λ i. heads i ∷ rest i)
  ]
]

meeting_place : (members : List Member) (o u : Overlap) (p : IsFirstMeeting members o) (q : IsFirstMeeting members u) → p.k < q.k → ⊥
meeting_place members o u p q lt = q.none_before p.k nobody (omega arith) p.meets

meeting_one : (members : List Member) (o u : Overlap) → IsFirstMeeting members o → IsFirstMeeting members u → o ≡ u
meeting_one members o u p q = elim (cases_lt p.k q.k) as (λ _. o ≡ u) [
  | inl lt ↦ absurd (meeting_place members o u p q lt)
  | inr ge ↦ elim (cases_lt q.k p.k) as (λ _. o ≡ u) [
    | inl lt ↦ absurd (meeting_place members u o q p lt)
    | inr le ↦
        (let same : p.k ≡ q.k = omega arith in
        let before : o.before ≡ u.before = p.before ∙ ap (λ (k : ℕ). (member_at members k).path) same ∙ sym q.before in
        let it : o.it ≡ u.it = p.it ∙ ap (λ (k : ℕ). (member_at members (k + 1)).path) same ∙ sym q.it in
        λ i. record { before = before i; it = it i })
  ]
]

-- siblings have one first overlap at most
pub overlap_one : (members : List Member) (o u : Overlap) → IsFirstOverlap members o → IsFirstOverlap members u → o ≡ u
overlap_one members o u p q =
    let same : p.sorted ≡ q.sorted =
    order_one p.sorted q.sorted p.order.ascending q.order.ascending (λ x. p.order.stable x ∙ sym (q.order.stable x)) in
    meeting_one q.sorted o u (subst (λ (l : List Member). IsFirstMeeting l o) same p.first) q.first

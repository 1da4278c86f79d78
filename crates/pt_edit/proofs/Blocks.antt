-- Blocks don't meet, and there is one list of them.
use Rattle.std.specs.Prelude.{◌≡◌, ◌<◌, ◌≤◌, ◌+◌, ◌-◌, ◌⊎◌, ℕ, zero, suc, List, [], ◌∷◌, length, get_or, Contains}
use Rattle.std.proofs.Common.{ap, ◌∙◌, inl, inr, arith, refl, sym}
use Rattle.std.proofs.lemmas.List.Elements.{Contains-get_or}
use Rattle.std.proofs.lemmas.Bool.{cases_lt}
use Rattle.pt_edit.specs.declared.space.Run.{Run}
use Rattle.pt_edit.specs.Space.{Area, RunHolds, IsBlock, AreBlocks}

abbrev run_from : ℕ → ℕ → Run
run_from last first = record { first = first; last = last }

pub same_run : (r q : Run) → r.first ≡ q.first → r.last ≡ q.last → r ≡ q
same_run r q first last =
    ap (run_from r.last) first ∙ ap (λ (n : ℕ). run_from n q.first) last

first_below : (a : Area) (b c : Run) (k : ℕ) → IsBlock a b → IsBlock a c → RunHolds b k → RunHolds c k → b.first ≤ c.first
first_below a b c k x y in_b in_c = elim (cases_lt c.first b.first) as (λ _. b.first ≤ c.first) [
  | inl lt ↦ absurd (x.before (b.first - 1) (omega arith) (y.free (b.first - 1) (omega arith, omega arith)))
  | inr le ↦ le
]

last_below : (a : Area) (b c : Run) (k : ℕ) → IsBlock a b → IsBlock a c → RunHolds b k → RunHolds c k → b.last ≤ c.last
last_below a b c k x y in_b in_c = elim (cases_lt c.last b.last) as (λ _. b.last ≤ c.last) [
  | inl lt ↦ absurd (y.after (x.free (c.last + 1) (omega arith, omega arith)))
  | inr le ↦ le
]

-- blocks with a sector in common are one
pub same_block : (a : Area) (b c : Run) (k : ℕ) → IsBlock a b → IsBlock a c → RunHolds b k → RunHolds c k → b ≡ c
same_block a b c k x y in_b in_c =
    let one = first_below a b c k x y in_b in_c in
    let two = first_below a c b k y x in_c in_b in
    let three = last_below a b c k x y in_b in_c in
    let four = last_below a c b k y x in_c in_b in
    same_run b c (omega arith) (omega arith)

-- ## There is one list.

abbrev Ascends : List Run → Type 0
Ascends xs = (i j : ℕ) (d : Run) → i < j → j < length xs → (get_or xs i d).first < (get_or xs j d).first

behind : (x : Run) (xs : List Run) → Ascends (x ∷ xs) → Ascends xs
behind x xs up i j d lt inside = up (suc i) (suc j) d (omega arith) (omega arith)

-- what stands in a list stands in front, or begins behind that
front_or : (x : Run) (xs : List Run) (b : Run) → Ascends (x ∷ xs) → Contains (x ∷ xs) b → (x ≡ b) ⊎ ((x.first < b.first) × Contains xs b)
front_or x xs b up (zero, lt, at) = inl at
front_or x xs b up (suc k, lt, at) =
    let order = up 0 (suc k) b (omega arith) lt in
    let here = ap (λ (r : Run). r.first) at in
    inr (omega arith, (k, omega arith, at))

one_list : (xs ys : List Run) → Ascends xs → Ascends ys → ((b : Run) → Contains xs b → Contains ys b)
    → ((b : Run) → Contains ys b → Contains xs b) → xs ≡ ys
one_list [] [] up also there back = refl
one_list [] (y ∷ ys) up also there back = absurd (let is = back y (0, omega arith, refl) in omega (arith, is.1))
one_list (x ∷ xs) [] up also there back = absurd (let is = there x (0, omega arith, refl) in omega (arith, is.1))
one_list (x ∷ xs) (y ∷ ys) up also there back =
    let same : x ≡ y = elim (front_or y ys x also (there x (0, omega arith, refl))) as (λ _. x ≡ y) [
      | inl e ↦ sym e
      | inr low ↦ elim (front_or x xs y up (back y (0, omega arith, refl))) as (λ _. x ≡ y) [
        | inl e ↦ e
        | inr high ↦ absurd (omega (arith, low.0, high.0))
      ]
    ] in
    let firsts = ap (λ (r : Run). r.first) same in
    let rest : xs ≡ ys = one_list xs ys (behind x xs up) (behind y ys also)
    (λ b (k, lt, at). elim (front_or y ys b also (there b (suc k, omega arith, at))) as (λ _. Contains ys b) [
      | inl e ↦ absurd (let here = ap (λ (r : Run). r.first) e in let order = up 0 (suc k) b (omega arith) (omega arith) in
          let is = ap (λ (r : Run). r.first) at in omega arith)
      | inr far ↦ far.1
    ])
    (λ b (k, lt, at). elim (front_or x xs b up (back b (suc k, omega arith, at))) as (λ _. Contains xs b) [
      | inl e ↦ absurd (let here = ap (λ (r : Run). r.first) e in let order = also 0 (suc k) b (omega arith) (omega arith) in
          let is = ap (λ (r : Run). r.first) at in omega arith)
      | inr far ↦ far.1
    ]) in
    ap (λ (r : Run). r ∷ xs) same ∙ ap (λ (l : List Run). y ∷ l) rest

ascends : (a : Area) (xs : List Run) → AreBlocks a xs → Ascends xs
ascends a xs is i j d lt inside =
    let order = is.ascending i j d lt inside in
    let some = (is.each (get_or xs i d) (Contains-get_or xs i d (omega arith))).some in
    omega arith

pub blocks_are_one : (a : Area) (xs ys : List Run) → AreBlocks a xs → AreBlocks a ys → xs ≡ ys
blocks_are_one a xs ys one two = one_list xs ys (ascends a xs one) (ascends a ys two)
    (λ b is. two.all b (one.each b is)) (λ b is. one.all b (two.each b is))

-- Bytes that are the same because what they say is.
use Rattle.std.proofs.Common.{◌≡◌, ℕ, zero, suc, ◌+◌, ◌*◌, ◌-◌, ◌<◌, ◌≤◌, List, length, get_or, take, drop, sym, ap, ◌∙◌, arith, inl, inr}
use Rattle.std.proofs.Common.{refl, get_or-drop, get_or-take, ext_get_or, length-take-le, length-drop}
use Rattle.std.specs.Prelude.{slice_range}
use Rattle.std.proofs.lemmas.Bool.{cases_lt}
use Rattle.byteorder.specs.Endian.{little_from}
use Rattle.pt_sector.specs.Sectors.{number_at}

-- each is a byte
abbrev pub AreBytes : List ℕ → Type 0
AreBytes v = (k : ℕ) → get_or v k 0 < 256

-- the same bytes from place p to before place q
abbrev pub Same : ℕ → ℕ → List ℕ → List ℕ → Type 0
Same p q v u = (k : ℕ) → p ≤ k → k < q → get_or v k 0 ≡ get_or u k 0

-- two parts, one behind the other
pub join : (p q r : ℕ) (v u : List ℕ) → Same p q v u → Same q r v u → Same p r v u
join p q r v u low high k le lt = elim (cases_lt k q) [ inl less ↦ low k le less | inr ge ↦ high k ge lt ]

-- a number is of one list of bytes
number_one : (i n : ℕ) (v u : List ℕ) → AreBytes v → AreBytes u → little_from i n v ≡ little_from i n u → Same i (i + n) v u
number_one i zero v u bv bu same k le lt = absurd (omega arith)
number_one i (suc n) v u bv bu same k le lt =
    let a = bv i in
    let b = bu i in
    let first : get_or v i 0 ≡ get_or u i 0 = omega (arith, a, b, same) in
    let rest : little_from (suc i) n v ≡ little_from (suc i) n u = omega (arith, a, b, same) in
    elim (cases_lt i k) [
      | inl less ↦ number_one (suc i) n v u bv bu rest k (omega arith) (omega arith)
      | inr ge ↦ let at : k ≡ i = omega arith in rw at first
    ]

-- a byte of a part
range_at : (p q k : ℕ) (v : List ℕ) → p + k < q → get_or (slice_range v p q) k 0 ≡ get_or v (p + k) 0
range_at p q k v lt = get_or-take (q - p) (drop p v) k 0 (omega arith) ∙ get_or-drop p v k 0

-- parts that are the same
pub range_same : (p q : ℕ) (v u : List ℕ) → slice_range v p q ≡ slice_range u p q → Same p q v u
range_same p q v u same k le lt =
    let here : p + (k - p) ≡ k = omega arith in
    let one : get_or v (p + (k - p)) 0 ≡ get_or u (p + (k - p)) 0 =
    sym (range_at p q (k - p) v (omega arith)) ∙ ap (λ (x : List ℕ). get_or x (k - p) 0) same ∙ range_at p q (k - p) u (omega arith) in
    rw here at one

-- a number in a part
from_range : (i n p q : ℕ) (v : List ℕ) → p + (i + n) ≤ q → little_from i n (slice_range v p q) ≡ little_from (p + i) n v
from_range i zero p q v le = refl
from_range i (suc n) p q v le =
    let on : p + suc i ≡ suc (p + i) = omega arith in
    let first = range_at p q i v (omega arith) in
    let rest : little_from (suc i) n (slice_range v p q) ≡ little_from (suc (p + i)) n v =
    from_range (suc i) n p q v (omega arith) ∙ ap (λ (j : ℕ). little_from j n v) on in
    ap (λ (x : ℕ). x + 256 * little_from (suc i) n (slice_range v p q)) first ∙ ap (λ (x : ℕ). get_or v (p + i) 0 + 256 * x) rest

number_of : (p n : ℕ) (v : List ℕ) → number_at p n v ≡ little_from p n v
number_of p n v =
    let none : p + 0 ≡ p = omega arith in
    from_range 0 n p (p + n) v (omega arith) ∙ ap (λ (j : ℕ). little_from j n v) none

-- numbers that are the same
pub number_same : (p n q : ℕ) (v u : List ℕ) → AreBytes v → AreBytes u → p + n ≡ q → number_at p n v ≡ number_at p n u → Same p q v u
number_same p n q v u bv bu end same k le lt =
    number_one p n v u bv bu (sym (number_of p n v) ∙ same ∙ number_of p n u) k le (omega arith)

-- what stands behind is the same
pub drop_same : (e : ℕ) (v u : List ℕ) → drop e v ≡ drop e u → (k : ℕ) → e ≤ k → get_or v k 0 ≡ get_or u k 0
drop_same e v u same k le =
    let here : e + (k - e) ≡ k = omega arith in
    let one : get_or v (e + (k - e)) 0 ≡ get_or u (e + (k - e)) 0 =
    sym (get_or-drop e v (k - e) 0) ∙ ap (λ (x : List ℕ). get_or x (k - e) 0) same ∙ get_or-drop e u (k - e) 0 in
    rw here at one

-- the first bytes as a list
pub take_is : (q : ℕ) (v u : List ℕ) → q ≤ length v → length v ≡ length u → Same 0 q v u → take q v ≡ take q u
take_is q v u within long same =
    let a = length-take-le q v within in
    let b = length-take-le q u (omega arith) in
    ext_get_or 0 (take q v) (take q u) (a ∙ sym b) (λ k lt.
    let below : k < q = omega (arith, a, lt) in
    get_or-take q v k 0 below ∙ same k (omega arith) below ∙ sym (get_or-take q u k 0 below))

-- bytes from place p on as a list
pub part_is : (p m : ℕ) (v u : List ℕ) → p + m ≤ length v → length v ≡ length u → Same p (p + m) v u → take m (drop p v) ≡ take m (drop p u)
part_is p m v u within long same =
    let a = length-drop p v in
    let b = length-drop p u in
    take_is m (drop p v) (drop p u) (omega (arith, a)) (a ∙ omega (arith, long, b)) (λ k le lt.
    get_or-drop p v k 0 ∙ same (p + k) (omega arith) (omega arith) ∙ sym (get_or-drop p u k 0))

-- A record depends on its sixteen bytes alone.
use Rattle.std.proofs.Common.{◌≡◌, ℕ, ◌+◌, ◌-◌, ◌<◌, ◌≤◌, List, [], ◌∷◌, length, take, drop, get_or, Option, Some, None, refl, sym, ap}
use Rattle.std.proofs.Common.{◌∙◌, arith}
use Rattle.std.specs.Prelude.{slice_range, slice_index}
use Rattle.std.proofs.lemmas.List.{drop-drop, length-take-le, ext_get_or, get_or-drop, get_or-take, length-drop}
use Rattle.byteorder.specs.Endian.{little_number}
use Rattle.pt_mbr.specs.Records.{IsUsed, RecordIs}
use Rattle.pt_mbr.specs.declared.record.Record.{Record}

-- a part of the bytes from a place on
pub range_at : (at i j : ℕ) (c tail : List ℕ) → drop at c ≡ tail → slice_range c (at + i) (at + j) ≡ take (j - i) (drop i tail)
range_at at i j c tail same =
    let count : at + j - (at + i) ≡ j - i = omega arith in
    ap (λ (n : ℕ). take n (drop (at + i) c)) count ∙ ap (λ (t : List ℕ). take (j - i) t) (sym (drop-drop i at c) ∙ ap (drop i) same)

-- bytes that are the same one by one are the same
pub range_same : (at : ℕ) (b c : List ℕ) → at + 16 ≤ length b → length c ≡ length b
    → ((i : ℕ) → at ≤ i → i < at + 16 → slice_index c i ≡ slice_index b i) → slice_range c at (at + 16) ≡ slice_range b at (at + 16)
range_same at b c long count same =
    let n : at + 16 - at ≡ 16 = omega arith in
    rw n (ext_get_or 0 (take 16 (drop at c)) (take 16 (drop at b)) (sixteen c (omega (arith, long, count)) ∙ sym (sixteen b long))
    (λ i lt. each i (let e = sixteen c (omega (arith, long, count)) in omega (arith, lt, e)))) where
      sixteen : (x : List ℕ) → at + 16 ≤ length x → length (take 16 (drop at x)) ≡ 16
      sixteen x fits = length-take-le 16 (drop at x) (let e = length-drop at x in omega (arith, fits, e))

      each : (i : ℕ) → i < 16 → get_or (take 16 (drop at c)) i 0 ≡ get_or (take 16 (drop at b)) i 0
      each i few =
          get_or-take 16 (drop at c) i 0 few ∙ get_or-drop at c i 0 ∙ same (at + i) (omega arith) (omega arith)
          ∙ sym (get_or-drop at b i 0) ∙ sym (get_or-take 16 (drop at b) i 0 few)

-- a record is its sixteen bytes
three : (xs : List ℕ) → 3 ≤ length xs → take 3 xs ≡ get_or xs 0 0 ∷ get_or xs 1 0 ∷ get_or xs 2 0 ∷ []
three (a ∷ b ∷ c ∷ xs) long = refl
three xs long = absurd (omega (arith, long))

four : (xs : List ℕ) → 4 ≤ length xs → take 4 xs ≡ get_or xs 0 0 ∷ get_or xs 1 0 ∷ get_or xs 2 0 ∷ get_or xs 3 0 ∷ []
four (a ∷ b ∷ c ∷ d ∷ xs) long = refl
four xs long = absurd (omega (arith, long))

SameFrom : ℕ → ℕ → List ℕ → List ℕ → Type 0
SameFrom at n b c = (i : ℕ) → at ≤ i → i < at + n → slice_index c i ≡ slice_index b i

-- element i of what stands from a place on
element : (at i n : ℕ) (b c : List ℕ) → SameFrom at n b c → i < n → get_or (drop at c) i 0 ≡ get_or (drop at b) i 0
unfolding SameFrom
element at i n b c same few = get_or-drop at c i 0 ∙ same (at + i) (omega arith) (omega arith) ∙ sym (get_or-drop at b i 0)

three_at : (at i : ℕ) (x : List ℕ) → i + 3 ≤ 16 → at + 16 ≤ length x
    → slice_range x (at + i) (at + (i + 3)) ≡ get_or (drop at x) (i + 0) 0 ∷ get_or (drop at x) (i + 1) 0 ∷ get_or (drop at x)
    (i + 2) 0 ∷ []
three_at at i x few long =
    let count : i + 3 - i ≡ 3 = omega arith in
    let rest : 3 ≤ length (drop i (drop at x)) =
    (let e = length-drop i (drop at x) in let f = length-drop at x in omega (arith, few, long, e, f)) in
    range_at at i (i + 3) x (drop at x) refl ∙ ap (λ (n : ℕ). take n (drop i (drop at x))) count ∙ three (drop i (drop at x)) rest
    ∙ (λ k. get_or-drop i (drop at x) 0 0 k ∷ get_or-drop i (drop at x) 1 0 k ∷ get_or-drop i (drop at x) 2 0 k ∷ [])

four_at : (at i : ℕ) (x : List ℕ) → i + 4 ≤ 16 → at + 16 ≤ length x
    → slice_range x (at + i) (at + (i + 4)) ≡ get_or (drop at x) (i + 0) 0 ∷ get_or (drop at x) (i + 1) 0 ∷ get_or (drop at x)
    (i + 2) 0 ∷ get_or (drop at x) (i + 3) 0 ∷ []
four_at at i x few long =
    let count : i + 4 - i ≡ 4 = omega arith in
    let rest : 4 ≤ length (drop i (drop at x)) =
    (let e = length-drop i (drop at x) in let f = length-drop at x in omega (arith, few, long, e, f)) in
    range_at at i (i + 4) x (drop at x) refl ∙ ap (λ (n : ℕ). take n (drop i (drop at x))) count ∙ four (drop i (drop at x)) rest
    ∙ (λ k. get_or-drop i (drop at x) 0 0 k ∷ get_or-drop i (drop at x) 1 0 k ∷ get_or-drop i (drop at x) 2 0 k ∷ get_or-drop i
    (drop at x) 3 0 k ∷ [])

three_same : (at i low high : ℕ) (b c : List ℕ) → i + 3 ≤ 16 → at + 16 ≤ length b → length c ≡ length b → SameFrom at 16 b c
    → low ≡ at + i → high ≡ at + (i + 3) → slice_range c low high ≡ slice_range b low high
three_same at i low high b c few long count same lows highs =
    let fits : at + 16 ≤ length c = omega (arith, long, count) in
    rw (lows, highs) (three_at at i c few fits
    ∙ (λ k. element at (i + 0) 16 b c same (omega (arith, few)) k ∷ element at (i + 1) 16 b c same
    (omega (arith, few)) k ∷ element at (i + 2) 16 b c same (omega (arith, few)) k ∷ [])
    ∙ sym (three_at at i b few long))

four_same : (at i low high : ℕ) (b c : List ℕ) → i + 4 ≤ 16 → at + 16 ≤ length b → length c ≡ length b → SameFrom at 16 b c
    → low ≡ at + i → high ≡ at + (i + 4) → slice_range c low high ≡ slice_range b low high
four_same at i low high b c few long count same lows highs =
    let fits : at + 16 ≤ length c = omega (arith, long, count) in
    rw (lows, highs) (four_at at i c few fits
    ∙ (λ k. element at (i + 0) 16 b c same (omega (arith, few)) k ∷ element at (i + 1) 16 b c same
    (omega (arith, few)) k ∷ element at (i + 2) 16 b c same (omega (arith, few)) k ∷ element at (i + 3) 16 b c same
    (omega (arith, few)) k ∷ [])
    ∙ sym (four_at at i b few long))

one_same : (at i : ℕ) (b c : List ℕ) → i < 16 → SameFrom at 16 b c → slice_index c (at + i) ≡ slice_index b (at + i)
unfolding SameFrom
one_same at i b c few same = same (at + i) (omega arith) (omega arith)

used_same : (at : ℕ) (b c : List ℕ) → at + 16 ≤ length b → length c ≡ length b → SameFrom at 16 b c → IsUsed at b → IsUsed at c
used_same at b c long count same used = (
  (λ none. used.0 (sym (one_same at 4 b c (omega arith) same) ∙ none)),
  λ none. used.1 (ap (little_number 4) (sym (four_same at 12 (at + 12) (at + 12 + 4) b c (omega arith) long count same refl
      (omega arith))) ∙ none),
)

same_back : (at : ℕ) (b c : List ℕ) → SameFrom at 16 b c → SameFrom at 16 c b
unfolding SameFrom
same_back at b c same i low high = sym (same i low high)

same_record : (o : Option Record) (at : ℕ) (b c : List ℕ) → at + 16 ≤ length b → length c ≡ length b → SameFrom at 16 b c
    → RecordIs o at b → RecordIs o at c
unfolding SameFrom
same_record None at b c long count same unused =
    λ used. unused (used_same at c b (omega (arith, long, count)) (sym count) (same_back at b c same) used)
same_record (Some r) at b c long count same is = (
  used_same at b c long count same is.0,
  record {
    boot = same at (omega arith) (omega arith) ∙ is.1.boot;
    start_chs = three_same at 1 (at + 1) (at + 4) b c (omega arith) long count same refl refl ∙ is.1.start_chs;
    kind = one_same at 4 b c (omega arith) same ∙ is.1.kind;
    end_chs = three_same at 5 (at + 5) (at + 8) b c (omega arith) long count same refl refl ∙ is.1.end_chs;
    start = ap (little_number 4) (four_same at 8 (at + 8) (at + 8 + 4) b c (omega arith) long count same refl (omega arith)) ∙ is.1.start;
    size = ap (little_number 4) (four_same at 12 (at + 12) (at + 12 + 4) b c (omega arith) long count same refl (omega arith)) ∙ is.1.size;
  },
)

pub record_kept : (o : Option Record) (at : ℕ) (b c : List ℕ) → at + 16 ≤ length b → length c ≡ length b
    → ((i : ℕ) → at ≤ i → i < at + 16 → slice_index c i ≡ slice_index b i) → RecordIs o at b → RecordIs o at c
unfolding SameFrom
record_kept = same_record

-- An array's bytes, sector by sector.
use Rattle.std.specs.Prelude.{◌≡◌, ◌≢◌, ◌<◌, ◌≤◌, ◌⊎◌, ℕ, zero, suc, ◌+◌, ◌-◌, ◌*◌, ◌/◌, List, ◌++◌, length, take, drop, slice_range}
use Rattle.std.specs.Prelude.{[], slice_index_or, Option, None}
use Rattle.std.proofs.Common.{refl, sym, ap, ◌∙◌, subst, arith, inl, inr, min, append_assoc, length-append}
use Rattle.std.proofs.lemmas.Bool.{cases_lt}
use Rattle.std.proofs.lemmas.List.{append-nil, take-take, take-append-le, drop-append-le, take-append-drop, length-drop}
use Rattle.std.proofs.lemmas.List.{length-take, length-take-le, take_all, drop_all, take_at, drop_at}
use Rattle.std.proofs.Math.Seq.{take-append-add, drop-append-add}
use Rattle.pt_sector.specs.Sectors.{Sectors, sector, IsSectorSize}
use Rattle.pt_gpt.specs.Copies.{bytes_from, counted}
use Rattle.pt_gpt.specs.Entries.{EntryIs}
use Rattle.pt_gpt.specs.declared.entry.Entry.{Entry}
use Rattle.pt_follow.specs.Follow.{SectorHas}
use Rattle.pt_follow.specs.inner.Follow.{entries_with, range_of}

pub bytes_same : (c d : Sectors) (at n : ℕ) → ((i : ℕ) → i < n → sector c (at + i) ≡ sector d (at + i))
    → bytes_from c at n ≡ bytes_from d at n
unfolding bytes_from
bytes_same c d at zero same = refl
bytes_same c d at (suc n) same =
    let front = bytes_same c d at n (λ i low. same i (omega arith)) in
    let last = same n (omega arith) in
    rw (front, last) refl

pub bytes_long : (b : ℕ) (d : Sectors) (at n : ℕ) → ((i : ℕ) → i < n → length (sector d (at + i)) ≡ b) → length (bytes_from d at n) ≡ n * b
unfolding bytes_from
bytes_long b d at zero whole = omega arith
bytes_long b d at (suc n) whole =
    let front = bytes_long b d at n (λ i low. whole i (omega arith)) in
    let last = whole n (omega arith) in
    let product : suc n * b ≡ n * b + b = omega arith in
    omega (arith, length-append (bytes_from d at n) (sector d (at + n)), front, last, product)

bytes_split : (d : Sectors) (at k n : ℕ) → bytes_from d at (k + n) ≡ bytes_from d at k ++ bytes_from d (at + k) n
unfolding bytes_from
bytes_split d at k zero =
    let e : k + 0 ≡ k = omega arith in
    rw e (sym (append-nil (bytes_from d at k)))
bytes_split d at k (suc n) =
    let e : k + suc n ≡ suc (k + n) = omega arith in
    let place : at + (k + n) ≡ at + k + n = omega arith in
    rw (e, place) (ap (λ (t : List ℕ). t ++ sector d (at + k + n)) (bytes_split d at k n)
    ∙ append_assoc (bytes_from d at k) (bytes_from d (at + k) n) (sector d (at + k + n)))

pub bytes_next : (d : Sectors) (at k : ℕ) → bytes_from d at (k + 1) ≡ bytes_from d at k ++ sector d (at + k)
unfolding bytes_from
bytes_next d at k = let e : k + 1 ≡ suc k = omega arith in rw e refl

bytes_one : (d : Sectors) (at : ℕ) → bytes_from d at 1 ≡ sector d at
unfolding bytes_from
bytes_one d at = let e : at + 0 ≡ at = omega arith in rw e refl

-- the sectors before one, that one, and those behind it
bytes_around : (d : Sectors) (at k n : ℕ) → k < n
    → bytes_from d at n ≡ bytes_from d at k ++ (sector d (at + k) ++ bytes_from d (at + k + 1) (n - (k + 1)))
bytes_around d at k n lt =
    let rest = n - (k + 1) in
    let all : n ≡ k + (1 + rest) = omega arith in
    ap (λ (m : ℕ). bytes_from d at m) all ∙ bytes_split d at k (1 + rest)
    ∙ ap (λ (t : List ℕ). bytes_from d at k ++ t) (bytes_split d (at + k) 1 rest
    ∙ ap (λ (t : List ℕ). t ++ bytes_from d (at + k + 1) rest) (bytes_one d (at + k)))

cases_le : (a c : ℕ) → (a ≤ c) ⊎ (c ≤ a)
cases_le a c = elim (cases_lt a c) [ inl low ↦ inl (omega arith) | inr high ↦ inr high ]

take_behind : (m : ℕ) (x y : List ℕ) → take m (x ++ y) ≡ take m x ++ take (m - length x) y
take_behind m x y = elim (cases_le m (length x)) [
  | inl low ↦
      let none : m - length x ≡ 0 = omega arith in
      let e = take-append-le m x y low in
      rw (e, none) (sym (append-nil (take m x)))
  | inr high ↦
      let e : m ≡ length x + (m - length x) = omega arith in
      let whole = take_all m x (omega arith) in
      ap (λ (k : ℕ). take k (x ++ y)) e ∙ take-append-add x y (m - length x) ∙ ap (λ (t : List ℕ). t ++ take (m - length x) y) (sym whole)
]

-- what stands behind the part that is taken of a sector
drop_taken : (m b : ℕ) (s r : List ℕ) → length s ≡ b → drop b (take m s ++ take (m - b) r) ≡ take (m - b) r
drop_taken m b s r long = elim (cases_le m b) [
  | inl low ↦
      let none : m - b ≡ 0 = omega arith in
      let short : length (take m s ++ []) ≤ b = omega (arith, length-append (take m s) [], length-take m s) in
      rw none (drop_all b (take m s ++ []) short)
  | inr high ↦ let whole = take_all m s (omega (arith, long)) in rw whole (drop_at s (take (m - b) r) b long)
]

-- the part that is taken of a sector
take_taken : (m b : ℕ) (s r : List ℕ) → length s ≡ b → take b (take m s ++ take (m - b) r) ≡ take m s
take_taken m b s r long = elim (cases_le m b) [
  | inl low ↦
      let none : m - b ≡ 0 = omega arith in
      rw none (ap (λ (t : List ℕ). take b t) (append-nil (take m s)) ∙ take_all b (take m s) (omega (arith, length-take m s)))
  | inr high ↦ let whole = take_all m s (omega (arith, long)) in rw whole (take_at s (take (m - b) r) b long)
]

-- nothing stands behind a part that is shorter than a sector
pub drop_past : (x : List ℕ) (at b taken : ℕ) → taken ≡ min (length x - at) b → at ≤ length x → drop (at + taken) x ≡ drop (at + b) x
drop_past x at b taken is within = elim (cases_le (length x - at) b) [
  | inl low ↦ drop_all (at + taken) x (omega (arith, is)) ∙ sym (drop_all (at + b) x (omega arith))
  | inr high ↦ let e : taken ≡ b = omega (arith, is) in ap (λ (n : ℕ). drop (at + n) x) e
]

-- ## The numbers of an array's sectors.

pub sector_low : (b count k : ℕ) → IsSectorSize b → k < counted b count → k * b < count * 128
sector_low b count k (inl e) lt = let h = rw e at lt in rw e (omega arith)
sector_low b count k (inr e) lt = let h = rw e at lt in rw e (omega arith)

pub counted_more : (b few count : ℕ) → IsSectorSize b → few ≤ count → counted b few ≤ counted b count
counted_more b few count (inl e) le = rw e (omega arith)
counted_more b few count (inr e) le = rw e (omega arith)

pub all_fit : (b count : ℕ) → IsSectorSize b → count * 128 ≤ counted b count * b
all_fit b count (inl e) = rw e (omega arith)
all_fit b count (inr e) = rw e (omega arith)

-- sectors that the entries fill are among theirs
pub filled : (b count k : ℕ) → IsSectorSize b → k * b ≤ count * 128 → k ≤ counted b count
filled b count k (inl e) fit = let h = rw e at fit in rw e (omega arith)
filled b count k (inr e) fit = let h = rw e at fit in rw e (omega arith)

-- what follows of entry i of sector k
record Numbers (b count k i : ℕ) : Type 0 where
  at_byte : (k * (b / 128) + i) * 128 ≡ k * b + i * 128
  low : i * 128 + 128 ≤ b
  within : i * 128 + 128 ≤ count * 128 - k * b
  back : (k * (b / 128) + i) / (b / 128) ≡ k

numbers_of : (b count k i : ℕ) → IsSectorSize b → i < b / 128 → k * (b / 128) + i < count → Numbers b count k i
numbers_of b count k i (inl e) low within =
    let h = rw e at low in
    let g = rw e at within in
    rw e (record { at_byte = omega arith; low = omega arith; within = omega arith; back = omega arith })
numbers_of b count k i (inr e) low within =
    let h = rw e at low in
    let g = rw e at within in
    rw e (record { at_byte = omega arith; low = omega arith; within = omega arith; back = omega arith })

-- each entry is one of those of its sector
record Place (b count j : ℕ) : Type 0 where
  low : j - j / (b / 128) * (b / 128) < b / 128
  is : j / (b / 128) * (b / 128) + (j - j / (b / 128) * (b / 128)) ≡ j
  sector_of : j / (b / 128) < counted b count

place_of : (b count j : ℕ) → IsSectorSize b → j < count → Place b count j
place_of b count j (inl e) lt = rw e (record { low = omega arith; is = omega arith; sector_of = omega arith })
place_of b count j (inr e) lt = rw e (record { low = omega arith; is = omega arith; sector_of = omega arith })

pub sector_of_entry : (b count j : ℕ) → IsSectorSize b → j < count → j / (b / 128) < counted b count
sector_of_entry b count j size lt = (place_of b count j size lt).sector_of

-- ## The array's bytes round one of its sectors.

abbrev pub IsWhole : ℕ → Sectors → ℕ → ℕ → Type 0
IsWhole b d at count = (k : ℕ) → k < counted b count → length (sector d (at + k)) ≡ b

-- the bytes of the entries
abbrev pub array_at : ℕ → Sectors → ℕ → ℕ → List ℕ
array_at b d at count = take (count * 128) (bytes_from d at (counted b count))

-- those behind sector k
abbrev pub behind : ℕ → Sectors → ℕ → ℕ → ℕ → List ℕ
behind b d at count k = take (count * 128 - k * b - b) (bytes_from d (at + k + 1) (counted b count - (k + 1)))

pub parted : (b : ℕ) (d : Sectors) (at count k : ℕ) → IsSectorSize b → IsWhole b d at count → k < counted b count
    → array_at b d at count ≡ bytes_from d at k ++ (take (count * 128 - k * b) (sector d (at + k)) ++ behind b d at count k)
parted b d at count k size whole lt =
    let x = bytes_from d at k in
    let s = sector d (at + k) in
    let r = bytes_from d (at + k + 1) (counted b count - (k + 1)) in
    let long : length x ≡ k * b = bytes_long b d at k (λ i low. whole i (omega arith)) in
    let low = sector_low b count k size lt in
    let e : count * 128 ≡ length x + (count * 128 - k * b) = omega arith in
    ap (λ (t : List ℕ). take (count * 128) t) (bytes_around d at k (counted b count) lt)
    ∙ ap (λ (m : ℕ). take m (x ++ (s ++ r))) e ∙ take-append-add x (s ++ r) (count * 128 - k * b)
    ∙ ap (λ (t : List ℕ). x ++ t) (take_behind (count * 128 - k * b) s r
    ∙ ap (λ (m : ℕ). take (count * 128 - k * b) s ++ take (count * 128 - k * b - m) r) (whole k lt))

pub behind_same : (b : ℕ) (c d : Sectors) (at count k : ℕ) → ((i : ℕ) → i ≢ k → sector c (at + i) ≡ sector d (at + i))
    → behind b c at count k ≡ behind b d at count k
behind_same b c d at count k same =
    ap (λ (t : List ℕ). take (count * 128 - k * b - b) t) (bytes_same c d (at + k + 1) (counted b count - (k + 1)) (λ i low.
    let e : at + k + 1 + i ≡ at + (k + 1 + i) = omega arith in
    let other : k + 1 + i ≢ k = omega arith in
    rw e (same (k + 1 + i) other)))

pub array_long : (b : ℕ) (d : Sectors) (at count : ℕ) → IsSectorSize b → IsWhole b d at count → length (array_at b d at count) ≡ count * 128
array_long b d at count size whole =
    length-take-le _ _ (omega (arith, bytes_long b d at (counted b count) whole, all_fit b count size))

-- the entries' bytes that lie in sector k
pub range_at : (b : ℕ) (d : Sectors) (at count k : ℕ) → IsSectorSize b → IsWhole b d at count → k < counted b count
    → range_of b (array_at b d at count) k ≡ take (count * 128 - k * b) (sector d (at + k))
range_at b d at count k size whole lt =
    let x = bytes_from d at k in
    let s = sector d (at + k) in
    let m = count * 128 - k * b in
    let long : length x ≡ k * b = bytes_long b d at k (λ i low. whole i (omega arith)) in
    let width : k * b + b - k * b ≡ b = omega arith in
    ap (λ (z : List ℕ). range_of b z k) (parted b d at count k size whole lt)
    ∙ ap (λ (n : ℕ). take n (drop (k * b) (x ++ (take m s ++ behind b d at count k)))) width
    ∙ ap (λ (z : List ℕ). take b z) (drop_at x (take m s ++ behind b d at count k) (k * b) long)
    ∙ take_taken m b s (bytes_from d (at + k + 1) (counted b count - (k + 1))) (whole k lt)

-- ## The first of an array's entries.

-- what is taken of whole sectors, of as many as the entries lie in
pub first_entries : (b : ℕ) (d : Sectors) (at few count : ℕ) → IsSectorSize b → IsWhole b d at count → few ≤ count
    → take (few * 128) (array_at b d at count) ≡ array_at b d at few
first_entries b d at few count size whole le =
    let m = counted b few in
    let n = counted b count in
    let more = counted_more b few count size le in
    let rest = bytes_from d (at + m) (n - m) in
    let all : n ≡ m + (n - m) = omega (arith, more) in
    let long : length (bytes_from d at m) ≡ m * b = bytes_long b d at m (λ i low. whole i (omega (arith, low, more))) in
    take-take (few * 128) (count * 128) (bytes_from d at n) (omega (arith, le))
    ∙ ap (λ (k : ℕ). take (few * 128) (bytes_from d at k)) all
    ∙ ap (λ (t : List ℕ). take (few * 128) t) (bytes_split d at m (n - m))
    ∙ take-append-le (few * 128) (bytes_from d at m) rest (omega (arith, long, all_fit b few size))

-- so many sectors, which the entries fill
pub first_sectors : (b : ℕ) (d : Sectors) (at count k : ℕ) → IsSectorSize b → IsWhole b d at count → k * b ≤ count * 128
    → take (k * b) (array_at b d at count) ≡ bytes_from d at k
first_sectors b d at count k size whole fit =
    let n = counted b count in
    let within = filled b count k size fit in
    let all : n ≡ k + (n - k) = omega (arith, within) in
    let long : length (bytes_from d at k) ≡ k * b = bytes_long b d at k (λ i low. whole i (omega (arith, low, within))) in
    take-take (k * b) (count * 128) (bytes_from d at n) fit
    ∙ ap (λ (m : ℕ). take (k * b) (bytes_from d at m)) all
    ∙ ap (λ (t : List ℕ). take (k * b) t) (bytes_split d at k (n - k))
    ∙ take_at (bytes_from d at k) (bytes_from d (at + k) (n - k)) (k * b) long

-- the entries' bytes with other ones in sector k
pub parted_with : (b : ℕ) (d : Sectors) (at count k : ℕ) (y : List ℕ) → IsSectorSize b → IsWhole b d at count → k < counted b count
    → entries_with b (array_at b d at count) k y ≡ bytes_from d at k ++ (take (count * 128 - k * b) y ++ behind b d at count k)
parted_with b d at count k y size whole lt =
    let a = array_at b d at count in
    let x = bytes_from d at k in
    let s = sector d (at + k) in
    let p = take (count * 128 - k * b) s in
    let r = behind b d at count k in
    let all : a ≡ x ++ (p ++ r) = parted b d at count k size whole lt in
    let long : length x ≡ k * b = bytes_long b d at k (λ i low. whole i (omega arith)) in
    let front : take (k * b) a ≡ x = ap (λ (z : List ℕ). take (k * b) z) all ∙ take_at x (p ++ r) (k * b) long in
    let past : k * b + b ≡ length x + b = omega (arith, long) in
    let rest : drop (k * b + b) a ≡ r =
    ap (λ (z : List ℕ). drop (k * b + b) z) all ∙ ap (λ (n : ℕ). drop n (x ++ (p ++ r))) past ∙ drop-append-add x (p ++ r) b
    ∙ drop_taken (count * 128 - k * b) b s (bytes_from d (at + k + 1) (counted b count - (k + 1))) (whole k lt) in
    ap (λ (z : List ℕ). z ++ (take (length a - k * b) y ++ drop (k * b + b) a)) front
    ∙ ap (λ (n : ℕ). x ++ (take (n - k * b) y ++ drop (k * b + b) a)) (array_long b d at count size whole)
    ∙ ap (λ (z : List ℕ). x ++ (take (count * 128 - k * b) y ++ z)) rest

-- ## The entries of one sector.

range_left : (x y : List ℕ) (i : ℕ) → i + 128 ≤ length x → slice_range (x ++ y) i (i + 128) ≡ slice_range x i (i + 128)
range_left x y i within =
    let d = drop-append-le i x y (omega arith) in
    let t = take-append-le (i + 128 - i) (drop i x) y (omega (arith, length-drop i x)) in
    rw (d, t) refl

range_right : (x y : List ℕ) (i n : ℕ) → n ≡ length x + i → slice_range (x ++ y) n (n + 128) ≡ slice_range y i (i + 128)
range_right x y i n at =
    let d = drop-append-add x y i in
    let k : length x + i + 128 - (length x + i) ≡ i + 128 - i = omega arith in
    rw (at, d, k) refl

range_front : (s : List ℕ) (m i : ℕ) → i + 128 ≤ m → i + 128 ≤ length s → slice_range (take m s) i (i + 128) ≡ slice_range s i (i + 128)
range_front s m i low within =
    let long : i + 128 ≤ length (take m s) = omega (arith, length-take m s) in
    sym (range_left (take m s) (drop m s) i long) ∙ ap (λ (t : List ℕ). slice_range t i (i + 128)) (take-append-drop m s)

-- entry i of sector k, in the array and in the sector
entry_range : (b : ℕ) (d : Sectors) (at count k i : ℕ) → IsSectorSize b → IsWhole b d at count → k < counted b count → i < b / 128
    → k * (b / 128) + i < count
    → slice_range (array_at b d at count) ((k * (b / 128) + i) * 128) ((k * (b / 128) + i) * 128 + 128)
    ≡ slice_range (sector d (at + k)) (i * 128) (i * 128 + 128)
entry_range b d at count k i size whole lt low within =
    let x = bytes_from d at k in
    let s = sector d (at + k) in
    let m = count * 128 - k * b in
    let n = numbers_of b count k i size low within in
    let long : length x ≡ k * b = bytes_long b d at k (λ i low. whole i (omega arith)) in
    let at_byte : (k * (b / 128) + i) * 128 ≡ length x + i * 128 = n.at_byte ∙ ap (λ (z : ℕ). z + i * 128) (sym long) in
    let room : i * 128 + 128 ≤ length s = omega (arith, whole k lt, n.low) in
    let part : i * 128 + 128 ≤ length (take m s) = omega (arith, length-take m s, n.within, room) in
    ap (λ (t : List ℕ). slice_range t ((k * (b / 128) + i) * 128) ((k * (b / 128) + i) * 128 + 128)) (parted b d at count k size whole lt)
    ∙ range_right x (take m s ++ behind b d at count k) (i * 128) ((k * (b / 128) + i) * 128) at_byte
    ∙ range_left (take m s) (behind b d at count k) (i * 128) part
    ∙ range_front s m (i * 128) n.within room

-- the entries of sector k of the array are these
abbrev pub ArrayHas : ℕ → Sectors → ℕ → List (Option Entry) → ℕ → Type 0
ArrayHas b d at es k = (j : ℕ) → j < length es → j / (b / 128) ≡ k
    → EntryIs (slice_index_or es j None) (slice_range (array_at b d at (length es)) (j * 128) (j * 128 + 128))

pub in_array : (b : ℕ) (d : Sectors) (at : ℕ) (es : List (Option Entry)) (k : ℕ) → IsSectorSize b → IsWhole b d at (length es)
    → k < counted b (length es) → SectorHas b es k (sector d (at + k)) → ArrayHas b d at es k
in_array b d at es k size whole lt has j within at_k =
    let p = place_of b (length es) j size within in
    let q = b / 128 in
    let i = j - k * q in
    let low : i < q = rw at_k at p.low in
    let is : k * q + i ≡ j = rw at_k at p.is in
    let inside : k * q + i < length es = rw is within in
    let e = entry_range b d at (length es) k i size whole lt low inside in
    let here = has i low inside in
    subst (λ (z : ℕ). EntryIs (slice_index_or es z None) (slice_range (array_at b d at (length es)) (z * 128) (z * 128 + 128))) is
    (subst (λ (t : List ℕ). EntryIs (slice_index_or es (k * q + i) None) t) (sym e) here)

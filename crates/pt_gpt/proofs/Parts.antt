-- Entries that come in parts.
use Rattle.std.proofs.Common.{◌≡◌, ℕ, ◌/◌, ◌^◌, zero-le, min, add-one, ◌∷◌, ◌+◌, ◌*◌, ◌-◌, ◌<◌, ◌≤◌, List, [], ◌++◌, length, get_or, take}
use Rattle.std.proofs.Common.{drop, Option, None, refl, sym, ap, ◌∙◌, arith, inl, inr, length-append, append_assoc}
use Rattle.std.specs.Prelude.{slice_range}
use Rattle.std.proofs.lemmas.Bool.{cases_lt}
use Rattle.std.proofs.lemmas.List.{get_or_append_left, get_or-append_right, drop-append-le, take-append-le, length-drop, take_all}
use Rattle.std.proofs.lemmas.List.{take_min, get_or_push, length_push, append-nil, length-take-le}
use Rattle.std.proofs.Math.Seq.{drop-append-add, take-append-add}
use Rattle.std.proofs.Math.Nat.{add-mul, one-mul}
use Rattle.pt_gpt.specs.declared.entry.Entry.{Entry}
use Rattle.pt_sector.specs.Sectors.{Sectors, sector, IsSectorSize}
use Rattle.pt_gpt.specs.Copies.{AreEntries, bytes_from}
use Rattle.pt_gpt.specs.Entries.{EntryIs}

pub are_append : (es fs : List (Option Entry)) (x y : List ℕ) → AreEntries es x → AreEntries fs y → AreEntries (es ++ fs) (x ++ y)
are_append es fs x y p q =
    let long = length-append es fs in
    let bytes = length-append x y in
    let px = p.count in
    let qy = q.count in
    record {
      count = omega arith;
      each = λ k lt. elim (cases_lt k (length es)) [
        | inl below ↦
            let e = get_or_append_left es fs None k below in
            let d = drop-append-le (k * 128) x y (omega arith) in
            let t = take-append-le (k * 128 + 128 - k * 128) (drop (k * 128) x) y (omega (arith, length-drop (k * 128) x)) in
            rw (e, d, t) (p.each k below)
        | inr above ↦
            let e = get_or-append_right es fs (length es) k None refl above in
            let at : k * 128 ≡ length x + (k - length es) * 128 = omega arith in
            let d = ap (λ (n : ℕ). drop n (x ++ y)) at ∙ drop-append-add x y ((k - length es) * 128) in
            let n : k * 128 + 128 - k * 128 ≡ (k - length es) * 128 + 128 - (k - length es) * 128 = omega arith in
            rw (e, d, n) (q.each (k - length es) (omega arith))
      ];
    }

-- the counted bytes of one sector more
pub take_sector : (m i b : ℕ) (x s : List ℕ) → length x ≡ i * b → i * b ≤ m → take m (x ++ s) ≡ x ++ take (m - i * b) s
take_sector m i b x s long within =
    let e : m ≡ length x + (m - i * b) = omega arith in
    ap (λ (n : ℕ). take n (x ++ s)) e ∙ take-append-add x s (m - i * b)

-- one entry more
one_more : (es : List (Option Entry)) (x : Option Entry) (n : ℕ) (part : List ℕ) → length es ≡ n
    → ((j : ℕ) → j < n → EntryIs (get_or es j None) (slice_range part (j * 128) (j * 128 + 128)))
    → EntryIs x (slice_range part (n * 128) (n * 128 + 128))
    → (j : ℕ) → j < n + 1 → EntryIs (get_or (es ++ x ∷ []) j None) (slice_range part (j * 128) (j * 128 + 128))
one_more es x n part long before here j lt = elim (cases_lt j n) [
  | inl below ↦ let e = get_or_append_left es (x ∷ []) None j (omega arith) in rw e (before j below)
  | inr above ↦
      let at : n ≡ j = omega arith in
      let e = get_or_push es x None j (long ∙ at) in
      rw (e, ← at) here
]

-- the list of n entries so far, behind what was there before
pub record Pushed (part : List ℕ) (before now : List (Option Entry)) (n : ℕ) : Type 0 where
  pub entries : List (Option Entry)
  pub long : length entries ≡ n
  pub each : (j : ℕ) → j < n → EntryIs (get_or entries j None) (slice_range part (j * 128) (j * 128 + 128))
  pub behind : now ≡ before ++ entries

pub pushed_none : (part : List ℕ) (before : List (Option Entry)) → Pushed part before before 0
pushed_none part before = record { entries = []; long = refl; each = λ j lt. absurd (omega arith); behind = sym (append-nil before) }

pub pushed_one : (part : List ℕ) (before now next : List (Option Entry)) (n : ℕ) (x : Option Entry) → Pushed part before now n
    → EntryIs x (slice_range part (n * 128) (n * 128 + 128)) → next ≡ now ++ x ∷ [] → Pushed part before next (n + 1)
pushed_one part before now next n x so_far here push = record {
  entries = so_far.entries ++ x ∷ [];
  long = omega (arith, length_push so_far.entries x, so_far.long);
  each = one_more so_far.entries x n part so_far.long so_far.each here;
  behind = push ∙ ap (λ (t : List (Option Entry)). t ++ x ∷ []) so_far.behind ∙ append_assoc before so_far.entries (x ∷ []);
}

-- the bytes that were read after some sectors
pub record Streamed (b m at i : ℕ) (d : Sectors) (bytes : List ℕ) : Type 0 where
  pub taken : bytes ≡ take m (bytes_from d at i)
  pub long : length (bytes_from d at i) ≡ i * b

pub streamed_none : (b m at : ℕ) (d : Sectors) → Streamed b m at 0 d []
unfolding bytes_from
streamed_none b m at d = record { taken = sym (take_all m [] zero-le); long = omega arith }

pub streamed_more : (b m at i left : ℕ) (d : Sectors) (bytes s : List ℕ) → Streamed b m at i d bytes → i * b ≤ m → left ≡ m - i * b
    → s ≡ sector d (at + i) → length s ≡ b → Streamed b m at (i + 1) d (bytes ++ take (min left b) s)
unfolding bytes_from
streamed_more b m at i left d bytes s before within rest read long =
    let x = bytes_from d at i in
    let whole : take m x ≡ x = take_all m x (omega (arith, before.long)) in
    let cut : take (min left b) s ≡ take (m - i * b) s =
    ap (λ (n : ℕ). take (min left n) s) (sym long) ∙ take_min left s ∙ ap (λ (n : ℕ). take n s) rest in
    let next : take m (bytes_from d at (i + 1)) ≡ x ++ take (min left b) s =
    rw (add-one, ← read) (take_sector m i b x s before.long within ∙ ap (λ (t : List ℕ). x ++ t) (sym cut)) in
    let product : (i + 1) * b ≡ i * b + b = add-mul i 1 b ∙ ap (λ (n : ℕ). i * b + n) (one-mul b) in
    record {
      taken = ap (λ (t : List ℕ). t ++ take (min left b) s) (before.taken ∙ whole) ∙ sym next;
      long = rw add-one (omega (arith, length-append x (sector d (at + i)), ap length read, product, before.long));
    }

pub sector_within : (b m i : ℕ) → IsSectorSize b → i < (m + (b - 1)) / b → i * b ≤ m
sector_within b m i (inl e) lt = let h = rw e at lt in rw e (omega arith)
sector_within b m i (inr e) lt = let h = rw e at lt in rw e (omega arith)

-- the part of a sector that is taken
pub part_len : (b left taken : ℕ) (s : List ℕ) → taken ≡ min left b → length s ≡ b → length (take taken s) ≡ min left b
part_len b left taken s t long = rw t (length-take-le (min left b) s (omega arith))

pub left_less : (b m i left : ℕ) → left ≡ m - i * b → left - min left b ≡ m - (i + 1) * b
left_less b m i left before =
    let product : (i + 1) * b ≡ i * b + b = add-mul i 1 b ∙ ap (λ (n : ℕ). i * b + n) (one-mul b) in
    omega (arith, product, before)

-- the numbers of one sector of the array, and of what is left behind it
pub sector_before : (at i n m k : ℕ) → i < n → n ≡ m → at + m ≤ k → at + i < k
sector_before at i n m k lt same within = omega (arith, lt, same, within)

pub sector_fits : (at i n m k : ℕ) → i < n → n ≡ m → at + m < k → at + i < k
sector_fits at i n m k lt same small = omega (arith, lt, same, small)

pub sector_of : (at i n m : ℕ) → i < n → n ≡ m → (at ≤ at + i) × (at + i < at + m)
sector_of at i n m lt same = (omega arith, omega (arith, lt, same))

pub last_of : (i n : ℕ) → i ≤ n → n ≤ i → n ≡ i
last_of i n low high = omega (arith, low, high)

-- nothing is left behind the last sector
pub all_taken : (b n m i left : ℕ) → left ≡ m - i * b → n + left ≡ m → m ≤ i * b → n ≡ m
all_taken b n m i left rest taken enough = omega (arith, rest, taken, enough)

pub few_bytes : (count : ℕ) → count ≤ 128 → count * 128 < 2 ^ 64
few_bytes count most = omega (arith, most)

pub sector_small : (b : ℕ) → IsSectorSize b → b * 1 < 2 ^ 63
sector_small b (inl e) = rw e (omega arith)
sector_small b (inr e) = rw e (omega arith)

pub taken_long : (b left taken : ℕ) (s : List ℕ) → taken ≡ min left b → length s ≡ b → taken ≡ length (take taken s)
taken_long b left taken s t long = t ∙ sym (part_len b left taken s t long)

pub taken_within : (b left taken : ℕ) → taken ≡ min left b → taken ≤ left
taken_within b left taken t = omega (arith, t)

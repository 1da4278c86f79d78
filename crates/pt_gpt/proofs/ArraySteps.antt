-- An array's bytes, entry by entry.
use Rattle.std.proofs.Common.{◌≡◌, ℕ, zero, suc, ◌+◌, ◌-◌, ◌*◌, ◌<◌, ◌≤◌, add-one, List, [], ◌++◌, length, take, drop, replicate, refl}
use Rattle.std.proofs.Common.{sym, ap, ◌∙◌, arith, inl, inr, append_assoc, length-append, zero-add}
use Rattle.std.specs.Prelude.{slice_index_or, Option, None, IfSome}
use Rattle.std.proofs.lemmas.Bool.{cases_lt}
use Rattle.std.proofs.lemmas.List.{append-nil, take_at, take_all, length-take-le, length-replicate, replicate-append-replicate, get_or_past}
use Rattle.std.proofs.Math.Seq.{take-append-add}
use Rattle.pt_gpt.specs.inner.Entries.{put_at}
use Rattle.pt_gpt.specs.Entries.{EntryFits, entry_bytes}
use Rattle.pt_gpt.specs.Copies.{entries_bytes, array_bytes}
use Rattle.pt_gpt.specs.declared.entry.Entry.{Entry}

pub no_entries : (es : List (Option Entry)) (i : ℕ) → entries_bytes es i 0 ≡ []
unfolding entries_bytes
no_entries es i = refl

pub next_entry : (es : List (Option Entry)) (i n : ℕ)
    → entries_bytes es i (n + 1) ≡ entries_bytes es i n ++ entry_bytes (slice_index_or es (i + n) None)
unfolding entries_bytes
next_entry es i n = rw add-one refl

-- the front after one part more was put behind it
pub put_next : (k : ℕ) (new x : List ℕ) → length new ≡ 128 → k * 128 + 128 ≤ length x
    → take ((k + 1) * 128) (put_at (k * 128) new x) ≡ take (k * 128) x ++ new
unfolding put_at
put_next k new x long room =
    let front = take (k * 128) x in
    let rest = drop (k * 128 + length new) x in
    let at : (k + 1) * 128 ≡ length front + 128 = omega (arith, length-take-le (k * 128) x (omega arith)) in
    rw at (take-append-add front (new ++ rest) 128 ∙ ap (λ (t : List ℕ). front ++ t) (take_at new rest 128 long))

pub fits_next : (es : List (Option Entry)) (n : ℕ) → ((j : ℕ) → j < n → IfSome (slice_index_or es j None) EntryFits)
    → IfSome (slice_index_or es n None) EntryFits
    → (j : ℕ) → j < n + 1 → IfSome (slice_index_or es j None) EntryFits
fits_next es n before here j lt = elim (cases_lt j n) [ inl below ↦ before j below | inr above ↦ let e : j ≡ n = omega arith in rw e here ]

-- ## A whole array.

pub first_next : (es : List (Option Entry)) (n : ℕ)
    → entries_bytes es 0 (n + 1) ≡ entries_bytes es 0 n ++ entry_bytes (slice_index_or es n None)
first_next es n =
    next_entry es 0 n ∙ ap (λ (i : ℕ). entries_bytes es 0 n ++ entry_bytes (slice_index_or es i None)) (zero-add n)

pub long_next : (es : List (Option Entry)) (k : ℕ) → length (entries_bytes es 0 k) ≡ k * 128
    → length (entry_bytes (slice_index_or es k None)) ≡ 128 → length (entries_bytes es 0 (k + 1)) ≡ (k + 1) * 128
long_next es k at long =
    ap (λ (t : List ℕ). length t) (first_next es k)
    ∙ length-append (entries_bytes es 0 k) (entry_bytes (slice_index_or es k None)) ∙ omega (arith, at, long)

abbrev zeros : ℕ → List ℕ
zeros n = replicate n 0

-- past the last entry there are zeros
past_zeros : (es : List (Option Entry)) (n m : ℕ) → length es ≤ n
    → entries_bytes es 0 (n + m) ≡ entries_bytes es 0 n ++ zeros (m * 128)
past_zeros es n zero past =
    let none : 0 * 128 ≡ 0 = omega arith in
    let all : n + 0 ≡ n = omega arith in
    ap (λ (k : ℕ). entries_bytes es 0 k) all ∙ sym (append-nil (entries_bytes es 0 n))
    ∙ ap (λ (k : ℕ). entries_bytes es 0 n ++ zeros k) (sym none)
past_zeros es n (suc m) past =
    let all : n + suc m ≡ (n + m) + 1 = omega arith in
    let more : m * 128 + 128 ≡ suc m * 128 = omega arith in
    let none : slice_index_or es (n + m) None ≡ None = get_or_past es (n + m) None (omega (arith, past)) in
    ap (λ (k : ℕ). entries_bytes es 0 k) all
    ∙ first_next es (n + m)
    ∙ ap (λ (o : Option Entry). entries_bytes es 0 (n + m) ++ entry_bytes o) none
    ∙ ap (λ (t : List ℕ). t ++ zeros 128) (past_zeros es n m past)
    ∙ append_assoc (entries_bytes es 0 n) (zeros (m * 128)) (zeros 128)
    ∙ ap (λ (t : List ℕ). entries_bytes es 0 n ++ t) (replicate-append-replicate (m * 128) 128 0)
    ∙ ap (λ (k : ℕ). entries_bytes es 0 n ++ zeros k) more

-- the entries' bytes, filled up by zeros, are a whole array
module _ (es : List (Option Entry)) (n : ℕ) (x y : List ℕ) (few : length es ≤ 128) (all : n ≡ length es * 128)
    (is : x ≡ array_bytes es) (long : length (array_bytes es) ≡ length es * 128) (filled : y ≡ take 16384 x ++ zeros (16384 - n)) where
  filled_up : y ≡ array_bytes es ++ zeros ((128 - length es) * 128)
  filled_up =
      let left : 16384 - n ≡ (128 - length es) * 128 = omega (arith, all, few) in
      filled
      ∙ ap (λ (t : List ℕ). take 16384 t ++ zeros (16384 - n)) is
      ∙ ap (λ (t : List ℕ). t ++ zeros (16384 - n)) (take_all 16384 (array_bytes es) (omega (arith, long, few)))
      ∙ ap (λ (k : ℕ). array_bytes es ++ zeros k) left

  pub whole_array : y ≡ entries_bytes es 0 128
  whole_array =
      let both : length es + (128 - length es) ≡ 128 = omega (arith, few) in
      filled_up ∙ sym (past_zeros es (length es) (128 - length es) (omega arith)) ∙ ap (λ (k : ℕ). entries_bytes es 0 k) both

  pub whole_long : length y ≡ 16384
  whole_long =
      let rest = (128 - length es) * 128 in
      ap (λ (t : List ℕ). length t) filled_up ∙ length-append (array_bytes es) (zeros rest)
      ∙ omega (arith, long, few, length-replicate {A = ℕ} rest 0)

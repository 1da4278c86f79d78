-- Rows that are no plan.
use Rattle.std.proofs.Common.{◌≡◌, ◌∙◌, ◌<◌, ◌≤◌, ◌+◌, ◌*◌, ◌/◌, ℕ, List, [], ◌∷◌, ◌++◌, length, take, drop, get_or, sym, ap, subst}
use Rattle.std.proofs.Common.{arith, append_assoc, inl, inr, map, suc}
use Rattle.std.specs.Prelude.{◌%◌, ◌-◌, ◌≢◌, ◌⊎◌}
use Rattle.std.proofs.Math.Nat.{mul-mod_left, mul-div_cancel, eq-or-lt_of_le}
use Rattle.std.proofs.Math.Seq.{get_or-append_seam}
use Rattle.std.proofs.lemmas.List.{take-append-drop, drop_more, length-append, length-map, map-append, length-take-le}
use Rattle.pt_sector.specs.Sectors.{IsSectorSize, Writes}
use Rattle.pt_replay.specs.Replies.{the_rows, bad_argument, bad_row}
use Rattle.pt_replay.specs.Given.{rows_in, rows_from, AreFull, AreTaken, phase_at, IsInOrder}
use Rattle.pt_replay.proofs.ViewLemmas.{IsGrowing}
use Rattle.pt_replay.specs.inner.Given.{IsMisplaced, Took}
use Rattle.pt_replay.specs.inner.Wanted.{NoRows}
use Rattle.pt_replay.specs.declared.answers.Reply.{Reply}
use Rattle.pt_replay.specs.declared.rows.WriteRow.{WriteRow}
use Rattle.pt_replay.specs.declared.plan_rows.Partial.{Partial}

-- bytes of n whole groups
pub groups_are : (b len n : ℕ) → 0 < b → len ≡ n * b → (len % b ≡ 0) × (len / b ≡ n)
groups_are b len n some is = (ap (λ (x : ℕ). x % b) is ∙ mul-mod_left n b, ap (λ (x : ℕ). x / b) is ∙ mul-div_cancel n some)

pub size_some : (b : ℕ) → IsSectorSize b → 0 < b
size_some b (inl is) = rw is (omega arith)
size_some b (inr is) = rw is (omega arith)

none_here : (before : List WriteRow) (a : WriteRow) (rest : List WriteRow) → [] ≡ before ++ a ∷ rest → ⊥
none_here before a rest is =
    let len = length-append before (a ∷ rest) in let e = ap (λ (t : List WriteRow). length t) is in omega (arith, len, e)

-- the first row has the number of the first phase
first_phase : (n : ℕ) (ps : List Writes) (row : WriteRow) (rest : List WriteRow) → AreFull ps → rows_from n ps ≡ row ∷ rest
    → row.phase ≡ n
unfolding rows_from AreFull
first_phase n [] row rest full is = absurd (none_here [] row rest is)
first_phase n ([] ∷ ps) row rest full is = absurd (let some = full.0 in omega (arith, some))
first_phase n ((w ∷ p) ∷ ps) row rest full is = sym (ap (λ (t : List WriteRow). (get_or t 0 row).phase) is)

-- the next row is of the same phase, or of the next one
next_in : (ps : List Writes) (n : ℕ) (p : Writes) (before : List WriteRow) (a c : WriteRow) (rest : List WriteRow) → AreFull ps
    → rows_in n p ++ rows_from (n + 1) ps ≡ before ++ a ∷ c ∷ rest → (c.phase ≡ a.phase) ⊎ (c.phase ≡ a.phase + 1)
unfolding rows_from AreFull
next_in [] n [] before a c rest full is = absurd (none_here before a (c ∷ rest) is)
next_in (q ∷ ps) n [] before a c rest full is = next_in ps (n + 1) q before a c rest full.1 is
next_in ps n (w ∷ []) [] a c rest full is =
    inr (first_phase (n + 1) ps c rest full (ap (λ (t : List WriteRow). drop 1 t) is)
    ∙ ap (λ (m : ℕ). m + 1) (ap (λ (t : List WriteRow). (get_or t 0 a).phase) is))
next_in ps n (w ∷ x ∷ p) [] a c rest full is =
    inl (sym (ap (λ (t : List WriteRow). (get_or t 1 a).phase) is) ∙ ap (λ (t : List WriteRow). (get_or t 0 a).phase) is)
next_in ps n (w ∷ p) (y ∷ before) a c rest full is = next_in ps n p before a c rest full (ap (λ (t : List WriteRow). drop 1 t) is)

next_phase : (n : ℕ) (ps : List Writes) (before : List WriteRow) (a c : WriteRow) (rest : List WriteRow) → AreFull ps
    → rows_from n ps ≡ before ++ a ∷ c ∷ rest → (c.phase ≡ a.phase) ⊎ (c.phase ≡ a.phase + 1)
unfolding rows_from AreFull
next_phase n [] before a c rest full is = absurd (none_here before a (c ∷ rest) is)
next_phase n (q ∷ ps) before a c rest full is = next_in ps n q before a c rest full.1 is

-- the rows and bytes are no plan
abbrev pub AreNoPlan : ℕ → List WriteRow → List ℕ → Type 0
AreNoPlan b rows bytes = (phases : List Writes) → ¬ AreTaken b phases rows bytes

-- a row that is neither of the last phase nor of a next one
no_plan_here : {b : ℕ} (rows : List WriteRow) (bytes : List ℕ) (k : ℕ) (row : WriteRow) (p : Partial b) → k < length rows
    → row ≡ get_or rows k row → IsGrowing (take k rows) p → IsMisplaced row p → AreNoPlan b rows bytes
no_plan_here rows bytes k row p within is so_far wrong phases taken = here so_far.last where
  split : rows ≡ take k rows ++ row ∷ drop (k + 1) rows
  split = sym (take-append-drop k rows) ∙ ap (λ (t : List WriteRow). take k rows ++ t) (drop_more rows k row within
      ∙ ap (λ (y : WriteRow). y ∷ drop (k + 1) rows) (sym is))

  on : List WriteRow → List WriteRow
  on t = t ++ row ∷ drop (k + 1) rows

  here : ((take k rows ≡ []) × (p.number ≡ 1) × (length p.last.items ≡ 0))
      ⊎ ((before : List WriteRow) × (last : WriteRow) × (take k rows ≡ before ++ last ∷ []) × (last.phase ≡ p.number)
      × (1 ≤ length p.last.items)) → ⊥
  here (inl (none, one, empty)) = wrong.not_last (first_phase 1 phases row (drop (k + 1) rows) taken.full (sym taken.rows_are ∙ split
      ∙ ap on none) ∙ sym one)
  here (inr (before, last, so, at, some)) = next (next_phase 1 phases before last row (drop (k + 1) rows) taken.full (sym taken.rows_are
      ∙ split ∙ ap on so ∙ append_assoc before (last ∷ []) (row ∷ drop (k + 1) rows))) where
        next : (row.phase ≡ last.phase) ⊎ (row.phase ≡ last.phase + 1) → ⊥
        next (inl same) = wrong.not_last (same ∙ at)
        next (inr one) = wrong.not_next some (one ∙ ap (λ (m : ℕ). m + 1) at)

-- the phase of a row behind others
phase_behind : (front : List WriteRow) (row : WriteRow) (rest rows : List WriteRow) → rows ≡ front ++ row ∷ rest
    → phase_at rows (length front + 1) ≡ row.phase
phase_behind front row rest rows is =
    let f : WriteRow → ℕ = λ (x : WriteRow). x.phase in
    let one : length front + 1 ≡ suc (length front) = omega arith in
    ap (λ (t : List WriteRow). phase_at t (length front + 1)) is
    ∙ (ap (λ (n : ℕ). phase_at (front ++ row ∷ rest) n) one
    ∙ (ap (λ (t : List ℕ). get_or t (length front) 0) (map-append f front (row ∷ rest))
    ∙ (ap (λ (n : ℕ). get_or (map f front ++ row.phase ∷ map f rest) n 0) (sym (length-map front f))
    ∙ get_or-append_seam (map f front) row.phase (map f rest) 0)))

-- the phase of the row before row k + 1, and how many writes the last phase has
abbrev pub IsAtPhase : {b : ℕ} → List WriteRow → ℕ → Partial b → Type 0
IsAtPhase rows k p =
    ((phase_at rows k ≡ 0) × (p.number ≡ 1) × (length p.last.items ≡ 0)) ⊎ ((phase_at rows k ≡ p.number) × (1 ≤ length p.last.items))

at_phase : {b : ℕ} (rows : List WriteRow) (k : ℕ) (row : WriteRow) (p : Partial b) → k < length rows → row ≡ get_or rows k row
    → IsGrowing (take k rows) p → IsAtPhase rows k p
at_phase rows k row p within is so_far = here so_far.last where
  split : rows ≡ take k rows ++ row ∷ drop (k + 1) rows
  split = sym (take-append-drop k rows) ∙ ap (λ (t : List WriteRow). take k rows ++ t) (drop_more rows k row within
      ∙ ap (λ (y : WriteRow). y ∷ drop (k + 1) rows) (sym is))

  many : length (take k rows) ≡ k
  many = length-take-le k rows (omega (arith, within))

  here : ((take k rows ≡ []) × (p.number ≡ 1) × (length p.last.items ≡ 0))
      ⊎ ((before : List WriteRow) × (last : WriteRow) × (take k rows ≡ before ++ last ∷ []) × (last.phase ≡ p.number)
      × (1 ≤ length p.last.items)) → IsAtPhase rows k p
  here (inl (none, one, empty)) =
      let first : k ≡ 0 = sym many ∙ ap (λ (t : List WriteRow). length t) none in
      inl (ap (λ (n : ℕ). phase_at rows n) first, one, empty)
  here (inr (before, last, so, at, some)) =
      let behind : k ≡ length before + 1 = sym many ∙ (ap (λ (t : List WriteRow). length t) so ∙ length-append before (last ∷ [])) in
      let cut : rows ≡ before ++ last ∷ row ∷ drop (k + 1) rows = split ∙ (ap (λ (t : List WriteRow). t ++ row ∷ drop (k + 1) rows) so
      ∙ append_assoc before (last ∷ []) (row ∷ drop (k + 1) rows)) in
      inr (ap (λ (n : ℕ). phase_at rows n) behind ∙ (phase_behind before last (row ∷ drop (k + 1) rows) rows cut ∙ at), some)

phase_here : (rows : List WriteRow) (k : ℕ) (row : WriteRow) → k < length rows → row ≡ get_or rows k row
    → phase_at rows (k + 1) ≡ row.phase
phase_here rows k row within is =
    let split : rows ≡ take k rows ++ row ∷ drop (k + 1) rows =
    sym (take-append-drop k rows) ∙ ap (λ (t : List WriteRow). take k rows ++ t) (drop_more rows k row within
    ∙ ap (λ (y : WriteRow). y ∷ drop (k + 1) rows) (sym is)) in
    let many : length (take k rows) ≡ k = length-take-le k rows (omega (arith, within)) in
    ap (λ (n : ℕ). phase_at rows (n + 1)) (sym many) ∙ phase_behind (take k rows) row (drop (k + 1) rows) rows split

-- the phases of row k + 1 and of the row before it
order_of : (rows : List WriteRow) (k here prior : ℕ) → phase_at rows (k + 1) ≡ here → phase_at rows k ≡ prior → 1 ≤ here
    → (here ≡ prior) ⊎ (here ≡ prior + 1) → IsInOrder rows (k + 1)
order_of rows k here prior is was low after =
    let back : phase_at rows (k + 1 - 1) ≡ prior = ap (λ (n : ℕ). phase_at rows n) (let e : k + 1 - 1 ≡ k = omega arith in e) ∙ was in
    record { begun = subst (λ (n : ℕ). 1 ≤ n) (sym is) low; follows = next back after } where
      next : phase_at rows (k + 1 - 1) ≡ prior → (here ≡ prior) ⊎ (here ≡ prior + 1)
          → (phase_at rows (k + 1) ≡ phase_at rows (k + 1 - 1)) ⊎ (phase_at rows (k + 1) ≡ phase_at rows (k + 1 - 1) + 1)
      next back (inl same) = inl (is ∙ (same ∙ sym back))
      next back (inr one) = inr (is ∙ (one ∙ ap (λ (n : ℕ). n + 1) (sym back)))

order_in : (rows : List WriteRow) (k here prior : ℕ) → phase_at rows (k + 1) ≡ here → phase_at rows k ≡ prior → IsInOrder rows (k + 1)
    → (1 ≤ here) × ((here ≡ prior) ⊎ (here ≡ prior + 1))
order_in rows k here prior is was order = (subst (λ (n : ℕ). 1 ≤ n) is order.begun, next order.follows) where
  back : phase_at rows (k + 1 - 1) ≡ prior
  back = ap (λ (n : ℕ). phase_at rows n) (let e : k + 1 - 1 ≡ k = omega arith in e) ∙ was

  next : (phase_at rows (k + 1) ≡ phase_at rows (k + 1 - 1)) ⊎ (phase_at rows (k + 1) ≡ phase_at rows (k + 1 - 1) + 1)
      → (here ≡ prior) ⊎ (here ≡ prior + 1)
  next (inl same) = inl (sym is ∙ (same ∙ back))
  next (inr one) = inr (sym is ∙ (one ∙ ap (λ (n : ℕ). n + 1) back))

-- the first k rows are in order
abbrev pub AreInOrder : List WriteRow → ℕ → Type 0
AreInOrder rows k = (i : ℕ) → 1 ≤ i → i ≤ k → IsInOrder rows i

pub none_in_order : (rows : List WriteRow) → AreInOrder rows 0
none_in_order rows i low high = absurd (omega (arith, low, high))

-- one row more was taken
pub one_in_order : {b : ℕ} (rows : List WriteRow) (k : ℕ) (row : WriteRow) (held : List ℕ) (old new : Partial b) → k < length rows
    → row ≡ get_or rows k row → IsGrowing (take k rows) old → Took row held old new → AreInOrder rows k → AreInOrder rows (k + 1)
one_in_order rows k row held old new within is so_far took before i low high = by (eq-or-lt_of_le high) where
  here : phase_at rows (k + 1) ≡ row.phase
  here = phase_here rows k row within is

  some : 1 ≤ row.phase
  some = let at = took.last in let numbered = took.numbered in omega (arith, at, numbered)

  order : IsAtPhase rows k old → (row.phase ≡ old.number) ⊎ ((row.phase ≡ old.number + 1) × (1 ≤ length old.last.items))
      → IsInOrder rows (k + 1)
  order (inl (zero_is, one, empty)) (inl same) = order_of rows k row.phase 0 here zero_is some (inr (same ∙ one))
  order (inl (zero_is, one, empty)) (inr (more, full)) = absurd (omega (arith, empty, full))
  order (inr (at, full)) (inl same) = order_of rows k row.phase old.number here at some (inl same)
  order (inr (at, full)) (inr (more, also)) = order_of rows k row.phase old.number here at some (inr more)

  by : (i ≡ k + 1) ⊎ (i < k + 1) → IsInOrder rows i
  by (inl same) = subst (IsInOrder rows) (sym same) (order (at_phase rows k row old within is so_far) took.next)
  by (inr less) = before i low (omega (arith, less))

-- a row that can't come there
out_of_order : {b : ℕ} (rows : List WriteRow) (k : ℕ) (row : WriteRow) (p : Partial b) → k < length rows → row ≡ get_or rows k row
    → IsGrowing (take k rows) p → IsMisplaced row p → ¬ IsInOrder rows (k + 1)
out_of_order rows k row p within is so_far wrong order = no_way (at_phase rows k row p within is so_far) where
  here : phase_at rows (k + 1) ≡ row.phase
  here = phase_here rows k row within is

  first : (1 ≤ row.phase) × ((row.phase ≡ 0) ⊎ (row.phase ≡ 0 + 1)) → p.number ≡ 1 → ⊥
  first (low, inl none) one = omega (arith, low, none)
  first (low, inr same) one = wrong.not_last (same ∙ sym one)

  later : (1 ≤ row.phase) × ((row.phase ≡ p.number) ⊎ (row.phase ≡ p.number + 1)) → 1 ≤ length p.last.items → ⊥
  later (low, inl same) full = wrong.not_last same
  later (low, inr more) full = wrong.not_next full more

  no_way : IsAtPhase rows k p → ⊥
  no_way (inl (zero_is, one, empty)) = first (order_in rows k row.phase 0 here zero_is order) one
  no_way (inr (at, full)) = later (order_in rows k row.phase p.number here at order) full

pub no_rows_here : {b : ℕ} (rows : List WriteRow) (bytes : List ℕ) (k : ℕ) (row : WriteRow) (p : Partial b) (r : Reply)
    → length bytes ≡ length rows * b → k < length rows → row ≡ get_or rows k row → IsGrowing (take k rows) p → AreInOrder rows k
    → IsMisplaced row p → r ≡ bad_row (k + 1) → NoRows b rows bytes r
no_rows_here rows bytes k row p r whole within is so_far before wrong told = (
  λ all. no_plan_here rows bytes k row p within is so_far wrong all.0 all.1,
  inr (
    k + 1,
    whole,
    record {
      from = omega arith;
      to = omega (arith, within);
      before = λ i low high. before i low (omega (arith, high));
      bad = out_of_order rows k row p within is so_far wrong;
    },
    told,
  ),
)

-- the bytes aren't a sector for each row
pub no_sectors : (b : ℕ) (rows : List WriteRow) (bytes : List ℕ) (r : Reply) → length bytes ≢ length rows * b
    → r ≡ bad_argument the_rows → NoRows b rows bytes r
no_sectors b rows bytes r not told = (λ all. not all.1.whole, inl (not, told))

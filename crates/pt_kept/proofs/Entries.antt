-- The slices of numbered entries or records, when one of these changes.
use Rattle.std.specs.Prelude.{◌≡◌, ◌≢◌, ◌<◌, ◌≤◌, ◌+◌, ◌-◌, ◌++◌, ◌∷◌, [], ℕ, zero, suc, Bool, true, false, List, length, replicate}
use Rattle.std.specs.Prelude.{slice_index_or, slice_set, Option, Some, None, if◌then◌else◌, nat_eq, nat_lt}
use Rattle.std.proofs.Common.{refl, sym, ap, subst, ◌∙◌, arith, append_assoc}
use Rattle.std.proofs.lemmas.Bool.{eq-eqb, ne_eqb, lt-ltb, le-ltb}
use Rattle.std.proofs.lemmas.List.Elements.{filter-append}
use Rattle.pt_gpt.specs.declared.entry.Entry.{Entry}
use Rattle.pt_mbr.specs.declared.record.Record.{Record}
use Rattle.pt_members.specs.Members.{records_as, entries_as, is_slice_kind, slice_from}
use Rattle.pt_members.proofs.SliceLists.{primary_some, entry_some, record_slice, primary_slice, primary_slices, entry_slice, entry_slices}
use Rattle.pt_members.specs.declared.layout.Slice.{Slice}
use Rattle.pt_kept.proofs.Lists.{slices_by, filter_in, filter_out}

-- what gives the slice of a number, if any
pub record IsNumbered {X : Type 0} (one : ℕ → Option X → List Slice) : Type 0 where
  pub none : (n : ℕ) → one n None ≡ []
  pub kept : (f : ℕ → Bool) (n : ℕ) (x : Option X) → f n ≡ true → slices_by f (one n x) ≡ one n x
  pub gone : (f : ℕ → Bool) (n : ℕ) (x : Option X) → f n ≡ false → slices_by f (one n x) ≡ []

-- the slices of a list from a number on
pub many : {X : Type 0} → (ℕ → Option X → List Slice) → ℕ → List (Option X) → List Slice
many one n [] = []
many one n (x ∷ xs) = one n x ++ many one (n + 1) xs

by_slice : (f : ℕ → Bool) (n first last : ℕ) (t : Bool) → f n ≡ t
    → slices_by f (slice_from n first last ∷ []) ≡ (if t then slice_from n first last ∷ [] else [])
by_slice f n first last true so = filter_in (λ (s : Slice). f s.number) (slice_from n first last) [] so
by_slice f n first last false so = filter_out (λ (s : Slice). f s.number) (slice_from n first last) [] so

kept_if : (f : ℕ → Bool) (n first last : ℕ) (c : Bool) → f n ≡ true
    → slices_by f (if c then slice_from n first last ∷ [] else []) ≡ (if c then slice_from n first last ∷ [] else [])
kept_if f n first last true so = by_slice f n first last true so
kept_if f n first last false so = refl

gone_if : (f : ℕ → Bool) (n first last : ℕ) (c : Bool) → f n ≡ false → slices_by f (if c then slice_from n first last ∷ [] else []) ≡ []
gone_if f n first last true so = by_slice f n first last false so
gone_if f n first last false so = refl

-- the entries of a GPT
pub entry_numbered : IsNumbered entry_slice
unfolding entry_slice
entry_numbered = record { none = λ n. refl; kept = kept; gone = gone } where
  kept : (f : ℕ → Bool) (n : ℕ) (x : Option Entry) → f n ≡ true → slices_by f (entry_slice n x) ≡ entry_slice n x
  kept f n None so = refl
  kept f n (Some e) so =
      ap (slices_by f) (entry_some n e) ∙ (kept_if f n e.first e.last (is_slice_kind e.kind.0) so ∙ sym (entry_some n e))

  gone : (f : ℕ → Bool) (n : ℕ) (x : Option Entry) → f n ≡ false → slices_by f (entry_slice n x) ≡ []
  gone f n None so = refl
  gone f n (Some e) so = ap (slices_by f) (entry_some n e) ∙ gone_if f n e.first e.last (is_slice_kind e.kind.0) so

pub entries_many : (n : ℕ) (es : List (Option Entry)) → entry_slices n es ≡ many entry_slice n es
unfolding entry_slices entry_slice entries_as many
entries_many n [] = refl
entries_many n (e ∷ es) = ap (λ (l : List Slice). entry_slice n e ++ l) (entries_many (n + 1) es)

-- the records of sector 0
pub record_numbered : IsNumbered primary_slice
unfolding primary_slice record_slice
record_numbered = record { none = λ n. refl; kept = kept; gone = gone } where
  kept : (f : ℕ → Bool) (n : ℕ) (x : Option Record) → f n ≡ true → slices_by f (primary_slice n x) ≡ primary_slice n x
  kept f n None so = refl
  kept f n (Some r) so =
      ap (slices_by f) (primary_some n r) ∙ (kept_if f n (0 + r.start) (0 + r.start + r.size - 1) (nat_eq r.kind 0xA5) so
      ∙ sym (primary_some n r))

  gone : (f : ℕ → Bool) (n : ℕ) (x : Option Record) → f n ≡ false → slices_by f (primary_slice n x) ≡ []
  gone f n None so = refl
  gone f n (Some r) so =
      ap (slices_by f) (primary_some n r) ∙ gone_if f n (0 + r.start) (0 + r.start + r.size - 1) (nat_eq r.kind 0xA5) so

pub records_many : (n : ℕ) (rs : List (Option Record)) → primary_slices n rs ≡ many primary_slice n rs
unfolding primary_slices primary_slice records_as many
records_many n [] = refl
records_many n (r ∷ rs) = ap (λ (l : List Slice). primary_slice n r ++ l) (records_many (n + 1) rs)

joined : {X : Type 0} (one : ℕ → Option X → List Slice) (f : ℕ → Bool) (n : ℕ) (x : Option X) (xs : List (Option X))
    → slices_by f (many one n (x ∷ xs)) ≡ slices_by f (one n x) ++ slices_by f (many one (n + 1) xs)
unfolding many
joined one f n x xs = filter-append (λ (s : Slice). f s.number) (one n x) (many one (n + 1) xs)

-- all numbers from n on pass
pub many_kept : {X : Type 0} (one : ℕ → Option X → List Slice) (is : IsNumbered one) (f : ℕ → Bool) (n : ℕ) (xs : List (Option X))
    → ((m : ℕ) → n ≤ m → f m ≡ true) → slices_by f (many one n xs) ≡ many one n xs
unfolding many
many_kept one is f n [] all = refl
many_kept one is f n (x ∷ xs) all =
    joined one f n x xs ∙ (ap (λ (l : List Slice). l ++ slices_by f (many one (n + 1) xs)) (is.kept f n x (all n (omega arith)))
    ∙ ap (λ (l : List Slice). one n x ++ l) (many_kept one is f (n + 1) xs (λ m le. all m (omega (arith, le)))))

-- none does
pub many_gone : {X : Type 0} (one : ℕ → Option X → List Slice) (is : IsNumbered one) (f : ℕ → Bool) (n : ℕ) (xs : List (Option X))
    → ((m : ℕ) → n ≤ m → f m ≡ false) → slices_by f (many one n xs) ≡ []
unfolding many
many_gone one is f n [] all = refl
many_gone one is f n (x ∷ xs) all =
    joined one f n x xs ∙ (ap (λ (l : List Slice). l ++ slices_by f (many one (n + 1) xs)) (is.gone f n x (all n (omega arith)))
    ∙ many_gone one is f (n + 1) xs (λ m le. all m (omega (arith, le))))

-- the number isn't k
abbrev pub is_not : ℕ → ℕ → Bool
is_not k n = if nat_eq n k then false else true

pub is_not_true : (k n : ℕ) → n ≢ k → is_not k n ≡ true
is_not_true k n other = rw (ne_eqb n k other) refl

pub is_not_false : (k n : ℕ) → n ≡ k → is_not k n ≡ false
is_not_false k n same = rw (eq-eqb n k same) refl

move : (n k : ℕ) → (n + 1) + k ≡ n + suc k
move n k = omega arith

-- without one there are the slices of the other numbers
pub many_without : {X : Type 0} (one : ℕ → Option X → List Slice) (is : IsNumbered one) (n k : ℕ) (xs : List (Option X))
    → k < length xs → many one n (slice_set xs k None) ≡ slices_by (is_not (n + k)) (many one n xs)
unfolding many
many_without one is n k [] lt = absurd (omega (arith, lt))
many_without one is n zero (x ∷ xs) lt =
    let f = is_not (n + zero) in
    ap (λ (l : List Slice). l ++ many one (n + 1) xs) (is.none n)
    ∙ sym (joined one f n x xs ∙ (ap (λ (l : List Slice). l ++ slices_by f (many one (n + 1) xs))
    (is.gone f n x (is_not_false (n + zero) n (omega arith)))
    ∙ many_kept one is f (n + 1) xs (λ m le. is_not_true (n + zero) m (omega (arith, le)))))
many_without one is n (suc k) (x ∷ xs) lt =
    let f = is_not (n + suc k) in
    let more = many_without one is (n + 1) k xs (omega (arith, lt))
    ∙ ap (λ (m : ℕ). slices_by (is_not m) (many one (n + 1) xs)) (move n k) in
    ap (λ (l : List Slice). one n x ++ l) more
    ∙ sym (joined one f n x xs ∙ ap (λ (l : List Slice). l ++ slices_by f (many one (n + 1) xs))
    (is.kept f n x (is_not_true (n + suc k) n (omega arith))))

-- where one changes and its slice doesn't, the slices don't
pub many_same : {X : Type 0} (one : ℕ → Option X → List Slice) (n k : ℕ) (y : Option X) (xs : List (Option X)) → k < length xs
    → one (n + k) y ≡ one (n + k) (slice_index_or xs k None) → many one n (slice_set xs k y) ≡ many one n xs
unfolding many
many_same one n k y [] lt same = absurd (omega (arith, lt))
many_same one n zero y (x ∷ xs) lt same =
    let m : n + zero ≡ n = omega arith in
    ap (λ (l : List Slice). l ++ many one (n + 1) xs) (subst (λ (i : ℕ). one i y ≡ one i x) m same)
many_same one n (suc k) y (x ∷ xs) lt same =
    ap (λ (l : List Slice). one n x ++ l)
    (many_same one (n + 1) k y xs (omega (arith, lt)) (subst (λ (i : ℕ). one i y ≡ one i (slice_index_or xs k None)) (sym (move n k)) same))

abbrev pub is_below : ℕ → ℕ → Bool
is_below k n = nat_lt n k

abbrev pub is_above : ℕ → ℕ → Bool
is_above k n = nat_lt k n

-- the slices of lower numbers, those that come to k, and those of higher numbers
abbrev pub around : ℕ → List Slice → List Slice → List Slice
around k new ss = slices_by (is_below k) ss ++ (new ++ slices_by (is_above k) ss)

around_first : {X : Type 0} (one : ℕ → Option X → List Slice) (is : IsNumbered one) (n m : ℕ) (new : List Slice) (x : Option X)
    (xs : List (Option X)) → n < m → around m new (many one n (x ∷ xs)) ≡ one n x ++ around m new (many one (n + 1) xs)
around_first one is n m new x xs lt =
    let s = many one (n + 1) xs in
    let low : slices_by (is_below m) (many one n (x ∷ xs)) ≡ one n x ++ slices_by (is_below m) s =
    joined one (is_below m) n x xs ∙ ap (λ (l : List Slice). l ++ slices_by (is_below m) s) (is.kept (is_below m) n x (lt-ltb n m lt)) in
    let high : slices_by (is_above m) (many one n (x ∷ xs)) ≡ slices_by (is_above m) s =
    joined one (is_above m) n x xs ∙ ap (λ (l : List Slice). l ++ slices_by (is_above m) s)
    (is.gone (is_above m) n x (le-ltb m n (omega (arith, lt)))) in
    ap (λ (l : List Slice). l ++ (new ++ slices_by (is_above m) (many one n (x ∷ xs)))) low
    ∙ (ap (λ (l : List Slice). (one n x ++ slices_by (is_below m) s) ++ (new ++ l)) high
    ∙ append_assoc (one n x) (slices_by (is_below m) s) (new ++ slices_by (is_above m) s))

-- with one where there was none
pub many_with : {X : Type 0} (one : ℕ → Option X → List Slice) (is : IsNumbered one) (n k : ℕ) (y : Option X) (xs : List (Option X))
    → k < length xs → slice_index_or xs k None ≡ None → many one n (slice_set xs k y) ≡ around (n + k) (one (n + k) y) (many one n xs)
unfolding many
many_with one is n k y [] lt none = absurd (omega (arith, lt))
many_with one is n zero y (x ∷ xs) lt none =
    let m = n + zero in
    let s = many one (n + 1) xs in
    let old : many one n (x ∷ xs) ≡ s = ap (λ (o : Option _). one n o ++ s) none ∙ ap (λ (l : List Slice). l ++ s) (is.none n) in
    let low : slices_by (is_below m) s ≡ [] = many_gone one is (is_below m) (n + 1) xs (λ i le. le-ltb i m (omega (arith, le))) in
    let high : slices_by (is_above m) s ≡ s = many_kept one is (is_above m) (n + 1) xs (λ i le. lt-ltb m i (omega (arith, le))) in
    let same : n ≡ m = omega arith in
    ap (λ (i : ℕ). one i y ++ s) same
    ∙ sym (ap (around m (one m y)) old ∙ (ap (λ (l : List Slice). l ++ (one m y ++ slices_by (is_above m) s)) low
    ∙ ap (λ (l : List Slice). one m y ++ l) high))
many_with one is n (suc k) y (x ∷ xs) lt none =
    let m = n + suc k in
    let more = many_with one is (n + 1) k y xs (omega (arith, lt)) none
    ∙ ap (λ (i : ℕ). around i (one i y) (many one (n + 1) xs)) (move n k) in
    ap (λ (l : List Slice). one n x ++ l) more ∙ sym (around_first one is n m (one m y) x xs (omega arith))

-- unused ones have no slices
pub many_none : {X : Type 0} (one : ℕ → Option X → List Slice) (is : IsNumbered one) (n k : ℕ) → many one n (replicate k None) ≡ []
unfolding many
many_none one is n zero = refl
many_none one is n (suc k) = ap (λ (l : List Slice). l ++ many one (n + 1) (replicate k None)) (is.none n) ∙ many_none one is (n + 1) k

-- the same of a table's entries
pub slices_without : (n k : ℕ) (es : List (Option Entry)) → k < length es
    → entry_slices n (slice_set es k None) ≡ slices_by (is_not (n + k)) (entry_slices n es)
slices_without n k es lt =
    entries_many n (slice_set es k None) ∙ (many_without entry_slice entry_numbered n k es lt
    ∙ ap (slices_by (is_not (n + k))) (sym (entries_many n es)))

pub slices_same : (n k : ℕ) (x : Option Entry) (es : List (Option Entry)) → k < length es
    → entry_slice (n + k) x ≡ entry_slice (n + k) (slice_index_or es k None) → entry_slices n (slice_set es k x) ≡ entry_slices n es
slices_same n k x es lt same = entries_many n (slice_set es k x) ∙ (many_same entry_slice n k x es lt same ∙ sym (entries_many n es))

pub slices_with : (n k : ℕ) (x : Option Entry) (es : List (Option Entry)) → k < length es → slice_index_or es k None ≡ None
    → entry_slices n (slice_set es k x) ≡ around (n + k) (entry_slice (n + k) x) (entry_slices n es)
slices_with n k x es lt none =
    entries_many n (slice_set es k x) ∙ (many_with entry_slice entry_numbered n k x es lt none
    ∙ ap (around (n + k) (entry_slice (n + k) x)) (sym (entries_many n es)))

-- and of an MBR's records
pub records_without : (n k : ℕ) (rs : List (Option Record)) → k < length rs
    → primary_slices n (slice_set rs k None) ≡ slices_by (is_not (n + k)) (primary_slices n rs)
records_without n k rs lt =
    records_many n (slice_set rs k None) ∙ (many_without primary_slice record_numbered n k rs lt
    ∙ ap (slices_by (is_not (n + k))) (sym (records_many n rs)))

pub records_same : (n k : ℕ) (x : Option Record) (rs : List (Option Record)) → k < length rs
    → primary_slice (n + k) x ≡ primary_slice (n + k) (slice_index_or rs k None) → primary_slices n (slice_set rs k x) ≡ primary_slices n rs
records_same n k x rs lt same = records_many n (slice_set rs k x) ∙ (many_same primary_slice n k x rs lt same ∙ sym (records_many n rs))

pub records_with : (n k : ℕ) (x : Option Record) (rs : List (Option Record)) → k < length rs → slice_index_or rs k None ≡ None
    → primary_slices n (slice_set rs k x) ≡ around (n + k) (primary_slice (n + k) x) (primary_slices n rs)
records_with n k x rs lt none =
    records_many n (slice_set rs k x) ∙ (many_with primary_slice record_numbered n k x rs lt none
    ∙ ap (around (n + k) (primary_slice (n + k) x)) (sym (records_many n rs)))

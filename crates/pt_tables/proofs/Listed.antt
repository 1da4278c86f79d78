-- Objects of partitions that are listed one after another.
use Rattle.std.proofs.Common.{◌≡◌, ◌∙◌, ℕ, ◌+◌, ◌-◌, ◌<◌, ◌≤◌, List, ◌++◌, length, drop, ap, sym, arith, append_assoc}
use Rattle.std.proofs.Common.{append-nil}
use Rattle.std.proofs.Common.{suc, Option, Some, None}
use Rattle.std.specs.Prelude.{slice_index_or, fold}
use Rattle.std.proofs.lemmas.List.{drop_more, drop_all}
use Rattle.serde_json.specs.Data.{Data}
use Rattle.pt_mbr.specs.declared.ebr.Ebr.{Ebr}
use Rattle.pt_mbr.specs.declared.record.Record.{Record}
use Rattle.pt_members.specs.declared.layout.Labelled.{Labelled}
use Rattle.pt_tables.specs.Fields.{numbered}
use Rattle.pt_tables.specs.Entries.{from_on, with_own}
use Rattle.pt_tables.specs.Records.{logical_data, logicals_data, number_after}

-- one is taken from what is left, and put behind those that are there
taken : (old x rest new : List Data) → new ≡ old ++ x → old ++ (x ++ rest) ≡ new ++ rest
taken old x rest new pushed = sym (append_assoc old x rest) ∙ ap (λ (l : List Data). l ++ rest) (sym pushed)

module _ {X : Type 0} (f : ℕ → X → List Data) (all old : List Data) (k : ℕ) where
  pub one_more : (xs : List X) (x : X) (new : List Data) → k < length xs → all ≡ old ++ numbered f (k + 1) (drop k xs)
      → new ≡ old ++ f (k + 1) (slice_index_or xs k x) → all ≡ new ++ numbered f (k + 1 + 1) (drop (k + 1) xs)
  unfolding numbered
  one_more xs x new within so pushed =
      so ∙ ap (λ (ys : List X). old ++ numbered f (k + 1) ys) (drop_more xs k x within)
      ∙ taken old (f (k + 1) (slice_index_or xs k x)) (numbered f (k + 1 + 1) (drop (k + 1) xs)) new pushed

  pub no_more : (xs : List X) → length xs ≤ k → all ≡ old ++ numbered f (k + 1) (drop k xs) → old ≡ all
  unfolding numbered
  no_more xs past so =
      sym (so ∙ ap (λ (ys : List X). old ++ numbered f (k + 1) ys) (drop_all k xs past) ∙ append-nil old)

module _ (device : List ℕ) (labels : List Labelled) (all old : List Data) (k : ℕ) where
  pub logical_more : (xs : List Ebr) (x : Ebr) (n : ℕ) (new : List Data) → k < length xs
      → all ≡ old ++ logicals_data device labels n (drop k xs)
      → new ≡ old ++ logical_data device labels n (slice_index_or xs k x).at.0 (slice_index_or xs k x).logical
      → all ≡ new ++ logicals_data device labels (number_after n (slice_index_or xs k x).logical) (drop (k + 1) xs)
  unfolding logicals_data
  logical_more xs x n new within so pushed =
      so ∙ ap (λ (ys : List Ebr). old ++ logicals_data device labels n ys) (drop_more xs k x within)
      ∙ taken old (logical_data device labels n (slice_index_or xs k x).at.0 (slice_index_or xs k x).logical)
      (logicals_data device labels (number_after n (slice_index_or xs k x).logical) (drop (k + 1) xs)) new pushed

  pub logicals_end : (xs : List Ebr) (n : ℕ) → length xs ≤ k → all ≡ old ++ logicals_data device labels n (drop k xs) → old ≡ all
  unfolding logicals_data
  logicals_end xs n past so =
      sym (so ∙ ap (λ (ys : List Ebr). old ++ logicals_data device labels n ys) (drop_all k xs past) ∙ append-nil old)

pub few_more : (n m k : ℕ) (r : Option Record) → m ≡ number_after n r → n ≤ k + 5 → m ≤ k + 1 + 5
few_more n m k None is few = omega (arith, is, few)
few_more n m k (Some r) is few = omega (arith, is, few)

-- ## Bits.

-- the next of the numbers that are left
pub next_bit : (n k left : ℕ) (all text new : List ℕ) → left ≡ suc (left - 1) → all ≡ fold (with_own n) text (from_on k left)
    → new ≡ with_own n text k → all ≡ fold (with_own n) new (from_on (k + 1) (left - 1))
unfolding from_on
next_bit n k left all text new some so pushed =
    so ∙ ap (λ (l : ℕ). fold (with_own n) text (from_on k l)) some
    ∙ ap (λ (t : List ℕ). fold (with_own n) t (from_on (k + 1) (left - 1))) (sym pushed)

pub no_bit : (n k left : ℕ) (all text : List ℕ) → left ≡ 0 → all ≡ fold (with_own n) text (from_on k left) → text ≡ all
unfolding from_on
no_bit n k left all text none so = sym (so ∙ ap (λ (l : ℕ). fold (with_own n) text (from_on k l)) none)

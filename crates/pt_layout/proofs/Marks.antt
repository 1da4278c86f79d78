-- Entries by their numbers.
use Rattle.std.proofs.Common.{◌≡◌, ◌∙◌, ◌<◌, ◌+◌, ◌*◌, inl, inr, ℕ, List, length, get_or, Option, Some, None, Bool, true, false, sym, ap}
use Rattle.std.proofs.Common.{subst, arith}
use Rattle.std.specs.Prelude.{slice_set, ◌%◌}
use Rattle.std.proofs.lemmas.Bool.{cases_lt}
use Rattle.std.proofs.lemmas.List.{get_or-set_same, get_or-set_other}
use Rattle.std.proofs.lemmas.Grind.{get_or-set_at}
use Rattle.pt_gpt.specs.declared.entry.Entry.{Entry}
use Rattle.pt_layout.specs.inner.Sound.{HasSameUnique, SameAt, entry_mark}

-- the numbers of the first k entries were met
abbrev pub AllMet : List (Option Entry) → List Bool → ℕ → Type 0
AllMet es met k = (i : ℕ) → i < k → get_or met (entry_mark (get_or es i None)) false ≡ true

same_mark : (x y : Option Entry) → HasSameUnique x y → entry_mark x ≡ entry_mark y
same_mark None y same = absurd same
same_mark (Some e) None same = absurd same
same_mark (Some e) (Some f) same =
    ap (λ (u : _). (get_or u.0 0 0 + 8 * get_or u.0 15 0 + 64 * get_or u.0 4 0 + 512 * get_or u.0 9 0) % 2048) same

-- an entry whose number wasn't met has no twin before it
pub unmet : (es : List (Option Entry)) (met : List Bool) (k m : ℕ) (r : Bool) → AllMet es met k → m ≡ entry_mark (get_or es k None)
    → get_or met m false ≡ r → r ≡ false → (i : ℕ) → i < k → ¬ SameAt es i k
unmet es met k m r all is at none i lt same =
    let one : entry_mark (get_or es i None) ≡ m = same_mark (get_or es i None) (get_or es k None) same ∙ sym is in
    let yes : get_or met m false ≡ true = subst (λ (n : ℕ). get_or met n false ≡ true) one (all i lt) in
    let no : true ≡ false = sym yes ∙ at ∙ none in
    absurd cc

-- one number more is met
pub met_more : (es : List (Option Entry)) (met : List Bool) (k m : ℕ) → AllMet es met k → m ≡ entry_mark (get_or es k None)
    → m < length met → AllMet es (slice_set met m true) (k + 1)
met_more es met k m all is within i lt = elim (cases_lt i k) as (λ _. get_or (slice_set met m true) (entry_mark (get_or es i None))
    false ≡ true) [
      | inl less ↦ set_keeps met m (entry_mark (get_or es i None)) within (all i less)
      | inr last ↦ (let same : k ≡ i = omega (arith, lt, last) in
          subst (λ (j : ℕ). get_or (slice_set met m true) (entry_mark (get_or es j None)) false ≡ true) same
          (subst (λ (n : ℕ). get_or (slice_set met m true) n false ≡ true) is (set_here met m within)))
    ] where
      set_here : (bs : List Bool) (n : ℕ) → n < length bs → get_or (slice_set bs n true) n false ≡ true
      set_here bs n lt = get_or-set_same bs n true false lt

      set_keeps : (bs : List Bool) (n j : ℕ) → n < length bs → get_or bs j false ≡ true → get_or (slice_set bs n true) j false ≡ true
      set_keeps bs n j lt is = elim (cases_lt j n) as (λ _. get_or (slice_set bs n true) j false ≡ true) [
        | inl low ↦ get_or-set_other bs n j true false (λ e. omega (arith, e, low)) ∙ is
        | inr ge ↦ elim (cases_lt n j) as (λ _. get_or (slice_set bs n true) j false ≡ true) [
          | inl high ↦ get_or-set_other bs n j true false (λ e. omega (arith, e, high)) ∙ is
          | inr le ↦ get_or-set_at bs n j true false (omega (arith, ge, le)) lt
        ]
      ]

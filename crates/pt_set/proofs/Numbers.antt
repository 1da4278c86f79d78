-- Numbers that a text gives, one partition after another.
use Rattle.std.proofs.Common.{◌≡◌, ◌∙◌, ℕ, ◌+◌, ◌<◌, ◌≤◌, List, length, drop, get_or, ap, Bool, true, false, Option, Some, None}
use Rattle.std.specs.Prelude.{◌||◌, if◌then◌else◌}
use Rattle.std.proofs.lemmas.List.{drop_more, drop_all}
use Rattle.pt_gpt.specs.declared.entry.Entry.{Entry}
use Rattle.pt_drafts.specs.declared.draft.PartDraft.{PartDraft}
use Rattle.pt_set.specs.Entries.{gives, is_number, is_open, lowest}

gives_cut : (ps : List PartDraft) (k n : ℕ) (z : PartDraft) → k < length ps
    → gives (drop k ps) n ≡ (is_number n (get_or ps k z).number || gives (drop (k + 1) ps) n)
unfolding gives
gives_cut ps k n z lt = ap (λ (l : List PartDraft). gives l n) (drop_more ps k z lt)

pub gives_here : (ps : List PartDraft) (k n : ℕ) (z : PartDraft) → k < length ps → is_number n (get_or ps k z).number ≡ true
    → gives (drop k ps) n ≡ true
gives_here ps k n z lt is = gives_cut ps k n z lt ∙ ap (λ (b : Bool). b || gives (drop (k + 1) ps) n) is

pub gives_next : (ps : List PartDraft) (k n : ℕ) (z : PartDraft) → k < length ps → is_number n (get_or ps k z).number ≡ false
    → gives (drop k ps) n ≡ gives (drop (k + 1) ps) n
gives_next ps k n z lt is = gives_cut ps k n z lt ∙ ap (λ (b : Bool). b || gives (drop (k + 1) ps) n) is

pub gives_end : (ps : List PartDraft) (k n : ℕ) → length ps ≤ k → gives (drop k ps) n ≡ false
unfolding gives
gives_end ps k n past = ap (λ (l : List PartDraft). gives l n) (drop_all k ps past)

lowest_cut : (ps : List PartDraft) (n : ℕ) (es : List (Option Entry)) (k : ℕ) → k < length es
    → lowest ps n (drop k es) ≡ (if is_open ps n (get_or es k None) then Some n else lowest ps (n + 1) (drop (k + 1) es))
unfolding lowest
lowest_cut ps n es k lt = ap (λ (l : List (Option Entry)). lowest ps n l) (drop_more es k None lt)

pub lowest_here : (ps : List PartDraft) (n : ℕ) (es : List (Option Entry)) (k : ℕ) → k < length es
    → is_open ps n (get_or es k None) ≡ true → lowest ps n (drop k es) ≡ Some n
lowest_here ps n es k lt free =
    lowest_cut ps n es k lt ∙ ap (λ (b : Bool). if b then Some n else lowest ps (n + 1) (drop (k + 1) es)) free

pub lowest_next : (ps : List PartDraft) (n : ℕ) (es : List (Option Entry)) (k : ℕ) → k < length es
    → is_open ps n (get_or es k None) ≡ false → lowest ps n (drop k es) ≡ lowest ps (n + 1) (drop (k + 1) es)
lowest_next ps n es k lt other =
    lowest_cut ps n es k lt ∙ ap (λ (b : Bool). if b then Some n else lowest ps (n + 1) (drop (k + 1) es)) other

pub lowest_end : (ps : List PartDraft) (n : ℕ) (es : List (Option Entry)) (k : ℕ) → length es ≤ k → lowest ps n (drop k es) ≡ None
unfolding lowest
lowest_end ps n es k past = ap (λ (l : List (Option Entry)). lowest ps n l) (drop_all k es past)

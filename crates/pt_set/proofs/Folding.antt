-- The partitions of a draft, one after another.
use Rattle.std.proofs.Common.{◌≡◌, ◌<◌, ◌+◌, ◌≤◌, ℕ, List, ◌∷◌, drop, length, get_or, Result, Ok, Err, subst, sym, refl, inl, inr, ap, ◌∙◌}
use Rattle.std.proofs.lemmas.List.{drop_more, drop_all}
use Rattle.pt_drafts.specs.declared.draft.PartDraft.{PartDraft}
use Rattle.pt_drafts.specs.declared.fault.TextFault.{TextFault}
use Rattle.pt_set.specs.Entries.{State}
use Rattle.pt_set.specs.Tables.{Frame, AreMade, IsMade}

module _ (f : Frame) (ps : List PartDraft) (k : ℕ) where
  split : (p : PartDraft) → k < length ps → p ≡ get_or ps k p → drop k ps ≡ p ∷ drop (k + 1) ps
  split p within is = drop_more ps k p within ∙ ap (λ (x : PartDraft). x ∷ drop (k + 1) ps) (sym is)

  -- one that is at fault ends them
  pub stopped_at : (p : PartDraft) (s : State) (fault : TextFault) → k < length ps → p ≡ get_or ps k p → IsMade f k p s (Err fault)
      → AreMade f k (drop k ps) s (Err fault)
  stopped_at p s fault within is failed =
      subst (λ (xs : List PartDraft). AreMade f k xs s (Err fault)) (sym (split p within is)) (inr (fault, failed, refl))

  -- one that is made leaves the rest to what is made then
  pub made_at : (p : PartDraft) (s t : State) (r : Result State TextFault) → k < length ps → p ≡ get_or ps k p → IsMade f k p s (Ok t)
      → AreMade f (k + 1) (drop (k + 1) ps) t r → AreMade f k (drop k ps) s r
  made_at p s t r within is made rest =
      subst (λ (xs : List PartDraft). AreMade f k xs s r) (sym (split p within is)) (inl (t, made, rest))

  pub ended_at : (s : State) → length ps ≤ k → AreMade f k (drop k ps) s (Ok s)
  ended_at s past = subst (λ (xs : List PartDraft). AreMade f k xs s (Ok s)) (sym (drop_all k ps past)) refl

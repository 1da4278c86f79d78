-- Partitions that are read one after another.
use Rattle.std.proofs.Common.{◌≡◌, ◌<◌, ◌≤◌, ◌+◌, ℕ, List, [], ◌∷◌, ◌++◌, length, drop, get_or, map, Some, Result, Ok, Err, refl, sym, ap}
use Rattle.std.proofs.Common.{◌∙◌}
use Rattle.std.proofs.Common.{append_assoc, append-nil}
use Rattle.std.proofs.lemmas.List.{drop_more, drop_all}
use Rattle.serde_json.specs.Data.{Data}
use Rattle.pt_drafts.specs.Members.{◌>>=◌}
use Rattle.pt_drafts.specs.Parts.{part_in}
use Rattle.pt_drafts.specs.Tables.{parts_from, told}
use Rattle.pt_drafts.specs.declared.draft.PartDraft.{PartDraft}
use Rattle.pt_drafts.specs.declared.fault.TextFault.{TextFault}

-- those that are left to come, behind those that have come
abbrev pub with_rest : List PartDraft → Result (List PartDraft) TextFault → Result (List PartDraft) TextFault
with_rest front (Ok rest) = Ok (front ++ rest)
with_rest front (Err fault) = Err fault

rest_more : (front : List PartDraft) (p : PartDraft) (r : Result (List PartDraft) TextFault)
    → with_rest front (r >>= λ ps. Ok (p ∷ ps)) ≡ with_rest (front ++ p ∷ []) r
rest_more front p (Ok ps) = ap Ok (sym (append_assoc front (p ∷ []) ps))
rest_more front p (Err fault) = refl

module _ {X : Type 0} (v : X → Data) (xs : List X) (k : ℕ) (front : List PartDraft) (whole : Result (List PartDraft) TextFault) where
  pub part_more : (x : X) (p : PartDraft) (new : List PartDraft) → k < length xs → x ≡ get_or xs k x
      → whole ≡ with_rest front (parts_from (k + 1) (map v (drop k xs))) → told (Some (k + 1)) (part_in (v x)) ≡ Ok p
      → new ≡ front ++ p ∷ [] → whole ≡ with_rest new (parts_from (k + 1 + 1) (map v (drop (k + 1) xs)))
  unfolding parts_from
  part_more x p new within is so found pushed =
      so ∙ ap (λ (ys : List X). with_rest front (parts_from (k + 1) (map v ys))) (drop_more xs k x within)
      ∙ rw (sym is, found, pushed) (rest_more front p (parts_from (k + 1 + 1) (map v (drop (k + 1) xs))))

  pub part_faulty : (x : X) (fault : TextFault) → k < length xs → x ≡ get_or xs k x
      → whole ≡ with_rest front (parts_from (k + 1) (map v (drop k xs))) → told (Some (k + 1)) (part_in (v x)) ≡ Err fault
      → whole ≡ Err fault
  unfolding parts_from
  part_faulty x fault within is so found =
      so ∙ ap (λ (ys : List X). with_rest front (parts_from (k + 1) (map v ys))) (drop_more xs k x within) ∙ rw (sym is, found) refl

  pub no_more_parts : length xs ≤ k → whole ≡ with_rest front (parts_from (k + 1) (map v (drop k xs))) → whole ≡ Ok front
  unfolding parts_from
  no_more_parts past so =
      so ∙ ap (λ (ys : List X). with_rest front (parts_from (k + 1) (map v ys))) (drop_all k xs past) ∙ ap Ok (append-nil front)

-- Labels, one more at a time.
use Rattle.std.proofs.Common.{◌≡◌, ◌<◌, ◌≤◌, ◌+◌, ℕ, List, [], ◌∷◌, ◌++◌, length, get_or, drop, Option, Some, None, refl, sym, ap, ◌∙◌}
use Rattle.std.proofs.Common.{subst, inl, inr, append_assoc, append-nil}
use Rattle.std.proofs.lemmas.List.{drop_all, drop_more}
use Rattle.pt_sector.specs.Sectors.{Sectors, sector}
use Rattle.pt_bsd.specs.declared.label.Label.{Label}
use Rattle.pt_members.specs.Members.{place_of}
use Rattle.pt_recover.specs.Denotes.{LabelsAre}
use Rattle.pt_recover.specs.inner.Denotes.{LabelIs, labelled}
use Rattle.pt_members.specs.declared.layout.Slice.{Slice}
use Rattle.pt_members.specs.declared.layout.Labelled.{Labelled}

-- labels after the first k places, in front of which `done` stand
abbrev pub Continues : Sectors → List Slice → ℕ → List Labelled → Type 0
Continues d ps k done = (rest : List Labelled) → LabelsAre d (drop k ps) rest → LabelsAre d ps (done ++ rest)

pub label_more : (d : Sectors) (ps : List Slice) (k : ℕ) (z p : Slice) (o : Option Label) (done now : List Labelled) → k < length ps
    → get_or ps k z ≡ p → LabelIs p (sector d (place_of p)) o
    → Continues d ps k done → now ≡ done ++ labelled p.number o → Continues d ps (k + 1) now
label_more d ps k z p o done now lt at is before same =
    subst (λ (x : List Labelled). Continues d ps (k + 1) x) (sym same) (more o is) where
      split : drop k ps ≡ p ∷ drop (k + 1) ps
      split = drop_more ps k z lt ∙ ap (λ (y : Slice). y ∷ drop (k + 1) ps) at

      more : (o : Option Label) → LabelIs p (sector d (place_of p)) o → Continues d ps (k + 1) (done ++ labelled p.number o)
      more None none rest are =
          subst (λ (x : List Labelled). LabelsAre d ps (x ++ rest)) (sym (append-nil done))
          (before rest (subst (λ (l : List Slice). LabelsAre d l rest) (sym split) (inr (none, are))))
      more (Some l) one rest are =
          let it : Labelled = record { number = p.number; label = l } in
          subst (λ (x : List Labelled). LabelsAre d ps x) (sym (append_assoc done (it ∷ []) rest))
          (before (it ∷ rest) (subst (λ (x : List Slice). LabelsAre d x (it ∷ rest)) (sym split) (inl (l, rest, refl, one, are))))

pub labels_first : (d : Sectors) (ps : List Slice) (none : List Labelled) → none ≡ [] → Continues d ps 0 none
labels_first d ps none empty rest are = subst (λ (x : List Labelled). LabelsAre d ps (x ++ rest)) (sym empty) are

pub labels_end : (d : Sectors) (ps : List Slice) (k : ℕ) (done : List Labelled) → length ps ≤ k → Continues d ps k done
    → LabelsAre d ps done
labels_end d ps k done past before =
    subst (λ (x : List Labelled). LabelsAre d ps x) (append-nil done)
    (before [] (subst (λ (l : List Slice). LabelsAre d l []) (sym (drop_all k ps past)) refl))

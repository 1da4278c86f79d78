-- The labels of a disk on which every label place ended as its target.
use Rattle.std.proofs.Common.{◌≡◌, inl, inr, ℕ, zero, suc, List, [], ◌∷◌, refl, sym, subst, arith, Option, Some, None}
use Rattle.std.specs.Prelude.{Contains}
use Rattle.pt_sector.specs.Sectors.{Sectors, sector, Writes}
use Rattle.pt_bsd.specs.Labels.{LabelBytes, HasMagic}
use Rattle.pt_bsd.specs.declared.label.Label.{Label}
use Rattle.pt_members.specs.Members.{places_of, place_of, IsPlace}
use Rattle.pt_recover.specs.Denotes.{LabelsAre}
use Rattle.pt_members.specs.declared.layout.Labelled.{Labelled}
use Rattle.pt_members.specs.declared.layout.Layout.{Layout}
use Rattle.pt_members.specs.declared.layout.Slice.{Slice}
use Rattle.pt_layout.specs.Healthy.{IsForeign}
use Rattle.pt_cases.proofs.Frames.{LabelsRight}
use Rattle.pt_cases.specs.Writes.{Along, IsLabelTarget, kept, changed, new, ComesToHold, Met, LabelsMet, stood, set, there, Set}
use Rattle.pt_cases.specs.Writes.{WritesLabels}
use Rattle.pt_cases.proofs.Along.{along_map}

-- a target is the label of its slice
pub target_reads : (b : ℕ) (d : Sectors) (o : Option Layout) (w : Slice) (l : Label) (v : List ℕ) → IsLabelTarget b d o w l v
    → LabelBytes l w.first w.len v
target_reads b d o w l v (kept had reads same) = reads
target_reads b d o w l v (changed m had other is) = is.reads
target_reads b d o w l v (new none is) = is.encoded.reads

module _ (b : ℕ) (d : Sectors) (o : Option Layout) (ws : Writes) (c : Sectors) where
  -- each of these places holds in c what it was to end as
  abbrev pub Ended : List Slice → Type 0
  Ended ps = (s : ℕ) (v : List ℕ) → IsPlace ps s → ComesToHold d ws s v → sector c s ≡ v

  met_labels : (ps : List Slice) (labels : List Labelled) → Along (Met b d o ws) ps labels → Ended ps → LabelsAre c ps labels
  met_labels [] labels is ended = is
  met_labels (w ∷ ps) labels (inl (l, rest, same, (v, target, ends), later)) ended =
      inl (
        l,
        rest,
        same,
        subst (λ (x : List ℕ). LabelBytes l w.first w.len x) (sym (ended (place_of w) v (inl refl) ends))
            (target_reads b d o w l v target),
        met_labels ps rest later (λ s x at. ended s x (inr at)),
      )
  met_labels (w ∷ ps) labels (inr (none, later)) ended =
      inr (
        λ has. none.0 (subst HasMagic (ended (place_of w) (sector d (place_of w)) (inl refl) (inr (refl, none.1))) has.1.magics.first),
        met_labels ps labels later (λ s x at. ended s x (inr at)),
      )

  met_no_foreign : (ps : List Slice) (labels : List Labelled) → Along (Met b d o ws) ps labels → Ended ps → (w : Slice) → Contains ps w
      → ¬ IsForeign c w
  met_no_foreign [] labels is ended w (k, lt, at) = absurd (omega (arith, lt))
  met_no_foreign (q ∷ ps) labels (inl (l, rest, same, (v, target, ends), later)) ended w (zero, lt, at) = λ foreign.
      let label : LabelBytes l q.first q.len (sector c (place_of q)) =
      subst (λ (x : List ℕ). LabelBytes l q.first q.len x) (sym (ended (place_of q) v (inl refl) ends)) (target_reads b d o q l v target) in
      let here : q ≡ w = at in
      (subst (λ (x : Slice). IsForeign c x) (sym here) foreign).1 (l, label)
  met_no_foreign (q ∷ ps) labels (inr (none, later)) ended w (zero, lt, at) = λ foreign.
      let here : q ≡ w = at in
      none.0 (subst HasMagic (ended (place_of q) (sector d (place_of q)) (inl refl) (inr (refl, none.1)))
      (subst (λ (x : Slice). IsForeign c x) (sym here) foreign).0)
  met_no_foreign (q ∷ ps) labels (inl (l, rest, same, found, later)) ended w (suc k, lt, at) =
      met_no_foreign ps rest later (λ s x place. ended s x (inr place)) w (k, omega (arith, lt), at)
  met_no_foreign (q ∷ ps) labels (inr (none, later)) ended w (suc k, lt, at) =
      met_no_foreign ps labels later (λ s x place. ended s x (inr place)) w (k, omega (arith, lt), at)

-- where every place of p ended so, its labels are right
pub labels_met_right : (b : ℕ) (d : Sectors) (o : Option Layout) (p : Layout) (ws : Writes) (c : Sectors) → LabelsMet b d o p ws
    → ((s : ℕ) (v : List ℕ) → IsPlace (places_of b p.sectors p.body) s → ComesToHold d ws s v → sector c s ≡ v) → LabelsRight b c p
labels_met_right b d o p ws c met ended = (
  met_labels b d o ws c (places_of b p.sectors p.body) p.labels met ended,
  λ n f. met_no_foreign b d o ws c (places_of b p.sectors p.body) p.labels met ended f.slice f.stands f.foreign,
)

-- where new labels are written, all are met
set_met : (b : ℕ) (d : Sectors) (o : Option Layout) (ws : Writes) (w : Slice) (l : Option Label) → Set b d o ws w l → Met b d o ws w l
set_met b d o ws w (Some l) (stood had reads never) = (sector d (place_of w), kept had reads refl, inr (refl, never))
set_met b d o ws w (Some l) (set v none is unread puts) = (v, new none is, inl puts)
set_met b d o ws w (Some l) (there none is read never) =
    (sector d (place_of w), new none (record { encoded = is; one = λ it. refl }), inr (refl, never))
set_met b d o ws w None is = is

pub labels_set_met : (b : ℕ) (d : Sectors) (o : Option Layout) (p : Layout) (ws : Writes) → WritesLabels b d o p ws → LabelsMet b d o p ws
labels_set_met b d o p ws is = along_map (Set b d o ws) (Met b d o ws) (places_of b p.sectors p.body) p.labels (set_met b d o ws) is.set

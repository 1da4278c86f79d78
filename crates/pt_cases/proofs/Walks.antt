-- Putting together that the labels are met: slice by slice, and from targets to the writes that are left of them.
use Rattle.std.proofs.Common.{◌≡◌, ◌∙◌, ◌⊎◌, ⊎_elim, ℕ, List, ◌++◌, filter, Bool, true, false, sym, ap, Option, Some, None}
use Rattle.std.specs.Prelude.{◌↔◌}
use Rattle.pt_sector.specs.Sectors.{Sectors, sector, Writes, Puts}
use Rattle.pt_bsd.specs.Labels.{HasMagic}
use Rattle.pt_bsd.specs.declared.label.Label.{Label}
use Rattle.pt_members.specs.Members.{places_of, place_of}
use Rattle.pt_members.specs.declared.layout.Layout.{Layout}
use Rattle.pt_members.specs.declared.layout.Slice.{Slice}
use Rattle.pt_apply.proofs.Puts.{puts_split, puts_left, puts_right}
use Rattle.pt_cases.proofs.Select.{Rises, rises_one, picked, picks, picked_ends, ends_alike}
use Rattle.pt_cases.specs.Writes.{Along, IsLabelTarget, Met, LabelsMet}
use Rattle.pt_cases.proofs.Along.{along_map}

-- the place of a slice is among the targets, with what it must hold; an unlabelled one with what it holds, which isn't picked
abbrev pub SliceTargeted : ℕ → Sectors → Option Layout → Writes → (ℕ × List ℕ → Bool) → Slice → Option Label → Type 0
SliceTargeted b d o targets pick w (Some l) = (v : List ℕ) × IsLabelTarget b d o w l v × Puts targets (place_of w) v
SliceTargeted b d o targets pick w None =
    (¬ HasMagic (sector d (place_of w))) × Puts targets (place_of w) (sector d (place_of w))
    × (pick (place_of w, sector d (place_of w)) ≡ false)

module _ (b : ℕ) (d : Sectors) (o : Option Layout) (targets : Writes) (pick : ℕ × List ℕ → Bool) (rises : Rises targets)
    (holds : (s : ℕ) (v : List ℕ) → Puts targets s v → pick (s, v) ≡ false → v ≡ sector d s) where
  targeted_met : (w : Slice) (l : Option Label) → SliceTargeted b d o targets pick w l → Met b d o (filter pick targets) w l
  targeted_met w (Some l) (v, target, puts) = (v, target, picked_ends pick d targets rises holds (place_of w) v puts)
  targeted_met w None (plain, puts, unpicked) = (
    plain,
    λ x again.
        let there = picked pick targets (place_of w) x again in
        let same : x ≡ sector d (place_of w) = rises_one targets (place_of w) x (sector d (place_of w)) rises there.0 puts in
        let both : false ≡ true = sym unpicked ∙ ap (λ (y : List ℕ). pick (place_of w, y)) (sym same) ∙ there.1 in
        absurd cc,
  )

  -- the writes that are picked from the targets meet the labels
  pub targets_meet : (p : Layout) → Along (SliceTargeted b d o targets pick) (places_of b p.sectors p.body) p.labels
      → LabelsMet b d o p (filter pick targets)
  targets_meet p along =
      along_map (SliceTargeted b d o targets pick) (Met b d o (filter pick targets)) (places_of b p.sectors p.body) p.labels targeted_met
      along

-- the same writes in another order meet them as well
met_alike : (b : ℕ) (d : Sectors) (o : Option Layout) (a c : Writes) → ((s : ℕ) (v : List ℕ) → Puts a s v ↔ Puts c s v)
    → (w : Slice) (l : Option Label) → Met b d o a w l → Met b d o c w l
met_alike b d o a c same w (Some l) (v, target, ends) = (v, target, ends_alike d a c same (place_of w) v ends)
met_alike b d o a c same w None (plain, never) = (plain, λ x puts. never x ((same (place_of w) x).1 puts))

pub labels_alike : (b : ℕ) (d : Sectors) (o : Option Layout) (p : Layout) (a c : Writes)
    → ((s : ℕ) (v : List ℕ) → Puts a s v ↔ Puts c s v) → LabelsMet b d o p a → LabelsMet b d o p c
labels_alike b d o p a c same met =
    along_map (Met b d o a) (Met b d o c) (places_of b p.sectors p.body) p.labels (met_alike b d o a c same) met

-- writes parted in two are the same writes
pub parted : (quiet loud : ℕ × List ℕ → Bool) (ws : Writes) → ((w : ℕ × List ℕ) → (quiet w ≡ true) ⊎ (loud w ≡ true))
    → (s : ℕ) (v : List ℕ) → Puts ws s v ↔ Puts (filter quiet ws ++ filter loud ws) s v
parted quiet loud ws all s v = (
  (λ puts. ⊎_elim
      (λ so. puts_left (filter quiet ws) (filter loud ws) s v (picks quiet ws s v puts so))
      (λ so. puts_right (filter quiet ws) (filter loud ws) s v (picks loud ws s v puts so))
      (all (s, v))),
  (λ puts. ⊎_elim (λ here. (picked quiet ws s v here).0) (λ here. (picked loud ws s v here).0)
      (puts_split (filter quiet ws) (filter loud ws) s v puts)),
)

-- What a disk's own layout is to the disk: it may have it, and each of its labels was there.
use Rattle.std.proofs.Common.{◌≡◌, ℕ, Option, Some, refl, sym, ap, subst}
use Rattle.std.specs.Prelude.{Contains}
use Rattle.pt_sector.specs.Sectors.{Sectors, sector}
use Rattle.pt_bsd.specs.declared.label.Label.{Label}
use Rattle.pt_recover.specs.Denotes.{Denotes, LabelAt, LabelsAre}
use Rattle.pt_members.specs.Members.{places_of, place_of}
use Rattle.pt_members.specs.declared.layout.Layout.{Layout}
use Rattle.pt_members.specs.declared.layout.Slice.{Slice}
use Rattle.pt_layout.specs.Healthy.{HasForeign}
use Rattle.pt_members.specs.Tables.{HasFour}
use Rattle.pt_cases.specs.Writes.{Along, Had, kept}
use Rattle.pt_cases.proofs.Along.{along_map, along_label, along_without}
use Rattle.pt_cases.proofs.Ascending.{places_ascend_lem}
use Rattle.pt_cases.specs.Keeps.{StandsOn}
use Rattle.pt_cases.proofs.StandsOn.{along_labels_are, denoted_four}
use Rattle.pt_cases.specs.Cases.{ChangesLabels, MayBePlanned, IsLeft}
use Rattle.pt_cases.proofs.Causes.{there_may, had_one}
use Rattle.pt_cases.specs.Unplanned.{LabelComes, IsOtherLabel, LabelsFit, HasUnreadable}

module _ (b : ℕ) (d : Sectors) (o : Layout) (from : Denotes b d (Some o)) where
  own_four : HasFour o.body
  own_four = denoted_four b d o.body from.1

  own_labels : Along (StandsOn d) (places_of b o.sectors o.body) o.labels
  own_labels =
      along_labels_are d (places_of b o.sectors o.body) o.labels
      (subst (λ (n : ℕ). LabelsAre d (places_of b n o.body) o.labels) (sym from.0) from.2)

  -- the disk may have it
  pub own_may_be : MayBePlanned b d (Some o) o
  own_may_be = record { sectors = from.0; body = there_may b d o o.body refl from.1 }

  -- and its labels go with its slices
  pub own_fit : LabelsFit b o
  own_fit =
      along_map (StandsOn d) (λ (w : Slice) (l : Option Label). Unit {0}) (places_of b o.sectors o.body) o.labels (λ w l is. tt) own_labels

  -- a label of it stands in its place
  own_label : (w : Slice) (l : Label) → Contains (places_of b o.sectors o.body) w
      → Contains o.labels (record { number = w.number; label = l }) → LabelAt d w l
  own_label w l stands wanted =
      along_label (StandsOn d) 1 (places_of b o.sectors o.body) o.labels w l
      (places_ascend_lem b o.sectors o.body own_four) own_labels stands wanted

  own_had : (w : Slice) (l : Label) → Contains (places_of b o.sectors o.body) w
      → Contains o.labels (record { number = w.number; label = l }) → Had b d (Some o) (place_of w) l
  own_had w l stands wanted = (
    o,
    refl,
    record {
      slice = w;
      stands = subst (λ (n : ℕ). Contains (places_of b n o.body) w) from.0 stands;
      place = refl;
      label = own_label w l stands wanted;
    },
  )

  -- so each of its labels is read back from what stands there
  pub own_readable : ¬ HasUnreadable b d (Some o) o
  own_readable is =
      is.none (sector d (place_of is.slice))
      (kept (own_had is.slice is.label is.stands is.wanted) (own_label is.slice is.label is.stands is.wanted) refl)

  -- no label of it is new
  pub own_not_new : (s : ℕ) → ¬ LabelComes b d (Some o) o s
  own_not_new s is =
      is.none is.label
      (subst (λ (k : ℕ). Had b d (Some o) k is.label) is.labelled.place (own_had is.slice is.label is.labelled.stands is.labelled.wanted))

  -- and none another one
  pub own_not_other : (s : ℕ) → ¬ IsOtherLabel b d (Some o) o s
  own_not_other s is =
      is.differ (had_one b d (Some o) s is.old is.label is.had
      (subst (λ (k : ℕ). Had b d (Some o) k is.label) is.labelled.place (own_had is.slice is.label is.labelled.stands is.labelled.wanted)))

  -- a slice that has a label's magic and no label is one without a label of the layout, and the other way round
  pub foreign_left : (n : ℕ) → HasForeign b d o n → (w : Slice) × IsLeft b d o w × (w.number ≡ n)
  foreign_left n is = (
    is.slice,
    record {
      stands = is.stands;
      without = λ l wanted. is.foreign.1 (l, own_label is.slice l is.stands wanted);
      magic = is.foreign.0;
    },
    is.number,
  )

  pub left_foreign : (w : Slice) → IsLeft b d o w → HasForeign b d o w.number
  left_foreign w is = record {
    slice = w;
    stands = is.stands;
    number = refl;
    foreign = (is.magic, along_without (StandsOn d) (places_of b o.sectors o.body) o.labels w own_labels is.stands is.without);
  }

-- a layout's labels don't change to themselves
pub own_stays : (o : Layout) → ¬ ChangesLabels (Some o) o
own_stays o changes =
    let same : Some o ≡ Some changes.old = changes.is_old in
    let layouts : changes.old ≡ o = cc in
    changes.differ (ap (λ (l : Layout). l.labels) layouts)

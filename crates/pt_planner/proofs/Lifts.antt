-- From what the places hold to what the disk does.
use Rattle.std.proofs.Common.{◌≡◌, ◌+◌, ◌∙◌, ⊎_elim, ℕ, List, ◌∷◌, ◌++◌, length, replicate, All, Option, Some, None, refl, sym, ap, subst}
use Rattle.std.proofs.Common.{arith, inl, inr}
use Rattle.std.specs.Prelude.{Contains}
use Rattle.std.proofs.lemmas.List.Elements.{All-contains, Contains-append_right, Contains-append_cases}
use Rattle.pt_sector.specs.Sectors.{Sectors, sector}
use Rattle.pt_sector.specs.declared.address.Lba.{Lba}
use Rattle.pt_bsd.specs.Labels.{LabelBytes, HasMagic}
use Rattle.pt_bsd.specs.declared.label.Label.{Label}
use Rattle.pt_members.specs.Members.{places_of, place_of, IsPlace}
use Rattle.pt_members.specs.declared.layout.Labelled.{Labelled}
use Rattle.pt_members.specs.declared.layout.Layout.{Layout}
use Rattle.pt_members.specs.declared.layout.Slice.{Slice}
use Rattle.pt_cases.specs.Cases.{IsLeft}
use Rattle.pt_cases.specs.Writes.{NumbersAscend, Along, Had, IsEncoded, IsLabelTarget, kept, changed, new}
use Rattle.pt_cases.proofs.Along.{along_label, along_without}
use Rattle.pt_cases.specs.Targets.{IsPlaceTarget, Targeted, AreLabelTargets}
use Rattle.pt_cases.specs.declared.targets.target.Target.{Target}
use Rattle.pt_cases.specs.Unplanned.{LabelsFit, IsFirstLeft, HasUnreadable, NoneLeft}
use Rattle.pt_planner.specs.Places.{PlacesAnswer, AreWithin}
use Rattle.pt_planner.specs.inner.Places.{IsAt, IsRead, IsLeftAt, IsFirstAt, OldAre, HadAt, IsOfPlace, IsBytes, stood, other, fresh}
use Rattle.pt_planner.specs.inner.Places.{IsTarget, keeps, changes, sets, IsTargetOf, AreTargets, HasNone, NoneIsLeft, AnswerOf}
use Rattle.pt_planner.specs.declared.places.LabelTargets.{LabelTargets}
use Rattle.pt_planner.specs.declared.places.LabelTargets.TheVariants.{Misplaced, Foreign, Unreadable, Targets}
use Rattle.pt_planner.specs.declared.places.place.Place.{Place}
use Rattle.pt_planner.proofs.Lists.{slices_in, labels_in, first_in, along_places, low_in, one_place, rise_split, slice_in, label_in}
use Rattle.pt_planner.proofs.Lists.{place_in, pair_left, pair_right, pair_count}

pub of_target : {b : ℕ} (old : List Slice) (q : Place b) (t : Target b) → IsTargetOf old q t → IsOfPlace q t
of_target old q t (inl (l, is, keeps stays had reads)) = stays.of_place
of_target old q t (inl (l, is, changes m had differ written)) = written.of_place
of_target old q t (inl (l, is, sets none written)) = written.of_place
of_target old q t (inr (is, stays)) = stays.of_place

-- each target is of a sector of the disk
pub within : {b : ℕ} (n : ℕ) (old : List Slice) (places : List (Place b)) (a : LabelTargets b) → All (IsAt n) places
    → AnswerOf old places a → AreWithin n a
within n old places Misplaced ats is = tt
within n old places (Foreign m) ats is = tt
within n old places Unreadable ats is = tt
within n old places (Targets ts) ats (none, are) = λ t has.
    let pair = pair_right old places ts.items t are has in
    let at = All-contains (IsAt n) places pair.0 ats pair.1 in
    let same : t.at.0 ≡ pair.0.at.0 = ap (λ (x : Lba). x.0) (of_target old pair.0 t pair.2).at in
    omega (arith, at.within, same)

module _ {b : ℕ} (d : Sectors) (o : Option Layout) (p : Layout) (old : List Slice) (places : List (Place b)) (n : ℕ)
    (slices : slices_in places ≡ places_of b p.sectors p.body) (labels : labels_in places ≡ p.labels)
    (rise : NumbersAscend 1 (places_of b p.sectors p.body))
    (ats : All (IsAt n) places) (reads : All (IsRead d) places) (olds : OldAre b (length d) o old) where
  along : (Q : Slice → Option Label → Type 0) → ((q : Place b) → Contains places q → Q q.spot.slice q.spot.label)
      → Along Q (places_of b p.sectors p.body) p.labels
  along Q each =
      subst (λ (ls : List Labelled). Along Q (places_of b p.sectors p.body) ls) labels
      (subst (λ (ws : List Slice). Along Q ws (labels_in places)) slices (along_places Q places each))

  fits : LabelsFit b p
  fits = along (λ (w : Slice) (l : Option Label). Unit {0}) (λ q has. tt)

  bytes_of : (q : Place b) → Contains places q → q.bytes ≡ sector d (place_of q.spot.slice)
  bytes_of q has = All-contains (IsRead d) places q reads has ∙ ap (λ (s : ℕ). sector d s) (All-contains (IsAt n) places q ats has).place

  abbrev Standing : Slice → Option Label → Type 0
  Standing w l = (q : Place b) × Contains places q × (q.spot.slice ≡ w) × (q.spot.label ≡ l)

  standing : Along Standing (places_of b p.sectors p.body) p.labels
  standing = along Standing (λ q has. (q, has, refl, refl))

  rises : NumbersAscend 1 (slices_in places)
  rises = subst (λ (ws : List Slice). NumbersAscend 1 ws) (sym slices) rise

  left_place : (w : Slice) → IsLeft b d p w → (q : Place b) × Contains places q × (q.spot.slice ≡ w) × IsLeftAt q
  left_place w left =
      let s = along_without Standing (places_of b p.sectors p.body) p.labels w standing left.stands left.without in
      let bytes : sector d (place_of w) ≡ s.0.bytes = sym (bytes_of s.0 s.1 ∙ ap (λ (x : Slice). sector d (place_of x)) s.2) in
      (s.0, s.1, s.2, (s.3, subst HasMagic bytes left.magic))

  none_left : NoneIsLeft places → NoneLeft b d p
  none_left none w left = (let q = left_place w left in All-contains (λ (x : Place b). ¬ IsLeftAt x) places q.0 none q.1 q.3)

  stands : (q : Place b) → Contains places q → Contains (places_of b p.sectors p.body) q.spot.slice
  stands q has = subst (λ (ws : List Slice). Contains ws q.spot.slice) slices (slice_in places q has)

  is_left : (q : Place b) → Contains places q → IsLeftAt q → IsLeft b d p q.spot.slice
  is_left q has left = record {
    stands = stands q has;
    without = λ l wanted.
        let s = along_label Standing 1 (places_of b p.sectors p.body) p.labels q.spot.slice l rise standing (stands q has) wanted in
        let same : s.0 ≡ q = one_place 1 places s.0 q rises s.1 has (ap (λ (x : Slice). x.number) s.2) in
        let none : None ≡ Some l = sym left.0 ∙ ap (λ (x : Place b). x.spot.label) (sym same) ∙ s.3 in
        absurd cc;
    magic = subst HasMagic (bytes_of q has) left.1;
  }

  foreign : (m : ℕ) → IsFirstAt places m → IsFirstLeft b d p m
  foreign m first =
      let has : Contains places first.place =
      subst (λ (x : List (Place b)). Contains x first.place) (sym first.split)
      (Contains-append_right first.before (first.place ∷ first.rest) first.place (first_in first.place first.rest)) in
      let up : NumbersAscend first.place.spot.slice.number (slices_in (first.place ∷ first.rest)) =
      rise_split 1 first.before first.place first.rest (subst (λ (x : List (Place b)). NumbersAscend 1 (slices_in x)) first.split rises) in
      record {
        slice = first.place.spot.slice;
        left = is_left first.place has first.left;
        number = first.number;
        first = λ w left.
            let q = left_place w left in
            let there : Contains (first.before ++ first.place ∷ first.rest) q.0 =
            subst (λ (x : List (Place b)). Contains x q.0) first.split q.1 in
            ⊎_elim
            (λ before. absurd (All-contains (λ (x : Place b). ¬ IsLeftAt x) first.before q.0 first.none before q.3))
            (λ after.
            let low = low_in first.place.spot.slice.number (first.place ∷ first.rest) q.0 up after in
            let number : q.0.spot.slice.number ≡ w.number = ap (λ (x : Slice). x.number) q.2 in
            omega (arith, low, number, first.number))
            (Contains-append_cases first.before (first.place ∷ first.rest) q.0 there);
      }

  old_is : (l : Layout) → o ≡ Some l → old ≡ places_of b (length d) l.body
  old_is l is = subst (λ (x : Option Layout). OldAre b (length d) x old) is olds

  had_to : (q : Place b) → Contains places q → (m : Label) → Had b d o (place_of q.spot.slice) m → HadAt old q m
  had_to q has m (l, is, at) = record {
    slice = at.slice;
    stands = subst (λ (x : List Slice). Contains x at.slice) (sym (old_is l is)) at.stands;
    start = omega (arith, at.place);
    label = subst (λ (v : List ℕ). LabelBytes m at.slice.first at.slice.len v)
        (ap (λ (s : ℕ). sector d s) at.place ∙ sym (bytes_of q has)) at.label;
  }

  had_from : (q : Place b) → Contains places q → (m : Label) → HadAt old q m → Had b d o (place_of q.spot.slice) m
  had_from q has m had = by_old o refl olds
    where
      place : place_of had.slice ≡ place_of q.spot.slice
      place = ap (λ (x : ℕ). x + 1) had.start

      by_old : (x : Option Layout) → o ≡ x → OldAre b (length d) x old → Had b d o (place_of q.spot.slice) m
      by_old None is none =
          let empty : length old ≡ 0 = ap length none in
          absurd (omega (arith, empty, had.stands.1))
      by_old (Some l) is are = (
        l,
        is,
        record {
          slice = had.slice;
          stands = subst (λ (x : List Slice). Contains x had.slice) are had.stands;
          place = place;
          label = subst (λ (v : List ℕ). LabelBytes m had.slice.first had.slice.len v)
              (bytes_of q has ∙ ap (λ (s : ℕ). sector d s) (sym place)) had.label;
        },
      )

  bytes_from : (q : Place b) → Contains places q → (l : Label) (v : List ℕ) → IsLabelTarget b d o q.spot.slice l v → IsBytes old q l v
  bytes_from q has l v (kept had is same) = stood (had_to q has l had) is (same ∙ sym (bytes_of q has))
  bytes_from q has l v (changed m had differ is) =
      other m (had_to q has m had) differ (subst (λ (u : List ℕ). IsEncoded l q.spot.slice u v) (sym (bytes_of q has)) is)
  bytes_from q has l v (new none is) = fresh (λ m had. none m (had_from q has m had)) is.encoded

  unreadable : HasNone old places → HasUnreadable b d o p
  unreadable (q, has, (l, is, none)) = record {
    slice = q.spot.slice;
    label = l;
    stands = stands q has;
    wanted = subst (λ (ls : List Labelled). Contains ls (record { number = q.spot.slice.number; label = l })) labels
        (label_in places q l has is);
    none = λ v target. none.none v (bytes_from q has l v target);
    unfit = none.unfit;
  }

  -- the target of a place with this label
  labelled_target : (q : Place b) (t : Target b) (l : Label) → Contains places q → IsTarget old q l t
      → IsPlaceTarget d o q.spot.slice (Some l) t
  labelled_target q t l has (keeps stays had there) = inl (
    stays.kind,
    had_from q has l had,
    subst (λ (v : List ℕ). LabelBytes l q.spot.slice.first q.spot.slice.len v) (sym stays.bytes) there,
    stays.bytes ∙ sym stays.of_place.under,
  )
  labelled_target q t l has (changes m had differ written) = inr (inl (
    written.kind_is,
    (m, had_from q has m had, differ),
    subst (λ (u : List ℕ). IsEncoded l q.spot.slice u t.bytes) (sym written.of_place.under) written.encoded,
  ))
  labelled_target q t l has (sets none written) = inr (inr (
    written.kind_is,
    λ m had. none m (had_to q has m had),
    record {
      encoded = written.encoded;
      one = λ is. written.one (subst (λ (v : List ℕ). IsEncoded l q.spot.slice (replicate b 0) v) (sym (bytes_of q has)) is)
          ∙ bytes_of q has;
    },
  ))

  place_target : NoneIsLeft places → (q : Place b) (t : Target b) → Contains places q → IsTargetOf old q t
      → IsPlaceTarget d o q.spot.slice q.spot.label t
  place_target none q t has (inl (l, is, target)) =
      subst (λ (x : Option Label). IsPlaceTarget d o q.spot.slice x t) (sym is) (labelled_target q t l has target)
  place_target none q t has (inr (is, stays)) =
      let of_none : IsPlaceTarget d o q.spot.slice None t = (
        stays.kind,
        (λ magic. All-contains (λ (x : Place b). ¬ IsLeftAt x) places q none has (is, subst HasMagic stays.of_place.under magic)),
        stays.bytes ∙ sym stays.of_place.under,
      ) in
      subst (λ (x : Option Label). IsPlaceTarget d o q.spot.slice x t) (sym is) of_none

  at_place : (q : Place b) (t : Target b) → Contains places q → IsTargetOf old q t → t.at.0 ≡ place_of q.spot.slice
  at_place q t has is = ap (λ (x : Lba). x.0) (of_target old q t is).at ∙ (All-contains (IsAt n) places q ats has).place

  under_is : (q : Place b) (t : Target b) → Contains places q → IsTargetOf old q t → t.under ≡ sector d (place_of q.spot.slice)
  under_is q t has is = (of_target old q t is).under ∙ bytes_of q has

  are_targets : NoneIsLeft places → (ts : List (Target b)) → AreTargets old places ts → AreLabelTargets d o p ts
  are_targets none ts are = record {
    has = along (Targeted d o ts) (λ q has.
        let pair = pair_left old places ts q are has in
        (pair.0, pair.1, at_place q pair.0 has pair.2, under_is q pair.0 has pair.2, place_target none q pair.0 has pair.2));
    each = λ t has.
        let pair = pair_right old places ts t are has in
        subst (λ (s : ℕ). IsPlace (places_of b p.sectors p.body) s) (sym (at_place pair.0 t pair.1 pair.2))
        (subst (λ (ws : List Slice). IsPlace ws (place_of pair.0.spot.slice)) slices (place_in places pair.0 pair.1));
    tell = λ t has.
        let pair = pair_right old places ts t are has in
        under_is pair.0 t pair.1 pair.2 ∙ ap (λ (s : ℕ). sector d s) (sym (at_place pair.0 t pair.1 pair.2));
    count = pair_count old places ts are ∙ ap length slices;
  }

  pub lifted : (a : LabelTargets b) → AnswerOf old places a → PlacesAnswer d o p a
  lifted Misplaced is = absurd is
  lifted (Foreign m) is = (fits, foreign m is)
  lifted Unreadable (none, stuck) = (fits, none_left none, unreadable stuck)
  lifted (Targets ts) (none, are) = (fits, none_left none, are_targets none ts.items are)

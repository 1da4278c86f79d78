-- From what each step gave to the answer.
use Rattle.std.proofs.Common.{◌≡◌, ◌<◌, ◌∙◌, ℕ, List, length, map, All, Option, Some, None, MatchOption, sym, ap, subst, arith}
use Rattle.std.specs.Prelude.{Vec}
use Rattle.std.proofs.lemmas.List.{length-map, get_or-map}
use Rattle.pt_sector.specs.Sectors.{Sectors}
use Rattle.pt_members.specs.Members.{places_of, place_of}
use Rattle.pt_members.specs.declared.layout.Body.{Body}
use Rattle.pt_members.specs.declared.layout.Labelled.{Labelled}
use Rattle.pt_members.specs.declared.layout.Layout.{Layout}
use Rattle.pt_members.specs.declared.layout.Slice.{Slice}
use Rattle.pt_recover.proofs.Whole.{places_within}
use Rattle.pt_members.specs.Tables.{HasFour}
use Rattle.pt_cases.proofs.Ascending.{places_ascend_lem}
use Rattle.pt_cases.specs.Unplanned.{LabelsFit}
use Rattle.pt_planner.specs.Places.{PlacesAnswer}
use Rattle.pt_planner.specs.inner.Places.{spot_of, IsAt, IsRead, OldAre, AnswerOf, AreSpots, Fit, slice_of, labels_of}
use Rattle.pt_planner.specs.declared.places.LabelTargets.{LabelTargets}
use Rattle.pt_planner.specs.declared.places.place.Place.{Place}
use Rattle.pt_planner.specs.declared.places.place.Spot.{Spot}
use Rattle.pt_planner.proofs.Lifts.{lifted}

All-from_map : (P : Slice → Type 0) (spots : List Spot) → All P (map slice_of spots) → All (λ (s : Spot). P s.slice) spots
All-from_map P spots all k d lt =
    let count = length-map spots slice_of in
    let same = get_or-map slice_of spots k d (slice_of d) lt in
    subst P same (all k (slice_of d) (omega (arith, count, lt)))

pub at_some : {A : Type 0} (o : Option A) (v : A) (P : Type 0) (Q : A → Type 0) → o ≡ Some v → MatchOption o P Q → Q v
at_some o v P Q is match = subst (λ x. MatchOption x P Q) is match

-- a label is left over
pub misfit : {A : Type 0} (b n : ℕ) (p : Layout) (slices : List Slice) (labels : List Labelled) (o : Option A) (Q : A → Type 0)
    → o ≡ None → MatchOption o (¬ Fit slices labels) Q → slices ≡ places_of b n p.body → n ≡ p.sectors → labels ≡ p.labels
    → ¬ LabelsFit b p
misfit b n p slices labels o Q is match of_slices sectors of_labels fit =
    let none : ¬ Fit slices labels = subst (λ x. MatchOption x (¬ Fit slices labels) Q) is match in
    none (subst (λ (l : List Labelled). Fit slices l) (sym of_labels)
    (subst (λ (s : List Slice). Fit s p.labels) (sym (of_slices ∙ ap (λ (k : ℕ). places_of b k p.body) sectors)) fit))

-- each spot's place is on the disk
pub spots_within : (b n m : ℕ) (y : Body) (slices : List Slice) (labels : List Labelled) (spots : List Spot)
    → AreSpots slices labels spots → slices ≡ places_of b n y → n ≡ m → All (λ (s : Spot). place_of s.slice < m) spots
spots_within b n m y slices labels spots are of_slices same =
    let all : All (λ (w : Slice). place_of w < m) (map slice_of spots) =
    subst (λ (ws : List Slice). All (λ (w : Slice). place_of w < m) ws) (sym are.slices) (places_within b n m y slices of_slices same) in
    All-from_map (λ (w : Slice). place_of w < m) spots all

-- the slices of the spots are those of the layout's label places
pub spot_slices : {A : Type 0} (b n m : ℕ) (y : Body) (slices : List Slice) (labels : List Labelled) (o : Option (Vec Spot A))
    (v : Vec Spot A) (spots : List Spot) → o ≡ Some v
    → MatchOption o (¬ Fit slices labels) (λ (x : Vec Spot A). AreSpots slices labels x.items) → spots ≡ v.items
    → slices ≡ places_of b n y → n ≡ m → map slice_of spots ≡ places_of b m y
spot_slices {A = A} b n m y slices labels o v spots is match same of_slices sectors =
    let are : AreSpots slices labels v.items = at_some o v (¬ Fit slices labels) (λ (x : Vec Spot A). AreSpots slices labels
    x.items) is match in
    ap (map slice_of) same ∙ are.slices ∙ of_slices ∙ ap (λ (k : ℕ). places_of b k y) sectors

-- what was read is the answer
pub whole : {b : ℕ} (d : Sectors) (o : Option Layout) (p : Layout) (n m : ℕ) (slices : List Slice) (labels : List Labelled)
    (spots : List Spot) (places : List (Place b)) (old : List Slice) (a : LabelTargets b)
    → HasFour p.body → n ≡ p.sectors → slices ≡ places_of b n p.body → labels ≡ p.labels → AreSpots slices labels spots
    → map spot_of places ≡ spots
    → All (IsAt m) places → All (IsRead d) places → OldAre b (length d) o old → AnswerOf old places a → PlacesAnswer d o p a
whole {b = b} d o p n m slices labels spots places old a four sectors of_slices of_labels are of_spots ats reads olds is =
    lifted d o p old places m
    (ap (λ (x : List Spot). map slice_of x) of_spots ∙ are.slices ∙ of_slices ∙ ap (λ (k : ℕ). places_of b k p.body) sectors)
    (ap labels_of of_spots ∙ are.labels ∙ of_labels)
    (places_ascend_lem b p.sectors p.body four) ats reads olds a is

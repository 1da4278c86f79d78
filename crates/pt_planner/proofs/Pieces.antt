-- What single steps say, told by bytes.
use Rattle.std.proofs.Common.{◌≡◌, ◌≢◌, ◌<◌, ◌+◌, ◌∙◌, ℕ, List, [], ◌∷◌, ◌++◌, length, get_or, take, drop, map, replicate, All, Option}
use Rattle.std.proofs.Common.{Some, None, zero, suc, sym, ap, subst, arith, inl, inr}
use Rattle.std.proofs.lemmas.List.{take_more, drop_more, get_or_default, map_push, take-append-drop}
use Rattle.std.proofs.lemmas.List.Elements.{All-contains, All-more, All-push}
use Rattle.pt_bsd.specs.Labels.{IsRaw, FitsSlice, LabelBytes, entry_of}
use Rattle.pt_bsd.proofs.Terms.{label_one, label_counted, label_fits}
use Rattle.pt_bsd.specs.declared.label.Label.{Label}
use Rattle.pt_bsd.specs.declared.label.LabelEntry.{LabelEntry}
use Rattle.pt_members.specs.Members.{place_of, IsPlace}
use Rattle.pt_members.specs.declared.layout.Slice.{Slice}
use Rattle.pt_cases.specs.declared.targets.target.Target.{Target}
use Rattle.pt_cases.specs.declared.targets.target.TargetKind.TheVariants.{New, Changes}
use Rattle.pt_planner.specs.declared.places.place.Spot.{Spot}
use Rattle.pt_planner.specs.inner.Places.{spot_of, OneHad, HadBytes, HadAt, PlacesRead, IsBytes, stood, other, fresh, IsTargetOf}
use Rattle.pt_planner.specs.inner.Places.{AreTargets, LabelledIs, IsLeftAt, IsFirstAt, keeps, changes, sets, KeptIs, WrittenIs, LabelFits}
use Rattle.pt_planner.specs.inner.Places.{slice_of}
use Rattle.pt_planner.specs.declared.places.place.Place.{Place}

-- the sector of a spot is a place of these slices
pub spot_failed : (spots : List Spot) (k : ℕ) (z : Spot) (s : ℕ) → k < length spots → s ≡ place_of (get_or spots k z).slice
    → IsPlace (map slice_of spots) s
spot_failed [] k z s lt is = absurd (omega (arith, lt))
spot_failed (p ∷ ps) zero z s lt is = inl is
spot_failed (p ∷ ps) (suc k) z s lt is = inr (spot_failed ps k z s (omega (arith, lt)) is)

abbrev pub NotHad : ℕ → List ℕ → Slice → Type 0
NotHad first bytes s = OneHad s first bytes None

pub none_had : (olds : List Slice) (first : ℕ) (bytes : List ℕ) → All (NotHad first bytes) olds → (m : Label)
    → ¬ HadBytes olds first bytes m
none_had olds first bytes none m had = All-contains (NotHad first bytes) olds had.slice none had.stands m (had.start, had.label)

-- bytes are one label at most
pub had_same : (olds : List Slice) (first : ℕ) (bytes : List ℕ) (l m : Label) → HadBytes olds first bytes l
    → HadBytes olds first bytes m → l ≡ m
had_same olds first bytes l m x y = label_one l m x.slice.first x.slice.len y.slice.first y.slice.len bytes x.label y.label

one_length : (o : Option LabelEntry) (first m n : ℕ) → IsRaw o first m → IsRaw o first n → m ≡ n
one_length None first m n is also = absurd is
one_length (Some e) first m n is also = sym is.0 ∙ also.0

-- a label of a slice is read in each slice from its first sector that it fits: that is as long
stays_read : (l : Label) (first m n : ℕ) (bytes : List ℕ) → LabelBytes l first m bytes → FitsSlice l first n → LabelBytes l first n bytes
stays_read l first m n bytes is fits =
    subst (λ (k : ℕ). LabelBytes l first k bytes) (one_length (entry_of l 2) first m n (label_fits l first m bytes is) fits) is

module _ {b : ℕ} (old : List Slice) (p : Place b) where
  -- a label that stands there is one for the slice where it fits that
  unfit_kept : (l : Label) → HadAt old p l → ¬ PlacesRead p l p.bytes → ¬ LabelFits p l
  unfit_kept l had not fits =
      let first = p.spot.slice.first in
      let here : LabelBytes l first had.slice.len p.bytes = subst (λ (s : ℕ). LabelBytes l s had.slice.len p.bytes) had.start had.label in
      not (stays_read l first had.slice.len p.spot.slice.len p.bytes here fits.1)

  -- a label that doesn't fit is read from no bytes
  unread : (l : Label) → ¬ LabelFits p l → (v : List ℕ) → ¬ PlacesRead p l v
  unread l unfit v reads =
      let s = p.spot.slice in
      unfit (label_counted l s.first s.len v reads, label_fits l s.first s.len v reads)

  -- a label that stands there and isn't one for the slice has no right bytes
  stuck_kept : (l : Label) → HadAt old p l → ¬ PlacesRead p l p.bytes → (v : List ℕ) → ¬ IsBytes old p l v
  stuck_kept l had not v (stood has reads same) = not (subst (λ (x : List ℕ). PlacesRead p l x) same reads)
  stuck_kept l had not v (other m has differ is) = differ (had_same old p.spot.slice.first p.bytes m l has had)
  stuck_kept l had not v (fresh none is) = none l had

  stuck_written : (l : Label) → ¬ HadAt old p l → ¬ LabelFits p l → (v : List ℕ) → ¬ IsBytes old p l v
  stuck_written l had unfit v (stood has reads same) = had has
  stuck_written l had unfit v (other m has differ is) = unread l unfit v is.reads
  stuck_written l had unfit v (fresh none is) = unread l unfit v is.reads

  pub kept_is : (l : Label) (o : Option (Target b)) → HadAt old p l → KeptIs p l o → LabelledIs old p l o
  kept_is l (Some t) had (stays, reads) = keeps stays had reads
  kept_is l None had not = record { none = stuck_kept l had not; unfit = unfit_kept l had not }

  pub changed_is : (m l : Label) (o : Option (Target b)) → HadAt old p m → m ≢ l → WrittenIs p l p.bytes Changes o → LabelledIs old p l o
  changed_is m l (Some t) had differ is = changes m had differ is
  changed_is m l None had differ not = record {
    none = stuck_written l (λ has. differ (had_same old p.spot.slice.first p.bytes m l had has)) not;
    unfit = not;
  }

  pub new_is : (l : Label) (o : Option (Target b)) → ((m : Label) → ¬ HadAt old p m) → WrittenIs p l (replicate b 0) New o
      → LabelledIs old p l o
  new_is l (Some t) none is = sets none is
  new_is l None none not = record { none = stuck_written l (none l) not; unfit = not }

pub targets_push : {b : ℕ} (old : List Slice) (ps : List (Place b)) (ts : List (Target b)) (p : Place b) (t : Target b)
    → AreTargets old ps ts → IsTargetOf old p t → AreTargets old (ps ++ p ∷ []) (ts ++ t ∷ [])
targets_push old [] [] p t are is = (is, tt)
targets_push old [] (x ∷ ts) p t are is = absurd are
targets_push old (q ∷ ps) [] p t are is = absurd are
targets_push old (q ∷ ps) (x ∷ ts) p t are is = (are.0, targets_push old ps ts p t are.1 is)

-- the target of the next place
pub targets_on : {b : ℕ} (old : List Slice) (ps : List (Place b)) (ts now : List (Target b)) (k : ℕ) (p : Place b) (t : Target b)
    → k < length ps → p ≡ get_or ps k p → IsTargetOf old p t → now ≡ ts ++ t ∷ [] → AreTargets old (take k ps) ts
    → AreTargets old (take (k + 1) ps) now
targets_on {b = b} old ps ts now k p t lt at is same are =
    let more : take (k + 1) ps ≡ take k ps ++ p ∷ [] = take_more ps k p lt ∙ ap (λ (x : Place b). take k ps ++ x ∷ []) (sym at) in
    subst (λ (x : List (Place b)). AreTargets old x now) (sym more)
    (subst (λ (x : List (Target b)). AreTargets old (take k ps ++ p ∷ []) x) (sym same) (targets_push old (take k ps) ts p t are is))

-- the first place that is left
pub first_at : {b : ℕ} (ps : List (Place b)) (k : ℕ) (p e : Place b) → k < length ps → p ≡ get_or ps k p
    → All (λ (q : Place b). ¬ IsLeftAt q) (take k ps) → IsLeftAt p → IsFirstAt ps (get_or ps k e).spot.slice.number
first_at {b = b} ps k p e lt at none left = record {
  before = take k ps;
  place = p;
  rest = drop (k + 1) ps;
  split = sym (take-append-drop k ps) ∙ ap (λ (x : List (Place b)). take k ps ++ x) (drop_more ps k p lt)
      ∙ ap (λ (x : Place b). take k ps ++ (x ∷ drop (k + 1) ps)) (sym at);
  left = left;
  number = ap (λ (q : Place b). q.spot.slice.number) (at ∙ get_or_default ps k p e lt);
  none = none;
}

-- none of the places so far is left
pub none_on : {b : ℕ} (ps : List (Place b)) (k : ℕ) (p : Place b) → k < length ps → p ≡ get_or ps k p
    → All (λ (q : Place b). ¬ IsLeftAt q) (take k ps) → ¬ IsLeftAt p → All (λ (q : Place b). ¬ IsLeftAt q) (take (k + 1) ps)
none_on {b = b} ps k p lt at none not =
    All-more (λ (q : Place b). ¬ IsLeftAt q) ps k p lt none (subst (λ (q : Place b). ¬ IsLeftAt q) at not)

-- a place more
pub all_on : {b : ℕ} (P : Place b → Type 0) (ps now : List (Place b)) (p : Place b) → now ≡ ps ++ p ∷ [] → All P ps → P p → All P now
all_on {b = b} P ps now p same all is = subst (λ (x : List (Place b)). All P x) (sym same) (All-push P ps p all is)

pub spots_on : {b : ℕ} (ps now : List (Place b)) (p : Place b) (ss : List Spot) (k : ℕ) (z : Spot) → k < length ss
    → p.spot ≡ get_or ss k z → now ≡ ps ++ p ∷ [] → map spot_of ps ≡ take k ss → map spot_of now ≡ take (k + 1) ss
spots_on {b = b} ps now p ss k z lt is same before =
    ap (λ (x : List (Place b)). map spot_of x) same
    ∙ map_push spot_of ps p
    ∙ ap (λ (x : List Spot). x ++ p.spot ∷ []) before
    ∙ ap (λ (x : Spot). take k ss ++ x ∷ []) is
    ∙ sym (take_more ss k z lt)

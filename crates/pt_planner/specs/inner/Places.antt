-- What label places and a chain must hold: what private contracts cite.
use Rattle.std.specs.Prelude.{◌≡◌, ◌⊎◌, ◌+◌, ℕ, List, [], ◌∷◌, ◌++◌, length, Option, Contains, ◌≢◌, ◌<◌, replicate, All, Some, None, map}
use Rattle.std.specs.Prelude.{drop}
use Rattle.pt_sector.specs.Sectors.{Sectors, sector}
use Rattle.pt_mbr.specs.Chain.{StandsAt, EbrBytes}
use Rattle.pt_mbr.specs.Changes.{mbr_of}
use Rattle.pt_mbr.specs.Records.{MbrBytes, BearsProtective, extent_of}
use Rattle.pt_mbr.specs.declared.ebr.Ebr.{Ebr}
use Rattle.pt_mbr.specs.declared.record.Record.{Record}
use Rattle.pt_cases.specs.Writes.{link_to, IsHeadTarget, IsEbrTarget, IsEncoded, Along}
use Rattle.pt_cases.specs.Targets.{HasEbrs}
use Rattle.pt_cases.specs.declared.targets.target.Target.{Target}
use Rattle.pt_bsd.specs.Labels.{IsCounted, FitsSlice, LabelBytes, HasMagic}
use Rattle.pt_bsd.specs.declared.label.Label.{Label}
use Rattle.pt_members.specs.Members.{places_of, place_of}
use Rattle.pt_members.specs.declared.layout.Layout.{Layout}
use Rattle.pt_members.specs.declared.layout.Slice.{Slice}
use Rattle.pt_cases.specs.declared.targets.target.TargetKind.{TargetKind}
use Rattle.pt_cases.specs.declared.targets.target.TargetKind.TheVariants.{Stays, New, Changes}
use Rattle.pt_planner.specs.declared.places.LabelTargets.{LabelTargets}
use Rattle.pt_planner.specs.declared.places.LabelTargets.TheVariants.{Misplaced, Foreign, Unreadable, Targets}
use Rattle.pt_planner.specs.declared.places.place.Place.{Place}
use Rattle.pt_planner.specs.declared.places.place.Spot.{Spot}
use Rattle.pt_recover.specs.inner.Denotes.{labelled}
use Rattle.pt_members.specs.declared.layout.Labelled.{Labelled}

-- ## What the parts of a wanted MBR layout's targets are.

-- where there is an extended record alone, it starts there
abbrev pub StartsAt : List Record → ℕ → Type 0
StartsAt [] first = Unit {0}
StartsAt (r ∷ []) first = first ≡ (extent_of r).first
StartsAt (r ∷ s ∷ rs) first = Unit {0}

-- these bytes are an MBR of these records, and no protective one
abbrev pub AreMbr : List (Option Record) → List ℕ → Type 0
AreMbr records b = MbrBytes (mbr_of records) b × (¬ BearsProtective b)

-- these bytes are an extended boot record in the place of this one, under some first sector
abbrev pub AreEbr : Ebr → List ℕ → Type 0
AreEbr e b = (first : ℕ) × (w : Ebr) × EbrBytes first e.at w b

-- the target of sector 0
pub record IsHeadOf {b : _} (d : Sectors) (old new : List (Option Record)) (t : Target b) : Type 0 where
  pub at : t.at.0 ≡ 0
  pub under : t.under ≡ sector d 0
  pub is : IsHeadTarget old new (sector d 0) t.bytes

-- the target of an extended boot record, with those behind it
pub record IsEbrOf {b : _} (d : Sectors) (old : List Ebr) (first : ℕ) (e : Ebr) (es : List Ebr) (t : Target b) : Type 0 where
  pub at : t.at.0 ≡ e.at.0
  pub under : t.under ≡ sector d e.at.0
  pub is : IsEbrTarget b d old first e (link_to first es) t.bytes

-- a target of this kind comes behind those that there were
pub record Adds {b : _} (before after : List (Target b)) (Is : Target b → Type 0) : Type 0 where
  pub target : Target b
  pub pushed : after ≡ before ++ target ∷ []
  pub is : Is target

-- a target and, behind it, those of a chain
pub record AreChainTargets {b : _} (d : Sectors) (head : Target b) (old : List Ebr) (first : ℕ) (chain : List Ebr)
    (ts : List (Target b)) : Type 0 where
  pub start : Contains ts head
  pub ebrs : HasEbrs d old first chain ts
  pub each : (t : Target b) → Contains ts t → (t ≡ head) ⊎ ((t.under ≡ sector d t.at.0) × StandsAt t.at.0 chain)
  pub count : length ts ≡ 1 + length chain

-- ## Label places that were read, and what each must hold, told by bytes alone.

abbrev pub spot_of : {b : _} → Place b → Spot
spot_of p = p.spot

-- its sector is the slice's label place, one of so many sectors
pub record IsAt {b : _} (n : ℕ) (p : Place b) : Type 0 where
  pub place : p.at.0 ≡ place_of p.spot.slice
  pub within : p.at.0 < n

-- it holds what the disk does
abbrev pub IsRead : {b : _} → Sectors → Place b → Type 0
IsRead d p = p.bytes ≡ sector d p.at.0

-- no label of the layout, and the magic of one
abbrev pub IsLeftAt : {b : _} → Place b → Type 0
IsLeftAt p = (p.spot.label ≡ None) × HasMagic p.bytes

pub record IsFirstAt {b : _} (ps : List (Place b)) (n : ℕ) : Type 0 where
  pub before : List (Place b)
  pub place : Place b
  pub rest : List (Place b)
  pub split : ps ≡ before ++ place ∷ rest
  pub left : IsLeftAt place
  pub number : place.spot.slice.number ≡ n
  pub none : All (λ (p : Place b). ¬ IsLeftAt p) before

-- the first such place, or that there is none
abbrev pub FirstLeftIs : {b : _} → List (Place b) → Option ℕ → Type 0
FirstLeftIs ps (Some n) = IsFirstAt ps n
FirstLeftIs ps None = All (λ (p : Place _). ¬ IsLeftAt p) ps

-- the slices of the old layout that have a label place
abbrev pub OldAre : ℕ → ℕ → Option Layout → List Slice → Type 0
OldAre b n (Some l) old = old ≡ places_of b n l.body
OldAre b n None old = old ≡ []

abbrev pub OneHad : Slice → ℕ → List ℕ → Option Label → Type 0
OneHad s first bytes (Some m) = (s.first ≡ first) × LabelBytes m s.first s.len bytes
OneHad s first bytes None = (m : Label) → ¬ ((s.first ≡ first) × LabelBytes m s.first s.len bytes)

-- the bytes are this label for an old slice that starts there
pub record HadBytes (old : List Slice) (first : ℕ) (bytes : List ℕ) (m : Label) : Type 0 where
  pub slice : Slice
  pub stands : Contains old slice
  pub start : slice.first ≡ first
  pub label : LabelBytes m slice.first slice.len bytes

abbrev pub HadIs : List Slice → ℕ → List ℕ → Option Label → Type 0
HadIs old first bytes (Some m) = HadBytes old first bytes m
HadIs old first bytes None = (m : Label) → ¬ HadBytes old first bytes m

-- a target of this place
pub record IsOfPlace {b : _} (p : Place b) (t : Target b) : Type 0 where
  pub at : t.at ≡ p.at
  pub under : t.under ≡ p.bytes

pub record StaysAt {b : _} (p : Place b) (t : Target b) : Type 0 where
  pub of_place : IsOfPlace p t
  pub kind : t.kind ≡ Stays
  pub bytes : t.bytes ≡ p.bytes

abbrev pub PlacesRead : {b : _} → Place b → Label → List ℕ → Type 0
PlacesRead p l v = LabelBytes l p.spot.slice.first p.spot.slice.len v

abbrev pub KeptIs : {b : _} → Place b → Label → Option (Target b) → Type 0
KeptIs p l (Some t) = StaysAt p t × PlacesRead p l p.bytes
KeptIs p l None = ¬ PlacesRead p l p.bytes

-- the label can be written for the slice of the place
abbrev pub LabelFits : {b : _} → Place b → Label → Type 0
LabelFits p l = IsCounted l × FitsSlice l p.spot.slice.first p.spot.slice.len

-- a label that was written over these bytes. If it stands there already as it would be written, it is written just so
pub record IsWrittenLabel {b : _} (p : Place b) (l : Label) (over : List ℕ) (kind : TargetKind) (t : Target b) : Type 0 where
  pub of_place : IsOfPlace p t
  pub kind_is : t.kind ≡ kind
  pub encoded : IsEncoded l p.spot.slice over t.bytes
  pub one : IsEncoded l p.spot.slice over p.bytes → t.bytes ≡ p.bytes

abbrev pub WrittenIs : {b : _} → Place b → Label → List ℕ → TargetKind → Option (Target b) → Type 0
WrittenIs p l over kind (Some t) = IsWrittenLabel p l over kind t
WrittenIs p l over kind None = ¬ LabelFits p l

abbrev pub HadAt : {b : _} → List Slice → Place b → Label → Type 0
HadAt old p m = HadBytes old p.spot.slice.first p.bytes m

-- what the place must hold for this label
pub data IsBytes {b : _} (old : List Slice) (p : Place b) (l : Label) (v : List ℕ) : Type 0 where
  stood : HadAt old p l → PlacesRead p l v → v ≡ p.bytes → IsBytes old p l v
  other : (m : Label) → HadAt old p m → m ≢ l → IsEncoded l p.spot.slice p.bytes v → IsBytes old p l v
  fresh : ((m : Label) → ¬ HadAt old p m) → IsEncoded l p.spot.slice (replicate b 0) v → IsBytes old p l v

-- the target of a place with this label
pub data IsTarget {b : _} (old : List Slice) (p : Place b) (l : Label) (t : Target b) : Type 0 where
  keeps : StaysAt p t → HadAt old p l → PlacesRead p l p.bytes → IsTarget old p l t
  changes : (m : Label) → HadAt old p m → m ≢ l → IsWrittenLabel p l p.bytes Changes t → IsTarget old p l t
  sets : ((m : Label) → ¬ HadAt old p m) → IsWrittenLabel p l (replicate b 0) New t → IsTarget old p l t

-- no bytes are right for the label, since it doesn't fit
pub record HasNoBytes {b : _} (old : List Slice) (p : Place b) (l : Label) : Type 0 where
  pub none : (v : List ℕ) → ¬ IsBytes old p l v
  pub unfit : ¬ LabelFits p l

abbrev pub LabelledIs : {b : _} → List Slice → Place b → Label → Option (Target b) → Type 0
LabelledIs old p l (Some t) = IsTarget old p l t
LabelledIs old p l None = HasNoBytes old p l

abbrev pub IsTargetOf : {b : _} → List Slice → Place b → Target b → Type 0
IsTargetOf old p t = ((l : Label) × (p.spot.label ≡ Some l) × IsTarget old p l t) ⊎ ((p.spot.label ≡ None) × StaysAt p t)

-- no bytes are right for its label
abbrev pub IsStuck : {b : _} → List Slice → Place b → Type 0
IsStuck old p = (l : Label) × (p.spot.label ≡ Some l) × HasNoBytes old p l

abbrev pub TargetIs : {b : _} → List Slice → Place b → Option (Target b) → Type 0
TargetIs old p (Some t) = IsTargetOf old p t
TargetIs old p None = IsStuck old p

-- a target for each place, in their order
abbrev pub AreTargets : {b : _} → List Slice → List (Place b) → List (Target b) → Type 0
AreTargets old [] [] = Unit {0}
AreTargets old [] (t ∷ ts) = ⊥
AreTargets old (p ∷ ps) [] = ⊥
AreTargets old (p ∷ ps) (t ∷ ts) = IsTargetOf old p t × AreTargets old ps ts

abbrev pub HasNone : {b : _} → List Slice → List (Place b) → Type 0
HasNone old ps = (p : Place _) × Contains ps p × IsStuck old p

abbrev pub NoneIsLeft : {b : _} → List (Place b) → Type 0
NoneIsLeft ps = All (λ (p : Place _). ¬ IsLeftAt p) ps

-- the answer for places that were read
abbrev pub AnswerOf : {b : _} → List Slice → List (Place b) → LabelTargets b → Type 0
AnswerOf old ps Misplaced = ⊥
AnswerOf old ps (Foreign n) = IsFirstAt ps n
AnswerOf old ps Unreadable = NoneIsLeft ps × HasNone old ps
AnswerOf old ps (Targets ts) = NoneIsLeft ps × AreTargets old ps ts.items

-- ## Slices and labels, side by side.

-- the next label is taken if it has this number
abbrev pub TakesLabel : ℕ → List Labelled → ℕ → ℕ → Option Label → Type 0
TakesLabel n ls from to (Some l) = (to ≡ from + 1) × (drop from ls ≡ record { number = n; label = l } ∷ drop to ls)
TakesLabel n ls from to None = (to ≡ from) × ((l : Label) (rest : List Labelled) → ¬ (drop from ls
    ≡ record { number = n; label = l } ∷ rest))

-- each label goes with a slice
abbrev pub Fit : List Slice → List Labelled → Type 0
Fit ps ls = Along (λ (w : Slice) (l : Option Label). Unit {0}) ps ls

abbrev pub slice_of : Spot → Slice
slice_of s = s.slice

-- the labels of some spots
abbrev pub labels_of : List Spot → List Labelled
labels_of [] = []
labels_of (s ∷ ss) = labelled s.slice.number s.label ++ labels_of ss

-- the spots of these slices and labels
pub record AreSpots (ps : List Slice) (ls : List Labelled) (spots : List Spot) : Type 0 where
  pub slices : map slice_of spots ≡ ps
  pub labels : labels_of spots ≡ ls

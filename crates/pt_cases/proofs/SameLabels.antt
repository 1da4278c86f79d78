-- Whatever brings about what the label places of a layout need changes the same ones of them.
use Rattle.std.proofs.Common.{◌≡◌, ◌≢◌, ◌∙◌, inl, inr, ℕ, List, replicate, Option, Some, None, refl, sym, subst}
use Rattle.std.specs.Prelude.{Contains}
use Rattle.pt_sector.specs.Sectors.{Sectors, sector, Writes}
use Rattle.pt_bsd.specs.Labels.{LabelBytes}
use Rattle.pt_bsd.proofs.Terms.{label_one}
use Rattle.pt_bsd.specs.declared.label.Label.{Label}
use Rattle.pt_members.specs.Members.{places_of, place_of, IsPlace}
use Rattle.pt_members.specs.declared.layout.Layout.{Layout}
use Rattle.pt_members.specs.declared.layout.Slice.{Slice}
use Rattle.pt_members.specs.Tables.{HasFour}
use Rattle.pt_cases.proofs.Causes.{had_one}
use Rattle.pt_cases.proofs.Ascending.{places_ascend_lem}
use Rattle.pt_cases.specs.Writes.{Along, ComesToHold, IsEncoded, IsLabelTarget, kept, changed, new, Met, LabelsMet}
use Rattle.pt_cases.proofs.Along.{along_map}
use Rattle.pt_cases.specs.Targets.{AreLabelTargets, HasTwoOfOne, IsChange, Targeted}
use Rattle.pt_cases.specs.declared.targets.target.Target.{Target}
use Rattle.pt_cases.proofs.OneLabel.{slice_of, same_target, zipped}

-- P and Q hold of bytes for sector s, and where the first aren't there yet, the second aren't there either
pub record Pair (d : Sectors) (P Q : ℕ → List ℕ → Type 0) (s : ℕ) : Type 0 where
  pub first : List ℕ
  pub second : List ℕ
  pub has : P s first
  pub also : Q s second
  pub alike : first ≢ sector d s → second ≢ sector d s

-- equal bytes are such a pair
pub same_pair : (d : Sectors) (P Q : ℕ → List ℕ → Type 0) (s : ℕ) (v x : List ℕ) → v ≡ x → P s v → Q s x → Pair d P Q s
same_pair d P Q s v x same has also = record {
  first = v;
  second = x;
  has = has;
  also = also;
  alike = λ differ there. differ (same ∙ there);
}

-- what a label's place needs stands there for all its bytes, or for none
label_alike : (b : ℕ) (d : Sectors) (o : Option Layout) (w : Slice) (l : Label) (v x : List ℕ) → IsLabelTarget b d o w l v
    → IsLabelTarget b d o w l x → v ≢ sector d (place_of w) → x ≢ sector d (place_of w)
label_alike b d o w l v x (kept had reads same) other differ there = differ same
label_alike b d o w l v x (changed m had differs encoded) (kept again reads same) differ there =
    differs (had_one b d o (place_of w) m l had again)
label_alike b d o w l v x (changed m had differs encoded) (changed k again also over) differ there =
    let old = had.2 in
    let stands : LabelBytes l w.first w.len (sector d (place_of w)) = subst (LabelBytes l w.first w.len) there over.reads in
    let was : LabelBytes m old.slice.first old.slice.len (sector d (place_of w)) =
    subst (λ (s : ℕ). LabelBytes m old.slice.first old.slice.len (sector d s)) old.place old.label in
    differs (label_one m l old.slice.first old.slice.len w.first w.len (sector d (place_of w)) was stands)
label_alike b d o w l v x (changed m had differs encoded) (new none fresh) differ there = none m had
label_alike b d o w l v x (new none fresh) (kept had reads same) differ there = none l had
label_alike b d o w l v x (new none fresh) (changed m had differs encoded) differ there = none m had
label_alike b d o w l v x (new none fresh) (new others again) differ there =
    differ (fresh.one (subst (IsEncoded l w (replicate b 0)) there again.encoded))

-- Q holds of bytes that the label place of a slice needs, with this label; and with none, of what is there
abbrev pub PlaceHas : ℕ → Sectors → Option Layout → (ℕ → List ℕ → Type 0) → Slice → Option Label → Type 0
PlaceHas b d o Q w (Some l) = (v : List ℕ) × IsLabelTarget b d o w l v × Q (place_of w) v
PlaceHas b d o Q w None = Q (place_of w) (sector d (place_of w))

-- two that bring it about are a pair there
place_pair : (b : ℕ) (d : Sectors) (o : Option Layout) (P Q : ℕ → List ℕ → Type 0) (w : Slice) (l : Option Label) → PlaceHas b d o P w l
    → PlaceHas b d o Q w l → Pair d P Q (place_of w)
place_pair b d o P Q w (Some l) (v, target, has) (x, other, also) = record {
  first = v;
  second = x;
  has = has;
  also = also;
  alike = label_alike b d o w l v x target other;
}
place_pair b d o P Q w None has also = same_pair d P Q (place_of w) (sector d (place_of w)) (sector d (place_of w)) refl has also

-- so it is with each label place of p
abbrev pub PlacesHave : ℕ → Sectors → Option Layout → Layout → (ℕ → List ℕ → Type 0) → Type 0
PlacesHave b d o p Q = Along (PlaceHas b d o Q) (places_of b p.sectors p.body) p.labels

-- two that bring about what they need are a pair at each
pub places_pair : (b : ℕ) (d : Sectors) (o : Option Layout) (p : Layout) (P Q : ℕ → List ℕ → Type 0) (s : ℕ) → HasFour p.body
    → PlacesHave b d o p P → PlacesHave b d o p Q → IsPlace (places_of b p.sectors p.body) s → Pair d P Q s
places_pair b d o p P Q s four has also at =
    let w = slice_of (places_of b p.sectors p.body) s at in
    let rise = places_ascend_lem b p.sectors p.body four in
    let zip = zipped (PlaceHas b d o P) (PlaceHas b d o Q) 1 (places_of b p.sectors p.body) p.labels w.0 rise has also w.1 in
    subst (Pair d P Q) w.2 (place_pair b d o P Q w.0 zip.label zip.first zip.second)

-- one of these targets is of sector s and has these bytes
abbrev pub Held : {b : _} → Sectors → List (Target b) → ℕ → List ℕ → Type 0
Held d ts s v = (t : Target _) × Contains ts t × (t.at.0 ≡ s) × (t.under ≡ sector d s) × (t.bytes ≡ v)

-- a target of a label place brings about what it needs
targeted_has : (b : ℕ) (d : Sectors) (o : Option Layout) (ts : List (Target b)) (w : Slice) (l : Option Label) → Targeted d o ts w l
    → PlaceHas b d o (Held d ts) w l
targeted_has b d o ts w None (t, has, at, under, is) = (t, has, at, under, is.2 ∙ under)
targeted_has b d o ts w (Some l) (t, has, at, under, inl (kind, had, reads, same)) =
    (t.bytes, kept had reads (same ∙ under), (t, has, at, under, refl))
targeted_has b d o ts w (Some l) (t, has, at, under, inr (inl (kind, (m, had, differs), encoded))) =
    (t.bytes, changed m had differs (subst (λ (u : List ℕ). IsEncoded l w u t.bytes) under encoded), (t, has, at, under, refl))
targeted_has b d o ts w (Some l) (t, has, at, under, inr (inr (kind, none, fresh))) = (t.bytes, new none fresh, (t, has, at, under, refl))

-- the targets of the label places do so
pub labels_have : (b : ℕ) (d : Sectors) (o : Option Layout) (p : Layout) (ts : List (Target b)) → AreLabelTargets d o p ts
    → PlacesHave b d o p (Held d ts)
labels_have b d o p ts are =
    along_map (Targeted d o ts) (PlaceHas b d o (Held d ts)) (places_of b p.sectors p.body) p.labels (targeted_has b d o ts) are.has

-- a write that meets it does so too
met_has : (b : ℕ) (d : Sectors) (o : Option Layout) (ws : Writes) (w : Slice) (l : Option Label) → Met b d o ws w l
    → PlaceHas b d o (ComesToHold d ws) w l
met_has b d o ws w (Some l) is = is
met_has b d o ws w None is = inr (refl, is.1)

-- and so do writes that meet them
pub met_have : (b : ℕ) (d : Sectors) (o : Option Layout) (p : Layout) (ws : Writes) → LabelsMet b d o p ws → PlacesHave b d o p
    (ComesToHold d ws)
met_have b d o p ws met =
    along_map (Met b d o ws) (PlaceHas b d o (ComesToHold d ws)) (places_of b p.sectors p.body) p.labels (met_has b d o ws) met

-- a target that changes has bytes beside it that aren't there yet either
pub changed_other : (b : ℕ) (d : Sectors) (ts : List (Target b)) (t : Target b) (Q : ℕ → List ℕ → Type 0) → ¬ HasTwoOfOne ts
    → IsChange ts t → Pair d (Held d ts) Q t.at.0 → (x : List ℕ) × Q t.at.0 x × (x ≢ sector d t.at.0)
changed_other b d ts t Q one change pair =
    let y = pair.has in
    let same : t ≡ y.0 = same_target ts t y.0 one change.0 y.1 (sym y.2) in
    let differs : y.0.bytes ≢ y.0.under = subst (λ (z : Target b). z.bytes ≢ z.under) same change.1 in
    (pair.second, pair.also, pair.alike (λ there. differs (y.4 ∙ there ∙ sym y.3)))

-- bytes of a target that aren't there yet are of one that changes
pub change_of : (b : ℕ) (d : Sectors) (ts : List (Target b)) (s : ℕ) (x : List ℕ) → Held d ts s x → x ≢ sector d s
    → (u : Target b) × IsChange ts u × (u.at.0 ≡ s)
change_of b d ts s x (u, has, at, under, bytes) differs = (u, (has, λ same. differs (sym bytes ∙ same ∙ under)), at)

-- two lists of label targets change the same sectors
pub labels_one : (b : ℕ) (d : Sectors) (o : Option Layout) (p : Layout) (ts us : List (Target b)) (t : Target b) → HasFour p.body
    → AreLabelTargets d o p ts → AreLabelTargets d o p us → ¬ HasTwoOfOne ts → IsChange ts t
    → (u : Target b) × IsChange us u × (u.at.0 ≡ t.at.0)
labels_one b d o p ts us t four are others one change =
    let has = labels_have b d o p ts are in
    let also = labels_have b d o p us others in
    let pair = places_pair b d o p (Held d ts) (Held d us) t.at.0 four has also (are.each t change.0) in
    let x = changed_other b d ts t (Held d us) one change pair in
    change_of b d us t.at.0 x.0 x.1 x.2

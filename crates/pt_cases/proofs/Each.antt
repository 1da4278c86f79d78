-- No two label targets of a sound layout are of one sector.
use Rattle.std.proofs.Common.{◌≡◌, ◌∙◌, inl, inr, ℕ, zero, suc, ◌<◌, List, [], ◌∷◌, length, Option, refl, sym, arith}
use Rattle.std.proofs.lemmas.List.{length-map}
use Rattle.pt_sector.specs.Sectors.{Sectors}
use Rattle.pt_members.specs.Members.{places_of, place_of}
use Rattle.pt_members.specs.declared.layout.Labelled.{Labelled}
use Rattle.pt_members.specs.declared.layout.Layout.{Layout}
use Rattle.pt_members.specs.declared.layout.Slice.{Slice}
use Rattle.pt_members.specs.Tables.{HasFour}
use Rattle.pt_layout.specs.Sound.{Sound}
use Rattle.pt_cases.specs.Writes.{Along}
use Rattle.pt_cases.specs.Keeps.{IsNth, Covers, AllDiffer, label_sectors}
use Rattle.pt_cases.proofs.Covers.{covering_differs_lem}
use Rattle.pt_cases.proofs.Differ.{labels_differ_lem}
use Rattle.pt_cases.specs.Targets.{AreLabelTargets, HasTwoOfOne, Targeted, sector_of}
use Rattle.pt_cases.specs.declared.targets.target.Target.{Target}

-- the sector of a target
abbrev pub place : {b : ℕ} → Target b → ℕ
place t = t.at.0

-- target i of some
target_at : {b : ℕ} (ts : List (Target b)) (i : ℕ) → i < length ts → (t : Target b) × IsNth ts i t × (place t ≡ sector_of ts i)
target_at [] i lt = absurd (omega (arith, lt))
target_at (t ∷ ts) zero lt = (t, (omega arith, refl), refl)
target_at (t ∷ ts) (suc i) lt = (let more = target_at ts i (omega (arith, lt)) in (more.0, (omega (arith, more.1.0), more.1.1), more.2))

-- as many targets as different sectors, with one of each: no two are of one
pub none_share : {b : ℕ} (ys : List ℕ) (ts : List (Target b)) → AllDiffer ys → Covers place ts ys → length ts ≡ length ys → ¬ HasTwoOfOne ts
none_share ys ts differ covers count two =
    let t = target_at ts two.i (omega (arith, two.order, two.within)) in
    let u = target_at ts two.j two.within in
    covering_differs_lem place ys ts differ covers count two.i two.j t.0 u.0 two.order t.1 u.1 (t.2 ∙ two.same ∙ sym u.2)

-- each label place has a target
pub labels_cover : {b : ℕ} (d : Sectors) (o : Option Layout) (ts : List (Target b)) (ws : List Slice) (labels : List Labelled)
    → Along (Targeted d o ts) ws labels → Covers place ts (label_sectors ws)
labels_cover d o ts [] labels is s has = absurd (omega (arith, has.1))
labels_cover d o ts (w ∷ ws) labels (inl (l, rest, same, here, later)) s (zero, lt, at) = (here.0, here.1, here.2 ∙ at)
labels_cover d o ts (w ∷ ws) labels (inl (l, rest, same, here, later)) s (suc k, lt, at) =
    labels_cover d o ts ws rest later s (k, omega (arith, lt), at)
labels_cover d o ts (w ∷ ws) labels (inr (here, later)) s (zero, lt, at) = (here.0, here.1, here.2 ∙ at)
labels_cover d o ts (w ∷ ws) labels (inr (here, later)) s (suc k, lt, at) = labels_cover d o ts ws labels later s (k, omega (arith, lt), at)

-- so no two of them are of one sector
pub one_each : (b : ℕ) (d : Sectors) (o : Option Layout) (p : Layout) → HasFour p.body → Sound b p → (ts : List (Target b))
    → AreLabelTargets d o p ts → ¬ HasTwoOfOne ts
one_each b d o p four sound ts are =
    let places : List Slice = places_of b p.sectors p.body in
    none_share (label_sectors places) ts (labels_differ_lem b p four sound) (labels_cover d o ts places p.labels are.has)
    (are.count ∙ sym (length-map places (λ (w : Slice). place_of w)))

-- Where a plan changes one label, nothing keeps it from having one switch, and what it writes isn't owned.
use Rattle.std.proofs.Common.{◌≡◌, ◌≢◌, ◌∙◌, inl, inr, ⊎_elim, ℕ, zero, suc, ◌<◌, List, [], ◌∷◌, length, Option, Some, None, refl, sym}
use Rattle.std.proofs.Common.{ap, subst, arith}
use Rattle.std.specs.Prelude.{Contains, get_or}
use Rattle.std.proofs.lemmas.Bool.{cases_lt}
use Rattle.std.proofs.lemmas.List.{get_or_default}
use Rattle.pt_sector.specs.Sectors.{Sectors, sector, Writes, Puts}
use Rattle.pt_bsd.specs.Labels.{LabelBytes}
use Rattle.pt_bsd.specs.declared.label.Label.{Label}
use Rattle.pt_gpt.specs.declared.table.Table.{Table}
use Rattle.pt_recover.specs.Denotes.{Denotes, BodyIs}
use Rattle.pt_members.specs.Members.{places_of, place_of, IsPlace, label_of}
use Rattle.pt_members.specs.declared.layout.Body.{Body}
use Rattle.pt_members.specs.declared.layout.Body.TheVariants.{Mbr, Gpt}
use Rattle.pt_members.specs.declared.layout.Labelled.{Labelled}
use Rattle.pt_members.specs.declared.layout.Layout.{Layout}
use Rattle.pt_members.specs.declared.layout.Slice.{Slice}
use Rattle.pt_layout.specs.Healthy.{IsGuarded, place}
use Rattle.pt_members.specs.Tables.{HasFour}
use Rattle.pt_apply.specs.Plans.{writes_in}
use Rattle.pt_cases.proofs.LabelPlaces.{place_in}
use Rattle.pt_cases.specs.Cases.{IsOneLabel}
use Rattle.pt_cases.proofs.Causes.{had_one}
use Rattle.pt_cases.specs.Writes.{one_write, NumbersAscend, Along, Had, IsLabelTarget, kept, changed, new, Met}
use Rattle.pt_cases.proofs.Frames.{one_is}
use Rattle.pt_cases.proofs.MetLemmas.{target_reads}
use Rattle.pt_cases.proofs.Ascending.{places_ascend_lem}
use Rattle.pt_cases.proofs.Along.{along_at}
use Rattle.pt_cases.specs.Unplanned.{TargetsIn, TargetsOf, IsReused, HasNoTurn, SharesSector, HasNoSwitch, unreadable, unmade, turn}
use Rattle.pt_cases.specs.Unplanned.{copies}
use Rattle.pt_cases.specs.Unplanned as cause
use Rattle.pt_cases.specs.Targets.{AreLabelTargets, HasTwoOfOne, IsChange, IsPlaceTarget, Targeted, sector_of}
use Rattle.pt_cases.specs.declared.targets.target.Target.{Target}
use Rattle.pt_cases.proofs.Each.{one_each}
use Rattle.pt_cases.proofs.Planned.{labels_readable}
use Rattle.pt_cases.proofs.Tables.{label_changes}

-- the slice of a label place
pub slice_of : (ps : List Slice) (s : ℕ) → IsPlace ps s → (w : Slice) × Contains ps w × (place_of w ≡ s)
slice_of ps s is = let h = place_in ps s is in (h.0, h.1, sym h.2)

-- what holds along slices and labels, twice, holds of one and the same label of a slice
pub record Zip (P Q : Slice → Option Label → Type 0) (w : Slice) : Type 0 where
  pub label : Option Label
  pub first : P w label
  pub second : Q w label

pub zipped : (P Q : Slice → Option Label → Type 0) (low : ℕ) (ps : List Slice) (labels : List Labelled) (w : Slice)
    → NumbersAscend low ps → Along P ps labels → Along Q ps labels → Contains ps w → Zip P Q w
zipped P Q low ps labels w up first second has = record {
  label = label_of labels w.number;
  first = along_at P low ps labels w up first has;
  second = along_at Q low ps labels w up second has;
}

sector_here : {b : ℕ} (ts : List (Target b)) (x : Target b) (i : ℕ) → i < length ts → get_or ts i x ≡ x → sector_of ts i ≡ x.at.0
sector_here [] x i lt at = absurd (omega (arith, lt))
sector_here (y ∷ ts) x zero lt at = ap (λ (z : Target _). z.at.0) at
sector_here (y ∷ ts) x (suc i) lt at = sector_here ts x i (omega (arith, lt)) at

-- where no two targets are of one sector, a sector tells its target
pub same_target : {b : ℕ} (ts : List (Target b)) (x y : Target b) → ¬ HasTwoOfOne ts → Contains ts x → Contains ts y → x.at.0 ≡ y.at.0
    → x ≡ y
same_target ts x y one (i, i_lt, at) (j, j_lt, to) same =
    let x_at = sector_here ts x i i_lt at in
    let y_at = sector_here ts y j j_lt to in
    ⊎_elim
    (λ less. absurd (one (record { i = i; j = j; order = less; within = j_lt; same = x_at ∙ same ∙ sym y_at })))
    (λ no_less. ⊎_elim
    (λ more. absurd (one (record { i = j; j = i; order = more; within = i_lt; same = y_at ∙ sym same ∙ sym x_at })))
    (λ no_more. (let index : i ≡ j = omega (arith, no_less, no_more) in
    sym at ∙ get_or_default ts i x y i_lt ∙ ap (λ (k : ℕ). get_or ts k y) index ∙ to))
    (cases_lt j i))
    (cases_lt i j)

module _ (b : ℕ) (d : Sectors) (o : Option Layout) (p : Layout) (t : Table) (phases : List Writes) (is : IsOneLabel b d o p t phases) where
  four : HasFour p.body
  four = subst HasFour (sym is.body) tt

  labels_had : (w : Slice) (l : Label) → Contains (places_of b p.sectors p.body) w → LabelBytes l w.first w.len (sector d (place_of w))
      → Had b d o (place_of w) l
  labels_had w l stands bytes = (
    is.old,
    is.is_old,
    record {
      slice = w;
      stands = subst (λ (y : Body). Contains (places_of b (length d) y) w) (sym is.same)
          (subst (λ (n : ℕ). Contains (places_of b n p.body) w) is.common.sectors stands);
      place = refl;
      label = bytes;
    },
  )

  -- a target that changes is of a label that wasn't there, and the other way round
  unheld : (w : Slice) (l : Label) (x : Target b) → IsPlaceTarget d o w (Some l) x → x.bytes ≢ x.under → ¬ Had b d o (place_of w) l
  unheld w l x (inl (kind, had, reads, same)) diff h = diff same
  unheld w l x (inr (inl (kind, (m, had, other), encoded))) diff h = other (had_one b d o (place_of w) m l had h)
  unheld w l x (inr (inr (kind, none, fresh))) diff h = none l h

  differs : (w : Slice) (l : Label) (x : Target b) → Contains (places_of b p.sectors p.body) w → x.under ≡ sector d (place_of w)
      → ¬ Had b d o (place_of w) l → IsPlaceTarget d o w (Some l) x → x.bytes ≢ x.under
  differs w l x stands under none (inl (kind, had, reads, same)) alike = none had
  differs w l x stands under none (inr (inl (kind, it, encoded))) alike =
      none (labels_had w l stands (subst (LabelBytes l w.first w.len) (alike ∙ under) encoded.reads))
  differs w l x stands under none (inr (inr (kind, it, fresh))) alike =
      none (labels_had w l stands (subst (LabelBytes l w.first w.len) (alike ∙ under) fresh.encoded.reads))

  -- and so is what the plan writes
  met_put : (w : Slice) (l : Label) → Contains (places_of b p.sectors p.body) w → ¬ Had b d o (place_of w) l
      → Met b d o (one_write is.loud.0 is.loud.1) w (Some l) → place_of w ≡ is.loud.0
  met_put w l stands none (v, target, inl puts) = one_is is.loud.0 (place_of w) is.loud.1 v puts
  met_put w l stands none (v, target, inr (same, never)) =
      absurd (none (labels_had w l stands (subst (LabelBytes l w.first w.len) same (target_reads b d o w l v target))))

  put_unheld : (w : Slice) (l : Label) (v : List ℕ) → IsLabelTarget b d o w l v → v ≢ sector d (place_of w) → ¬ Had b d o (place_of w) l
  put_unheld w l v (kept had reads same) diff h = diff same
  put_unheld w l v (changed m had other encoded) diff h = other (had_one b d o (place_of w) m l had h)
  put_unheld w l v (new none encoded) diff h = none l h

  of_slice : (ts : List (Target b)) → AreLabelTargets d o p ts → (w : Slice) → Contains (places_of b p.sectors p.body) w
      → Zip (Targeted d o ts) (Met b d o (one_write is.loud.0 is.loud.1)) w
  of_slice ts are w stands =
      zipped (Targeted d o ts) (Met b d o (one_write is.loud.0 is.loud.1)) 1 (places_of b p.sectors p.body) p.labels w
      (places_ascend_lem b p.sectors p.body four) are.has is.met stands

  change_by : (ts : List (Target b)) (x : Target b) (w : Slice) (l : Option Label) → AreLabelTargets d o p ts → IsChange ts x
      → Contains (places_of b p.sectors p.body) w → place_of w ≡ x.at.0 → Targeted d o ts w l
      → Met b d o (one_write is.loud.0 is.loud.1) w l → x.at.0 ≡ is.loud.0
  change_by ts x w None are change stands at (y, has, y_at, under, it) met =
      let same = same_target ts x y (one_each b d o p four is.common.sound ts are) change.0 has (sym at ∙ sym y_at) in
      absurd (change.1 (subst (λ (z : Target b). z.bytes ≡ z.under) (sym same) it.2))
  change_by ts x w (Some l) are change stands at (y, has, y_at, under, it) met =
      let same = same_target ts x y (one_each b d o p four is.common.sound ts are) change.0 has (sym at ∙ sym y_at) in
      sym at ∙ met_put w l stands (unheld w l y it (subst (λ (z : Target b). z.bytes ≢ z.under) same change.1)) met

  -- a target that changes is of the sector that the plan writes
  change_at : (ts : List (Target b)) (x : Target b) → AreLabelTargets d o p ts → IsChange ts x → x.at.0 ≡ is.loud.0
  change_at ts x are change =
      let w = slice_of (places_of b p.sectors p.body) x.at.0 (are.each x change.0) in
      let zip = of_slice ts are w.0 w.1 in
      change_by ts x w.0 zip.label are change w.1 w.2 zip.first zip.second

  loud_by : (ts : List (Target b)) (w : Slice) (l : Option Label) → Contains (places_of b p.sectors p.body) w → place_of w ≡ is.loud.0
      → Targeted d o ts w l → Met b d o (one_write is.loud.0 is.loud.1) w l → (x : Target b) × IsChange ts x × (x.at.0 ≡ is.loud.0)
  loud_by ts w None stands at it met = absurd (met.1 is.loud.1 (inl (sym at, refl)))
  loud_by ts w (Some l) stands at (y, has, y_at, under, it) (v, target, inr (same, never)) = absurd (never is.loud.1 (inl (sym at, refl)))
  loud_by ts w (Some l) stands at (y, has, y_at, under, it) (v, target, inl puts) =
      let written : is.loud.1 ≡ v = ⊎_elim (λ put. put.1) (λ none. absurd none) puts in
      let diff : v ≢ sector d (place_of w) = λ same. is.other (written ∙ same ∙ ap (sector d) at) in
      (y, (has, differs w l y stands under (put_unheld w l v target diff) it), y_at ∙ at)

  -- and that one has a target that changes
  loud_change : (ts : List (Target b)) → AreLabelTargets d o p ts → (x : Target b) × IsChange ts x × (x.at.0 ≡ is.loud.0)
  loud_change ts are =
      let w = slice_of (places_of b p.sectors p.body) is.loud.0 is.place in
      let zip = of_slice ts are w.0 w.1 in
      loud_by ts w.0 zip.label w.1 w.2 zip.first zip.second

  label_targets : (ts : List (Target b)) → TargetsOf b d o p ts → AreLabelTargets d o p ts
  label_targets ts x = (subst (λ (y : Body). TargetsIn b d o p y ts) is.body x).1

  guarded : IsGuarded b d is.loud.0
  guarded =
      place p.body (subst (BodyIs b d) is.same (subst (Denotes b d) is.is_old is.common.from).1)
      (subst (λ (n : ℕ). IsPlace (places_of b n p.body) is.loud.0) is.common.sectors is.place)

  label_shares : ¬ SharesSector b d o p
  label_shares (ts, inl x, two) = one_each b d o p four is.common.sound ts (label_targets ts x) two
  label_shares (ts, inr x, two) = x.0.other (label_changes b d o p t phases is)

  label_turn : ¬ HasNoTurn b d o p
  label_turn (inl (ts, x, free, inl none)) =
      (let it = loud_change ts (label_targets ts x) in none it.0 it.1 (subst (IsGuarded b d) (sym it.2) guarded))
  label_turn (inl (ts, x, free, inr (u, v, first, second, g, h, less))) =
      let are = label_targets ts x in
      omega (arith, less, change_at ts u are first, change_at ts v are second)
  label_turn (inr shares) = label_shares shares

  pub label_switch : ¬ HasNoSwitch b d o p
  label_switch (unreadable x) = labels_readable b d o p (record { writes = one_write is.loud.0 is.loud.1; four = four; met = is.met }) x
  label_switch (unmade records chain x was none) = (let two : Gpt t ≡ Mbr records chain = sym is.body ∙ x in cc)
  label_switch (turn x) = label_turn x
  label_switch (copies (inl x)) = x.both.other (label_changes b d o p t phases is)
  label_switch (copies (inr shares)) = label_shares shares

  pub label_frees : ¬ IsReused b d o p
  label_frees (s, cause.both both x, owned) = both.other (label_changes b d o p t phases is)
  label_frees (s, cause.target ts x of change at, owned) =
      let loud : is.loud.0 ≡ s = sym (change_at ts x (label_targets ts of) change) ∙ at in
      is.common.free s is.loud.1 (subst (λ (ps : List Writes). Puts (writes_in ps) s is.loud.1) (sym is.is) (inl (loud, refl))) owned

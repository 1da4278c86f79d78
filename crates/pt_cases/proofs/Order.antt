-- Of several causes the planner tells the first, so two of its errors are one.
use Rattle.std.proofs.Common.{◌≡◌, ◌∙◌, ◌⊎◌, inl, inr, ℕ, ◌≤◌, List, [], ◌∷◌, Option, Some, refl, sym, ap, subst, arith}
use Rattle.pt_sector.specs.Sectors.{Sectors}
use Rattle.pt_recover.specs.Denotes.{Denotes, BodyIs}
use Rattle.pt_members.specs.Members.{places_of, IsPlace, slices_of, number_path}
use Rattle.pt_recover.proofs.Terms.{denotes_one_lem}
use Rattle.pt_members.specs.declared.layout.Body.{Body}
use Rattle.pt_members.specs.declared.layout.Body.TheVariants.{Mbr, Gpt}
use Rattle.pt_members.specs.declared.layout.Labelled.{Labelled}
use Rattle.pt_members.specs.declared.layout.Layout.{Layout}
use Rattle.pt_members.specs.declared.layout.Slice.{Slice}
use Rattle.pt_layout.specs.Healthy.{IsBodyBroken, IsGuarded, place, HasEight}
use Rattle.pt_layout.proofs.Terms.{unsound_excludes_lem}
use Rattle.pt_layout.proofs.OneFindingLemmas.{unsound_one}
use Rattle.pt_layout.specs.Sound.{Sound}
use Rattle.pt_layout.specs.declared.sound.finding.Finding.{Finding}
use Rattle.pt_layout.specs.declared.sound.finding.Finding.TheVariants.{ForeignLabel}
use Rattle.pt_cases.specs.Writes.{AreLabelsOf, Shaped}
use Rattle.pt_members.specs.Tables.{OwnedOf}
use Rattle.pt_cases.specs.Unplanned.{WritesBoth, TargetsIn, TargetsOf, TurnsAmiss, CopiesAmiss, IsReused, IsUnmended, IsFailure, NoneLeft}
use Rattle.pt_cases.specs.Unplanned.{NoSwitch, other_disk, misplaced, targets, HasNoSwitch, unreadable, unmade, turn, copies}
use Rattle.pt_cases.specs.Unplanned.{LeavesForeign, Unplanned}
use Rattle.pt_cases.specs.Unplanned as cause
use Rattle.pt_cases.specs.Targets.{IsChange}
use Rattle.pt_cases.specs.declared.targets.error.PlanError.{PlanError}
use Rattle.pt_cases.specs.declared.targets.error.PlanError.TheVariants.{NotOneSwitch, ReusedInOneBatch, NeedsRepair, Unsound, Device}
use Rattle.pt_cases.specs.declared.targets.error.PlanError.TheVariants.{Memory}
use Rattle.pt_cases.specs.declared.targets.target.Target.{Target}
use Rattle.pt_cases.proofs.SameTargets.{Fitting, targets_one}

-- each label of a shaped layout has places for eight entries
labels_eight : (ss : List Slice) (labels : List Labelled) → AreLabelsOf ss labels → HasEight labels
unfolding HasEight
labels_eight [] labels are = subst HasEight (sym are) tt
labels_eight (s ∷ ss) labels (inl (l, rest, same, fits, more)) = subst HasEight (sym same) (fits.counted.places, labels_eight ss rest more)
labels_eight (s ∷ ss) labels (inr more) = labels_eight ss labels more

-- the labels of a shaped layout have places for eight entries
pub shaped_eight : (b : ℕ) (p : Layout) → Shaped b p → HasEight p.labels
shaped_eight b p shaped = labels_eight (slices_of b p.body) p.labels shaped.labels

-- one foreign label is the first
foreign_once : (b : ℕ) (d : Sectors) (p : Layout) (f g : Finding) → LeavesForeign b d p f → LeavesForeign b d p g → g ≡ f
foreign_once b d p f g x y =
    let there : x.number ≤ y.first.slice.number = x.first.first y.first.slice y.first.left in
    let back : y.number ≤ x.first.slice.number = y.first.first x.first.slice x.first.left in
    let one : y.number ≡ x.number = omega (arith, there, back, x.first.number, y.first.number) in
    y.is ∙ ap (λ (n : ℕ). ForeignLabel (number_path n)) one ∙ sym x.is

-- one finding is the first
unsound_once : (b : ℕ) (d : Sectors) (p : Layout) (f g : Finding) → HasEight p.labels → Unplanned b d p (Unsound f)
    → Unplanned b d p (Unsound g) → g ≡ f
unsound_once b d p f g eight (inl x) (inl y) = unsound_one b p g f eight y x
unsound_once b d p f g eight (inl x) (inr y) = absurd (unsound_excludes_lem b p f x y.sound)
unsound_once b d p f g eight (inr x) (inl y) = absurd (unsound_excludes_lem b p g y x.sound)
unsound_once b d p f g eight (inr x) (inr y) = foreign_once b d p f g x y

-- where a layout is unsound or leaves a foreign label, it isn't sound and without any
unsound_alone : (b : ℕ) (d : Sectors) (p : Layout) (f : Finding) → Unplanned b d p (Unsound f) → Sound b p → ¬ NoneLeft b d p
unsound_alone b d p f (inl unsound) sound none = unsound_excludes_lem b p f unsound sound
unsound_alone b d p f (inr foreign) sound none = none foreign.first.slice foreign.first.left

-- of a layout that fits, no cause but those of its targets is left
none_stays : (b : ℕ) (d : Sectors) (o : Option Layout) (p : Layout) → Fitting b d o p → NoSwitch b d o p → NoneLeft b d p
none_stays b d o p fits (other_disk isnt) = absurd (isnt fits.may)
none_stays b d o p fits (misplaced isnt) = absurd (isnt fits.labels)
none_stays b d o p fits (targets none why) = none

-- and of those there are two: the turn is amiss, or the copies are
causes_left : (b : ℕ) (d : Sectors) (o : Option Layout) (p : Layout) → Fitting b d o p → HasNoSwitch b d o p
    → TurnsAmiss b d o p ⊎ CopiesAmiss b d o p
causes_left b d o p fits (unreadable x) = absurd (fits.readable x)
causes_left b d o p fits (unmade records chain body was x) = absurd (fits.made records chain body was x)
causes_left b d o p fits (turn (inl x)) = inl x
causes_left b d o p fits (turn (inr shares)) = absurd (fits.apart shares)
causes_left b d o p fits (copies (inl x)) = inr x
causes_left b d o p fits (copies (inr shares)) = absurd (fits.apart shares)

-- and so it is with any cause
switch_left : (b : ℕ) (d : Sectors) (o : Option Layout) (p : Layout) → Fitting b d o p → NoSwitch b d o p
    → TurnsAmiss b d o p ⊎ CopiesAmiss b d o p
switch_left b d o p fits (other_disk isnt) = absurd (isnt fits.may)
switch_left b d o p fits (misplaced isnt) = absurd (isnt fits.labels)
switch_left b d o p fits (targets none why) = causes_left b d o p fits why

-- an unsound layout, or a foreign label, is reported first
pub unsound_first_lem : (b : ℕ) (d : Sectors) (o : Option Layout) (p : Layout) (f : Finding) (e : PlanError) → HasEight p.labels
    → Denotes b d o → (Sound b p → Fitting b d o p) → Unplanned b d p (Unsound f) → Unplanned b d p e → ¬ IsFailure e → e ≡ Unsound f
unsound_first_lem b d o p f (Unsound g) eight from fits first is real = ap Unsound (unsound_once b d p f g eight first is)
unsound_first_lem b d o p f NotOneSwitch eight from fits first is real =
    let why = subst (λ (x : Option Layout). NoSwitch b d x p) (denotes_one_lem b d is.old o is.from from) is.cause in
    absurd (unsound_alone b d p f first is.sound (none_stays b d o p (fits is.sound) why))
unsound_first_lem b d o p f ReusedInOneBatch eight from fits first is real = absurd (unsound_alone b d p f first is.sound is.cause.0)
unsound_first_lem b d o p f NeedsRepair eight from fits first is real = absurd (unsound_alone b d p f first is.sound is.cause.0)
unsound_first_lem b d o p f (Device fault) eight from fits first is real = absurd (real tt)
unsound_first_lem b d o p f Memory eight from fits first is real = absurd (real tt)

-- both copies are written where no targets are
both_or_targets : (b : ℕ) (d : Sectors) (o : Option Layout) (p : Layout) (ts : List (Target b)) → WritesBoth o p → ¬ TargetsOf b d o p ts
both_or_targets b d o p ts both are = both.other (subst (λ (y : Body). TargetsIn b d o p y ts) both.body are).0

-- where the turn alone is amiss, nothing that would be written is owned
turn_frees : (b : ℕ) (d : Sectors) (o : Option Layout) (p : Layout) → Fitting b d o p → TurnsAmiss b d o p → ¬ IsReused b d o p
turn_frees b d o p fits (ts, are, free, none) (s, cause.both both would, owned) = both_or_targets b d o p ts both are
turn_frees b d o p fits (ts, are, free, none) (s, cause.target us t of change at, owned) =
    let u = targets_one b d o p us ts t fits of are change in
    free u.0 u.1 (subst (OwnedOf b o) (sym (u.2 ∙ at)) owned)

-- nor where the copies are
copies_free : (b : ℕ) (d : Sectors) (o : Option Layout) (p : Layout) → CopiesAmiss b d o p → ¬ IsReused b d o p
copies_free b d o p is (s, cause.both both would, owned) = is.free s would owned
copies_free b d o p is (s, cause.target us t of change at, owned) = both_or_targets b d o p us is.both of

-- labels alone change in a GPT, so their targets are those of the layout
unmended_targets : (b : ℕ) (d : Sectors) (o : Option Layout) (p : Layout) (y : Body) (is : IsUnmended b d o p) → p.body ≡ y
    → TargetsIn b d o p y is.items
unmended_targets b d o p (Gpt t) is body = (is.changes, is.places)
unmended_targets b d o p (Mbr records chain) is body =
    absurd (subst (λ (y : Body). IsBodyBroken b d y is.finding) (is.changes.same ∙ body) is.broken)

-- so those that it has are the targets of p
unmended_are : (b : ℕ) (d : Sectors) (o : Option Layout) (p : Layout) (is : IsUnmended b d o p) → TargetsOf b d o p is.items
unmended_are b d o p is = unmended_targets b d o p p.body is refl

-- the sector that changes then is where all changes are
lone_at : (b : ℕ) (d : Sectors) (o : Option Layout) (p : Layout) (is : IsUnmended b d o p) (ts : List (Target b)) (t : Target b)
    → Fitting b d o p → TargetsOf b d o p ts → IsChange ts t → t.at.0 ≡ is.target.at.0
lone_at b d o p is ts t fits are change =
    let u = targets_one b d o p ts is.items t fits are (unmended_are b d o p is) change in
    sym u.2 ∙ is.lone.one u.0 u.1

-- so nothing that would be written is owned there
unmended_frees : (b : ℕ) (d : Sectors) (o : Option Layout) (p : Layout) → Fitting b d o p → IsUnmended b d o p → ¬ IsReused b d o p
unmended_frees b d o p fits is (s, cause.both both would, owned) = both.other is.changes
unmended_frees b d o p fits is (s, cause.target ts t are change at, owned) =
    is.lone.free (subst (OwnedOf b o) (sym at ∙ lone_at b d o p is ts t fits are change) owned)

-- a sector in use is reported before a switch that isn't one, and before a repair
pub reused_first_lem : (b : ℕ) (d : Sectors) (o : Option Layout) (p : Layout) → Denotes b d o → (Sound b p → Fitting b d o p)
    → Unplanned b d p NotOneSwitch ⊎ Unplanned b d p NeedsRepair → ¬ IsReused b d o p
reused_first_lem b d o p from fits (inl is) reused =
    let why = subst (λ (x : Option Layout). NoSwitch b d x p) (denotes_one_lem b d is.old o is.from from) is.cause in
    by_cause (switch_left b d o p (fits is.sound) why)
  where
    by_cause : TurnsAmiss b d o p ⊎ CopiesAmiss b d o p → ⊥
    by_cause (inl x) = turn_frees b d o p (fits is.sound) x reused
    by_cause (inr x) = copies_free b d o p x reused
reused_first_lem b d o p from fits (inr is) reused =
    let why = subst (λ (x : Option Layout). IsUnmended b d x p) (denotes_one_lem b d is.old o is.from from) is.cause.1 in
    unmended_frees b d o p (fits is.sound) why reused

-- the one sector that changes is a label place, with which the disk turns
lone_guarded : (b : ℕ) (d : Sectors) (o : Option Layout) (p : Layout) (is : IsUnmended b d o p) → Denotes b d o → Fitting b d o p
    → IsGuarded b d is.target.at.0
lone_guarded b d o p is from fits =
    let old : Denotes b d (Some is.changes.old) = subst (Denotes b d) is.changes.is_old from in
    let at = is.places.each is.target is.lone.change.0 in
    let here = subst (λ (n : ℕ). IsPlace (places_of b n p.body) is.target.at.0) fits.may.sectors at in
    place p.body (subst (BodyIs b d) is.changes.same old.1) here

-- so the turn is one
unmended_turns : (b : ℕ) (d : Sectors) (o : Option Layout) (p : Layout) → Denotes b d o → Fitting b d o p → IsUnmended b d o p
    → ¬ TurnsAmiss b d o p
unmended_turns b d o p from fits is (ts, are, free, inl none) =
    let u = targets_one b d o p is.items ts is.target fits (unmended_are b d o p is) are is.lone.change in
    none u.0 u.1 (subst (IsGuarded b d) (sym u.2) (lone_guarded b d o p is from fits))
unmended_turns b d o p from fits is (ts, are, free, inr (t, u, first, second, g, h, less)) =
    omega (arith, less, lone_at b d o p is ts t fits are first, lone_at b d o p is ts u fits are second)

-- and that there isn't one switch, before a repair
pub switch_first_lem : (b : ℕ) (d : Sectors) (o : Option Layout) (p : Layout) → Denotes b d o → (Sound b p → Fitting b d o p)
    → Unplanned b d p NeedsRepair → ¬ NoSwitch b d o p
switch_first_lem b d o p from fits is cause = by_cause (switch_left b d o p (fits is.sound) cause)
  where
    why : IsUnmended b d o p
    why = subst (λ (x : Option Layout). IsUnmended b d x p) (denotes_one_lem b d is.old o is.from from) is.cause.1

    by_cause : TurnsAmiss b d o p ⊎ CopiesAmiss b d o p → ⊥
    by_cause (inl x) = unmended_turns b d o p from (fits is.sound) why x
    by_cause (inr x) = x.both.other why.changes

-- so two errors are one, but for failures
module _ (b : ℕ) (d : Sectors) (o : Option Layout) (p : Layout) (eight : HasEight p.labels) (from : Denotes b d o)
    (fits : Sound b p → Fitting b d o p) where
  -- what is reported of a sector in use holds of what the disk denotes
  reused_of : Unplanned b d p ReusedInOneBatch → IsReused b d o p
  reused_of is = subst (λ (q : Option Layout). IsReused b d q p) (denotes_one_lem b d is.old o is.from from) is.cause.1

  -- and so does what is reported of the switch
  switch_of : Unplanned b d p NotOneSwitch → NoSwitch b d o p
  switch_of is = subst (λ (q : Option Layout). NoSwitch b d q p) (denotes_one_lem b d is.old o is.from from) is.cause

  no_two_switch : Unplanned b d p NotOneSwitch → ¬ Unplanned b d p ReusedInOneBatch
  no_two_switch x y = reused_first_lem b d o p from fits (inl x) (reused_of y)

  no_two_repair : Unplanned b d p NeedsRepair → ¬ Unplanned b d p ReusedInOneBatch
  no_two_repair x y = reused_first_lem b d o p from fits (inr x) (reused_of y)

  no_two_last : Unplanned b d p NeedsRepair → ¬ Unplanned b d p NotOneSwitch
  no_two_last x y = switch_first_lem b d o p from fits x (switch_of y)

  pub error_once : (e f : PlanError) → Unplanned b d p e → Unplanned b d p f → ¬ IsFailure e → ¬ IsFailure f → e ≡ f
  error_once (Unsound g) f x y first second = sym (unsound_first_lem b d o p g f eight from fits x y second)
  error_once NotOneSwitch (Unsound g) x y first second = unsound_first_lem b d o p g NotOneSwitch eight from fits y x first
  error_once NotOneSwitch NotOneSwitch x y first second = refl
  error_once NotOneSwitch ReusedInOneBatch x y first second = absurd (no_two_switch x y)
  error_once NotOneSwitch NeedsRepair x y first second = absurd (no_two_last y x)
  error_once NotOneSwitch (Device fault) x y first second = absurd (second tt)
  error_once NotOneSwitch Memory x y first second = absurd (second tt)
  error_once ReusedInOneBatch (Unsound g) x y first second = unsound_first_lem b d o p g ReusedInOneBatch eight from fits y x first
  error_once ReusedInOneBatch NotOneSwitch x y first second = absurd (no_two_switch y x)
  error_once ReusedInOneBatch ReusedInOneBatch x y first second = refl
  error_once ReusedInOneBatch NeedsRepair x y first second = absurd (no_two_repair y x)
  error_once ReusedInOneBatch (Device fault) x y first second = absurd (second tt)
  error_once ReusedInOneBatch Memory x y first second = absurd (second tt)
  error_once NeedsRepair (Unsound g) x y first second = unsound_first_lem b d o p g NeedsRepair eight from fits y x first
  error_once NeedsRepair NotOneSwitch x y first second = absurd (no_two_last x y)
  error_once NeedsRepair ReusedInOneBatch x y first second = absurd (no_two_repair x y)
  error_once NeedsRepair NeedsRepair x y first second = refl
  error_once NeedsRepair (Device fault) x y first second = absurd (second tt)
  error_once NeedsRepair Memory x y first second = absurd (second tt)
  error_once (Device fault) f x y first second = absurd (first tt)
  error_once Memory f x y first second = absurd (first tt)

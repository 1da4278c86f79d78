-- From the parts of a plan to the planner's answer.
use Rattle.std.proofs.Common.{◌≡◌, ◌↔◌, inl, inr, ℕ, zero, suc, ◌<◌, List, [], ◌∷◌, length, Bool, true, false, Option, Some, None, Result}
use Rattle.std.proofs.Common.{Ok, Err, IfOk, IfErr, IsTrue, All, refl, subst, arith, sym}
use Rattle.std.specs.Prelude.{Contains, get_or}
use Rattle.pt_sector.specs.Sectors.{Sectors, sector}
use Rattle.pt_gpt.specs.Copies.{HasCopy}
use Rattle.pt_gpt.specs.declared.table.Side.TheVariants.{Primary}
use Rattle.pt_gpt.specs.declared.table.Table.{Table}
use Rattle.pt_recover.specs.Denotes.{Denotes, IsMbrDisk}
use Rattle.pt_recover.proofs.Terms.{denotes_one_lem}
use Rattle.pt_mbr.specs.Records.{extended_of}
use Rattle.pt_members.specs.declared.layout.Body.TheVariants.{Mbr, Gpt}
use Rattle.pt_members.specs.declared.layout.Layout.{Layout}
use Rattle.pt_layout.specs.Healthy.{IsBodyBroken, IsLayoutFinding, IsHealthy, IsBodyWhole}
use Rattle.pt_layout.specs.Sound.{Sound}
use Rattle.pt_layout.specs.Surveys.{HeadOf, FindingIs, IsSurvey}
use Rattle.pt_layout.specs.declared.survey.Survey.{Survey}
use Rattle.pt_layout.specs.declared.sound.finding.Finding.{Finding}
use Rattle.pt_layout.specs.declared.sound.finding.Finding.TheVariants as finding
use Rattle.pt_layout.specs.declared.health.Head.{Head}
use Rattle.pt_layout.specs.declared.health.Head.TheVariants as head
use Rattle.pt_cases.specs.Cases.{ChangesLabels, MayBePlanned, HadMbr}
use Rattle.pt_cases.specs.Writes.{FitsTable, IsLoneChain}
use Rattle.pt_cases.specs.Unplanned.{NoneLeft, HasNoTurn, HasNoCopies, Start, StopsBy, other_disk, misplaced, targets, unreadable, turn}
use Rattle.pt_cases.specs.Unplanned.{copies, Unplanned}
use Rattle.pt_planner.specs.Phases.{OrderIs, HeadAsRead, HeadIn, CopiesStart, MbrStart, LabelStart, Unbroken}
use Rattle.pt_planner.specs.declared.phases.copies.Order.{Order}
use Rattle.pt_cases.specs.Targets.{AreLabelTargets, AreMbrTargets}
use Rattle.pt_cases.specs.declared.targets.error.PlanError.{PlanError}
use Rattle.pt_cases.specs.declared.targets.error.PlanError.TheVariants.{NotOneSwitch, ReusedInOneBatch, NeedsRepair, Unsound, Device}
use Rattle.pt_cases.specs.declared.targets.error.PlanError.TheVariants.{Memory}
use Rattle.pt_cases.specs.declared.targets.target.Target.{Target}
use Rattle.pt_planner.specs.inner.PlanReads.{IsBrokenBy, PlainOrder, OrderOf, PlacesStop, IsMbrChange}
use Rattle.pt_planner.specs.declared.state.MbrChange.{MbrChange}
use Rattle.pt_cases.specs.inner.Unplanned.{Hindered}

pub ok_so : {A E : Type 0} (r : Result A E) (P Q : A → Type 0) → ((x : A) → P x → Q x) → IfOk r P → IfOk r Q
ok_so (Ok x) P Q so is = so x is
ok_so (Err e) P Q so is = tt

pub err_so : {A E : Type 0} (r : Result A E) (P Q : E → Type 0) → ((e : E) → P e → Q e) → IfErr r P → IfErr r Q
err_so (Ok x) P Q so is = tt
err_so (Err e) P Q so is = so e is

default_free : {X : Type 0} (xs : List X) (k : ℕ) (d e : X) → k < length xs → get_or xs k d ≡ get_or xs k e
default_free [] k d e lt = absurd (omega (arith, lt))
default_free (x ∷ xs) zero d e lt = refl
default_free (x ∷ xs) (suc k) d e lt = default_free xs k d e (omega (arith, lt))

pub all_of : {X : Type 0} (P : X → Type 0) (xs : List X) → ((x : X) → Contains xs x → P x) → All P xs
all_of P xs each = λ k d lt. each (get_or xs k d) (k, lt, default_free xs k (get_or xs k d) d lt)

pub isnt : {P : Type 0} (holds : Bool) → holds ≡ false → IsTrue holds ↔ P → ¬ P
isnt holds low same is = absurd (let high : holds ≡ true = same.1 is in cc)

-- what the parts answer, in the planner's words
pub turn_hinders : (b : ℕ) (d : Sectors) (o : Option Layout) (p : Layout) (e : PlanError) → StopsBy b d o p (HasNoTurn b d o p) e
    → Hindered b d o p e
turn_hinders b d o p NotOneSwitch is = turn is
turn_hinders b d o p ReusedInOneBatch is = is
turn_hinders b d o p NeedsRepair is = is
turn_hinders b d o p Memory is = tt
turn_hinders b d o p (Device fault) is = absurd is
turn_hinders b d o p (Unsound f) is = absurd is

pub copies_hinder : (b : ℕ) (d : Sectors) (o : Option Layout) (p : Layout) (e : PlanError) → StopsBy b d o p (HasNoCopies b d o p) e
    → Hindered b d o p e
copies_hinder b d o p NotOneSwitch is = copies is
copies_hinder b d o p ReusedInOneBatch is = is
copies_hinder b d o p NeedsRepair is = is
copies_hinder b d o p Memory is = tt
copies_hinder b d o p (Device fault) is = absurd is
copies_hinder b d o p (Unsound f) is = absurd is

-- a disk with this old layout, on which only labels are to change: the finding tells whether the copies are whole
module _ (b : ℕ) (d : Sectors) (o : Layout) (from : Denotes b d (Some o)) where
  same_here : (q : Layout) → Denotes b d (Some q) → q ≡ o
  same_here q is = let both : Some q ≡ Some o = denotes_one_lem b d (Some q) (Some o) is from in cc

  broken_here : (f : Finding) (broken : Bool) → (q : Layout) × Denotes b d (Some q) × IsBodyBroken b d q.body f → broken ≡ true
      → Unbroken b d o broken
  broken_here f broken (q, is, breaks) so = rw so (f, subst (λ (l : Layout). IsBodyBroken b d l.body f) (same_here q is) breaks)

  whole_here : (L : Layout → Type 0) (broken : Bool) → ((q : Layout) → L q → IsBodyWhole b d q.body)
      → (q : Layout) × Denotes b d (Some q) × L q → broken ≡ false → Unbroken b d o broken
  whole_here L broken whole (q, is, more) so = rw so (subst (λ (l : Layout). IsBodyWhole b d l.body) (same_here q is) (whole q more))

  unbroken_by : (finding : Option Finding) (broken : Bool) → FindingIs b d (Some o) finding → IsBrokenBy finding broken
      → Unbroken b d o broken
  unbroken_by None broken healthy so = rw so healthy.whole
  unbroken_by (Some (finding.NoTable e)) broken is so =
      (let both : None ≡ Some o = denotes_one_lem b d None (Some o) is.0 from in absurd cc)
  unbroken_by (Some (finding.PrimaryCopy e)) broken is so = broken_here (finding.PrimaryCopy e) broken is so
  unbroken_by (Some (finding.BackupCopy e)) broken is so = broken_here (finding.BackupCopy e) broken is so
  unbroken_by (Some finding.CopiesDiffer) broken is so = broken_here finding.CopiesDiffer broken is so
  unbroken_by (Some (finding.Alternate side)) broken is so = broken_here (finding.Alternate side) broken is so
  unbroken_by (Some finding.Protective) broken is so = broken_here finding.Protective broken is so
  unbroken_by (Some (finding.OutsideUsable q)) broken is so =
      whole_here (λ l. IsLayoutFinding b d l (finding.OutsideUsable q)) broken (λ l more. more.0) is so
  unbroken_by (Some (finding.Overlap q r)) broken is so =
      whole_here (λ l. IsLayoutFinding b d l (finding.Overlap q r)) broken (λ l more. more.0) is so
  unbroken_by (Some (finding.OnTable q s)) broken is so =
      whole_here (λ l. IsLayoutFinding b d l (finding.OnTable q s)) broken (λ l more. more.0) is so
  unbroken_by (Some (finding.SameGuid i j)) broken is so =
      whole_here (λ l. IsLayoutFinding b d l (finding.SameGuid i j)) broken (λ l more. more.0) is so
  unbroken_by (Some (finding.ForeignLabel q)) broken is so =
      whole_here (λ l. IsLayoutFinding b d l (finding.ForeignLabel q)) broken (λ l more. more.0) is so

pub label_start : {b : ℕ} (d : Sectors) (x : Survey) (p : Layout) (t : Table) (broken : Bool) (places : List (Target b)) → IsSurvey b d x
    → Start b d x.layout p → p.body ≡ Gpt t → ChangesLabels x.layout p
    → IsBrokenBy x.finding broken → AreLabelTargets d x.layout p places → LabelStart d x.layout p broken places
label_start {b = b} d x p t broken places survey start body changes is are = record {
  start = start;
  table = t;
  body = body;
  changes = changes;
  unbroken = unbroken_by b d changes.old (subst (Denotes b d) changes.is_old survey.layout) x.finding broken
      (subst (λ (o : Option Layout). FindingIs b d o x.finding) changes.is_old survey.finding) is;
  places = are;
}

-- the order that the disk asks for
order_is : (b : ℕ) (d : Sectors) (primary : Bool) (given : Option (List ℕ)) (order : Order b) → ¬ IsMbrDisk d
    → (IsTrue primary ↔ HasCopy b d Primary) → PlainOrder primary given order → OrderIs b d order
order_is b d true given order plain has so = rw so (plain, has.0 refl)
order_is b d false given order plain has so = rw so (plain, λ there. (let low : false ≡ true = has.1 there in absurd cc))

order_by : (b : ℕ) (d : Sectors) (h : Head) (primary : Bool) (order : Order b) → HeadOf d h
    → (¬ IsMbrDisk d → IsTrue primary ↔ HasCopy b d Primary) → OrderOf d h primary order → OrderIs b d order
order_by b d head.Mbr primary order is has so = rw so is
order_by b d head.Protected primary order is has so = order_is b d primary None order is.0 (has is.0) so
order_by b d head.Unprotected primary order is has so = order_is b d primary (Some (sector d 0)) order is.0 (has is.0) so

-- and the sector 0 that it has
plain_head : {b : ℕ} (d : Sectors) (primary : Bool) (given : Option (List ℕ)) (order : Order b) → PlainOrder primary given order
    → HeadAsRead d given → HeadIn d order
plain_head d true given order so is = rw so is
plain_head d false given order so is = rw so is

head_by : {b : ℕ} (d : Sectors) (h : Head) (primary : Bool) (order : Order b) → HeadOf d h → OrderOf d h primary order → HeadIn d order
head_by d head.Mbr primary order is so = rw so refl
head_by d head.Protected primary order is so = plain_head d primary None order so is.1
head_by d head.Unprotected primary order is so = plain_head d primary (Some (sector d 0)) order so refl

pub copies_start : {b : ℕ} (d : Sectors) (x : Survey) (p : Layout) (t : Table) (order : Order b) (places : List (Target b))
    → IsSurvey b d x → Start b d x.layout p → p.body ≡ Gpt t
    → FitsTable b (length d) t → ¬ ChangesLabels x.layout p → OrderOf d x.head x.primary order
    → AreLabelTargets d x.layout p places → CopiesStart d x.layout p t order x.guarded places
copies_start {b = b} d x p t order places survey start body fits other so are = record {
  start = start;
  body = body;
  fits = fits;
  other = other;
  order = order_by b d x.head x.primary order survey.head (λ plain. survey.primary plain fits.room) so;
  head = head_by d x.head x.primary order survey.head so;
  guards = survey.guarded;
  places = are;
}

abbrev pub had_mbr : (n : ℕ) (o : Option Layout) (c : MbrChange) → IsMbrChange n o c → HadMbr o
had_mbr n o c is = record {
  old = is.old;
  records = c.old_records.now;
  chain = c.old_chain.now;
  is_old = is.is_old;
  body = is.old_body;
}

pub mbr_start : {b : ℕ} (d : Sectors) (n : ℕ) (x : Survey) (p : Layout) (c : MbrChange) (heads places : List (Target b))
    → length d ≡ n → IsSurvey b d x → Start b d x.layout p → (is : IsMbrChange n x.layout c) → p.body ≡ Mbr c.records.now c.chain.now
    → length c.records.now ≡ 4 → AreMbrTargets d c.old_records.now c.old_chain.now c.records.now c.chain.now heads
    → AreLabelTargets d x.layout p places → MbrStart d x.layout p x.guarded heads places
mbr_start d n x p c heads places count survey start is body four are labels = record {
  start = start;
  was = had_mbr n x.layout c is;
  records = c.records.now;
  chain = c.chain.now;
  body = body;
  four = four;
  linked = subst (λ (k : ℕ). IsLoneChain k (extended_of c.records.now) c.chain.now) (sym count) is.linked;
  guards = survey.guarded;
  heads = are;
  places = labels;
}

-- the planner's answer, once the layout was found sound and not there yet
module _ (b : ℕ) (d : Sectors) (o : Option Layout) (p : Layout) (from : Denotes b d o) (sound : Sound b p)
    (not_done : ¬ IsHealthy b d p) where
  pub hindered : NoneLeft b d p → (e : PlanError) → Hindered b d o p e → Unplanned b d p e
  hindered none NotOneSwitch is = record { sound = sound; not_done = not_done; old = o; from = from; cause = targets none is }
  hindered none ReusedInOneBatch is = record { sound = sound; not_done = not_done; old = o; from = from; cause = (none, is) }
  hindered none NeedsRepair is = record { sound = sound; not_done = not_done; old = o; from = from; cause = (none, is) }
  hindered none (Unsound f) is = absurd is
  hindered none (Device fault) is = tt
  hindered none Memory is = tt

  pub no_places : (e : PlanError) → PlacesStop b d o p e → Unplanned b d p e
  no_places NotOneSwitch (inl unfit) = record { sound = sound; not_done = not_done; old = o; from = from; cause = misplaced unfit }
  no_places NotOneSwitch (inr (none, stuck)) =
      record { sound = sound; not_done = not_done; old = o; from = from; cause = targets none (unreadable stuck) }
  no_places ReusedInOneBatch is = absurd is
  no_places NeedsRepair is = absurd is
  no_places (Unsound f) is = inr (record { sound = sound; number = is.0; first = is.1; is = is.2 })
  no_places (Device fault) is = tt
  no_places Memory is = tt

  pub none_of_disk : ¬ MayBePlanned b d o p → Unplanned b d p NotOneSwitch
  none_of_disk isnt = record { sound = sound; not_done = not_done; old = o; from = from; cause = other_disk isnt }

-- What the parts of a plan refuse, and that no fault of the device is among it.
use Rattle.std.proofs.Common.{◌≡◌, inl, ℕ, ◌≤◌, List, length, Option, Some, None, true, false, refl, ap, subst, arith}
use Rattle.std.specs.Prelude.{is_some, IfSome, IfNone}
use Rattle.std.proofs.lemmas.List.{length-map}
use Rattle.pt_sector.specs.Sectors.{Writes}
use Rattle.pt_sector.specs.declared.address.Lba.{Lba}
use Rattle.pt_apply.specs.Plans.{writes_of}
use Rattle.pt_apply.specs.declared.plan.Write.{Write}
use Rattle.pt_members.specs.declared.layout.Layout.{Layout}
use Rattle.pt_recover.specs.declared.trace.TracedRun.{TracedRun}
use Rattle.pt_cases.specs.Keeps.{copies_bound}
use Rattle.pt_cases.specs.Unplanned.{fault_in}
use Rattle.pt_cases.specs.Targets.{IsSectorOf, NoneHas, IsOwnedChange, AreNewWrites, InSectorOrder}
use Rattle.pt_cases.specs.declared.targets.error.PlanError.{PlanError}
use Rattle.pt_cases.specs.declared.targets.error.PlanError.TheVariants.{NotOneSwitch, ReusedInOneBatch, NeedsRepair, Unsound, Device}
use Rattle.pt_cases.specs.declared.targets.error.PlanError.TheVariants.{Memory}
use Rattle.pt_cases.specs.declared.targets.target.Target.{Target}
use Rattle.pt_planner.specs.inner.Phases.{OneOwned, AreFree, NotFree, NoTurn, NoLoneTurn, RefusedBy}
use Rattle.pt_planner.specs.declared.phases.copies.Order.{Order}

-- what the look for an owned change found
module _ {b : ℕ} (o : Option Layout) (ts sorted now : List (Target b)) (same : now ≡ sorted) (order : InSectorOrder ts sorted) where
  pub one_owned : (found : Option Lba) → IfSome found (λ at. IsSectorOf (IsOwnedChange o) now at.0) → is_some found ≡ true → OneOwned o ts
  one_owned (Some at) some is =
      let there : IsSectorOf (IsOwnedChange o) sorted at.0 =
      subst (λ (l : List (Target b)). IsSectorOf (IsOwnedChange o) l at.0) same some in
      record { target = there.0; change = (order.only there.0 there.1, there.2.0); owned = there.2.1 }
  one_owned None some is = absurd (let never : false ≡ true = is in cc)

  pub none_owned : (found : Option Lba) → IfNone found (NoneHas (IsOwnedChange o) now) → is_some found ≡ false → AreFree o ts sorted
  none_owned (Some at) none is = absurd (let never : true ≡ false = is in cc)
  none_owned None none is =
      let free : NoneHas (IsOwnedChange o) sorted = subst (λ (l : List (Target b)). NoneHas (IsOwnedChange o) l) same none in
      record { order = order; free = λ t change owned. free t change.0 (change.1, owned) }

pub lone_unfree : {b : ℕ} (o : Option Layout) (ts : List (Target b)) (e : PlanError) → NotFree o ts e → NoLoneTurn o ts e
lone_unfree o ts NotOneSwitch is = inl is
lone_unfree o ts ReusedInOneBatch is = is
lone_unfree o ts NeedsRepair is = absurd is
lone_unfree o ts (Unsound f) is = absurd is
lone_unfree o ts (Device fault) is = absurd is
lone_unfree o ts Memory is = tt

pub turn_unfree : {b : ℕ} (o : Option Layout) (guarded : List TracedRun) (ts : List (Target b)) (e : PlanError) → NotFree o ts e
    → NoTurn o guarded ts e
turn_unfree o guarded ts NotOneSwitch is = inl is
turn_unfree o guarded ts ReusedInOneBatch is = is
turn_unfree o guarded ts NeedsRepair is = absurd is
turn_unfree o guarded ts (Unsound f) is = absurd is
turn_unfree o guarded ts (Device fault) is = absurd is
turn_unfree o guarded ts Memory is = tt

pub lone_faultless : {b : ℕ} (o : Option Layout) (ts : List (Target b)) (e : PlanError) → NoLoneTurn o ts e → fault_in e ≡ None
lone_faultless o ts NotOneSwitch is = refl
lone_faultless o ts ReusedInOneBatch is = refl
lone_faultless o ts NeedsRepair is = refl
lone_faultless o ts (Unsound f) is = refl
lone_faultless o ts (Device fault) is = absurd is
lone_faultless o ts Memory is = refl

pub turn_faultless : {b : ℕ} (o : Option Layout) (guarded : List TracedRun) (ts : List (Target b)) (e : PlanError) → NoTurn o guarded ts e
    → fault_in e ≡ None
turn_faultless o guarded ts NotOneSwitch is = refl
turn_faultless o guarded ts ReusedInOneBatch is = refl
turn_faultless o guarded ts NeedsRepair is = refl
turn_faultless o guarded ts (Unsound f) is = refl
turn_faultless o guarded ts (Device fault) is = absurd is
turn_faultless o guarded ts Memory is = refl

pub refused_faultless : {b : ℕ} (o : Option Layout) (guarded : List TracedRun) (order : Order b) (ts : List (Target b))
    (phases : List Writes)
    (e : PlanError) → RefusedBy o guarded order ts phases e → fault_in e ≡ None
refused_faultless o guarded order ts phases NotOneSwitch is = refl
refused_faultless o guarded order ts phases ReusedInOneBatch is = refl
refused_faultless o guarded order ts phases NeedsRepair is = refl
refused_faultless o guarded order ts phases (Unsound f) is = refl
refused_faultless o guarded order ts phases (Device fault) is = absurd is
refused_faultless o guarded order ts phases Memory is = refl

-- new labels are no more than the targets that they come from
pub copies_few : {b : ℕ} (guarded : List TracedRun) (places sorted now : List (Target b)) (labels : List (Write b)) (count : ℕ)
    → count ≤ copies_bound b (length labels) → AreNewWrites guarded now (writes_of labels) → now ≡ sorted → InSectorOrder places sorted
    → count ≤ copies_bound b (length places)
copies_few {b = b} guarded places sorted now labels count few new same order =
    let all : length (writes_of labels) ≡ length labels = length-map labels (λ (w : Write b). (w.lba.0, w.bytes)) in
    let more : length now ≡ length sorted = ap length same in
    omega (arith, few, all, more, new.few, order.count)

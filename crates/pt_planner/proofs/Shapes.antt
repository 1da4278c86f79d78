-- How phases of both copies come about, and how many there are.
use Rattle.std.proofs.Common.{◌≡◌, ℕ, ◌<◌, ◌≤◌, List, length, sym, ap, subst, arith, Option, Some, None, Result, Ok, Err, IfOk, Vec}
use Rattle.std.proofs.Common.{All}
use Rattle.std.specs.declared.alloc.Global.{Global}
use Rattle.std.specs.Prelude.{Contains}
use Rattle.std.proofs.lemmas.List.{length-map}
use Rattle.std.proofs.lemmas.List.Elements.{All-contains}
use Rattle.pt_sector.specs.Sectors.{Writes}
use Rattle.pt_apply.specs.Plans.{writes_of, phases_of}
use Rattle.pt_apply.specs.declared.plan.Write.{Write}
use Rattle.pt_apply.specs.declared.plan.Plan.{Plan}
use Rattle.pt_gpt.specs.declared.table.Table.{Table}
use Rattle.pt_cases.specs.Cases.{backup_first_phases, primary_first_phases, from_mbr_phases}
use Rattle.pt_cases.specs.Writes.{Protects}
use Rattle.pt_planner.specs.Phases.{last_of, WroteCopies}
use Rattle.pt_cases.specs.Targets.{AllBelow, InSectorOrder}
use Rattle.pt_cases.specs.declared.targets.target.Target.{Target}
use Rattle.pt_planner.specs.inner.Phases.{Closes}

few_last : (last : Option (List ℕ)) → length (last_of last) ≤ 1
few_last None = omega arith
few_last (Some v) = omega arith

pub as_many : {b : ℕ} (plan : Plan b) → length (phases_of plan) ≡ length plan.phases.items
as_many {b = b} plan = length-map plan.phases.items (λ (p : Vec (Write b) Global). writes_of p.items)

pub backup_first_short : {b : ℕ} {E : Type 0} (n : ℕ) (t : Table) (labels : Writes) (last : Option (List ℕ)) (r : Result (Plan b) E)
    → IfOk r (λ plan. WroteCopies b n t (λ p k. backup_first_phases b n t p k labels (last_of last)) (phases_of plan))
    → IfOk r (λ plan. length plan.phases.items ≤ 5)
backup_first_short n t labels last (Err e) is = tt
backup_first_short n t labels last (Ok plan) is = (let few = few_last last in omega (arith, few, as_many plan, ap length is.is))

pub primary_first_short : {b : ℕ} {E : Type 0} (n : ℕ) (t : Table) (labels : Writes) (last : Option (List ℕ)) (r : Result (Plan b) E)
    → IfOk r (λ plan. WroteCopies b n t (λ p k. primary_first_phases b n t p k labels (last_of last)) (phases_of plan))
    → IfOk r (λ plan. length plan.phases.items ≤ 5)
primary_first_short n t labels last (Err e) is = tt
primary_first_short n t labels last (Ok plan) is = (let few = few_last last in omega (arith, few, as_many plan, ap length is.is))

pub from_mbr_short : {b : ℕ} {E : Type 0} (n : ℕ) (t : Table) (labels : Writes) (new : List ℕ) (r : Result (Plan b) E)
    → IfOk r (λ plan. WroteCopies b n t (λ p k. from_mbr_phases b n t p k labels new) (phases_of plan))
    → IfOk r (λ plan. length plan.phases.items ≤ 5)
from_mbr_short n t labels new (Err e) is = tt
from_mbr_short n t labels new (Ok plan) is = omega (arith, as_many plan, ap length is.is)

pub closes_some : (n : ℕ) (given : Option (List ℕ)) (old : List ℕ) (last : List Writes) → given ≡ Some old → Protects n old last
    → Closes n given last
closes_some n given old last is protects = subst (λ (x : Option (List ℕ)). Closes n x last) (sym is) protects

-- targets that are the same in another order are of the same sectors
pub sorted_below : {b : ℕ} (n : ℕ) (ts sorted seen : List (Target b)) → InSectorOrder ts sorted → seen ≡ sorted → All (λ t. t.at.0 < n) ts
    → AllBelow n seen
sorted_below {b = b} n ts sorted seen order same below t has =
    All-contains (λ (x : Target b). x.at.0 < n) ts t below (order.only t (subst (λ (l : List (Target b)). Contains l t) same has))

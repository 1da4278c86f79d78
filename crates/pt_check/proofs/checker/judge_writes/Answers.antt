use Rattle.std.proofs.Common.{rules, ◌≡◌, ◌∙◌, ◌<◌, ◌≤◌, ℕ, List, length, sym, subst, arith, Some, refl}
use Rattle.pt_sector.specs.Sectors.{Writes}
use Rattle.pt_apply.specs.Plans.{phases_of, writes_in, NoneIs}
use Rattle.pt_check.specs.Answers.{IsFirst, FirstWrite}
use Rattle.pt_check.specs.inner.Answers.{FirstWriteIs}
use Rattle.pt_check.specs.declared.writes.Found.{Found}
use Rattle.pt_check.proofs.Exits.{outside, boot}
use Rattle.pt_check.proofs.Ranges.{in_range}
use Rattle.std.proofs.lemmas.Result.{err_from_is_err_and}
use Rattle.pt_check.proofs.checker.judge_writes.Goals as goal

abbrev Past : ℕ → ℕ × List ℕ → Type 0
Past n w = ¬ (w.0 < n)

past_first : (phases : List Writes) (n m : ℕ) (f : Found) → n ≡ m → FirstWriteIs (Past n) (writes_in phases) (Some f)
    → FirstWrite phases (Past m) f.number
past_first phases n m f same (k, w, number, lba, first) =
    record { at = k; write = w; is = number; first = subst (λ (z : ℕ). IsFirst (Past z) (writes_in phases) k w) same first }

pub returns-in-Some-first_in_plan-clause-judged : goal.returns-in-Some-first_in_plan-clause-judged
returns-in-Some-first_in_plan-clause-judged g c = λ tells.
    let d = (g.D.Disk.told c.args.disk.now).seen in
    let phases = phases_of c.args.plan.now in
    outside g.row.B d phases c.in-Some-first_in_plan.found.number (omega (arith, c.in-Some.ensures.few.0, c.in-Some.ensures.few.1))
    (past_first phases c.sectors-sectors.result (length d) c.in-Some-first_in_plan.found
    (c.sectors-sectors.ensures ∙ sym (g.met.D.Disk.sized c.args.disk.now tells)) c.in-Some-first_in_plan.ensures)

pub other_boot_code-requires : goal.other_boot_code-requires
other_boot_code-requires g c = (
  search rules,
  (
    c.requires.size,
    (
      subst (λ (n : ℕ). n ≤ 4096) c.in-Some.ensures.few.0 c.in-Some.ensures.few.1,
      rw c.sectors-sectors.ensures at c.in_default.ensures,
    ),
  ),
)

pub returns-in-Some-2-clause-judged : goal.returns-in-Some-2-clause-judged
returns-in-Some-2-clause-judged g c = λ tells.
    let d = (g.D.Disk.told c.args.disk.now).seen in
    let phases = phases_of c.args.plan.now in
    boot g.row.B d phases c.in-Some-2.number (omega (arith, c.in-Some.ensures.few.0, c.in-Some.ensures.few.1))
    (subst (λ (z : ℕ). NoneIs (Past z) (writes_in phases))
    (c.sectors-sectors.ensures ∙ sym (g.met.D.Disk.sized c.args.disk.now tells)) c.in_default.ensures)
    (rw c.in-Some-2.is at (c.in_ok-other_boot_code.ensures.found tells))

pub returns-in-None-2-clause-in_range : goal.returns-in-None-2-clause-in_range
returns-in-None-2-clause-in_range g c = (
  c.in-Some.ensures.few.0,
  omega (arith, c.in-Some.ensures.few.0, c.in-Some.ensures.few.1),
  in_range _ c.args.plan.now.phases.items (rw c.sectors-sectors.ensures at c.in_default.ensures),
)

pub returns-in-None-2-clause-judged : goal.returns-in-None-2-clause-judged
returns-in-None-2-clause-judged g c = λ tells. record {
  few = subst (λ (n : ℕ). n ≤ 4096) c.in-Some.ensures.few.0 c.in-Some.ensures.few.1;
  inside = subst (λ (z : ℕ). NoneIs (Past z) (writes_in (phases_of c.args.plan.now)))
      (c.sectors-sectors.ensures ∙ sym (g.met.D.Disk.sized c.args.disk.now tells)) c.in_default.ensures;
  boot = rw c.in-None-2.is at (c.in_ok-other_boot_code.ensures.found tells);
}

pub first_in_plan-requires : goal.first_in_plan-requires
first_in_plan-requires g c =
    (search rules, (c.requires.size, subst (λ (n : ℕ). n ≤ 4096) c.in-Some.ensures.few.0 c.in-Some.ensures.few.1))

pub returns-in-None-clause-same : goal.returns-in-None-clause-same
returns-in-None-clause-same g c = g.met.D.Disk.reads_same c.args.disk.now

pub returns-in-None-clause-blames : goal.returns-in-None-clause-blames
returns-in-None-clause-blames g c = refl

pub returns-in-Some-first_in_plan-clause-same : goal.returns-in-Some-first_in_plan-clause-same
returns-in-Some-first_in_plan-clause-same g c = g.met.D.Disk.reads_same c.args.disk.now

pub returns-in-Some-first_in_plan-clause-blames : goal.returns-in-Some-first_in_plan-clause-blames
returns-in-Some-first_in_plan-clause-blames g c = refl

pub returns-in_err-other_boot_code-clause-same : goal.returns-in_err-other_boot_code-clause-same
returns-in_err-other_boot_code-clause-same g c = c.in_err-other_boot_code.ensures.same

pub returns-in_err-other_boot_code-clause-blames : goal.returns-in_err-other_boot_code-clause-blames
returns-in_err-other_boot_code-clause-blames g c =
    let p = err_from_is_err_and c.from_residual.result c.from_residual.ensures.1 in
    rw (p.1, p.2) c.in_err-other_boot_code.ensures.blames

pub returns-in-None-2-clause-same : goal.returns-in-None-2-clause-same
returns-in-None-2-clause-same g c = c.in_ok-other_boot_code.ensures.same

pub returns-in-None-2-clause-blames : goal.returns-in-None-2-clause-blames
returns-in-None-2-clause-blames g c = c.in_ok-other_boot_code.ensures.blames

pub returns-in-Some-2-clause-same : goal.returns-in-Some-2-clause-same
returns-in-Some-2-clause-same g c = c.in_ok-other_boot_code.ensures.same

pub returns-in-Some-2-clause-blames : goal.returns-in-Some-2-clause-blames
returns-in-Some-2-clause-blames g c = c.in_ok-other_boot_code.ensures.blames

pub returns-in_err-other_boot_code-clause-place : goal.returns-in_err-other_boot_code-clause-place
returns-in_err-other_boot_code-clause-place g c =
    let p = err_from_is_err_and c.from_residual.result c.from_residual.ensures.1 in
    rw (p.1, p.2) c.in_err-other_boot_code.ensures.place

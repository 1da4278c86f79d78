use Rattle.std.proofs.Common.{◌≡◌, ℕ, ◌≤◌, List, length, Bool, IsTrue, arith}
use Rattle.std.proofs.lemmas.List.{length-map}
use Rattle.std.proofs.lemmas.Result.{IfOk-weaker}
use Rattle.pt_apply.specs.Plans.{writes_of}
use Rattle.pt_recover.specs.Spans.{IsIn}
use Rattle.pt_apply.specs.declared.plan.Write.{Write}
use Rattle.pt_recover.specs.Alike.{IsAlike}
use Rattle.pt_check.specs.inner.Answers.{KeepsRead}
use Rattle.pt_check.proofs.Firsts.{first_within, write_at}
use Rattle.pt_check.proofs.Quiet.{kept_none, kept_one}
use Rattle.pt_check.proofs.trial.keeps_read.Goals as goal

pub returns-in_default-clause-kept : goal.returns-in_default-clause-kept
returns-in_default-clause-kept g c = λ tells yes.
    kept_none g.row.B (IsIn c.args.trace.now) (g.D.Disk.told c.args.disk.now).seen (writes_of c.args.phase.now) c.in_default.ensures

pub bounds-phase-k : goal.bounds-phase-k
bounds-phase-k g c = first_within (λ (w : ℕ × List ℕ). IsIn c.args.trace.now w.0) c.args.phase.now c.in-Some.k
    c.in-Some.ensures.0 c.in-Some.ensures.1

pub offset_bounds-phase-k : goal.offset_bounds-phase-k
offset_bounds-phase-k g c =
    let within = first_within (λ (w : ℕ × List ℕ). IsIn c.args.trace.now w.0) c.args.phase.now c.in-Some.k
    c.in-Some.ensures.0 c.in-Some.ensures.1 in
    omega (arith, within)

pub returns-clause-kept : goal.returns-clause-kept
returns-clause-kept g c = λ tells.
    let d = (g.D.Disk.told c.args.disk.now).seen in
    let ws = writes_of c.args.phase.now in
    let w = c.index-phase-k.result in
    let lt = first_within (λ (v : ℕ × List ℕ). IsIn c.args.trace.now v.0) c.args.phase.now c.in-Some.k
    c.in-Some.ensures.0 c.in-Some.ensures.1 in
    let count : length ws ≡ length c.args.phase.now = length-map c.args.phase.now (λ (v : Write _). (v.lba.0, v.bytes)) in
    let few : length ws ≤ 1 = omega (arith, count, c.if-phase-gt1.false) in
    IfOk-weaker c.writes_alike.result (λ (r : Bool). IsTrue r → IsAlike g.row.B d w.lba.0 w.bytes)
    (λ (r : Bool). IsTrue r → KeepsRead g.row.B (IsIn c.args.trace.now) d ws)
    (λ r alike yes. kept_one g.row.B (IsIn c.args.trace.now) d ws c.in-Some.k (w.lba.0, w.bytes) few
    (write_at c.args.phase.now c.in-Some.k w lt c.index-phase-k.is) (alike yes)) (c.writes_alike.ensures.alike tells)

use Rattle.std.proofs.Common.{sym, ◌∙◌}
use Rattle.std.proofs.lemmas.Bool.{false≢true}
use Rattle.pt_mbr.proofs.One.{records_one}
use Rattle.pt_members.proofs.Equal.{records_decide}
use Rattle.pt_planner.proofs.Heads.{reads_so}
use Rattle.pt_planner.proofs.chains.head.reads_as.Goals as goal

pub returns-then-eq : goal.returns-then-eq
returns-then-eq g c =
    reads_so c.in-Some.mbr c.args.records.now c.args.sector.now c.bears_protective.result c.in-Some.ensures.some
    ((records_decide c.in-Some.mbr.records c.args.records.now).0 (sym c.eq.ensures ∙ c.if-eq.true)) c.bears_protective.ensures

pub returns-else-eq : goal.returns-else-eq
returns-else-eq g c = (
  (λ so. absurd (false≢true (sym c.if-eq.false ∙ so))),
  (λ is. c.eq.ensures ∙ (records_decide c.in-Some.mbr.records c.args.records.now).1
      (records_one c.in-Some.mbr.records c.args.records.now c.args.sector.now c.in-Some.ensures.some.records is.1)),
)

use Rattle.std.proofs.Common.{sym, ◌∙◌, arith}
use Rattle.std.proofs.lemmas.Bool.{false≢true}
use Rattle.pt_mbr.proofs.Terms.{ebr_rebased_lem, fault_has_no_ebr}
use Rattle.pt_cases.specs.Writes.{link_to}
use Rattle.pt_planner.proofs.Over.{over_some, over_same}
use Rattle.pt_planner.proofs.chains.ebrs.ebr_over.Goals as goal

pub returns-then-reads_as-clause-some : goal.returns-then-reads_as-clause-some
returns-then-reads_as-clause-some g c = (
  c.in-Ok.was,
  over_some c.args.first.0 c.args.ebr.now c.in-Ok.was c.link_for.result
      (link_to c.args.first.0 c.args.rest.now) c.args.under.now c.change_ebr-changed.result
      c.in-Ok.ensures.ok c.change_ebr-changed.ensures.other c.change_ebr-changed.ensures.logical c.change_ebr-changed.ensures.link
      c.link_for.ensures.bytes (omega arith)
      (c.reads_as.ensures.0 c.if-reads_as.true),
)

pub returns-else-reads_as-clause-none : goal.returns-else-reads_as-clause-none
returns-else-reads_as-clause-none g c w v is =
    false≢true (sym c.if-reads_as.false
    ∙ c.reads_as.ensures.1 (over_same c.args.first.0 c.args.ebr.now c.in-Ok.was c.link_for.result
    (link_to c.args.first.0 c.args.rest.now) c.args.under.now c.change_ebr-changed.result
    c.in-Ok.ensures.ok c.change_ebr-changed.ensures.other c.change_ebr-changed.ensures.logical c.change_ebr-changed.ensures.link
    c.link_for.ensures.bytes w v (omega arith) (omega arith) is))

-- what isn't an extended boot record under this first sector has no other over it
pub returns-in-Err-clause-none : goal.returns-in-Err-clause-none
returns-in-Err-clause-none g c w v is =
    fault_has_no_ebr c.args.first.0 c.args.ebr.now.at w c.in-Err.field-0 c.args.under.now c.in-Err.ensures.err is.was

-- an extended boot record under some first sector is one under this
pub returns-in-Err-clause-unfit : goal.returns-in-Err-clause-unfit
returns-in-Err-clause-unfit g c fit =
    let under = ebr_rebased_lem fit.1.0 c.args.first.0 c.args.ebr.now.at fit.1.1 c.args.under.now fit.1.2 in
    fault_has_no_ebr c.args.first.0 c.args.ebr.now.at under.0 c.in-Err.field-0 c.args.under.now c.in-Err.ensures.err under.1

-- what leads on with a link of 32 bits is read again
pub returns-else-reads_as-clause-unfit : goal.returns-else-reads_as-clause-unfit
returns-else-reads_as-clause-unfit g c fit =
    false≢true (sym c.if-reads_as.false ∙ c.reads_as.ensures.1 (c.change_ebr-changed.ensures.read c.args.first.0
    (λ differ. c.link_for.ensures.leads c.args.ebr.now.next fit.0.next) fit.0.logical c.in-Ok.ensures.ok))

use Rattle.std.proofs.Common.{sym, ◌∙◌, arith}
use Rattle.std.proofs.lemmas.Bool.{false≢true}
use Rattle.pt_cases.specs.Writes.{link_to}
use Rattle.pt_planner.proofs.Made.{made_some, made_same}
use Rattle.pt_planner.proofs.chains.ebrs.ebr_made.Goals as goal

pub returns-then-reads_as-clause-some : goal.returns-then-reads_as-clause-some
returns-then-reads_as-clause-some g c =
    made_some g.row.B c.args.first.0 c.args.ebr.now c.link_for.result (link_to c.args.first.0 c.args.rest.now) c.new_ebr-made.result
    (omega arith) (omega arith)
    c.new_ebr-made.ensures.zeros c.new_ebr-made.ensures.logical c.new_ebr-made.ensures.link c.new_ebr-made.ensures.signature
    c.link_for.ensures.bytes (c.reads_as.ensures.0 c.if-reads_as.true)

pub returns-else-reads_as-clause-none : goal.returns-else-reads_as-clause-none
returns-else-reads_as-clause-none g c v is =
    false≢true (sym c.if-reads_as.false
    ∙ c.reads_as.ensures.1 (made_same g.row.B c.args.first.0 c.args.ebr.now c.link_for.result
    (link_to c.args.first.0 c.args.rest.now) c.new_ebr-made.result (omega arith) (omega arith)
    c.new_ebr-made.ensures.zeros c.new_ebr-made.ensures.logical c.new_ebr-made.ensures.link c.new_ebr-made.ensures.signature
    c.link_for.ensures.bytes v is))

-- what leads on with a link of 32 bits is read again
pub returns-else-reads_as-clause-unfit : goal.returns-else-reads_as-clause-unfit
returns-else-reads_as-clause-unfit g c fit =
    false≢true (sym c.if-reads_as.false
    ∙ c.reads_as.ensures.1 (c.new_ebr-made.ensures.read c.args.first.0 (c.link_for.ensures.leads c.args.ebr.now.next fit.next) fit.logical))

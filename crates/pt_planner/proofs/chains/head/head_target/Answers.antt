use Rattle.std.proofs.Common.{sym, ◌∙◌, arith}
use Rattle.std.proofs.lemmas.Bool.{false≢true}
use Rattle.pt_planner.proofs.Heads.{head_some, head_same, is_mbr}
use Rattle.pt_planner.proofs.chains.head.head_target.Goals as goal

pub returns-then-reads_as-clause-some : goal.returns-then-reads_as-clause-some
returns-then-reads_as-clause-some g c =
    head_some c.args.old.now c.args.new.now c.args.under.now c.change_records-changed.result
    c.change_records-changed.ensures.other c.change_records-changed.ensures.boot c.change_records-changed.ensures.each (omega arith)
    (c.reads_as.ensures.0 c.if-reads_as.true)

pub returns-else-reads_as-clause-none : goal.returns-else-reads_as-clause-none
returns-else-reads_as-clause-none g c v is =
    false≢true (sym c.if-reads_as.false
    ∙ c.reads_as.ensures.1 (head_same c.args.old.now c.args.new.now c.args.under.now c.change_records-changed.result
    c.change_records-changed.ensures.other c.change_records-changed.ensures.boot c.change_records-changed.ensures.each v is))

-- plain records over a sector of the old ones are read again
pub returns-else-reads_as-clause-unfit : goal.returns-else-reads_as-clause-unfit
returns-else-reads_as-clause-unfit g c fit =
    false≢true (sym c.if-reads_as.false ∙ c.reads_as.ensures.1 (is_mbr c.args.new.now c.change_records-changed.result
    (c.change_records-changed.ensures.read fit.0 fit.1.0) (c.change_records-changed.ensures.plain fit.0 fit.1.1)))

use Rattle.std.proofs.Common.{sym, ◌∙◌}
use Rattle.std.proofs.lemmas.Result.{err_from_is_err_and}
use Rattle.pt_apply.specs.inner.PlanTexts.{last_read, phases_read}
use Rattle.pt_apply.proofs.Cuts.{no_fit}
use Rattle.pt_apply.proofs.Growing.{grows_write, grows_flush, no_flush_yet}
use Rattle.pt_apply.proofs.read.take_line.Goals as goal

pub returns-in-None : goal.returns-in-None
returns-in-None g c = no_fit g.row.B (last_read c.args.partial.now) c.args.line.now c.in-None.ensures.none

pub returns-then-is_empty : goal.returns-then-is_empty
returns-then-is_empty g c =
    no_flush_yet c.args.partial.now.last c.args.line.now (rw c.in-Some-Flush.field-0-is at c.in-Some-Flush.ensures.some)
    (sym c.is_empty.ensures ∙ c.if-is_empty.true)

pub returns-in_err-push-in-Some-Write : goal.returns-in_err-push-in-Some-Write
returns-in_err-push-in-Some-Write g c =
    let p = err_from_is_err_and c.from_residual.result c.from_residual.ensures.1 in rw p.1 tt

pub returns-in_err-push-in-Some-Flush : goal.returns-in_err-push-in-Some-Flush
returns-in_err-push-in-Some-Flush g c =
    let p = err_from_is_err_and c.from_residual-in_err-push-in-Some-Flush.result c.from_residual-in_err-push-in-Some-Flush.ensures.1 in
    rw p.1 tt

pub returns-in_ok-push-in-Some-Write : goal.returns-in_ok-push-in-Some-Write
returns-in_ok-push-in-Some-Write g c =
    grows_write c.args.line.now (phases_read c.args.partial.now) c.args.partial.now.last.items c.push.new.self.items c.in-Some-Write.write
    (rw c.in-Some-Write.field-0-is at c.in-Some-Write.ensures.some) c.in_ok-push-in-Some-Write.ensures.items

pub returns-in_ok-push-in-Some-Flush : goal.returns-in_ok-push-in-Some-Flush
returns-in_ok-push-in-Some-Flush g c =
    grows_flush c.args.line.now c.args.partial.now.phases.items c.args.partial.now.last c.replace-last.result
    c.push-in-Some-Flush.new.self.items c.replace-last.new.dest c.new.result
    (rw c.in-Some-Flush.field-0-is at c.in-Some-Flush.ensures.some)
    (sym c.is_empty.ensures ∙ c.if-is_empty.false) c.replace-last.ensures.value c.in_ok-push-in-Some-Flush.ensures.items
    c.replace-last.ensures.after c.new.ensures.items

use Rattle.pt_answers.proofs.ReadSoFar.{bad_next, next_read, none_read}
use Rattle.pt_answers.proofs.words.edits_of.Goals as goal

pub loop-k-init : goal.loop-k-init
loop-k-init c = none_read c.in-Ok.edits.items c.in-Ok.ensures.items

pub returns-in-Err-clause-err : goal.returns-in-Err-clause-err
returns-in-Err-clause-err c =
    bad_next c.args.words.now c.loop-k.k c.get-word.result.now c.loop-k.edits.items c.in-Err.why c.unread.result
    (rw c.len-k-end.ensures at c.loop-k-test.true, c.get-word.ensures) c.loop-k.invariant c.in-Err.ensures.err c.unread.ensures

pub loop-k-preserved : goal.loop-k-preserved
loop-k-preserved c =
    next_read c.args.words.now c.loop-k.k c.get-word.result.now c.loop-k.edits.items c.push.new.self.items c.in-Ok-parse_edit.edit
    (rw c.len-k-end.ensures at c.loop-k-test.true, c.get-word.ensures) c.loop-k.invariant c.in-Ok-parse_edit.ensures.ok
    c.in-Ok-push.ensures.items

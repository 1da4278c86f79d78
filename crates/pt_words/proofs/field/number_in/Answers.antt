use Rattle.std.proofs.Common.{sym}
use Rattle.pt_words.proofs.Values.{unread_number}
use Rattle.pt_words.proofs.field.number_in.Goals as goal

pub returns-in-None-clause-value : goal.returns-in-None-clause-value
returns-in-None-clause-value c =
    sym (unread_number c.args.low c.args.high c.args.text.now c.ranges.high.fits c.in-None.ensures.none)

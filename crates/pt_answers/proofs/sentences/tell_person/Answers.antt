use Rattle.pt_report.specs.Replies.{sentence_line}
use Rattle.pt_answers.specs.Failures.{failure_text}
use Rattle.pt_answers.specs.Sentences.{failure_sentence}
use Rattle.pt_answers.proofs.Texts.{told_both}
use Rattle.pt_answers.proofs.sentences.tell_person.Goals as goal

pub returns : goal.returns
returns g c = told_both (failure_text c.args.failure.now) (sentence_line (failure_sentence c.args.what c.args.failure.now)) _ _ _
    c.in_ok-print.ensures c.in_ok-explain.ensures

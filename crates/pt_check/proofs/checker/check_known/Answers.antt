use Rattle.std.proofs.Common.{rules}
use Rattle.pt_check.proofs.checker.check_known.Goals as goal

pub returns-clause-answers : goal.returns-clause-answers
returns-clause-answers g c = λ tells. rw c.answer.ensures (c.in_ok-outcome.ensures.outcome tells).answers

pub returns-clause-promises : goal.returns-clause-promises
returns-clause-promises g c = λ tells. rw c.answer.ensures (c.in_ok-outcome.ensures.outcome tells).promises

pub outcome_known-requires : goal.outcome_known-requires
outcome_known-requires g c = (
  search rules,
  (
    c.requires.size,
    λ tells. rw c.into_parts-old.ensures (record { denotes = (c.requires.survey tells).layout; reads = (c.requires.survey tells).trace }),
  ),
)

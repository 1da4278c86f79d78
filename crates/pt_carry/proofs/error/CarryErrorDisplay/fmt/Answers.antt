use Rattle.std.proofs.Common.{ap, sym}
use Rattle.std.proofs.Output.{has_written_of_eq}
use Rattle.pt_carry.specs.Sentences.{carry_error_sentence}
use Rattle.pt_carry.proofs.error.CarryErrorDisplay.fmt.Goals as goal

pub returns-in-Refused-clause-writes : goal.returns-in-Refused-clause-writes
returns-in-Refused-clause-writes g c plain ok =
    has_written_of_eq _ _ _ _ _ (ap carry_error_sentence (sym c.in-Refused.is)) (c.write.ensures.writes plain ok)

pub returns-in-Differs-clause-writes : goal.returns-in-Differs-clause-writes
returns-in-Differs-clause-writes g c plain ok =
    has_written_of_eq _ _ _ _ _ (ap carry_error_sentence (sym c.in-Differs.is)) (c.write-in-Differs.ensures.writes plain ok)

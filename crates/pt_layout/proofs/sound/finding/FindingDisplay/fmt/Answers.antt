use Rattle.std.proofs.Common.{ap, sym}
use Rattle.std.proofs.Output.{has_written_of_eq}
use Rattle.pt_layout.specs.Sentences.{finding_sentence}
use Rattle.pt_layout.proofs.sound.finding.FindingDisplay.fmt.Goals as goal

pub returns-in-OnTable-clause-writes : goal.returns-in-OnTable-clause-writes
returns-in-OnTable-clause-writes g c plain ok =
    has_written_of_eq _ _ _ _ _ (ap finding_sentence (sym c.in-OnTable.is)) (c.write-in-OnTable.ensures.writes plain ok)

pub returns-in-SameGuid-clause-writes : goal.returns-in-SameGuid-clause-writes
returns-in-SameGuid-clause-writes g c plain ok =
    has_written_of_eq _ _ _ _ _ (ap finding_sentence (sym c.in-SameGuid.is)) (c.write-in-SameGuid.ensures.writes plain ok)

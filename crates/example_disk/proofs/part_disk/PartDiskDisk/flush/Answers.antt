use Rattle.example_disk.proofs.Calls.{failed_flush_in}
use Rattle.example_disk.proofs.part_disk.PartDiskDisk.flush.Goals as goal

pub returns-in-Err-clause-failed : goal.returns-in-Err-clause-failed
returns-in-Err-clause-failed g c = λ tells.
    failed_flush_in c.args.self.now.first c.args.self.now.sectors _ _ (c.in-Err.ensures.failed tells)

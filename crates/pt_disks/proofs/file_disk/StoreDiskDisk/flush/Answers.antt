use Rattle.pt_disks.proofs.StoresLemmas.{failed_flush}
use Rattle.pt_disks.proofs.file_disk.StoreDiskDisk.flush.Goals as goal

pub returns-in-Err-clause-failed : goal.returns-in-Err-clause-failed
returns-in-Err-clause-failed g c = λ tells. failed_flush g.row.B c.args.self.now.sectors _ _ (c.in-Err.ensures.failed tells)

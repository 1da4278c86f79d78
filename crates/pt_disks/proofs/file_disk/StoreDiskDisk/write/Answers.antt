use Rattle.pt_disks.proofs.StoresLemmas.{wrote, failed_write}
use Rattle.pt_disks.proofs.file_disk.StoreDiskDisk.write.Goals as goal

pub returns-in-Ok-clause-done : goal.returns-in-Ok-clause-done
returns-in-Ok-clause-done g c = λ tells.
    wrote g.row.B c.args.self.now.sectors c.args.lba.0 c.args.bytes.now _ _ c.args.self.now.positive c.requires c.told-bytes
    (c.args.self.now.whole tells) (g.met.S.Store.same_length c.args.self.now.store tells)
    (c.in-Ok.ensures.done tells)

pub returns-in-Err-clause-failed : goal.returns-in-Err-clause-failed
returns-in-Err-clause-failed g c = λ tells.
    failed_write g.row.B c.args.self.now.sectors c.args.lba.0 c.args.bytes.now _ _ c.args.self.now.positive c.requires c.told-bytes
    (c.args.self.now.whole tells) (g.met.S.Store.same_length c.args.self.now.store tells)
    (c.in-Err.ensures.failed tells)

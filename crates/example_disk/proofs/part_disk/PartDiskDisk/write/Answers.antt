use Rattle.example_disk.proofs.Calls.{wrote_in, failed_write_in}
use Rattle.example_disk.proofs.part_disk.PartDiskDisk.write.Goals as goal

pub returns-in-Ok-clause-done : goal.returns-in-Ok-clause-done
returns-in-Ok-clause-done g c = λ tells.
    wrote_in c.args.self.now.first c.args.self.now.sectors _ _ c.args.lba.0 c.args.bytes.now c.requires (c.in-Ok.ensures.done tells)

pub returns-in-Err-clause-failed : goal.returns-in-Err-clause-failed
returns-in-Err-clause-failed g c = λ tells.
    failed_write_in c.args.self.now.first c.args.self.now.sectors _ _ c.args.lba.0 c.args.bytes.now c.requires
    (c.in-Err.ensures.failed tells)

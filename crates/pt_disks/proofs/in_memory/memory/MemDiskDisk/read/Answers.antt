use Rattle.std.proofs.Common.{refl}
use Rattle.pt_sector.specs.inner.ForFields.{no_faults}
use Rattle.pt_disks.proofs.in_memory.memory.MemDiskDisk.read.Goals as goal

pub returns-clause-same : goal.returns-clause-same
returns-clause-same g c = record { same_count = refl; same_name = refl; through = tt; same = λ tells. refl; came = no_faults _ _ refl }

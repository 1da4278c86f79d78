use Rattle.std.proofs.Common.{refl}
use Rattle.pt_disks.proofs.InMemory.{moments_on}
use Rattle.pt_disks.proofs.in_memory.memory.MemDiskDisk.flush.Goals as goal

pub returns-clause-done : goal.returns-clause-done
returns-clause-done g c =
    λ tells. record { seen = refl; durable = refl; pending = refl; time = moments_on c.args.self.now.sectors _ _ c.and-self.ensures }

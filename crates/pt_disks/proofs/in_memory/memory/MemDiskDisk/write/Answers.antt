use Rattle.std.proofs.Common.{refl, inl}
use Rattle.pt_disks.proofs.InMemory.{moments_on}
use Rattle.pt_disks.proofs.in_memory.memory.MemDiskDisk.write.Goals as goal

pub returns-clause-done : goal.returns-clause-done
returns-clause-done g c =
    λ tells. record { seen = refl; takes = inl (refl, refl); time = moments_on c.args.self.now.sectors _ _ c.and-self.ensures }

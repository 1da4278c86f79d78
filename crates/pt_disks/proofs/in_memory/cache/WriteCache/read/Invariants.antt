use Rattle.std.proofs.Common.{◌≡◌, drop}
use Rattle.pt_sector.specs.Sectors.{sector}
use Rattle.pt_disks.specs.Reading.{read_at}
use Rattle.pt_disks.proofs.in_memory.cache.WriteCache.read.Given as goal

abbrev pub invariant-loop-write : goal.invariant-loop-write
invariant-loop-write g l =
    read_at (drop l.write-index l.write-items) l.lba.0 l.into ≡ read_at l.write-items l.lba.0 (sector l.self.durable.items l.lba.0)

use Rattle.std.proofs.Common.{◌≡◌, drop}
use Rattle.pt_disks.specs.Memory.{reading}
use Rattle.pt_disks.proofs.in_memory.cache.store.Given as goal

abbrev pub invariant-loop-write : goal.invariant-loop-write
invariant-loop-write g l = reading (drop l.write-index l.pending) l.durable ≡ reading l.pending l.initial.durable

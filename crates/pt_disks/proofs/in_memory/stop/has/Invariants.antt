use Rattle.std.proofs.Common.{◌≡◌, drop}
use Rattle.pt_disks.specs.Memory.{pending_writes}
use Rattle.pt_disks.specs.Stops.{is_pending}
use Rattle.pt_disks.proofs.in_memory.stop.has.Given as goal

abbrev pub invariant-loop-write : goal.invariant-loop-write
invariant-loop-write g l = is_pending (pending_writes (drop l.write-index l.pending)) l.k ≡ is_pending (pending_writes l.pending) l.k

use Rattle.std.proofs.Common.{◌≡◌, ◌++◌, drop, take}
use Rattle.pt_disks.specs.Memory.{pending_writes}
use Rattle.pt_disks.specs.inner.Stops.{picked}
use Rattle.pt_disks.proofs.in_memory.stop.pick_all.Given as goal

abbrev pub invariant-loop-k : goal.invariant-loop-k
invariant-loop-k g l =
    take l.k l.durable ++ picked (pending_writes l.pending) l.k l.left (drop l.k l.durable) ≡ picked
    (pending_writes l.pending) 0 l.choices l.initial.durable

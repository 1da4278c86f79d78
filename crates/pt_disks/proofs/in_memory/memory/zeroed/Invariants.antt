use Rattle.std.proofs.Common.{◌≡◌}
use Rattle.pt_disks.specs.Memory.{zero_sectors}
use Rattle.pt_disks.proofs.in_memory.memory.zeroed.Given as goal

abbrev pub invariant-loop-made : goal.invariant-loop-made
invariant-loop-made g l = l.all.items ≡ zero_sectors g.row.B l.made

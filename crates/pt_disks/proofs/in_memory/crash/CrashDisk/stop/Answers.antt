use Rattle.std.proofs.Common.{◌≡◌, arith}
use Rattle.std.proofs.lemmas.Grind.{common_steps}
use Rattle.pt_disks.specs.Memory.{pending_writes}
use Rattle.pt_disks.specs.inner.Stops.{picked}
use Rattle.pt_disks.proofs.Picked.{stopped_picked, is_picked}
use Rattle.pt_disks.proofs.in_memory.crash.CrashDisk.stop.Goals as goal

pub returns-clause-may_leave : goal.returns-clause-may_leave
returns-clause-may_leave g c =
    let same : c.from_sectors.result.sectors.items ≡ picked
    (pending_writes c.args.self.cache.pending.items) 0 c.args.choices.now c.args.self.cache.durable.items = grind (arith, common_steps) in
    rw same (stopped_picked (pending_writes c.args.self.cache.pending.items) c.args.choices.now c.args.self.cache.durable.items)

pub returns-clause-picked : goal.returns-clause-picked
returns-clause-picked g c =
    let same : c.from_sectors.result.sectors.items ≡ picked
    (pending_writes c.args.self.cache.pending.items) 0 c.args.choices.now c.args.self.cache.durable.items = grind (arith, common_steps) in
    rw same (is_picked (pending_writes c.args.self.cache.pending.items) c.args.choices.now c.args.self.cache.durable.items)

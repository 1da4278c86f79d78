use Rattle.std.proofs.Common.{arith}
use Rattle.std.proofs.lemmas.Grind.{common_steps}
use Rattle.pt_disks.specs.inner.ForFields.{sector-reading}
use Rattle.pt_disks.proofs.in_memory.cache.WriteCache.read.Goals as goal

pub returns : goal.returns
returns g c =
    grind (arith, common_steps, sector-reading c.args.self.now.pending.items c.args.self.now.durable.items c.args.lba.0 c.requires)

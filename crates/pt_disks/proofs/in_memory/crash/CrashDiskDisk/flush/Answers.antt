use Rattle.std.proofs.Common.{◌∙◌, ap, length}
use Rattle.pt_disks.specs.inner.ForFields.{length-reading}
use Rattle.pt_disks.proofs.Crashes.{not_flushed, flushed}
use Rattle.pt_disks.proofs.in_memory.crash.CrashDiskDisk.flush.Goals as goal

pub returns-then-counts_down-clause-failed : goal.returns-then-counts_down-clause-failed
returns-then-counts_down-clause-failed g c = not_flushed c.args.self.now.cache _ _ c.and-self.ensures

pub returns-clause-count : goal.returns-clause-count
returns-clause-count g c =
    ap length c.flush.ensures.durable ∙ length-reading c.args.self.now.cache.pending.items c.args.self.now.cache.durable.items

pub returns-clause-done : goal.returns-clause-done
returns-clause-done g c =
    flushed c.args.self.now.cache _ _ c.and-self.ensures c.flush.new.self c.flush.ensures.durable c.flush.ensures.pending

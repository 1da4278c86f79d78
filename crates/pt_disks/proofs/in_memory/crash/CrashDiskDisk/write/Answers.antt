use Rattle.std.proofs.Common.{true, ◌≡◌}
use Rattle.pt_disks.proofs.Crashes.{no_room, took, failed, seen_after}
use Rattle.pt_disks.proofs.in_memory.crash.CrashDiskDisk.write.Goals as goal
use Rattle.pt_disks.proofs.in_memory.crash.CrashDiskDisk.write.Goals.{then-not-fails, else-not-fails}

pub returns-then-is_full-clause-failed : goal.returns-then-is_full-clause-failed
returns-then-is_full-clause-failed g c = no_room c.args.self.now.cache _ _ c.and-self.ensures c.args.lba.0 c.args.bytes.now

pub returns-then-fails-clause-failed : goal.returns-then-fails-clause-failed
returns-then-fails-clause-failed g c =
    failed c.args.self.now.cache _ _ c.and-self.ensures c.add.new.self _ c.add.ensures.durable c.add.ensures.pending

pub returns-clause-done : goal.returns-clause-done
returns-clause-done g c =
    let reads : c.if-not-fails.write ≡ true = elim c.if-not-fails.branch [
      | then-not-fails w ↦ rw c.if-fails.false at w.write-is
      | else-not-fails w ↦ (cc)
    ] in
    took c.args.self.now.cache _ _ c.and-self.ensures c.add.new.self _ c.add.ensures.durable c.add.ensures.pending reads

pub returns-then-fails-clause-kept : goal.returns-then-fails-clause-kept
returns-then-fails-clause-kept g c = λ not_full.
    let reads : c.if-not-fails.write ≡ c.args.self.now.kept = elim c.if-not-fails.branch [
      | then-not-fails w ↦ (cc (w.if-not-fails.true, c.if-fails.true))
      | else-not-fails w ↦ w.write-is
    ] in
    rw reads at (seen_after c.args.self.now.cache _ _ c.and-self.ensures c.add.new.self _ c.add.ensures.durable c.add.ensures.pending)

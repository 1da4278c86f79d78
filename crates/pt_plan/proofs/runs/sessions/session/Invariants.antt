use Rattle.std.proofs.Common.{◌≡◌, ◌++◌, ◌≤◌, length, map, take, false, vec_len, vec_capacity}
use Rattle.pt_cases.specs.declared.primary.Primary.TheVariants.{Zeroed}
use Rattle.pt_plan.specs.Sessions.{batch_of, SessionOf, SessionByReads, faults_in}
use Rattle.pt_plan.proofs.RunsLemmas.{Replies}
use Rattle.pt_plan.proofs.runs.sessions.session.Given as goal

abbrev pub invariant-loop-batch : goal.invariant-loop-batch
invariant-loop-batch g l = record {
  count : g.D.Disk.count l.disk ≡ g.D.Disk.count l.initial.disk;
  name : g.D.Disk.name l.disk ≡ g.D.Disk.name l.initial.disk;
  room : length l.batches ≤ vec_capacity l.replies;
  len : vec_len l.replies ≡ l.batch-index;
  so_far : Replies false (map batch_of (take l.batch-index l.batches)) l.replies.items l.faulted;
  blames : g.D.Disk.faults l.disk ≡ g.D.Disk.faults l.initial.disk ++ faults_in l.replies.items;
  session : g.D.Disk.tells → SessionOf Zeroed g.row.B (g.D.Disk.count l.initial.disk)
      (map batch_of (take l.batch-index l.batches)) l.replies.items
      (g.D.Disk.told l.initial.disk) (g.D.Disk.told l.disk);
  place : g.D.Disk.tells → SessionByReads Zeroed g.row.B (g.D.Disk.count l.initial.disk) (map batch_of (take l.batch-index l.batches))
      l.replies.items (g.D.Disk.told l.initial.disk) (g.D.Disk.told l.disk);
}

use Rattle.std.proofs.Common.{length, ◌≡◌, ◌≤◌, take, drop}
use Rattle.pt_disks.proofs.file_disk.read_whole.Given as goal

abbrev pub invariant-loop : goal.invariant-loop
invariant-loop g l = record {
  in_range : l.done ≤ length l.into;
  filled : g.S.Store.tells → take l.done l.into ≡ take l.done (drop l.at (g.S.Store.told l.store).seen);
}

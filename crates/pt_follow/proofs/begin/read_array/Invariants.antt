use Rattle.std.proofs.Common.{◌≡◌, ◌≤◌, ◌*◌, ◌-◌}
use Rattle.std.specs.Prelude.{vec_len, vec_capacity}
use Rattle.pt_sector.specs.Overlays.{OnlyReads}
use Rattle.pt_follow.proofs.Reading.{ReadSoFar}
use Rattle.pt_follow.proofs.begin.read_array.Given as goal

abbrev pub invariant-loop-k : goal.invariant-loop-k
invariant-loop-k g l =
    let disk = g.D.Disk in
    record {
      disk_same : OnlyReads disk l.fn.disk l.disk;
      quiet : disk.faults l.disk ≡ disk.faults l.fn.disk;
      left : l.left ≡ l.count * 128 - l.k * g.row.B;
      parts : vec_len l.sums ≡ l.k;
      room : l.sectors ≤ vec_capacity l.sums;
      flags : vec_len l.same ≡ l.k;
      capacity : l.sectors ≤ vec_capacity l.same;
      so_far : disk.tells → ReadSoFar g.row.B (l.count * 128) l.at l.k (disk.told l.fn.disk).seen l.entries l.bytes.items l.sums.items
          l.same.items;
    }

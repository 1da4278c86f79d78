use Rattle.std.proofs.Common.{◌≡◌, ◌*◌, ◌+◌, ◌-◌}
use Rattle.std.specs.Prelude.{vec_len}
use Rattle.pt_sector.specs.Overlays.{OnlyReads}
use Rattle.pt_gpt.proofs.Parts.{Streamed}
use Rattle.pt_gpt.proofs.entries.read_bytes.Given as goal

abbrev pub invariant-loop-i : goal.invariant-loop-i
invariant-loop-i g l =
    let disk = g.D.Disk in
    record {
      disk_same : OnlyReads disk l.fn.disk l.disk;
      quiet : disk.faults l.disk ≡ disk.faults l.fn.disk;
      left : l.left ≡ l.count * 128 - l.i * g.row.B;
      taken : vec_len l.bytes + l.left ≡ l.count * 128;
      streamed : disk.tells → Streamed g.row.B (l.count * 128) l.at l.i (disk.told l.fn.disk).seen l.bytes.items;
    }

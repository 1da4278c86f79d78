use Rattle.std.proofs.Common.{◌≡◌, ◌+◌, ◌*◌, ◌∙◌, ap, refl, arith}
use Rattle.std.specs.Prelude.{length}
use Rattle.pt_sector.specs.Sectors.{sector}
use Rattle.pt_sector.specs.Device.{Told}
use Rattle.pt_gpt.proofs.Parts.{sector_within, left_less}
use Rattle.pt_follow.proofs.Reading.{read_none, read_more}
use Rattle.pt_follow.proofs.begin.read_array.Goals as goal

pub loop-k-init : goal.loop-k-init
loop-k-init g c =
    let disk = c.args.disk.now in
    let summed = c.in_ok-sums.ensures in
    let made = c.in_ok-same.ensures in
    record {
      disk_same = g.met.D.Disk.reads_same disk;
      quiet = refl;
      left = omega arith;
      parts = omega (arith, summed.len);
      room = omega (arith, summed.capacity);
      flags = omega (arith, made.len);
      capacity = omega (arith, made.capacity);
      so_far = λ tells.
          rw c.in_ok-bytes.ensures.items (read_none g.row.B (c.args.count * 128) c.args.at (g.D.Disk.told disk).seen c.args.entries.now
          c.in_ok-sums.sums.items c.in_ok-same.same.items);
    }

pub loop-k-preserved : goal.loop-k-preserved
loop-k-preserved g c =
    let b = g.row.B in
    let m = c.args.count * 128 in
    let k = c.loop-k.k in
    let before = c.loop-k.invariant in
    let now = c.in_ok-read_sector.ensures in
    let taken = c.in_ok-extend_from_slice.ensures in
    let summed = c.push_reserved.ensures in
    let pushed = c.push_reserved-in-loop-k.ensures in
    let whole : length c.read_sector.new.into ≡ b = omega arith in
    record {
      disk_same = g.met.D.Disk.reads_on c.args.disk.now c.loop-k.disk c.read_sector.new.disk before.disk_same now.same;
      quiet = now.blames ∙ before.quiet;
      left = rw c.min-taken.ensures (left_less b m k c.loop-k.left before.left);
      parts = omega (arith, summed.len, before.parts);
      room = omega (arith, summed.capacity, before.room);
      flags = omega (arith, pushed.len, before.flags);
      capacity = omega (arith, pushed.capacity, before.capacity);
      so_far = λ tells.
          let d = (g.D.Disk.told c.args.disk.now).seen in
          let within = sector_within b m k c.requires.size (rw c.counted_sectors-sectors.ensures.value at c.loop-k-test.true) in
          let read : c.read_sector.new.into ≡ sector d (c.args.at + k) =
          now.bytes tells ∙ ap (λ (s : Told). sector s.seen (c.args.at + k)) (before.disk_same.same tells) in
          let sum = rw c.min-taken.ensures at c.crc32.ensures in
          rw (summed.items, pushed.items, taken.items, c.min-taken.ensures) (read_more b m c.args.at k c.loop-k.left d c.args.entries.now
          c.loop-k.bytes.items c.loop-k.sums.items c.loop-k.same.items c.crc32.result c.has_entries.result c.read_sector.new.into
          (before.so_far tells)
          (record { within = within; rest = before.left; read = read; long = whole; sum_is = sum; has = c.has_entries.ensures })
          (omega (arith, before.parts, c.loop-k.sums.ok.0)) (omega (arith, before.flags, c.loop-k.same.ok.0)));
    }

pub returns-in_err-extend_from_slice-clause-same : goal.returns-in_err-extend_from_slice-clause-same
returns-in_err-extend_from_slice-clause-same g c =
    g.met.D.Disk.reads_on c.args.disk.now c.loop-k.disk c.read_sector.new.disk c.loop-k.invariant.disk_same
    c.in_ok-read_sector.ensures.same

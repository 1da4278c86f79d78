use Rattle.std.proofs.Common.{◌≡◌, ◌*◌, ◌+◌, ◌∙◌, ap, refl, arith, min}
use Rattle.std.specs.Prelude.{length}
use Rattle.pt_sector.specs.Sectors.{sector}
use Rattle.pt_sector.specs.Device.{Told}
use Rattle.pt_gpt.proofs.Parts.{streamed_none, streamed_more, sector_within, left_less, part_len}
use Rattle.pt_gpt.proofs.entries.read_bytes.Goals as goal

pub loop-i-init : goal.loop-i-init
loop-i-init g c =
    let disk = c.args.disk.now in
    let made = c.in_ok-bytes.ensures in
    record {
      disk_same = g.met.D.Disk.reads_same disk;
      quiet = refl;
      left = omega arith;
      taken = omega (arith, made.len);
      streamed = λ tells. rw made.items (streamed_none g.row.B (c.args.count * 128) c.args.at (g.D.Disk.told disk).seen);
    }

pub loop-i-preserved : goal.loop-i-preserved
loop-i-preserved g c =
    let b = g.row.B in
    let m = c.args.count * 128 in
    let i = c.loop-i.i in
    let before = c.loop-i.invariant in
    let now = c.in_ok-read_sector.ensures in
    let pushed = c.in_ok-extend_from_slice.ensures in
    let whole : length c.read_sector.new.into ≡ b = omega arith in
    let long = part_len b c.loop-i.left (min c.loop-i.left b) c.read_sector.new.into refl whole in
    record {
      disk_same = g.met.D.Disk.reads_on c.args.disk.now c.loop-i.disk c.read_sector.new.disk before.disk_same now.same;
      quiet = now.blames ∙ before.quiet;
      left = rw c.min-taken.ensures (left_less b m i c.loop-i.left before.left);
      taken = rw (pushed.len, c.min-taken.ensures, long) (omega (arith, before.taken));
      streamed = λ tells.
          let d = (g.D.Disk.told c.args.disk.now).seen in
          let within = sector_within b m i c.requires.size (rw c.counted_sectors-i-end.ensures.value at c.loop-i-test.true) in
          let read : c.read_sector.new.into ≡ sector d (c.args.at + i) =
          now.bytes tells ∙ ap (λ (s : Told). sector s.seen (c.args.at + i)) (before.disk_same.same tells) in
          rw (pushed.items, c.min-taken.ensures) (streamed_more b m c.args.at i c.loop-i.left d c.loop-i.bytes.items c.read_sector.new.into
          (before.streamed tells) within before.left read whole);
    }

pub returns-in_err-extend_from_slice-clause-same : goal.returns-in_err-extend_from_slice-clause-same
returns-in_err-extend_from_slice-clause-same g c =
    g.met.D.Disk.reads_on c.args.disk.now c.loop-i.disk c.read_sector.new.disk c.loop-i.invariant.disk_same
    c.in_ok-read_sector.ensures.same

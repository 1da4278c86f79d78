use Rattle.std.proofs.Common.{◌∙◌, ◌-◌, arith, length, ◌≤◌}
use Rattle.std.proofs.lemmas.Grind.{common_steps}
use Rattle.std.proofs.lemmas.Slice.{take-put_mid_below}
use Rattle.pt_disks.proofs.BlocksLemmas.{filled_more}
use Rattle.pt_disks.proofs.file_disk.read_whole.Goals as goal
use Rattle.pt_disks.proofs.file_disk.read_whole.Goals.{in-Ok, in-Err}

pub loop-preserved : goal.loop-preserved
loop-preserved g c = elim c.match-read_at.branch [
  | in-Ok w ↦
      let fits : w.in-Ok.n ≤ length c.read_at.new.into = w.in-Ok.ensures.bound.0 in
      let within : c.match-read_at.done ≤ length c.loop.into = grind (arith, common_steps, w.done-is, fits) in
      record {
        in_range = grind (arith, common_steps, within);
        filled = λ tells.
            rw w.done-is (filled_more c.loop.done w.in-Ok.n c.args.at c.loop.into c.read_at.new.into _
            (g.S.Store.told c.args.store.now).seen
            c.loop.invariant.in_range fits (c.loop.invariant.filled tells) (w.in-Ok.ensures.bytes tells));
      }
  | in-Err w ↦ record {
    in_range = grind (arith, common_steps, w.done-is);
    filled = λ tells.
        rw w.done-is (take-put_mid_below c.loop.done (length c.loop.into - c.loop.done) c.loop.into c.read_at.new.into c.loop.done
        (omega arith) c.loop.invariant.in_range ∙ c.loop.invariant.filled tells);
  }
]

use Rattle.std.proofs.Common.{◌∙◌, ◌+◌, ◌*◌, refl, arith}
use Rattle.std.specs.Prelude.{slice_range}
use Rattle.pt_gpt.specs.Entries.{EntryIs}
use Rattle.pt_gpt.proofs.Parts.{pushed_none, pushed_one}
use Rattle.pt_gpt.proofs.entries.push_entries.Goals as goal

pub loop-k-init : goal.loop-k-init
loop-k-init c = record { pushed = pushed_none c.args.part.now c.args.items.now.items; len = omega arith; capacity = refl }

pub loop-k-preserved : goal.loop-k-preserved
loop-k-preserved c =
    let before = c.loop-k.invariant in
    let told = c.push_reserved.ensures in
    let part = c.args.part.now in
    let k = c.loop-k.k in
    let is : EntryIs c.entry.result (slice_range part (k * 128) (k * 128 + 128)) = rw (← c.in_part.ensures) c.entry.ensures in
    record {
      pushed =
          pushed_one part c.args.items.now.items c.loop-k.items.items c.push_reserved.new.self.items k c.entry.result before.pushed is
          told.items;
      len = omega (arith, told.len, before.len);
      capacity = told.capacity ∙ before.capacity;
    }

use Rattle.std.proofs.Common.{◌∙◌, sym, inl, inr}
use Rattle.pt_edit.specs.Space.{area_of}
use Rattle.pt_edit.proofs.BlockEnds.{free_from, started_free, started_outside, started_taken, taken_from}
use Rattle.pt_edit.proofs.space.placement.start_at.Goals as goal
use Rattle.pt_edit.proofs.space.placement.start_at.Goals.{then-first-space-via-then-first-space}
use Rattle.pt_edit.proofs.space.placement.start_at.Goals.{then-first-space-via-else-first-space+then-first-space-2}

pub returns-then-first-space : goal.returns-then-first-space
returns-then-first-space c =
    sym (started_outside (area_of c.args.space.now) c.args.first (elim c.then-first-space.branch [
      | then-first-space-via-then-first-space w ↦ inl w.if-first-space.true
      | then-first-space-via-else-first-space+then-first-space-2 w ↦ inr (w.if-first-space.false, w.if-first-space-2.true)
    ]))

pub returns-then-is_in : goal.returns-then-is_in
returns-then-is_in c =
    let a = area_of c.args.space.now in
    sym (started_taken a c.args.first c.if-first-space.false c.if-first-space-2.false
    (taken_from a c.deref.result.now c.args.first c.is_in.result c.deref.ensures.value c.is_in.ensures c.if-is_in.true))

pub block_end-last-requires : goal.block_end-last-requires
block_end-last-requires c =
    free_from (area_of c.args.space.now) c.deref.result.now c.args.first c.is_in.result c.deref.ensures.value c.is_in.ensures
    c.if-is_in.false c.if-first-space.false c.if-first-space-2.false

pub returns : goal.returns
returns c =
    let a = area_of c.args.space.now in
    let free = free_from a c.deref.result.now c.args.first c.is_in.result c.deref.ensures.value c.is_in.ensures c.if-is_in.false
    c.if-first-space.false c.if-first-space-2.false in
    c.led.ensures ∙ sym (started_free a c.args.first c.block_end-last.result free c.block_end-last.ensures)

use Rattle.std.proofs.Common.{◌<◌, length, refl, sym, subst, arith, rules}
use Rattle.std.proofs.lemmas.List.{get_or_default}
use Rattle.pt_replay.specs.inner.Wanted.{IsUnasked, NoRows}
use Rattle.pt_replay.specs.declared.answers.Answer.{Answer}
use Rattle.pt_replay.specs.declared.plan_rows.Partial.{Partial}
use Rattle.pt_replay.proofs.NoPlan.{none_in_order, one_in_order, groups_are, size_some, no_sectors, no_rows_here}
use Rattle.pt_replay.proofs.PlanRows.{none_read, none_grows, one_read, one_grows}
use Rattle.pt_replay.proofs.plan_rows.plan_of_rows.Goals as goal
use Rattle.pt_replay.proofs.plan_rows.plan_of_rows.Goals.{then-not-is_empty-via-then-not-is_empty}
use Rattle.pt_replay.proofs.plan_rows.plan_of_rows.Goals.{then-not-is_empty-via-else-not-is_empty+then-sectors-writes}

pub loop-k-init : goal.loop-k-init
loop-k-init g c =
    let p : Partial g.row.B = record { phases = c.new.result; last = c.new-2.result; number = 1 } in (
      none_read p c.new.ensures.items c.new-2.ensures.items refl,
      none_grows p c.new.ensures.items c.new-2.ensures.items refl,
      none_in_order c.args.writes.now,
    )

pub loop-k-preserved : goal.loop-k-preserved
loop-k-preserved g c =
    let within : c.loop-k.k < length c.args.writes.now = let test = c.loop-k-test.true in omega (arith, test) in
    let sectors : c.loop-k.k < length c.as_chunks.result.0.now =
    let same = c.if-sectors-writes.false in omega (arith, within, same) in
    let row = get_or_default c.args.writes.now c.loop-k.k _ _ within in
    let took = c.in-Ok-true.ensures.good c.in-Ok-true.field-0-test in (
      one_read c.args.writes.now c.as_chunks.result.0.now c.loop-k.k _ c.index-sectors-k.result c.loop-k.partial c.add_write.new.partial
          within sectors row c.index-sectors-k.is c.loop-k.invariant.0 took,
      one_grows c.args.writes.now c.loop-k.k _ c.index-sectors-k.result c.loop-k.partial c.add_write.new.partial within row
          c.loop-k.invariant.1 took,
      one_in_order c.args.writes.now c.loop-k.k _ c.index-sectors-k.result c.loop-k.partial c.add_write.new.partial within row
          c.loop-k.invariant.1 took c.loop-k.invariant.2,
    )

pub returns-then-not-is_empty-clause-err : goal.returns-then-not-is_empty-clause-err
returns-then-not-is_empty-clause-err g c =
    subst (λ (a : Answer). IsUnasked (NoRows g.row.B c.args.writes.now c.args.bytes.now) a.status a.reply) (sym c.bad_argument.ensures.told)
    (no_sectors g.row.B c.args.writes.now c.args.bytes.now _ (λ whole.
    let are = groups_are g.row.B (length c.args.bytes.now) (length c.args.writes.now) (size_some g.row.B c.requires.size) whole in
    let front = c.as_chunks.ensures.front_len in
    let back = c.as_chunks.ensures.back_len in
    let empty = c.is_empty.ensures in
    elim c.then-not-is_empty.branch as (λ _. ⊥) [
      | then-not-is_empty-via-then-not-is_empty w ↦ let some = w.if-not-is_empty.true in grind (arith, are.0, back, empty, some)
      | then-not-is_empty-via-else-not-is_empty+then-sectors-writes w ↦
          let other = w.if-sectors-writes.true in grind (arith, are.1, front, other)
    ]) refl)

pub returns-in-Ok-false-clause-err : goal.returns-in-Ok-false-clause-err
returns-in-Ok-false-clause-err g c =
    let within : c.loop-k.k < length c.args.writes.now = let test = c.loop-k-test.true in omega (arith, test) in
    subst (λ (a : Answer). IsUnasked (NoRows g.row.B c.args.writes.now c.args.bytes.now) a.status a.reply) (sym c.misplaced.ensures.told)
    (no_rows_here c.args.writes.now c.args.bytes.now c.loop-k.k _ c.loop-k.partial _ (search rules) within
    (get_or_default c.args.writes.now c.loop-k.k _ _ within) c.loop-k.invariant.1 c.loop-k.invariant.2
    (c.in-Ok-false.ensures.bad c.in-Ok-false.field-0-test) refl)

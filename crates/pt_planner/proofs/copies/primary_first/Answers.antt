use Rattle.std.proofs.Common.{◌∙◌, ap}
use Rattle.std.proofs.lemmas.Result.{err_from_is_err_and}
use Rattle.pt_apply.specs.Plans.{writes_of}
use Rattle.pt_apply.specs.inner.Plans.{phases_in}
use Rattle.pt_sector.specs.Sectors.{Writes}
use Rattle.pt_gpt.specs.Copies.{IsEncoded}
use Rattle.pt_cases.specs.Cases.{primary_first_phases, primary_and_labels}
use Rattle.pt_planner.specs.Phases.{last_of, WroteCopies}
use Rattle.pt_planner.proofs.Assembling.{wrote_primary_first}
use Rattle.pt_planner.proofs.Wrote.{primary_first_in_range, primary_first_some, primary_first_count}
use Rattle.pt_planner.proofs.copies.primary_first.Goals as goal

pub returns : goal.returns
returns g c =
    let encoded : IsEncoded c.args.table.now.entries c.in_ok-array.array = rw c.as_slice.ensures at c.in_ok-array.ensures in
    let labels : Writes = writes_of c.args.labels.items in
    let is : WroteCopies g.row.B c.args.sectors c.args.table.now
    (λ p k. primary_first_phases g.row.B c.args.sectors c.args.table.now p k labels (last_of c.args.last.now))
    (phases_in c.push_last.new.phases.items) =
    wrote_primary_first g.row.B c.args.sectors c.args.table.now labels _ (writes_of c.push_backup.new.writes.items)
    (writes_of c.in_ok-writes.writes.items) c.args.last.now _ _ _ _
    (ap writes_of c.new-backup.ensures.items)
    c.in_ok-push_backup.ensures
    (c.in_ok-writes.ensures c.args.sectors c.args.table.now encoded ∙ ap
    (λ (ws : _). primary_and_labels g.row.B c.args.sectors c.args.table.now (writes_of ws)) c.as_slice-2.ensures.value)
    (ap phases_in c.new-phases.ensures.items)
    c.in_ok-push_primary.ensures
    c.in_ok-push_phase.ensures
    c.in_ok-push_last.ensures in
    record {
      phases = is;
      in_range = primary_first_in_range g.row.B c.args.sectors c.args.table.now c.args.labels.items c.push_last.new.phases.items
          c.requires.size c.requires.room c.requires.labels_in_range c.args.last.now is;
      some = primary_first_some g.row.B c.args.sectors c.args.table.now c.args.labels.items c.push_last.new.phases.items c.requires.size
          c.requires.room c.requires.labels_in_range c.args.last.now is;
      count = primary_first_count g.row.B c.args.sectors c.args.table.now c.args.labels.items c.push_last.new.phases.items c.requires.size
          c.requires.room c.requires.labels_in_range c.args.last.now is;
    }

pub returns-in_err-array : goal.returns-in_err-array
returns-in_err-array g c =
    let p = err_from_is_err_and c.from_residual.result c.from_residual.ensures.1 in
    record { phases = rw p.1 tt; in_range = rw p.1 tt; some = rw p.1 tt; count = rw p.1 tt }

pub returns-in_err-writes : goal.returns-in_err-writes
returns-in_err-writes g c =
    let p = err_from_is_err_and c.from_residual-in_err-writes.result c.from_residual-in_err-writes.ensures.1 in
    record { phases = rw p.1 tt; in_range = rw p.1 tt; some = rw p.1 tt; count = rw p.1 tt }

pub returns-in_err-push_backup : goal.returns-in_err-push_backup
returns-in_err-push_backup g c =
    let p = err_from_is_err_and c.from_residual-in_err-push_backup.result c.from_residual-in_err-push_backup.ensures.1 in
    record { phases = rw p.1 tt; in_range = rw p.1 tt; some = rw p.1 tt; count = rw p.1 tt }

pub returns-in_err-push_primary : goal.returns-in_err-push_primary
returns-in_err-push_primary g c =
    let p = err_from_is_err_and c.from_residual-in_err-push_primary.result c.from_residual-in_err-push_primary.ensures.1 in
    record { phases = rw p.1 tt; in_range = rw p.1 tt; some = rw p.1 tt; count = rw p.1 tt }

pub returns-in_err-push_phase : goal.returns-in_err-push_phase
returns-in_err-push_phase g c =
    let p = err_from_is_err_and c.from_residual-in_err-push_phase.result c.from_residual-in_err-push_phase.ensures.1 in
    record { phases = rw p.1 tt; in_range = rw p.1 tt; some = rw p.1 tt; count = rw p.1 tt }

pub returns-in_err-push_last : goal.returns-in_err-push_last
returns-in_err-push_last g c =
    let p = err_from_is_err_and c.from_residual-in_err-push_last.result c.from_residual-in_err-push_last.ensures.1 in
    record { phases = rw p.1 tt; in_range = rw p.1 tt; some = rw p.1 tt; count = rw p.1 tt }

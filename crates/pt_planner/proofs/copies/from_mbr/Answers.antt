use Rattle.std.proofs.Common.{◌∙◌, ◌++◌, ap}
use Rattle.std.proofs.lemmas.Result.{err_from_is_err_and}
use Rattle.pt_apply.specs.Plans.{writes_of}
use Rattle.pt_apply.specs.inner.Plans.{phases_in}
use Rattle.pt_sector.specs.Sectors.{Writes}
use Rattle.pt_gpt.specs.Copies.{IsEncoded}
use Rattle.pt_cases.specs.Cases.{from_mbr_phases}
use Rattle.pt_planner.specs.Phases.{WroteCopies}
use Rattle.pt_planner.proofs.Assembling.{wrote_from_mbr}
use Rattle.pt_planner.proofs.Ranges.{writes_both}
use Rattle.pt_planner.proofs.Wrote.{from_mbr_in_range, from_mbr_some, from_mbr_count}
use Rattle.pt_planner.proofs.copies.from_mbr.Goals as goal

pub returns : goal.returns
returns g c =
    let encoded : IsEncoded c.args.table.now.entries c.in_ok-array.array = rw c.as_slice.ensures at c.in_ok-array.ensures in
    let labels : Writes = writes_of c.args.labels.items in
    let is : WroteCopies g.row.B c.args.sectors c.args.table.now
    (λ p k. from_mbr_phases g.row.B c.args.sectors c.args.table.now p k labels c.args.head.now)
    (phases_in c.push_single.new.phases.items) =
    wrote_from_mbr g.row.B c.args.sectors c.args.table.now labels _ _ _
    (writes_of c.push_backup.new.writes.items) c.header_sector-header.result c.args.head.now _ _ _ c.header_sector-header.ensures.bytes
    c.header_sector-header.ensures.fit
    c.in_ok-writes.ensures
    (c.in_ok-push_array.ensures c.args.table.now.entries encoded)
    (ap writes_of (c.in_ok-extend_from_slice.ensures.items ∙ ap (λ ws. c.push_array.new.writes.items ++ ws) c.as_slice-2.ensures.value)
    ∙ writes_both c.push_array.new.writes.items c.args.labels.items)
    c.in_ok-push_backup.ensures
    (ap phases_in c.new-phases.ensures.items)
    c.in_ok-push_phase.ensures
    c.in_ok-push_single.ensures in
    record {
      phases = is;
      in_range = from_mbr_in_range g.row.B c.args.sectors c.args.table.now c.args.labels.items c.push_single.new.phases.items
          c.requires.size c.requires.room c.requires.labels_in_range c.args.head.now is;
      some = from_mbr_some g.row.B c.args.sectors c.args.table.now c.args.labels.items c.push_single.new.phases.items c.requires.size
          c.requires.room c.requires.labels_in_range c.args.head.now is;
      count = from_mbr_count g.row.B c.args.sectors c.args.table.now c.args.labels.items c.push_single.new.phases.items c.requires.size
          c.requires.room c.requires.labels_in_range c.args.head.now is;
    }

pub returns-in_err-array : goal.returns-in_err-array
returns-in_err-array g c =
    let p = err_from_is_err_and c.from_residual.result c.from_residual.ensures.1 in
    record { phases = rw p.1 tt; in_range = rw p.1 tt; some = rw p.1 tt; count = rw p.1 tt }

pub returns-in_err-writes : goal.returns-in_err-writes
returns-in_err-writes g c =
    let p = err_from_is_err_and c.from_residual-in_err-writes.result c.from_residual-in_err-writes.ensures.1 in
    record { phases = rw p.1 tt; in_range = rw p.1 tt; some = rw p.1 tt; count = rw p.1 tt }

pub returns-in_err-push_array : goal.returns-in_err-push_array
returns-in_err-push_array g c =
    let p = err_from_is_err_and c.from_residual-in_err-push_array.result c.from_residual-in_err-push_array.ensures.1 in
    record { phases = rw p.1 tt; in_range = rw p.1 tt; some = rw p.1 tt; count = rw p.1 tt }

pub returns-in_err-extend_from_slice : goal.returns-in_err-extend_from_slice
returns-in_err-extend_from_slice g c =
    let p = err_from_is_err_and c.from_residual-in_err-extend_from_slice.result c.from_residual-in_err-extend_from_slice.ensures.1 in
    record { phases = rw p.1 tt; in_range = rw p.1 tt; some = rw p.1 tt; count = rw p.1 tt }

pub returns-in_err-push_backup : goal.returns-in_err-push_backup
returns-in_err-push_backup g c =
    let p = err_from_is_err_and c.from_residual-in_err-push_backup.result c.from_residual-in_err-push_backup.ensures.1 in
    record { phases = rw p.1 tt; in_range = rw p.1 tt; some = rw p.1 tt; count = rw p.1 tt }

pub returns-in_err-push_phase : goal.returns-in_err-push_phase
returns-in_err-push_phase g c =
    let p = err_from_is_err_and c.from_residual-in_err-push_phase.result c.from_residual-in_err-push_phase.ensures.1 in
    record { phases = rw p.1 tt; in_range = rw p.1 tt; some = rw p.1 tt; count = rw p.1 tt }

pub returns-in_err-push_single : goal.returns-in_err-push_single
returns-in_err-push_single g c =
    let p = err_from_is_err_and c.from_residual-in_err-push_single.result c.from_residual-in_err-push_single.ensures.1 in
    record { phases = rw p.1 tt; in_range = rw p.1 tt; some = rw p.1 tt; count = rw p.1 tt }

use Rattle.std.proofs.Common.{List, map, Bor, sym, ◌∙◌}
use Rattle.pt_types.specs.Types.{entry_row}
use Rattle.pt_types.specs.declared.entries.EntryType.{EntryType}
use Rattle.pt_types.specs.inner.Sought.{is_sought}
use Rattle.pt_types.proofs.Finding.{found_here, found_later}
use Rattle.pt_types.proofs.lookup.first_of.Goals as goal

pub returns-in-Some : goal.returns-in-Some
returns-in-Some c =
    sym (c.loop-rows.invariant
    ∙ found_here (is_sought c.args.sought.now) (λ (rows : Bor (List EntryType)). map entry_row rows.now) c.args.families.now
    c.loop-rows.rows-index _ (entry_row c.in-Some.row) c.loop-rows-test.true c.in-Some.ensures)

pub loop-rows-preserved : goal.loop-rows-preserved
loop-rows-preserved c =
    c.loop-rows.invariant
    ∙ found_later (is_sought c.args.sought.now) (λ (rows : Bor (List EntryType)). map entry_row rows.now) c.args.families.now
    c.loop-rows.rows-index _ c.loop-rows-test.true c.in_default.ensures

use Rattle.std.proofs.Common.{◌≡◌, drop}
use Rattle.std.specs.List.{list_any}
use Rattle.pt_edit.specs.Entries.{has_unique, is_elsewhere, without_entry}
use Rattle.pt_edit.proofs.entries.is_elsewhere.Given as goal

abbrev pub invariant-loop-index : goal.invariant-loop-index
invariant-loop-index l =
    list_any (has_unique l.guid) (drop l.index (without_entry l.table l.number)) ≡ is_elsewhere l.table l.number l.guid

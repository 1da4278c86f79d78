use Rattle.std.proofs.Common.{◌≡◌, drop}
use Rattle.std.specs.List.{list_any}
use Rattle.pt_edit.specs.Entries.{is_ebr_outside}
use Rattle.pt_edit.proofs.room.has_ebr_outside.Given as goal

abbrev pub invariant-loop-ebr : goal.invariant-loop-ebr
invariant-loop-ebr g l =
    list_any (is_ebr_outside g.row.B l.sectors) (drop l.ebr-index l.chain) ≡ list_any (is_ebr_outside g.row.B l.sectors) l.chain

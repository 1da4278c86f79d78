use Rattle.std.proofs.Common.{◌≡◌, ◌++◌, ◌-◌, string_bytes}
use Rattle.std.specs.Prelude.{flat_map}
use Rattle.pt_human.specs.Bar.{cell_bytes, cells_text, from_on}
use Rattle.pt_human.proofs.bar.push_cells.Given as goal

abbrev pub invariant-loop-k : goal.invariant-loop-k
invariant-loop-k l =
    string_bytes l.initial.text ++ cells_text l.sectors l.lines
    ≡ string_bytes l.text ++ flat_map (cell_bytes l.sectors l.lines) (from_on l.k (60 - l.k))

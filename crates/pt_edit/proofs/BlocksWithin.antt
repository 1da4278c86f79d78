-- Blocks lie among the usable sectors.
use Rattle.std.proofs.Common.{◌<◌, ℕ, List, length, get_or, arith}
use Rattle.std.proofs.lemmas.List.Elements.{Contains-get_or}
use Rattle.pt_edit.specs.declared.space.Run.{Run}
use Rattle.pt_edit.specs.Space.{Area, AreBlocks}

pub all_below : (a : Area) (runs : List Run) (bound : ℕ) → AreBlocks a runs → a.high < bound → (k : ℕ) (d : Run) → k < length runs
    → ((get_or runs k d).first < bound) × ((get_or runs k d).last < bound)
all_below a runs bound are high k d within =
    let r = get_or runs k d in
    let is = are.each r (Contains-get_or runs k d within) in
    let some = is.some in
    let last = (is.free r.last (omega arith, omega arith)).0.1 in
    (omega arith, omega arith)

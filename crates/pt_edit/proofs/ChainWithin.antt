-- A new logical partition, with the sector before it, lies in its parent.
use Rattle.std.proofs.Common.{◌≡◌, ◌<◌, ◌≤◌, ◌+◌, ◌-◌, ℕ, List, arith}
use Rattle.pt_mbr.specs.declared.record.Record.{Record}
use Rattle.pt_mbr.specs.declared.ebr.Ebr.{Ebr}
use Rattle.pt_edit.specs.declared.space.Run.{Run}
use Rattle.pt_edit.specs.Space.{IsFreeRun, Placed}
use Rattle.pt_edit.proofs.Placing.{placed_is_free_lem}
use Rattle.pt_words.specs.declared.word.End.{End}
use Rattle.pt_edit.specs.Chains.{logical_area}

pub placed_within : (x : Record) (chain : List Ebr) (alignment start : ℕ) (end : End) (r : Run)
    → Placed (logical_area x chain) alignment start end r → (x.start < r.first) × (r.first ≤ r.last) × (r.last < x.start + x.size)
placed_within x chain alignment start end r placed =
    let free : IsFreeRun (logical_area x chain) r = placed_is_free_lem (logical_area x chain) alignment start end r placed in
    let some = free.some in
    let last : r.last ≤ x.start + x.size - 1 = (free.free r.last (some, omega arith)).0.1 in
    let led = free.leads in
    let low : x.start ≤ led.0 = led.2.0.0 in
    let next : led.0 + 1 ≡ r.first = led.1 in
    (omega (arith, low, next), some, omega (arith, low, next, last, some))

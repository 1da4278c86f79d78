-- Bounds of a new record's number and sectors.
use Rattle.std.proofs.Common.{◌<◌, ◌≤◌, ◌-◌, ◌^◌, ℕ, List, min, Option, arith}
use Rattle.pt_mbr.specs.declared.record.Record.{Record}
use Rattle.pt_edit.specs.declared.space.Run.{Run}
use Rattle.pt_edit.specs.Space.{IsFreeRun, Placed}
use Rattle.pt_edit.proofs.Placing.{placed_is_free_lem}
use Rattle.pt_words.specs.declared.word.End.{End}
use Rattle.pt_edit.specs.MbrEdits.{disk_area}

pub placed_within : (n : ℕ) (records : List (Option Record)) (alignment start : ℕ) (end : End) (r : Run)
    → Placed (disk_area n records) alignment start end r → (1 ≤ r.first) × (r.first ≤ r.last) × (r.last < 2 ^ 32)
placed_within n records alignment start end r placed =
    let free : IsFreeRun (disk_area n records) r = placed_is_free_lem (disk_area n records) alignment start end r placed in
    let some = free.some in
    let low : 1 ≤ r.first = (free.free r.first (omega arith, some)).0.0 in
    let high : r.last ≤ min (n - 1) 4294967295 = (free.free r.last (some, omega arith)).0.1 in
    (low, some, omega (arith, high))

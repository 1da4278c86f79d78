-- Consecutive sectors of a disk, as a disk of their own.
use Rattle.std.specs.Prelude.{ℕ, ◌-◌, List, map, take, drop, nat_le, nat_lt, Option, Some, None, if◌then◌else◌}
use Rattle.std.specs.List.{filter_map}
use Rattle.jawefon.specs.Sectors.{Sectors, Writes}
use Rattle.jawefon.specs.Device.{Told, Moment}

-- n sectors from this one on
abbrev pub window : ℕ → ℕ → Sectors → Sectors
window first n d = take n (drop first d)

-- a write of one of them, by its number among them
abbrev pub moved : ℕ → ℕ → ℕ × List ℕ → Option (ℕ × List ℕ)
moved first n w = if nat_le first w.0 then (if nat_lt (w.0 - first) n then Some (w.0 - first, w.1) else None) else None

abbrev pub writes_in : ℕ → ℕ → Writes → Writes
writes_in first n ws = filter_map (moved first n) ws

abbrev pub moment_in : ℕ → ℕ → Moment → Moment
moment_in first n m = (window first n m.0, writes_in first n m.1)

-- what a disk tells of them
abbrev pub told_in : ℕ → ℕ → Told → Told
told_in first n told = record {
  seen = window first n told.seen;
  durable = window first n told.durable;
  pending = writes_in first n told.pending;
  past = map (moment_in first n) told.past;
}

-- Disks in memory, and what is pending on one.
use Rattle.std.specs.Prelude.{List, [], ◌∷◌, map, if◌then◌else◌, slice_set, ℕ, Vec, replicate}
use Rattle.pt_sector.specs.Sectors.{Sectors, Writes}
use Rattle.pt_disks.specs.declared.in_memory.cache.Pending.{Pending}
use Rattle.std.specs.declared.alloc.Global.{Global}
use Rattle.pt_sector.specs.Device.{Told, Moment, told_of}

-- ## Pending writes, and what a read gives while they are pending.

-- the durable sectors with the writes that a read gives
abbrev pub reading : {b : _} → List (Pending b) → Sectors → Sectors
reading [] d = d
reading (p ∷ ps) d = reading ps (if p.reads then slice_set d p.lba.0 p.bytes else d)

abbrev pub pending_writes : {b : _} → List (Pending b) → Writes
pending_writes ps = map (λ (p : Pending _). (p.lba.0, p.bytes)) ps

-- ## What a disk in memory tells.

-- n sectors of b zero bytes
abbrev pub zero_sectors : ℕ → ℕ → Sectors
zero_sectors b n = replicate n (replicate b 0)

abbrev pub moments : List (Vec (List ℕ) Global) → List Moment
moments past = map (λ (v : Vec (List ℕ) Global). (v.items, [])) past

-- all is durable, and nothing pending
abbrev pub mem_told : Sectors → List (Vec (List ℕ) Global) → Told
mem_told now past = told_of now now [] (moments past)

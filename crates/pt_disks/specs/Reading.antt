-- What a read gives while writes are pending.
use Rattle.std.proofs.Common.{ℕ, List, [], ◌∷◌, cond, ◌&&◌, ◌==◌}
use Rattle.pt_disks.specs.declared.in_memory.cache.Pending.{Pending}

-- sector k, from what it held before these writes
abbrev pub read_at : {b : _} → List (Pending b) → ℕ → List ℕ → List ℕ
read_at [] k v = v
read_at (p ∷ ps) k v = read_at ps k (cond (p.reads && (p.lba.0 == k)) p.bytes v)

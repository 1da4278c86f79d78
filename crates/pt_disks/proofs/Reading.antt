-- Lemmas on what a read gives while writes are pending.
use Rattle.std.proofs.Common.{◌≡◌, List, [], ◌∷◌, cond, slice_set, refl, ◌++◌}
use Rattle.pt_sector.specs.Sectors.{Sectors}
use Rattle.pt_disks.specs.Memory.{reading}
use Rattle.pt_disks.specs.declared.in_memory.cache.Pending.{Pending}

pub reading-push : {b : _} (ps : List (Pending b)) (p : Pending b) (d : Sectors)
    → reading (ps ++ p ∷ []) d ≡ cond p.reads (slice_set (reading ps d) p.lba.0 p.bytes) (reading ps d)
reading-push [] p d = refl
reading-push (q ∷ ps) p d = reading-push ps p (cond q.reads (slice_set d q.lba.0 q.bytes) d)

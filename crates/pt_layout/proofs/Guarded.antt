-- Lemmas on specs/Healthy.antt: the sectors that a plan may write in its switch alone, on a disk that turns there.
use Rattle.std.proofs.Common.{ℕ, length, None, subst}
use Rattle.pt_sector.specs.Sectors.{Sectors}
use Rattle.pt_recover.specs.Denotes as denotes
use Rattle.pt_recover.specs.Denotes.{BodyIs, Denotes, Reads, IsMbrDisk}
use Rattle.pt_members.specs.Members.{places_of, IsPlace}
use Rattle.pt_recover.proofs.One.{body_one}
use Rattle.pt_members.specs.declared.layout.Body.{Body}
use Rattle.pt_layout.specs.Healthy.{IsGuarded, head, ebr, place}

-- what is guarded is read
pub guarded_reads : (b : ℕ) (d : Sectors) (s : ℕ) → IsGuarded b d s → Reads b d s
guarded_reads b d s (head mbr at) = denotes.body (denotes.head mbr.0 at)
guarded_reads b d s (ebr m is reads) = denotes.body (denotes.chain m is reads)
guarded_reads b d s (place y is at) = denotes.label y is at

-- what recovery of an MBR disk reads is guarded
pub reads_guarded : (b : ℕ) (d : Sectors) (s : ℕ) → IsMbrDisk d → Reads b d s → IsGuarded b d s
reads_guarded b d s mbr (denotes.body (denotes.head some at)) = head mbr at
reads_guarded b d s mbr (denotes.body (denotes.chain m is reads)) = ebr m is reads
reads_guarded b d s mbr (denotes.body (denotes.table plain enough reads)) = absurd (plain mbr)
reads_guarded b d s mbr (denotes.label y is at) = place y is at

-- on another disk the label places of its body are guarded
pub guarded_places : (b : ℕ) (d : Sectors) (y : Body) (s : ℕ) → ¬ IsMbrDisk d → BodyIs b d y → IsGuarded b d s
    → IsPlace (places_of b (length d) y) s
guarded_places b d y s plain is (head mbr at) = absurd (plain mbr)
guarded_places b d y s plain is (ebr m of reads) = absurd (plain of.0)
guarded_places b d y s plain is (place x other at) =
    subst (λ (z : Body). IsPlace (places_of b (length d) z) s) (body_one b d x y other is) at

-- and nothing where it denotes nothing
pub guarded_nowhere : (b : ℕ) (d : Sectors) (s : ℕ) → ¬ IsMbrDisk d → Denotes b d None → ¬ IsGuarded b d s
guarded_nowhere b d s plain none (head mbr at) = plain mbr
guarded_nowhere b d s plain none (ebr m is reads) = plain is.0
guarded_nowhere b d s plain none (place y is at) = none y is

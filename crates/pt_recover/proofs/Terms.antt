-- The laws of what disks denote, as terms that definitions and proofs above can cite.
use Rattle.std.specs.Prelude.{◌≡◌, ℕ, Option, None}
use Rattle.pt_sector.specs.Sectors.{Sectors, Agrees, Writes, Stopped}
use Rattle.pt_sector.proofs.Written.{agrees_stopped}
use Rattle.pt_recover.specs.Denotes.{Denotes, Reads, SameMeaning, IsReason, LeavesReads}
use Rattle.pt_recover.proofs.Same.{same_meaning}
use Rattle.pt_recover.proofs.One.{denoted_one}
use Rattle.pt_recover.proofs.Reasons.{reason_one, reason_nothing}
use Rattle.pt_members.specs.declared.layout.Layout.{Layout}
use Rattle.pt_recover.specs.declared.error.NoTable.{NoTable}

-- who agrees with d on what recovery of d reads denotes what d does, by the same sectors
pub reads_decide_lem : (b : ℕ) (c d : Sectors) → Agrees (Reads b d) c d → SameMeaning b c d
reads_decide_lem = same_meaning

-- a disk denotes one thing at most
pub denotes_one_lem : (b : ℕ) (d : Sectors) (o p : Option Layout) → Denotes b d o → Denotes b d p → o ≡ p
denotes_one_lem = denoted_one

-- a stop in a phase that writes nothing that is read leaves a disk of the same meaning
pub stop_keeps_lem : (b : ℕ) (d c : Sectors) (phase : Writes) → LeavesReads b d phase → Stopped d phase c → SameMeaning b c d
stop_keeps_lem b d c phase leaves stopped =
    same_meaning b c d (agrees_stopped (Reads b d) d phase c (λ s bytes read puts. leaves s bytes puts read) stopped)

-- a disk has one reason at most to denote nothing
pub reason_is_one_lem : (b : ℕ) (d : Sectors) (e f : NoTable) → IsReason b d e → IsReason b d f → e ≡ f
reason_is_one_lem = reason_one

-- a disk with a reason denotes nothing
pub reason_is_nothing_lem : (b : ℕ) (d : Sectors) (e : NoTable) → IsReason b d e → Denotes b d None
reason_is_nothing_lem = reason_nothing

-- Where a device failed.
use Rattle.std.specs.Prelude.{◌≡◌, ◌<◌, ℕ, List, length, get_or, Option, Some, None}
use Rattle.std.proofs.Common.{[], ◌∷◌, zero, suc, refl, sym, subst, arith, inl, inr}
use Rattle.pt_sector.specs.Sectors.{Sectors}
use Rattle.pt_sector.specs.Overlays.{FailedIn as FailedAt}
use Rattle.pt_sector.proofs.ReadsLemmas.{failed_more}
use Rattle.pt_sector.specs.declared.address.Lba.{Lba}
use Rattle.pt_sector.specs.declared.reading.Failure.{Failure}
use Rattle.pt_sector.specs.declared.reading.Failure.TheVariants as failure
use Rattle.pt_mbr.specs.declared.record.Record.{Record}
use Rattle.pt_gpt.specs.Copies.{SideReads, HasCopy, IsOutsideCopy, failure_in as failure_of_copy, FailedInCopy, HasRoom}
use Rattle.pt_gpt.specs.declared.table.Side.TheVariants.{Primary, Backup}
use Rattle.pt_gpt.specs.declared.error.CopyError.{CopyError}
use Rattle.pt_gpt.specs.declared.error.CopyError.TheVariants as copy
use Rattle.pt_mbr.specs.Records.{extended_of}
use Rattle.pt_recover.specs.Denotes.{IsMbrDisk, IsMbr, ExtendedReads, TableReads, BodyIs, BodyReads, Reads, body, label, chain, table}
use Rattle.pt_recover.specs.Denotes.{FailedInDisk, told_failure}
use Rattle.pt_members.specs.Members.{places_of, place_of, IsPlace}
use Rattle.pt_recover.specs.inner.Denotes.{RestReads, of_chain, of_table}
use Rattle.pt_members.specs.declared.layout.Body.{Body}
use Rattle.pt_members.specs.declared.layout.Slice.{Slice}
use Rattle.pt_recover.specs.declared.error.NoTable.{NoTable}
use Rattle.pt_recover.specs.declared.error.NoTable.TheVariants.{NoCopy, Chain, TwoExtended, TooSmall, Device, Memory}

-- at one of more sectors
pub wider : (S T : ℕ → Type 0) (e : NoTable) → ((s : ℕ) → S s → T s) → FailedInDisk S e → FailedInDisk T e
wider S T (Device at) more is = more at.0 is
wider S T (NoCopy e f) more is = tt
wider S T (Chain e) more is = tt
wider S T TwoExtended more is = tt
wider S T TooSmall more is = tt
wider S T Memory more is = tt

-- what recovery tells of a failure
failed_wider : (S T : ℕ → Type 0) (f : Failure) → ((s : ℕ) → S s → T s) → FailedAt S f → FailedInDisk T (told_failure f)
failed_wider S T (failure.Device at) more is = more at.0 is
failed_wider S T failure.Memory more is = tt

-- a copy's failure
pub told_failed : (S : ℕ → Type 0) (e : CopyError) (f : Failure) → failure_of_copy e ≡ Some f → FailedInCopy S e → FailedAt S f
told_failed S (copy.Device at) (failure.Device y) told is = (let here : at ≡ y = cc in subst (λ (l : Lba). S l.0) here is)
told_failed S (copy.Device at) failure.Memory told is = tt
told_failed S copy.Memory (failure.Device y) told is = absurd cc
told_failed S copy.Memory failure.Memory told is = tt
told_failed S _ f told is = absurd cc

-- and what a failure of both sides is
pub primary_failed : (b : ℕ) (d : Sectors) (f : Failure) → FailedAt (SideReads b d Primary) f → FailedAt (TableReads b d) f
primary_failed b d f = failed_more (SideReads b d Primary) (TableReads b d) f (λ s reads. inl reads)

pub backup_failed : (b : ℕ) (d : Sectors) (f : Failure) → ¬ HasCopy b d Primary → FailedAt (SideReads b d Backup) f
    → FailedAt (TableReads b d) f
backup_failed b d f none = failed_more (SideReads b d Backup) (TableReads b d) f (λ s reads. inr (none, reads))

-- an error that is no failure
pub inside_of : (e : CopyError) → failure_of_copy e ≡ None → ¬ IsOutsideCopy e
inside_of (copy.Device at) none = absurd cc
inside_of copy.Memory none = absurd cc
inside_of _ none = λ out. out

pub rest_of_chain : (b : ℕ) (d : Sectors) (m : List (Option Record)) (e : NoTable) → IsMbr d m
    → FailedInDisk (ExtendedReads d (extended_of m)) e → FailedInDisk (RestReads b d) e
rest_of_chain b d m e is = wider (ExtendedReads d (extended_of m)) (RestReads b d) e (λ s reads. of_chain m is reads)

pub rest_of_table : (b : ℕ) (d : Sectors) (f : Failure) → ¬ IsMbrDisk d → HasRoom b (length d) → FailedAt (TableReads b d) f
    → FailedInDisk (RestReads b d) (told_failure f)
rest_of_table b d f plain room = failed_wider (TableReads b d) (RestReads b d) f (λ s reads. of_table plain room reads)

body_of_rest : (b : ℕ) (d : Sectors) (s : ℕ) → RestReads b d s → BodyReads b d s
body_of_rest b d s (of_chain m is reads) = chain m is reads
body_of_rest b d s (of_table plain room reads) = table plain room reads

pub body_failed : (b : ℕ) (d : Sectors) (e : NoTable) → FailedInDisk (RestReads b d) e → FailedInDisk (BodyReads b d) e
body_failed b d e = wider (RestReads b d) (BodyReads b d) e (body_of_rest b d)

pub reads_failed : (b : ℕ) (d : Sectors) (e : NoTable) → FailedInDisk (BodyReads b d) e → FailedInDisk (Reads b d) e
reads_failed b d e = wider (BodyReads b d) (Reads b d) e (λ s reads. body reads)

pub label_failed : (b n : ℕ) (d : Sectors) (y : Body) (ps : List Slice) (f : Failure) → BodyIs b d y → ps ≡ places_of b n y
    → n ≡ length d → FailedAt (IsPlace ps) f → FailedInDisk (Reads b d) (told_failure f)
label_failed b n d y ps f is are count =
    failed_wider (IsPlace ps) (Reads b d) f (λ s at. label y is
    (subst (λ (m : ℕ). IsPlace (places_of b m y) s) count (subst (λ (l : List Slice). IsPlace l s) are at)))

pub place_at : (ps : List Slice) (k : ℕ) (z : Slice) → k < length ps → IsPlace ps (place_of (get_or ps k z))
place_at [] k z lt = absurd (omega arith)
place_at (p ∷ ps) zero z lt = inl refl
place_at (p ∷ ps) (suc k) z lt = inr (place_at ps k z (omega arith))

pub place_failed : (ps : List Slice) (k : ℕ) (z : Slice) (e : Failure) → k < length ps
    → FailedAt (λ s. s ≡ place_of (get_or ps k z)) e → FailedAt (IsPlace ps) e
place_failed ps k z e lt =
    failed_more (λ s. s ≡ place_of (get_or ps k z)) (IsPlace ps) e (λ s is. subst (IsPlace ps) (sym is) (place_at ps k z lt))

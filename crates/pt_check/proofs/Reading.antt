-- Where a device failed in a check.
use Rattle.std.specs.Prelude.{◌≡◌, ◌≤◌, ℕ, List, length, Option, Some, None, Result, Ok, Err, IfErr}
use Rattle.std.proofs.Common.{refl, sym, ap, subst, ◌∙◌, ◌<◌, ◌==◌, cond, zero, suc, [], ◌∷◌, inl, inr, take, arith}
use Rattle.std.proofs.lemmas.Bool.Decides.{nat_tests}
use Rattle.pt_sector.proofs.InOrder.{value_of_none}
use Rattle.pt_sector.proofs.Written.{sector-written, written-append}
use Rattle.pt_sector.specs.inner.Sectors.{value_after}
use Rattle.pt_sector.specs.declared.disk.Fault.TheVariants.{Read, Write, Flush}
use Rattle.pt_sector.proofs.CallsLemmas.{read_in_more}
use Rattle.pt_sector.specs.Sectors.{Sectors, Writes, Puts, after, written, sector, Has}
use Rattle.pt_sector.proofs.ReadsLemmas.{IsOutside}
use Rattle.pt_sector.specs.Overlays.{FailedIn, fault_of}
use Rattle.pt_sector.specs.declared.reading.Failure.{Failure}
use Rattle.pt_sector.specs.declared.reading.Failure.TheVariants as failure
use Rattle.pt_apply.specs.Plans.{writes_in}
use Rattle.pt_recover.specs.Denotes.{Reads}
use Rattle.pt_check.specs.Answers.{CheckReads, FinishReads, IsUnwritten, WritesHead, phase, finish, disk_after, fault_in, FailedInCheck}
use Rattle.pt_check.specs.Answers.{told_failure}
use Rattle.pt_check.specs.inner.Answers.{FirstWriteIs}
use Rattle.pt_check.specs.declared.error.CheckError.{CheckError}
use Rattle.pt_check.specs.declared.error.CheckError.TheVariants.{Device, Memory}
use Rattle.pt_check.specs.declared.writes.Found.{Found}
use Rattle.pt_check.proofs.Accepted.{got_puts}

-- at one of more sectors
pub check_wider : (S T : ℕ → Type 0) (e : CheckError) → ((s : ℕ) → S s → T s) → FailedInCheck S e → FailedInCheck T e
check_wider S T (Device fault) more is = read_in_more S T fault more is
check_wider S T Memory more is = tt

-- what the checker tells of a failure
pub failed_told : (S : ℕ → Type 0) (f : Failure) → FailedIn S f → FailedInCheck S (told_failure f)
failed_told S (failure.Device at) is = is
failed_told S failure.Memory is = tt

-- of the writes that an overlay holds, if they are those of the phases, a fault that came through it is of none
both_at : (at k : ℕ) (bytes v w : List ℕ) → at ≡ k → cond (at == k) bytes v ≡ cond (at == k) bytes w
both_at at k bytes v w is = grind (arith, nat_tests)

put_fixed : (ws : Writes) (s : ℕ) (bytes : List ℕ) → Puts ws s bytes → (v w : List ℕ) → value_after ws s v ≡ value_after ws s w
put_fixed [] s bytes none v w = absurd none
put_fixed (x ∷ ws) s bytes (inl here) v w = ap (value_after ws s) (both_at x.0 s x.1 v w here.0)
put_fixed (x ∷ ws) s bytes (inr later) v w = put_fixed ws s bytes later (cond (x.0 == s) x.1 v) (cond (x.0 == s) x.1 w)

pub after-writes : (phases : List Writes) (d : Sectors) → after phases d ≡ written (writes_in phases) d
after-writes [] d = refl
after-writes (p ∷ ps) d = after-writes ps (written p d) ∙ sym (written-append p (writes_in ps) d)

-- a disk with these bytes in sector s
with_sector : ℕ → List ℕ → Sectors
with_sector zero v = v ∷ []
with_sector (suc s) v = [] ∷ with_sector s v

with_length : (s : ℕ) (v : List ℕ) → s < length (with_sector s v)
unfolding with_sector
with_length zero v = omega arith
with_length (suc s) v = let more = with_length s v in omega arith

with_is : (s : ℕ) (v : List ℕ) → sector (with_sector s v) s ≡ v
unfolding with_sector
with_is zero v = refl
with_is (suc s) v = with_is s v

unwritten : (own : Writes) (phases : List Writes) (s : ℕ) → ((d : Sectors) → written own d ≡ after phases d) → ¬ Has own s
    → (v : List ℕ) → value_after (writes_in phases) s v ≡ v
unwritten own phases s same out v =
    let d = with_sector s v in
    let lt = with_length s v in
    let kept = value_of_none own s (sector d s) (λ i within is. out (i, record { in_range = within; has_sector = is })) in
    let all : sector d s ≡ value_after (writes_in phases) s (sector d s) =
    sym kept ∙ sym (sector-written own d s lt) ∙ ap (λ (x : Sectors). sector x s) (same d ∙ after-writes phases d)
    ∙ sector-written (writes_in phases) d s lt in
    subst (λ (x : List ℕ). value_after (writes_in phases) s x ≡ x) (with_is s v) (sym all)

apart : (v w : List ℕ) → v ≡ [] → w ≡ 0 ∷ [] → v ≡ w → ⊥
apart v w none one same = absurd cc

own_unwritten : (own : Writes) (phases : List Writes) (s : ℕ) → ((d : Sectors) → written own d ≡ after phases d) → ¬ Has own s
    → IsUnwritten phases s
own_unwritten own phases s same out bytes puts =
    let none = unwritten own phases s same out [] in
    let one = unwritten own phases s same out (0 ∷ []) in
    apart _ _ none one (put_fixed (writes_in phases) s bytes puts [] (0 ∷ []))

failed_unwritten : (S : ℕ → Type 0) (own : Writes) (phases : List Writes) (e : CheckError)
    → ((d : Sectors) → written own d ≡ after phases d) → FailedInCheck S e → IsOutside own (fault_in e)
    → FailedInCheck (λ s. S s × IsUnwritten phases s) e
failed_unwritten S own phases (Device (Read at)) same is out = (is, own_unwritten own phases at.0 same out)
failed_unwritten S own phases (Device (Write at)) same is out = absurd is
failed_unwritten S own phases (Device Flush) same is out = absurd is
failed_unwritten S own phases Memory same is out = tt

pub failure_unwritten : (S : ℕ → Type 0) (own : Writes) (phases : List Writes) (f : Failure)
    → ((d : Sectors) → written own d ≡ after phases d) → FailedIn S f → IsOutside own (fault_of f)
    → FailedInCheck (λ s. S s × IsUnwritten phases s) (told_failure f)
failure_unwritten S own phases (failure.Device at) same is out = (is, own_unwritten own phases at.0 same out)
failure_unwritten S own phases failure.Memory same is out = tt

-- the disk was read before the first phase
pub first_failed : (b : ℕ) (d : Sectors) (phases : List Writes) (e : CheckError) → FailedInCheck (Reads b d) e
    → FailedInCheck (CheckReads b d phases) e
first_failed b d phases e =
    check_wider (Reads b d) (CheckReads b d phases) e (λ s reads. phase 0 (omega arith) reads (λ bytes puts. absurd puts))

-- the disk after a phase was read, through an overlay that holds the writes until then
pub phase_failed : (b : ℕ) (d x : Sectors) (phases : List Writes) (own : Writes) (i : ℕ) (e : CheckError) → i ≤ length phases
    → ((y : Sectors) → written own y ≡ disk_after phases y i) → x ≡ disk_after phases d i
    → FailedInCheck (Reads b x) e → IsOutside own (fault_in e) → FailedInCheck (CheckReads b d phases) e
phase_failed b d x phases own i e within puts same failed out =
    check_wider (λ s. Reads b x s × IsUnwritten (take i phases) s) (CheckReads b d phases) e
    (λ s reads. phase i within (subst (λ (y : Sectors). Reads b y s) same reads.0) reads.1)
    (failed_unwritten (Reads b x) own (take i phases) e puts failed out)

-- so was one of its sectors
pub sector_failed : (b : ℕ) (d : Sectors) (phases : List Writes) (own : Writes) (i s : ℕ) → i ≤ length phases
    → ((y : Sectors) → written own y ≡ disk_after phases y i) → Reads b (disk_after phases d i) s → ¬ Has own s → CheckReads b d phases s
sector_failed b d phases own i s within puts reads out = phase i within reads (own_unwritten own (take i phases) s puts out)

-- the finished disk was read
pub finish_failed : (b : ℕ) (d : Sectors) (phases : List Writes) (e : CheckError) → FailedInCheck (FinishReads b d phases) e
    → FailedInCheck (CheckReads b d phases) e
finish_failed b d phases e = check_wider (FinishReads b d phases) (CheckReads b d phases) e (λ s reads. finish reads)

-- the first write of sector 0 is one
pub head_written : (phases : List Writes) (found : Option Found) → ¬ (found ≡ None)
    → FirstWriteIs (λ (w : ℕ × List ℕ). w.0 ≡ 0) (writes_in phases) found → WritesHead phases
head_written phases None some first = absurd (some refl)
head_written phases (Some f) some (k, w, number, lba, first) =
    (w.1, subst (λ (n : ℕ). Puts (writes_in phases) n w.1) first.is (got_puts (writes_in phases) k w first.at))

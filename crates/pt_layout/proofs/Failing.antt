-- Where a device failed in a verdict.
use Rattle.std.specs.Prelude.{◌≡◌, ◌<◌, ℕ, List, length, get_or, Result, Ok, Err, IfErr}
use Rattle.std.proofs.Common.{sym, subst, inl, inr}
use Rattle.pt_sector.specs.Sectors.{Sectors}
use Rattle.pt_gpt.specs.Copies.{SideReads, HasRoom}
use Rattle.pt_sector.specs.Overlays.{FailedIn}
use Rattle.pt_sector.proofs.ReadsLemmas.{failed_more}
use Rattle.pt_sector.specs.declared.reading.Failure.{Failure}
use Rattle.pt_gpt.specs.declared.table.Side.TheVariants.{Backup}
use Rattle.pt_recover.specs.Denotes.{IsMbrDisk, BodyIs, Reads, TableReads, body, label, table}
use Rattle.pt_members.specs.Members.{places_of, place_of, IsPlace}
use Rattle.pt_members.specs.declared.layout.Body.{Body}
use Rattle.pt_members.specs.declared.layout.Slice.{Slice}
use Rattle.pt_recover.proofs.Failed.{place_at}
use Rattle.pt_layout.specs.Healthy.{VerdictReads}
use Rattle.pt_layout.specs.declared.survey.Survey.{Survey}

pub place_failed : (ps : List Slice) (k : ℕ) (z : Slice) (s : ℕ) → k < length ps → s ≡ place_of (get_or ps k z) → IsPlace ps s
place_failed ps k z s lt is = subst (IsPlace ps) (sym is) (place_at ps k z lt)

pub label_failed : (b n : ℕ) (d : Sectors) (y : Body) (e : Failure) → BodyIs b d y → n ≡ length d
    → FailedIn (IsPlace (places_of b n y)) e → FailedIn (Reads b d) e
label_failed b n d y e is count =
    failed_more (IsPlace (places_of b n y)) (Reads b d) e (λ s at. label y is (subst (λ (m : ℕ). IsPlace (places_of b m y) s) count at))

pub read_failed : (b : ℕ) (d : Sectors) (e : Failure) → FailedIn (Reads b d) e → FailedIn (VerdictReads b d) e
read_failed b d e = failed_more (Reads b d) (VerdictReads b d) e (λ s reads. inl reads)

pub survey_failed : (b : ℕ) (d : Sectors) (r : Result Survey Failure) → IfErr r (FailedIn (Reads b d))
    → IfErr r (FailedIn (VerdictReads b d))
survey_failed b d (Ok x) failed = tt
survey_failed b d (Err e) failed = read_failed b d e failed

-- in reading the copy that decides the table, and the backup beside it
pub table_failed : (b : ℕ) (d : Sectors) (e : Failure) → ¬ IsMbrDisk d → HasRoom b (length d) → FailedIn (TableReads b d) e
    → FailedIn (VerdictReads b d) e
table_failed b d e plain room = failed_more (TableReads b d) (VerdictReads b d) e (λ s reads. inl (body (table plain room reads)))

pub backup_failed : (b : ℕ) (d : Sectors) (e : Failure) → ¬ IsMbrDisk d → HasRoom b (length d) → FailedIn (SideReads b d Backup) e
    → FailedIn (VerdictReads b d) e
backup_failed b d e plain room = failed_more (SideReads b d Backup) (VerdictReads b d) e (λ s reads. inr (plain, room, reads))

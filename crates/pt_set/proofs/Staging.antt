-- A record by what is known of it.
use Rattle.std.proofs.Common.{◌≡◌, ℕ, Result, Ok, Err, subst, refl}
use Rattle.pt_drafts.specs.declared.draft.PartDraft.{PartDraft}
use Rattle.pt_drafts.specs.declared.fault.TextFault.{TextFault}
use Rattle.pt_edit.specs.declared.space.Run.{Run}
use Rattle.pt_set.specs.declared.records.Known.{Known}
use Rattle.pt_set.specs.Faults.{◌>>=◌}
use Rattle.pt_set.specs.Places.{IsPlaceIn}
use Rattle.pt_set.specs.Records.{MbrFrame, Stage, IsRecord, IsRecordOf, disk_area, known_of, record_at}

pub made_known : (f : MbrFrame) (k : ℕ) (p : PartDraft) (s : Stage) (known : Known) (place : Result Run TextFault)
    (r : Result Stage TextFault) → Ok known ≡ known_of f.parts k p s.records s.extended
    → IsPlaceIn f.bytes (disk_area f.sectors s.runs) k p.start p.extent place
    → r ≡ (place >>= record_at f k p s known) → IsRecord f k p s r
made_known f k p s known place r is placed so =
    subst (λ (x : Result Known TextFault). IsRecordOf f k p s x r) is (place, placed, so)

pub failed_known : (f : MbrFrame) (k : ℕ) (p : PartDraft) (s : Stage) (fault : TextFault)
    → Err fault ≡ known_of f.parts k p s.records s.extended → IsRecord f k p s (Err fault)
failed_known f k p s fault is = subst (λ (x : Result Known TextFault). IsRecordOf f k p s x (Err fault)) is refl

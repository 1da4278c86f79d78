-- A partition by what is known of it.
use Rattle.std.proofs.Common.{◌≡◌, ℕ, Result, Ok, Err, subst, refl}
use Rattle.pt_drafts.specs.declared.draft.PartDraft.{PartDraft}
use Rattle.pt_drafts.specs.declared.fault.TextFault.{TextFault}
use Rattle.pt_edit.specs.declared.space.Run.{Run}
use Rattle.pt_set.specs.declared.entries.Known.{Known}
use Rattle.pt_set.specs.Entries.{State}
use Rattle.pt_set.specs.Faults.{◌>>=◌}
use Rattle.pt_set.specs.Places.{IsPlace}
use Rattle.pt_set.specs.Tables.{Frame, IsMade, IsMadeOf, known_of, made_at}

pub made_known : (f : Frame) (k : ℕ) (p : PartDraft) (s : State) (known : Known) (place : Result Run TextFault) (r : Result State TextFault)
    → Ok known ≡ known_of f.parts k p s.entries → IsPlace f.bytes f.head s.runs k p.start p.extent place
    → r ≡ (place >>= made_at f k p s known) → IsMade f k p s r
made_known f k p s known place r is placed so =
    subst (λ (x : Result Known TextFault). IsMadeOf f k p s x r) is (place, placed, so)

pub failed_known : (f : Frame) (k : ℕ) (p : PartDraft) (s : State) (fault : TextFault) → Err fault ≡ known_of f.parts k p s.entries
    → IsMade f k p s (Err fault)
failed_known f k p s fault is = subst (λ (x : Result Known TextFault). IsMadeOf f k p s x (Err fault)) is refl

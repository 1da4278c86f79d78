-- What the copy that decides a GPT's table comes to, or the faults of both.
use Rattle.std.proofs.Common.{◌≡◌, ℕ, List, length, Option, Some, None, true, false, refl}
use Rattle.std.specs.Prelude.{◌↔◌, Bool, IsTrue, not, is_some}
use Rattle.pt_sector.specs.Sectors.{Sectors}
use Rattle.pt_gpt.specs.Copies.{HasCopy, HasRoom, IsCopyFault}
use Rattle.pt_gpt.proofs.Terms.{no_copy_lem}
use Rattle.pt_gpt.specs.declared.error.CopyError.{CopyError}
use Rattle.pt_gpt.specs.declared.header.Header.{Header}
use Rattle.pt_gpt.specs.declared.table.Table.{Table}
use Rattle.pt_gpt.specs.declared.table.Side.TheVariants.{Primary, Backup}
use Rattle.pt_members.specs.declared.layout.Body.TheVariants.{Gpt}
use Rattle.pt_recover.specs.Denotes.{IsMbrDisk, StandsAs, BodyIs}
use Rattle.pt_recover.specs.Spans.{IsIn}
use Rattle.pt_recover.specs.declared.error.Reason.TheVariants.{NoCopy}
use Rattle.pt_recover.specs.declared.trace.TracedRun.{TracedRun}
use Rattle.pt_recover.proofs.Bodies.{found_table}
use Rattle.pt_layout.specs.declared.health.Head.{Head}
use Rattle.pt_layout.specs.inner.Surveys.{IsBodyTrace, nothing_of}
use Rattle.pt_layout.specs.Surveys.{HeadOf, IsSurvey}
use Rattle.pt_layout.proofs.Verdicts.{neither_reason}
use Rattle.pt_layout.proofs.Surveys.{nothing_survey}

pub found_body : (b : ℕ) (d : Sectors) (o : Option CopyError) (h : Header) (t : Table) → ¬ IsMbrDisk d → HasRoom b (length d)
    → StandsAs b d o h t → BodyIs b d (Gpt t)
found_body b d o h t plain room is = (plain, room, found_table b d o h t room is)

-- whether it is the primary copy
pub found_primary : (b : ℕ) (d : Sectors) (o : Option CopyError) (h : Header) (t : Table) (p : Bool) → HasRoom b (length d)
    → StandsAs b d o h t → is_some o ≡ not p → IsTrue p ↔ HasCopy b d Primary
found_primary b d None h t true room is same = (λ told. (t, record { room = room; head = h; stands = is }), λ copy. refl)
found_primary b d None h t false room is same = absurd cc
found_primary b d (Some e) h t true room is same = absurd cc
found_primary b d (Some e) h t false room is same = (λ told. absurd cc, λ copy. absurd (no_copy_lem b d Primary e is.0 copy))

pub none_found : (b : ℕ) (d : Sectors) (h : Head) (e f : CopyError) (guarded trace : List TracedRun) → ¬ IsMbrDisk d → HeadOf d h
    → HasRoom b (length d) → IsCopyFault b d Primary e → IsCopyFault b d Backup f → ((s : ℕ) → ¬ IsIn guarded s)
    → IsBodyTrace b d trace → IsSurvey b d (nothing_of h (NoCopy e f) guarded trace)
none_found b d h e f guarded trace plain is room first second empty traced =
    let why = neither_reason b d e f plain room first second in
    nothing_survey b d h (NoCopy e f) guarded trace is plain why.0 why.1 (λ big copy. no_copy_lem b d Primary e first copy) empty traced

-- What a survey of the finished disk tells.
use Rattle.std.specs.Prelude.{◌≡◌, ◌≢◌, ℕ, List, Option, Some, None}
use Rattle.std.proofs.Common.{◌∙◌, sym, subst}
use Rattle.pt_sector.specs.Device.{with_fault}
use Rattle.pt_sector.specs.Overlays.{fault_of}
use Rattle.pt_sector.specs.Sectors.{Sectors}
use Rattle.pt_sector.specs.declared.disk.Fault.{Fault}
use Rattle.pt_sector.specs.declared.reading.Failure.{Failure}
use Rattle.pt_sector.specs.declared.reading.Failure.TheVariants as failure
use Rattle.pt_members.specs.declared.layout.Layout.{Layout}
use Rattle.pt_layout.specs.Healthy.{IsFinding, Healthy}
use Rattle.pt_layout.specs.Surveys.{FindingIs, IsSurvey, Tells}
use Rattle.pt_recover.specs.Denotes.{Denotes}
use Rattle.pt_layout.specs.declared.survey.Survey.{Survey}
use Rattle.pt_layout.specs.declared.sound.finding.Finding.{Finding}
use Rattle.pt_check.specs.Answers.{fault_in, told_failure}
use Rattle.pt_check.specs.inner.Answers.{IsKnown}

some_is_none : {X : Type 0} {x : X} → ¬ (Some x ≡ None)
some_is_none same = absurd cc

-- what a survey tells of a disk is what recovery of it does
pub survey_known : (b : ℕ) (d : Sectors) (x : Survey) → IsSurvey b d x
    → IsKnown b d x.layout x.trace
survey_known b d x is = record { denotes = is.layout; reads = is.trace }

-- the first thing that is wrong with d, none where it is healthy
abbrev pub WrongIs : ℕ → Sectors → Option Finding → Type 0
WrongIs b d None = Healthy b d
WrongIs b d (Some f) = IsFinding b d f

-- and what it finds is what is wrong with the disk
pub survey_wrong : (b : ℕ) (d : Sectors) (o : Option Layout) (f : Option Finding) → FindingIs b d o f → WrongIs b d f
survey_wrong b d o (Some f) is = is
survey_wrong b d (Some o) None is = (o, is)
survey_wrong b d None None is = absurd is

-- where it finds nothing, there is a layout
pub found_layout : (x : Survey) → Tells x → x.finding ≡ None → x.layout ≢ None
found_layout x tells nothing none = (let found = tells none in absurd (some_is_none (sym found.1 ∙ nothing)))

-- and that is what the disk denotes
pub leads : (b : ℕ) (d : Sectors) (x : Option Layout) (o : Layout) → x ≡ Some o → Denotes b d x → Denotes b d (Some o)
leads b d x o same = subst (λ (y : Option Layout). Denotes b d y) same

pub failure_blames : (old new : List Fault) (e : Failure) → new ≡ with_fault old (fault_of e)
    → new ≡ with_fault old (fault_in (told_failure e))
failure_blames old new (failure.Device at) came = came
failure_blames old new failure.Memory came = came

-- What a caller in C is replied, field by field: what private contracts cite.
use Rattle.std.specs.Prelude.{ℕ}
use Rattle.pt_sector.specs.declared.disk.Fault.TheVariants as fault
use Rattle.pt_check.specs.declared.error.CheckError.{CheckError}
use Rattle.pt_check.specs.declared.error.CheckError.TheVariants as check
use Rattle.pt_replay.specs.Replies.{nothing, answer, switching, wanting}
use Rattle.pt_replay.specs.declared.answers.Status.TheVariants as status
use Rattle.pt_replay.specs.declared.answers.Answer.{Answer}

-- a yes, with the phase of the switch
abbrev pub accepting : ℕ → Answer
accepting switch = answer status.Done (switching switch)

-- why a plan isn't checked
abbrev pub check_answer : CheckError → Answer
check_answer (check.Device (fault.Read at)) = wanting at
check_answer (check.Device f) = record { status = status.Device; reply = nothing }
check_answer check.Memory = record { status = status.Memory; reply = nothing }

-- What the program does with its words: what the private functions of `ptab` cite.
use Rattle.std.specs.Prelude.{◌≡◌, ◌⊎◌, ℕ, List, Option, Result, Err}
use Rattle.pt_sector.specs.declared.disk.Disk.{Ghosts}
use Rattle.pt_report.specs.declared.reply.Reply.{Reply}
use Rattle.pt_report.specs.declared.status.Status.{Status}
use Rattle.pt_report.specs.declared.status.Status.TheVariants as exit
use Rattle.pt_answers.specs.Images.{Call}
use Rattle.pt_answers.specs.Runs.{RunsWords}
use Rattle.pt_answers.specs.Sentences.{end_status}
use Rattle.pt_answers.specs.declared.failure.Failure.{Failure}
use Rattle.pt_answers.specs.declared.failure.Failure.TheVariants as failure

-- the run of these words, with some calls and some output; or there was no memory for it
abbrev pub IsRunOf : {D E T : Type 0} → Ghosts D 512 → Ghosts E 4096 → (T → Option (List ℕ)) → List (List ℕ) → Result Reply Failure
    → Type 0
IsRunOf {D} {E} {T} g h remaining words result = (result ≡ Err failure.Memory)
    ⊎ ((small_old : List (Call D T)) × (small_new : List (Call D T)) × (large_old : List (Call E T)) × (large_new : List (Call E T))
    × (old : Option (List ℕ)) × (new : Option (List ℕ))
    × RunsWords g h remaining words small_old small_new large_old large_new old new result)

-- the status with which the program ends: that of its answer, or of its failure, unless what is printed on standard error can't be
abbrev pub EndsAs : Result Reply Failure → Status → Type 0
EndsAs ran ended = (ended ≡ end_status ran) ⊎ (ended ≡ exit.Device)

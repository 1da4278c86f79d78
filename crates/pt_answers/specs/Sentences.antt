-- What a person is told besides the lines: sentences, and of what wasn't opened what it is.
use Rattle.std.specs.Prelude.{◌≡◌, ◌⊎◌, ℕ, List, [], ◌++◌, codes, decimal, if◌then◌else◌, nat_eq, IfSome}
use Rattle.std.specs.Prelude.{Option, Some, None, Result, Ok, Err}
use Rattle.std.specs.Option.{option_map}
use Rattle.std.specs.Io.KnownBytes.{Appends}
use Rattle.pt_sector.specs.Sentences.{fault_sentence as sentence_of_fault}
use Rattle.pt_recover.specs.FromSides.{side_error_sentence}
use Rattle.pt_recover.specs.Sentences.{no_table_sentence}
use Rattle.pt_words.specs.Sentences.{refusal_sentence}
use Rattle.pt_cases.specs.Sentences.{plan_error_sentence}
use Rattle.pt_check.specs.Sentences.{why_sentence}
use Rattle.pt_plan.specs.Sentences.{like_error_sentence, repair_error_sentence}
use Rattle.pt_plan.specs.declared.like_error.LikeError.TheVariants.{OtherSize as OfOtherSize}
use Rattle.pt_carry.specs.Sentences.{carry_error_sentence, runs_error_sentence}
use Rattle.pt_carry.specs.declared.error.CarryError.TheVariants as carry
use Rattle.pt_carry.specs.declared.run_text.RunsError.TheVariants as of_runs
use Rattle.pt_drafts.specs.Keys.{fault_sentence}
use Rattle.pt_disks.specs.Sentences.{no_device_sentence}
use Rattle.pt_disks.specs.declared.device.NoDevice.{NoDevice}
use Rattle.pt_disks.specs.declared.device.NoDevice.TheVariants as opening
use Rattle.pt_report.specs.Replies.{reply_sentence, sentence_line}
use Rattle.pt_report.specs.Statuses.{reply_status}
use Rattle.pt_report.specs.declared.reply.Reply.{Reply}
use Rattle.pt_report.specs.declared.status.Status.{Status}
use Rattle.pt_report.specs.declared.status.Status.TheVariants as status
use Rattle.pt_answers.specs.Failures.{failure_text}
use Rattle.pt_answers.specs.Statuses.{failure_status}
use Rattle.pt_answers.specs.declared.failure.Failure.{Failure}
use Rattle.pt_answers.specs.declared.failure.Failure.TheVariants.{Edit, Plan, Check, Repair, PlanText, Table, NoText, OtherSize}
use Rattle.pt_answers.specs.declared.failure.Failure.TheVariants.{OtherOpening, Other, NoTable, NoSide, Opening, Fault}
use Rattle.pt_answers.specs.declared.failure.Failure.TheVariants.{BadData, Unfit, Differs}
use Rattle.pt_answers.specs.declared.failure.NoText.TheVariants.{Unreadable}
use Rattle.pt_answers.specs.declared.sentences.Reader.{Reader}
use Rattle.pt_answers.specs.declared.sentences.Reader.TheVariants.{Program, Person}
use Rattle.pt_answers.specs.declared.sentences.What.{What}
use Rattle.pt_answers.specs.declared.sentences.What.TheVariants.{Missing, Folder, NotAllowed, BlockDevice, Neither, Unknown}

-- ## What stands at a path that wasn't opened.

abbrev pub what_sentence : What → List ℕ
what_sentence Missing = codes "there is no such file"
what_sentence Folder = codes "it is a folder"
what_sentence NotAllowed = codes "opening it isn't allowed"
what_sentence BlockDevice = codes "it is a block device: give --device"
what_sentence Neither = codes "it is neither a file nor a device"
what_sentence Unknown = codes "it can't be opened"

-- where that was asked for
abbrev pub unopened_sentence : Option What → Option (List ℕ)
unopened_sentence what = option_map what_sentence what

-- of an image that isn't opened. A sector's size and lack of memory have lines that are sentences already
abbrev pub opening_sentence : Option What → NoDevice → Option (List ℕ)
opening_sentence what opening.Unopened = unopened_sentence what
opening_sentence what opening.Locked = Some (codes "the image's lock is held elsewhere")
opening_sentence what opening.NotBlock = Some (no_device_sentence opening.NotBlock)
opening_sentence what (opening.InUse by) = Some (no_device_sentence (opening.InUse by))
opening_sentence what (opening.SectorSize bytes) = None
opening_sentence what opening.Memory = None

-- ## Failures.

-- what is wrong with the text of a plan, by the number of its line
abbrev pub bad_line_sentence : ℕ → List ℕ
bad_line_sentence n = codes "line " ++ (decimal n ++ codes " is not a plan's, or the text ends without the F of its last phase")

abbrev pub plan_text_sentence : ℕ → List ℕ
plan_text_sentence n = if nat_eq n 0 then codes "the text has more than 8 MiB or isn't UTF-8" else bad_line_sentence n

-- the sentence of the library's error; of usage, words that can't be read, the output and memory the line says it all
abbrev pub failure_sentence : Option What → Failure → Option (List ℕ)
failure_sentence what (Edit refusal) = Some (refusal_sentence refusal)
failure_sentence what (Plan error) = Some (plan_error_sentence error)
failure_sentence what (Check why) = Some (why_sentence why)
failure_sentence what (Repair error) = Some (repair_error_sentence error)
failure_sentence what (PlanText line) = Some (plan_text_sentence line)
failure_sentence what (Table fault) = Some (fault_sentence fault)
failure_sentence what (NoText of Unreadable) = unopened_sentence what
failure_sentence what (BadData number) = Some (runs_error_sentence (of_runs.BadLine number))
failure_sentence what (Unfit at why) = Some (carry_error_sentence (carry.Refused at why))
failure_sentence what (Differs at) = Some (carry_error_sentence (carry.Differs at))
failure_sentence what OtherSize = Some (like_error_sentence OfOtherSize)
failure_sentence what (OtherOpening why) = opening_sentence what why
failure_sentence what (Other why) = Some (no_table_sentence why)
failure_sentence what (NoTable why) = Some (no_table_sentence why)
failure_sentence what (NoSide side why) = Some (side_error_sentence why)
failure_sentence what (Opening why) = opening_sentence what why
failure_sentence what (Fault fault) = Some (sentence_of_fault fault)
failure_sentence what _ = None

-- ## The end of a run.

-- a program is told no sentence
abbrev pub told_to : Reader → Option (List ℕ) → List ℕ
told_to Program sentence = []
told_to Person sentence = sentence_line sentence

-- of a failure: its line for a program, and for a person the sentence behind it; nothing is said of `clap`'s texts
abbrev pub text_for_person : Option What → Failure → Option (List ℕ)
text_for_person what failure = option_map (λ text. text ++ sentence_line (failure_sentence what failure)) (failure_text failure)

abbrev pub failure_text_for : Reader → Option What → Failure → Option (List ℕ)
failure_text_for Program what failure = failure_text failure
failure_text_for Person what failure = text_for_person what failure

-- what is printed on standard error
abbrev pub end_text : Result Reply Failure → Reader → Option What → Option (List ℕ)
end_text (Ok reply) reader what = Some (told_to reader (reply_sentence reply))
end_text (Err failure) reader what = failure_text_for reader what failure

abbrev pub end_status : Result Reply Failure → Status
end_status (Ok reply) = reply_status reply
end_status (Err failure) = failure_status failure

-- that was printed, and the status is the run's; or it couldn't be printed, which is a device's fault
abbrev pub Ends : Result Reply Failure → Reader → Option What → Option (List ℕ) → Option (List ℕ) → Status → Type 0
Ends ran reader what old new ended =
    ((ended ≡ end_status ran) × IfSome (end_text ran reader what) (Appends old new)) ⊎ (ended ≡ status.Device)

-- What a caller in C is replied, field by field.
use Rattle.std.specs.Prelude.{◌≡◌, ◌≢◌, ◌⊎◌, ℕ, ℤ, pos, negsuc, List, Some, ◌+◌, ◌%◌, Option, None}
use Rattle.pt_guid.specs.Codes.{type_of}
use Rattle.pt_report.specs.Statuses.{status_code as exit_code}
use Rattle.pt_report.specs.declared.status.Status.TheVariants as exit
use Rattle.pt_replay.specs.declared.answers.Status.{Status}
use Rattle.pt_replay.specs.declared.answers.Status.TheVariants.{Done, No, Usage, Refused, NoTable, Device, Memory, Want, Room, WantOther}
use Rattle.pt_replay.specs.declared.answers.About.{About}
use Rattle.pt_replay.specs.declared.answers.About.TheVariants as about
use Rattle.pt_sector.specs.declared.address.Lba.{Lba}
use Rattle.pt_sector.specs.declared.disk.Fault.TheVariants as fault
use Rattle.pt_sector.specs.declared.reading.Failure.{Failure}
use Rattle.pt_sector.specs.declared.reading.Failure.TheVariants as failure
use Rattle.pt_gpt.specs.Copies.{error_number}
use Rattle.pt_gpt.specs.declared.table.Side.{Side}
use Rattle.pt_gpt.specs.declared.table.Side.TheVariants.{Primary, Backup}
use Rattle.pt_mbr.specs.declared.chain.ChainError.{ChainError}
use Rattle.pt_mbr.specs.declared.chain.ChainError.TheVariants as chain
use Rattle.pt_recover.specs.declared.error.NoTable.{NoTable as NoTableValue}
use Rattle.pt_recover.specs.declared.error.NoTable.TheVariants as table
use Rattle.pt_layout.specs.Healthy.{finding_number}
use Rattle.pt_path.specs.declared.path.Path.{Path}
use Rattle.pt_layout.specs.declared.sound.finding.Finding.{Finding}
use Rattle.pt_layout.specs.declared.sound.finding.Finding.TheVariants as finding
use Rattle.pt_check.specs.declared.answer.Why.{Why}
use Rattle.pt_check.specs.declared.answer.Why.TheVariants as why
use Rattle.pt_words.specs.Words.{refusal_number, error_number as word_error_number}
use Rattle.pt_words.specs.declared.error.EditError.{EditError}
use Rattle.pt_cases.specs.Unplanned.{plan_error_number}
use Rattle.pt_plan.specs.declared.error.CommitError.{CommitError}
use Rattle.pt_plan.specs.declared.error.CommitError.TheVariants as commit
use Rattle.pt_plan.specs.declared.like_error.LikeError.{LikeError}
use Rattle.pt_plan.specs.declared.like_error.LikeError.TheVariants as like
use Rattle.pt_plan.specs.declared.repair_error.RepairError.{RepairError}
use Rattle.pt_plan.specs.declared.repair_error.RepairError.TheVariants as repair
use Rattle.pt_drafts.specs.declared.fault.Key.{Key}
use Rattle.pt_drafts.specs.declared.fault.Key.TheVariants as key
use Rattle.pt_drafts.specs.declared.fault.TextFault.{TextFault}
use Rattle.pt_set.specs.declared.error.SetError.{SetError}
use Rattle.pt_set.specs.declared.error.SetError.TheVariants as set_error
use Rattle.pt_replay.specs.declared.answers.Status.TheVariants as status
use Rattle.pt_replay.specs.declared.answers.Reply.{Reply}
use Rattle.pt_replay.specs.declared.answers.Answer.{Answer}

-- ## The numbers that C sees.

-- the statuses of the command, and three more
abbrev pub status_code : Status → ℤ
status_code Done = pos (exit_code exit.Done)
status_code No = pos (exit_code exit.No)
status_code Usage = pos (exit_code exit.Usage)
status_code Refused = pos (exit_code exit.Refused)
status_code NoTable = pos (exit_code exit.NoTable)
status_code Device = pos (exit_code exit.Device)
status_code Memory = pos (exit_code exit.Memory)
status_code Want = negsuc 0
status_code Room = negsuc 1
status_code WantOther = negsuc 2

-- the code of the type of these stored bytes, or -1 where no code stands for it
abbrev pub IsTypeCode : List ℕ → ℤ → Type 0
IsTypeCode stored code =
    ((c : ℕ) × (code ≡ pos c) × (type_of c ≡ Some stored)) ⊎ ((code ≡ negsuc 0) × ((c : ℕ) → type_of c ≢ Some stored))

-- the numbers of arguments: the sector size, the view, the number and letter of a partition, the random bytes, the words, the rows, the
-- sector size of the other view, the other view, a text that isn't UTF-8
abbrev pub the_size : ℕ
the_size = 1

abbrev pub the_view : ℕ
the_view = 2

abbrev pub the_path : ℕ
the_path = 3

abbrev pub the_random_bytes : ℕ
the_random_bytes = 4

abbrev pub the_words : ℕ
the_words = 5

abbrev pub the_rows : ℕ
the_rows = 6

abbrev pub the_other_size : ℕ
the_other_size = 7

abbrev pub the_other_view : ℕ
the_other_view = 8

abbrev pub the_text : ℕ
the_text = 9

abbrev pub about_code : About → ℕ
about_code about.Nothing = 0
about_code about.Argument = 1
about_code about.Word = 2
about_code about.Table = 3
about_code about.Finding = 4
about_code about.Edit = 5
about_code about.Plan = 6
about_code about.Check = 7
about_code about.Repair = 8
about_code about.Adopt = 9
about_code about.OtherTable = 10
about_code about.Text = 11

-- the keys of a table's text, in the order in which the text is described: the text, its one member, an unknown name, the members of a
-- table, the members of a partition
abbrev pub key_number : Key → ℕ
key_number key.Text = 1
key_number key.Table = 2
key_number key.Unknown = 3
key_number key.Label = 4
key_number key.Device = 5
key_number key.Unit = 6
key_number key.SectorSize = 7
key_number key.Sectors = 8
key_number key.Id = 9
key_number key.FirstLba = 10
key_number key.LastLba = 11
key_number key.Entries = 12
key_number key.TableLength = 13
key_number key.Partitions = 14
key_number key.Chain = 15
key_number key.Number = 16
key_number key.Node = 17
key_number key.Start = 18
key_number key.Size = 19
key_number key.Last = 20
key_number key.Offset = 21
key_number key.Type = 22
key_number key.TypeName = 23
key_number key.Uuid = 24
key_number key.Name = 25
key_number key.NameUnits = 26
key_number key.Attributes = 27
key_number key.Attrs = 28
key_number key.Bootable = 29
key_number key.Boot = 30
key_number key.StartChs = 31
key_number key.EndChs = 32
key_number key.Record = 33
key_number key.Bsd = 34

-- the number of an object of `partitions`, from 1 on; 0 where it is none's
abbrev pub part_number : Option ℕ → ℕ
part_number None = 0
part_number (Some n) = n

-- ## What replies say.

-- a letter from a on, of a label's entry; 0 for none
abbrev pub letter_code : Option ℕ → ℕ
letter_code None = 0
letter_code (Some k) = (97 + k) % 256

abbrev pub nothing : Reply
nothing = record { sector = 0; count = 0; phases = 0; a = 0; b = 0; about = 0; number = 0; a_letter = 0; b_letter = 0 }

-- a status with its reply
abbrev pub answer : Status → Reply → Answer
answer s r = record { status = s; reply = r }

-- a sector, and nothing else: the one that is wanted, or the one that was located
abbrev pub at_sector : ℕ → Reply
at_sector s = record nothing { sector = s }

-- how many rows or writes, and how many phases, and nothing else
abbrev pub counting : ℕ → ℕ → Reply
counting count phases = record nothing { count = count; phases = phases }

-- the phase of a checked plan's switch, and nothing else
abbrev pub switching : ℕ → Reply
switching phase = record nothing { a = phase }

-- the answer that wants a sector
abbrev pub wanting : Lba → Answer
wanting at = answer status.Want (at_sector at.0)

abbrev pub failure_answer : Failure → Answer
failure_answer (failure.Device at) = wanting at
failure_answer failure.Memory = record { status = status.Memory; reply = nothing }

-- a status with a number of what it is about, and two arguments
abbrev pub told : Status → About → ℕ → ℕ → ℕ → Answer
told s what number a b =
    record {
      status = s;
      reply = record {
        sector = 0;
        count = 0;
        phases = 0;
        a = a;
        b = b;
        about = about_code what;
        number = number;
        a_letter = 0;
        b_letter = 0;
      };
    }

-- the argument of this number has no meaning
abbrev pub bad_argument : ℕ → Reply
bad_argument number = (told status.Usage about.Argument number 0 0).reply

-- row `at` of a plan, from 1, can't come there
abbrev pub bad_row : ℕ → Reply
bad_row at = (told status.Usage about.Argument the_rows at 0).reply

-- word `at`, from 1, can't be read for the reason e
abbrev pub bad_word : ℕ → EditError → Reply
bad_word at e = (told status.Usage about.Word (word_error_number e) at 0).reply

-- a finding with a path
abbrev pub found_at : ℕ → Path → ℕ → Answer
found_at number p b =
    record {
      status = status.No;
      reply = record {
        sector = 0;
        count = 0;
        phases = 0;
        a = p.number;
        b = b;
        about = 4;
        number = number;
        a_letter = letter_code p.letter;
        b_letter = 0;
      };
    }

abbrev pub side_number : Side → ℕ
side_number Primary = 1
side_number Backup = 2

-- a finding, with its arguments as the command prints them
abbrev pub finding_answer : Finding → Answer
finding_answer (finding.NoTable e) = told status.No about.Finding 1 0 0
finding_answer (finding.PrimaryCopy e) = told status.No about.Finding 2 (error_number e) 0
finding_answer (finding.BackupCopy e) = told status.No about.Finding 3 (error_number e) 0
finding_answer finding.CopiesDiffer = told status.No about.Finding 4 0 0
finding_answer (finding.Alternate side) = told status.No about.Finding 5 (side_number side) 0
finding_answer finding.Protective = told status.No about.Finding 6 0 0
finding_answer (finding.OutsideUsable p) = found_at 7 p 0
finding_answer (finding.Overlap p q) =
    record {
      status = status.No;
      reply = record {
        sector = 0;
        count = 0;
        phases = 0;
        a = p.number;
        b = q.number;
        about = 4;
        number = 8;
        a_letter = letter_code p.letter;
        b_letter = letter_code q.letter;
      };
    }
finding_answer (finding.OnTable p at) = found_at 9 p at.0
finding_answer (finding.SameGuid lower higher) = told status.No about.Finding 10 lower higher
finding_answer (finding.ForeignLabel p) = found_at 11 p 0

-- a chain's first fault
abbrev pub chain_answer : ChainError → Answer
chain_answer (chain.NoSignature at) = told status.NoTable about.Table 2 1 at.0
chain_answer (chain.BadRecord at) = told status.NoTable about.Table 2 2 at.0
chain_answer (chain.NotUpward at) = told status.NoTable about.Table 2 3 at.0
chain_answer (chain.OutsideExtended at) = told status.NoTable about.Table 2 4 at.0
chain_answer chain.TooLong = told status.NoTable about.Table 2 5 0
chain_answer (chain.Device at) = record { status = status.Device; reply = nothing }

-- why a disk denotes nothing
abbrev pub table_answer : NoTableValue → Answer
table_answer (table.NoCopy e f) = told status.NoTable about.Table 1 (error_number e) (error_number f)
table_answer (table.Chain e) = chain_answer e
table_answer table.TwoExtended = told status.NoTable about.Table 3 0 0
table_answer table.TooSmall = told status.NoTable about.Table 4 0 0
table_answer (table.Device at) = wanting at
table_answer table.Memory = record { status = status.Memory; reply = nothing }

-- why a plan may not be applied
abbrev pub why_reply : Why → Reply
why_reply why.TooManyWrites = (told status.No about.Check 1 0 0).reply
why_reply (why.OutOfRange w) = (told status.No about.Check 2 w 0).reply
why_reply (why.BootCode w) = (told status.No about.Check 3 w 0).reply
why_reply (why.ReadSector p at) = (told status.No about.Check 4 p at.0).reply
why_reply (why.Neither p) = (told status.No about.Check 5 p 0).reply
why_reply (why.NotATable at) = (told status.No about.Check 6 at.0 0).reply
why_reply (why.Owned at) = (told status.No about.Check 7 at.0 0).reply
why_reply (why.Final f) = (told status.No about.Check 8 (finding_number f) 0).reply

-- why the words are refused
abbrev pub commit_answer : CommitError → Answer
commit_answer (commit.NoTable e) = table_answer e
commit_answer (commit.Edit r) = told status.Refused about.Edit (refusal_number r) 0 0
commit_answer (commit.Plan e) = told status.Refused about.Plan (plan_error_number e) 0 0
commit_answer (commit.Check w) = record { status = status.Refused; reply = why_reply w }
commit_answer (commit.Device (fault.Read at)) = wanting at
commit_answer (commit.Device f) = record { status = status.Device; reply = nothing }
commit_answer commit.Memory = record { status = status.Memory; reply = nothing }

-- why a disk isn't repaired
abbrev pub repair_answer : RepairError → Answer
repair_answer (repair.NoTable e) = table_answer e
repair_answer (repair.Unsound f) = told status.Refused about.Repair 2 (finding_number f) 0
repair_answer (repair.Device (fault.Read at)) = wanting at
repair_answer (repair.Device f) = record { status = status.Device; reply = nothing }
repair_answer repair.Memory = record { status = status.Memory; reply = nothing }
repair_answer (repair.Plan e) = told status.Refused about.Repair 5 (plan_error_number e) 0
repair_answer (repair.Check w) = record { status = status.Refused; reply = why_reply w }

-- an answer about the other disk: that it has no table, or that one of its sectors is wanted
abbrev pub told_of_other : Status → Reply → Answer
told_of_other status.NoTable r = answer status.NoTable (record r { about = about_code about.OtherTable })
told_of_other status.Want r = answer status.WantOther r
told_of_other s r = answer s r

abbrev pub of_other : Answer → Answer
of_other a = told_of_other a.status a.reply

-- the other disk has another number of sectors
abbrev pub other_count : Reply
other_count = (told status.Refused about.Adopt 1 0 0).reply

-- why a disk doesn't become like the other one
abbrev pub like_answer : LikeError → Answer
like_answer like.OtherSize = answer status.Refused other_count
like_answer (like.Other e) = of_other (table_answer e)
like_answer (like.Disk e) = commit_answer e

-- the first fault of a table's text, by the number of its key and that of its object
abbrev pub fault_answer : TextFault → Answer
fault_answer f = told status.Refused about.Text (key_number f.key) (part_number f.part) 0

-- why a disk doesn't take the table of a text
abbrev pub set_answer : SetError → Answer
set_answer (set_error.Fault f) = fault_answer f
set_answer (set_error.Disk e) = commit_answer e

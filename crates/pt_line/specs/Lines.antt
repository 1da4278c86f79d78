-- What a command line asks for, by `clap`'s meaning of its words at the command.
use Rattle.std.specs.Prelude.{◌≡◌, ◌≢◌, ◌⊎◌, ℕ, List, [], ◌∷◌, Option, Some, None, Result, Ok, Err, string_bytes, codes, option_map}
use Rattle.std.specs.Prelude.{IsSome}
use Rattle.std.specs.Borrow.{Bor}
use Rattle.clap.specs.Walk.{texts}
use Rattle.clap.specs.Words.{App, IsAmong, Kinds, Row, Text, all_of, fault_of, first_of, kind_of, subcommand_of}
use Rattle.clap.specs.declared.error.kind.ErrorKind.{ErrorKind}
use Rattle.clap.specs.declared.error.kind.ErrorKind.TheVariants.{DisplayHelp, DisplayVersion, OutOfMemory}
use Rattle.pt_line.specs.CommandLine.{ptab}
use Rattle.pt_line.specs.declared.line.Adoption.{Adoption}
use Rattle.pt_line.specs.declared.line.Adoption.TheVariants.{Planned, Written}
use Rattle.pt_line.specs.declared.line.Form.{Form}
use Rattle.pt_line.specs.declared.line.Form.TheVariants as form
use Rattle.pt_line.specs.declared.line.InUse.{InUse}
use Rattle.pt_line.specs.declared.line.InUse.TheVariants.{Refused, Allowed}
use Rattle.pt_line.specs.declared.line.Job.{Job}
use Rattle.pt_line.specs.declared.line.Job.TheVariants as job
use Rattle.pt_line.specs.declared.line.Line.{Line}
use Rattle.pt_line.specs.declared.line.LineError.{LineError}
use Rattle.pt_line.specs.declared.line.LineError.TheVariants.{NotText, Usage, InUseAlone, TwoForms, PlanWithData, Memory}
use Rattle.pt_line.specs.declared.line.LockedBy.{LockedBy}
use Rattle.pt_line.specs.declared.line.LockedBy.TheVariants.{Ptab, Caller}
use Rattle.pt_line.specs.declared.line.Medium.{Medium}
use Rattle.pt_line.specs.declared.line.Medium.TheVariants.{File, Device}
use Rattle.pt_line.specs.declared.line.PrimaryCopy.{PrimaryCopy}
use Rattle.pt_line.specs.declared.line.PrimaryCopy.TheVariants.{ByTable, Kept}
use Rattle.pt_line.specs.declared.line.SectorSize.{SectorSize}
use Rattle.pt_line.specs.declared.line.SectorSize.TheVariants.{Bytes512, Bytes4096}

-- ---- the job

-- a flag was given, which then has the value `true`
abbrev pub IsGiven : List Row → Text → Type 0
IsGiven rows id = first_of id rows ≡ Some (codes "true")

-- the lock is the caller's where the flag `--no-lock` was given
abbrev pub IsLockedBy : List Row → LockedBy → Type 0
IsLockedBy rows Caller = IsGiven rows (codes "no-lock")
IsLockedBy rows Ptab = ¬ IsGiven rows (codes "no-lock")

-- the plan alone is wanted where the flag `--plan` was given
abbrev pub IsAdoption : List Row → Adoption → Type 0
IsAdoption rows Planned = IsGiven rows (codes "plan")
IsAdoption rows Written = ¬ IsGiven rows (codes "plan")

-- what is shown is printed as JSON where the flag `--json` was given, and as a page for people where `--human` was
abbrev pub IsForm : List Row → Form → Type 0
IsForm rows form.Json = IsGiven rows (codes "json")
IsForm rows form.Human = IsGiven rows (codes "human")
IsForm rows form.Lines = (¬ IsGiven rows (codes "json")) × (¬ IsGiven rows (codes "human"))

-- both were given
abbrev pub HasTwoForms : List Row → Type 0
HasTwoForms rows = IsGiven rows (codes "json") × IsGiven rows (codes "human")

-- the plan alone is wanted, and `--data` was given
abbrev pub PlansWithData : List Row → Type 0
PlansWithData rows = IsGiven rows (codes "plan") × IsSome (first_of (codes "data") rows)

-- the primary copy is kept where the flag `--keep-primary` was given
abbrev pub IsKeeping : List Row → PrimaryCopy → Type 0
IsKeeping rows Kept = IsGiven rows (codes "keep-primary")
IsKeeping rows ByTable = ¬ IsGiven rows (codes "keep-primary")

-- of an adoption, of an image's table or of a text's, it is kept where the flag `--by-table` wasn't
abbrev pub IsKeptUnless : List Row → PrimaryCopy → Type 0
IsKeptUnless rows Kept = ¬ IsGiven rows (codes "by-table")
IsKeptUnless rows ByTable = IsGiven rows (codes "by-table")

-- what is opened is a block device where the flag with this id was given
abbrev pub IsMedium : List Row → Text → Medium → Type 0
IsMedium rows id Device = IsGiven rows id
IsMedium rows id File = ¬ IsGiven rows id

-- a device that is in use is allowed where the flag `--in-use` was given
abbrev pub IsInUse : List Row → InUse → Type 0
IsInUse rows Allowed = IsGiven rows (codes "in-use")
IsInUse rows Refused = ¬ IsGiven rows (codes "in-use")

-- the flag `--in-use` was given, and `--device` not
abbrev pub IsAlone : List Row → Type 0
IsAlone rows = IsGiven rows (codes "in-use") × ¬ IsGiven rows (codes "device")

-- the job of the subcommand with this name: `one` says what text an argument gives, and `all` what texts
abbrev pub IsJobBy : (Text → Text → Type 0) → (Text → List Text → Type 0) → Text → List Row → Job → Type 0
IsJobBy one all name rows (job.Help text) = ⊥
IsJobBy one all name rows (job.Show image after copy form) = (name ≡ codes "show") × one (codes "IMAGE") (string_bytes image)
    × (option_map string_bytes after ≡ first_of (codes "after") rows) × (option_map string_bytes copy ≡ first_of (codes "copy") rows)
    × IsForm rows form
IsJobBy one all name rows (job.Verify image) = (name ≡ codes "verify") × one (codes "IMAGE") (string_bytes image)
IsJobBy one all name rows (job.Locate image path place) = (name ≡ codes "locate") × one (codes "IMAGE") (string_bytes image)
    × one (codes "PATH") (string_bytes path) × one (codes "K") (string_bytes place)
IsJobBy one all name rows (job.Free image form) =
    (name ≡ codes "free") × one (codes "IMAGE") (string_bytes image) × IsForm rows form
IsJobBy one all name rows job.Types = (name ≡ codes "types")
IsJobBy one all name rows (job.Edit image fresh list primary locked_by) = (name ≡ codes "edit") × one (codes "IMAGE") (string_bytes image)
    × (option_map string_bytes fresh ≡ first_of (codes "fresh") rows) × all (codes "WORD") list
    × IsKeeping rows primary × IsLockedBy rows locked_by
IsJobBy one all name rows (job.Plan image fresh list primary) = (name ≡ codes "plan") × one (codes "IMAGE") (string_bytes image)
    × (option_map string_bytes fresh ≡ first_of (codes "fresh") rows) × all (codes "WORD") list
    × IsKeeping rows primary
IsJobBy one all name rows (job.Check image file) =
    (name ≡ codes "check") × one (codes "IMAGE") (string_bytes image) × one (codes "PLANFILE") (string_bytes file)
IsJobBy one all name rows (job.Apply image file locked_by) = (name ≡ codes "apply") × one (codes "IMAGE") (string_bytes image)
    × one (codes "PLANFILE") (string_bytes file) × IsLockedBy rows locked_by
IsJobBy one all name rows (job.Repair image primary locked_by) = (name ≡ codes "repair") × one (codes "IMAGE") (string_bytes image)
    × IsKeeping rows primary × IsLockedBy rows locked_by
IsJobBy one all name rows (job.Adopt image other medium file adoption primary locked_by) = (name ≡ codes "adopt")
    × one (codes "IMAGE") (string_bytes image) × one (codes "OTHER") (string_bytes other) × IsMedium rows (codes "other-device") medium
    × (option_map string_bytes file ≡ first_of (codes "data") rows) × IsAdoption rows adoption × IsKeptUnless rows primary
    × IsLockedBy rows locked_by
IsJobBy one all name rows (job.Set image table fresh adoption primary locked_by) = (name ≡ codes "set")
    × one (codes "IMAGE") (string_bytes image) × one (codes "TABLE") (string_bytes table)
    × (option_map string_bytes fresh ≡ first_of (codes "fresh") rows) × IsAdoption rows adoption × IsKeptUnless rows primary
    × IsLockedBy rows locked_by

-- its texts are the values of its arguments, which have them
abbrev pub IsJob : Text → List Row → Job → Type 0
IsJob name rows = IsJobBy (λ id text. first_of id rows ≡ Some text) (λ id list. all_of id rows ≡ Some list) name rows

-- the size is the value of its argument, and there is none where that wasn't given
abbrev pub IsSize : List Row → Option SectorSize → Type 0
IsSize rows None = first_of (codes "sector-size") rows ≡ None
IsSize rows (Some Bytes512) = first_of (codes "sector-size") rows ≡ Some (codes "512")
IsSize rows (Some Bytes4096) = first_of (codes "sector-size") rows ≡ Some (codes "4096")

-- the image is as the flags say, which don't contradict
abbrev pub IsOpenedAs : List Row → Line → Type 0
IsOpenedAs rows line = IsMedium rows (codes "device") line.medium × IsInUse rows line.in_use × ¬ IsAlone rows

abbrev pub IsLineOf : Option (Text × List Row) → Line → Type 0
IsLineOf None line = ⊥
IsLineOf (Some p) line =
    IsJob p.0 p.1 line.job × IsSize p.1 line.size × IsOpenedAs p.1 line × (¬ HasTwoForms p.1) × (¬ PlansWithData p.1)

abbrev pub IsAloneIn : Option (Text × List Row) → Type 0
IsAloneIn None = ⊥
IsAloneIn (Some p) = IsAlone p.1

abbrev pub HasTwoFormsIn : Option (Text × List Row) → Type 0
HasTwoFormsIn None = ⊥
HasTwoFormsIn (Some p) = HasTwoForms p.1

abbrev pub PlansWithDataIn : Option (Text × List Row) → Type 0
PlansWithDataIn None = ⊥
PlansWithDataIn (Some p) = PlansWithData p.1

-- ---- what is reported of `clap`'s error
abbrev pub IsHelp : Job → Type 0
IsHelp (job.Help text) = Unit {0}
IsHelp _ = ⊥

-- no call for help or for the version, nor lack of memory
abbrev pub IsMistake : ErrorKind → Type 0
IsMistake k = (k ≢ DisplayHelp) × (k ≢ DisplayVersion) × (k ≢ OutOfMemory)

-- ---- the answer

-- the words are refused, by an error of this kind, which is no call for help or for the version
abbrev pub IsUsage : Kinds → ErrorKind → Type 0
IsUsage kinds k = IsAmong k kinds × IsMistake k

-- at a command, these being all the words. A call for help, or for the version, gives its text; words without fault give the job of their
-- subcommand, by the values of its arguments; `Usage` comes only for words with a fault, and has an error of its kind; words
-- without fault that give `--in-use` and no `--device`, both forms, or `--plan` with `--data`, are told so. Memory may always be refused.
-- Words are texts
abbrev pub MeansAt : App → List Text → Result Line LineError → Type 0
MeansAt app words (Ok line) = (IsHelp line.job × (IsAmong DisplayHelp (fault_of app words) ⊎ IsAmong DisplayVersion (fault_of app words)))
    ⊎ ((fault_of app words ≡ []) × IsLineOf (subcommand_of app words) line)
MeansAt app words (Err NotText) = ⊥
MeansAt app words (Err InUseAlone) = (fault_of app words ≡ []) × IsAloneIn (subcommand_of app words)
MeansAt app words (Err TwoForms) = (fault_of app words ≡ []) × HasTwoFormsIn (subcommand_of app words)
MeansAt app words (Err PlanWithData) = (fault_of app words ≡ []) × PlansWithDataIn (subcommand_of app words)
MeansAt app words (Err Memory) = Unit {0}
MeansAt app words (Err (Usage e)) = IsUsage (fault_of app words) (kind_of e)

-- the command is that with the two sizes, and its words are the program's name and these. Where the texts of the sizes lie
-- in memory is left open, and means nothing to the command
abbrev pub Means : List Text → Result Line LineError → Type 0
Means words result = (sizes : Bor (List (Bor Text))) × (texts sizes.now ≡ codes "512" ∷ codes "4096" ∷ [])
    × MeansAt (ptab sizes) (codes "ptab" ∷ words) result

-- what is printed of an error; of `clap`'s, whatever its text is
abbrev pub line_sentence : LineError → Option (List ℕ)
line_sentence NotText = Some (codes "an argument isn't UTF-8")
line_sentence (Usage e) = None
line_sentence InUseAlone = Some (codes "the argument '--in-use' needs '--device'")
line_sentence TwoForms = Some (codes "the argument '--json' cannot be used with '--human'")
line_sentence PlanWithData = Some (codes "the argument '--data' cannot be used with '--plan'")
line_sentence Memory = Some (codes "memory")

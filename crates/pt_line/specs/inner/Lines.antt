-- What a command line asks for, by `clap`'s meaning of its words at the command.
use Rattle.std.specs.Prelude.{◌≡◌, ◌≢◌, ◌⊎◌, false, true, List, [], ◌∷◌, Option, Some, None, Result, IfOk, Ok, Err, String, string_bytes}
use Rattle.std.specs.Prelude.{IsSome, codes, unwrap_or, option_map}
use Rattle.std.specs.declared.alloc.Global.{Global}
use Rattle.clap.specs.Words.{App, Row, Rule, Text, all_of, app_of, fault_of, first_of, kind_of, rule_of, is_simple, is_simple_and_free}
use Rattle.clap.specs.Words.{subcommand_of, with_rule, with_subcommand}
use Rattle.clap.specs.declared.builder.arg.Arg.{Arg}
use Rattle.clap.specs.declared.builder.command.Command.{Command}
use Rattle.clap.specs.declared.builder.command.Command.TheViews.{out-Command}
use Rattle.clap.specs.declared.error.kind.ErrorKind.{ErrorKind}
use Rattle.clap.specs.declared.error.kind.ErrorKind.TheVariants.{DisplayHelp, DisplayVersion, OutOfMemory}
use Rattle.pt_line.specs.CommandLine.{ptab}
use Rattle.pt_line.specs.declared.line.Job.{Job}
use Rattle.pt_line.specs.declared.line.Line.{Line}
use Rattle.pt_line.specs.declared.line.LineError.{LineError}
use Rattle.pt_line.specs.declared.line.LineError.TheVariants.{NotText, Usage, InUseAlone, TwoForms, PlanWithData, Memory}
use Rattle.pt_line.specs.declared.line.SectorSize.{SectorSize}
use Rattle.pt_line.specs.declared.line.SectorSize.TheVariants.{Bytes512, Bytes4096}
use Rattle.pt_line.specs.Lines.{HasTwoForms, HasTwoFormsIn, IsJobBy, IsOpenedAs, IsAloneIn, IsHelp, IsMistake}
use Rattle.pt_line.specs.Lines.{PlansWithData, PlansWithDataIn}

-- ---- the command
pub record IsArg (r : Rule) (a : Arg) : Type 0 where
  pub rule : rule_of a ≡ r
  pub local : a.global ≡ false

pub record IsCommand (a : App) (c : Command) : Type 0 where
  pub app : app_of c ≡ a
  pub local : (out-Command c).has_globals ≡ false

-- where a page was made, it has one more argument, behind its others
abbrev pub TakesArg : {E : Type 0} → Result Command E → Arg → Result Command E → Type 0
TakesArg page arg made =
    IfOk made (λ c. (a : App) (r : Rule) → IfOk page (IsCommand a) → IsArg r arg → IsCommand (with_rule a r) c)

-- the same of two arguments with these rules
abbrev pub AddsRules : {E : Type 0} → Result Command E → Rule → Rule → Result Command E → Type 0
AddsRules page one two made = IfOk made (λ c. (a : App) → IfOk page (IsCommand a) → IsCommand (with_rule (with_rule a one) two) c)

-- where a page was made, it comes behind the command's others
abbrev pub AddsPage : {E : Type 0} → Result Command E → Result Command E → Result Command E → Type 0
AddsPage ptab page made =
    IfOk made (λ c. (a s : App) → IfOk ptab (IsCommand a) → IfOk page (IsCommand s) → IsCommand (with_subcommand a s.top) c)

-- this is the first of the words
abbrev pub Begins : Text → List Text → Type 0
Begins word words = (rest : List Text) × (words ≡ word ∷ rest)

-- a command takes these words as this one does
pub record ReadsAs (a : App) (words : List Text) (c : Command) : Type 0 where
  pub free : is_simple_and_free (app_of c) ≡ true
  pub simple : is_simple (app_of c) ≡ true
  pub faults : fault_of (app_of c) words ≡ fault_of a words
  pub entered : subcommand_of (app_of c) words ≡ subcommand_of a words

-- the same, where an argument with no value gives nothing
abbrev pub text_in : List Row → Text → Text
text_in rows id = unwrap_or (first_of id rows) []

abbrev pub texts_in : List Row → Text → List Text
texts_in rows id = unwrap_or (all_of id rows) []

abbrev pub IsJobOrEmpty : Text → List Row → Job → Type 0
IsJobOrEmpty name rows = IsJobBy (λ id text. text ≡ text_in rows id) (λ id list. list ≡ texts_in rows id) name rows

abbrev pub GivesIf : List Row → Text → Option (String Global) → Type 0
GivesIf rows id text = option_map string_bytes text ≡ first_of id rows

abbrev pub IsSizeNamed : Text → SectorSize → Type 0
IsSizeNamed text Bytes512 = text ≢ codes "4096"
IsSizeNamed text Bytes4096 = text ≡ codes "4096"

-- the same, where every other value stands for 512
abbrev pub IsSizeOrLess : List Row → Option SectorSize → Type 0
IsSizeOrLess rows None = first_of (codes "sector-size") rows ≡ None
IsSizeOrLess rows (Some Bytes512) =
    IsSome (first_of (codes "sector-size") rows) × (first_of (codes "sector-size") rows ≢ Some (codes "4096"))
IsSizeOrLess rows (Some Bytes4096) = first_of (codes "sector-size") rows ≡ Some (codes "4096")

-- no command has this name
abbrev pub IsUnknown : Text → Type 0
IsUnknown name = (name ≢ codes "show") × (name ≢ codes "verify") × (name ≢ codes "locate") × (name ≢ codes "free")
    × (name ≢ codes "types") × (name ≢ codes "edit") × (name ≢ codes "plan") × (name ≢ codes "check") × (name ≢ codes "apply")
    × (name ≢ codes "repair") × (name ≢ codes "adopt") × (name ≢ codes "set")

-- what the name and the values come to
abbrev pub IfJob : Text → List Row → Result Job LineError → Type 0
IfJob name rows (Ok job) = IsJobOrEmpty name rows job
IfJob name rows (Err NotText) = ⊥
IfJob name rows (Err InUseAlone) = ⊥
IfJob name rows (Err TwoForms) = ⊥
IfJob name rows (Err PlanWithData) = ⊥
IfJob name rows (Err Memory) = Unit {0}
IfJob name rows (Err (Usage e)) = ⊥

abbrev pub HasNoJob : Option (Text × List Row) → Type 0
HasNoJob None = Unit {0}
HasNoJob (Some p) = IsUnknown p.0

abbrev pub IsLineOrEmpty : Option (Text × List Row) → Line → Type 0
IsLineOrEmpty None line = ⊥
IsLineOrEmpty (Some p) line =
    IsJobOrEmpty p.0 p.1 line.job × IsSizeOrLess p.1 line.size × IsOpenedAs p.1 line × (¬ HasTwoForms p.1) × (¬ PlansWithData p.1)

abbrev pub MeansJob : Option (Text × List Row) → Result Line LineError → Type 0
MeansJob met (Ok line) = IsLineOrEmpty met line
MeansJob met (Err NotText) = ⊥
MeansJob met (Err InUseAlone) = IsAloneIn met
MeansJob met (Err TwoForms) = HasTwoFormsIn met
MeansJob met (Err PlanWithData) = PlansWithDataIn met
MeansJob met (Err Memory) = Unit {0}
MeansJob met (Err (Usage e)) = ⊥

-- lack of memory is reported where `clap` says so, or where a help text couldn't be copied
abbrev pub Tells : ErrorKind → Result Line LineError → Type 0
Tells k (Ok line) = ((k ≡ DisplayHelp) ⊎ (k ≡ DisplayVersion)) × IsHelp line.job
Tells k (Err NotText) = ⊥
Tells k (Err InUseAlone) = ⊥
Tells k (Err TwoForms) = ⊥
Tells k (Err PlanWithData) = ⊥
Tells k (Err Memory) = (k ≡ OutOfMemory) ⊎ (k ≡ DisplayHelp) ⊎ (k ≡ DisplayVersion)
Tells k (Err (Usage e)) = (kind_of e ≡ k) × IsMistake k

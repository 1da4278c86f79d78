-- Answers in the form that they are asked for in.
use Rattle.std.specs.Prelude.{◌≡◌, ◌++◌, ℕ, List, codes, Result, Ok, Err, string_bytes}
use Rattle.pt_members.specs.declared.layout.Layout.{Layout}
use Rattle.pt_types.specs.Listing.{types_lines}
use Rattle.pt_edit.specs.declared.free.FreeBlock.{FreeBlock}
use Rattle.pt_human.specs.Page.{IsPage}
use Rattle.pt_tables.specs.Free.{free_data}
use Rattle.pt_tables.specs.Text.{IsText, table_data}
use Rattle.pt_line.specs.declared.line.Form.{Form}
use Rattle.pt_line.specs.declared.line.Form.TheVariants.{Human, Json}
use Rattle.pt_report.specs.declared.reply.Reply.{Reply}
use Rattle.pt_report.specs.declared.reply.Reply.TheVariants.{Text}
use Rattle.pt_report.specs.declared.reply.Reply.TheVariants as reply
use Rattle.pt_answers.specs.declared.failure.Failure.{Failure}
use Rattle.pt_answers.specs.declared.failure.Failure.TheVariants.{Memory}

-- the table of a layout as a text of JSON, and a line's end; or lack of memory
abbrev pub IsJson : ℕ → List ℕ → Layout → Result Reply Failure → Type 0
IsJson b image o (Ok (Text text)) =
    (json : List ℕ) × IsText json (table_data image b o) × (string_bytes text ≡ json ++ codes "\n")
IsJson b image o (Ok other) = ⊥
IsJson b image o (Err why) = why ≡ Memory

-- free blocks as a text of JSON, and a line's end; or lack of memory
abbrev pub IsFreeJson : List FreeBlock → Result Reply Failure → Type 0
IsFreeJson blocks (Ok (Text text)) = (json : List ℕ) × IsText json (free_data blocks) × (string_bytes text ≡ json ++ codes "\n")
IsFreeJson blocks (Ok other) = ⊥
IsFreeJson blocks (Err why) = why ≡ Memory

-- the page of a layout; or lack of memory
abbrev pub IsHuman : ℕ → Layout → Result Reply Failure → Type 0
IsHuman b o (Ok (Text text)) = IsPage b o (string_bytes text)
IsHuman b o (Ok other) = ⊥
IsHuman b o (Err why) = why ≡ Memory

-- an answer on an image in a form: a table and free blocks may be shown as JSON, a table also as a page for people, and all else is in
-- lines
abbrev pub InForm : ℕ → List ℕ → Form → Result Reply Failure → Result Reply Failure → Type 0
InForm b image Json (Ok (reply.Layout o)) answer = IsJson b image o answer
InForm b image Human (Ok (reply.Layout o)) answer = IsHuman b o answer
InForm b image Json (Ok (reply.Free blocks)) answer = IsFreeJson blocks.items answer
InForm b image form found answer = answer ≡ found

-- the list of types; or lack of memory
abbrev pub IsTypes : Result Reply Failure → Type 0
IsTypes (Ok (Text text)) = string_bytes text ≡ types_lines
IsTypes (Ok other) = ⊥
IsTypes (Err why) = why ≡ Memory

-- What each subcommand answers, by what the library's call gave.
use Rattle.std.specs.Prelude.{◌≡◌, ◌<◌, ◌≤◌, ◌⊎◌, ℕ, List, Option, Result, Ok, Err, IsUtf8, length}
use Rattle.std.specs.Prelude.{IfSome, String, string_bytes}
use Rattle.std.specs.declared.alloc.Global.{Global}
use Rattle.pt_sector.specs.Sectors.{Writes}
use Rattle.pt_report.specs.declared.reply.Reply.{Reply}
use Rattle.pt_answers.specs.declared.failure.Failure.{Failure}
use Rattle.pt_answers.specs.declared.failure.Failure.TheVariants as failure
use Rattle.pt_answers.specs.declared.failure.NoText.{NoText}
use Rattle.pt_answers.specs.declared.failure.NoText.TheVariants.{Unreadable, TooLong, NotUtf8}
use Rattle.pt_answers.specs.declared.failure.TextOf.{TextOf}
use Rattle.pt_answers.specs.Answers.{IsTextOf}
use Rattle.pt_answers.specs.Images.{most_text}
use Rattle.pt_answers.specs.Texts.{IsUnread}

-- that, or there was no memory for it
abbrev pub IsTextOrMemory : ℕ → List Writes → Result Reply Failure → Type 0
IsTextOrMemory b phases (Ok reply) = IsTextOf b phases reply
IsTextOrMemory b phases (Err told) = told ≡ failure.Memory

-- why a file can't be read
abbrev pub IsUnreadable : Failure → Type 0
IsUnreadable why = (why ≡ failure.Device) ⊎ (why ≡ failure.Memory)

-- why the bytes of a file are no text: too many, or no UTF-8
abbrev pub IsNoText : List ℕ → NoText → Type 0
IsNoText bytes Unreadable = ⊥
IsNoText bytes TooLong = most_text < length bytes
IsNoText bytes NotUtf8 = (length bytes ≤ most_text) × ¬ IsUtf8 bytes

-- the text of a file whose bytes are known, if they are, or why it isn't read
abbrev pub ReadsText : TextOf → Option (List ℕ) → Result (String Global) Failure → Type 0
ReadsText of known (Ok text) = IfSome known (λ bytes. string_bytes text ≡ bytes)
ReadsText of known (Err (failure.NoText told why)) = (told ≡ of) × IsUnread known why
ReadsText of known (Err failure.Memory) = Unit {0}
ReadsText of known (Err _) = ⊥

-- The words of an edit and its text of GUIDs, each alone.
use Rattle.std.specs.Prelude.{◌≡◌, ◌≢◌, ◌⊎◌, ℕ, List, Option, String, string_bytes}
use Rattle.std.specs.declared.alloc.Global.{Global}
use Rattle.pt_words.specs.declared.error.EditError.{EditError}
use Rattle.pt_words.specs.declared.error.EditError.TheVariants as edit_error
use Rattle.pt_answers.specs.Wanted.{AreNoFresh, AreNotGiven, IsFirstBad}
use Rattle.pt_answers.specs.declared.failure.Failure.{Failure}
use Rattle.pt_answers.specs.declared.failure.Failure.TheVariants as failure

-- that a text is none of GUIDs, or lack of memory
abbrev pub IsNoFreshOr : List ℕ → Failure → Type 0
IsNoFreshOr text why = (why ≡ failure.Memory) ⊎ ((why ≡ failure.BadFresh) × AreNoFresh text)

-- the same where there may be no text
abbrev pub IsNotGivenOr : Option (List ℕ) → Failure → Type 0
IsNotGivenOr fresh why = (why ≡ failure.Memory) ⊎ ((why ≡ failure.BadFresh) × AreNotGiven fresh)

-- the first of the words that is none, or lack of memory
abbrev pub IsBadOr : List (List ℕ) → Failure → Type 0
IsBadOr words why = (why ≡ failure.Memory) ⊎ ((word : String Global) × (why ≡ failure.BadWord word) × IsFirstBad words (string_bytes word))

-- that this word is none, or lack of memory
abbrev pub IsNamed : List ℕ → Failure → Type 0
IsNamed text why = (why ≡ failure.Memory) ⊎ ((word : String Global) × (why ≡ failure.BadWord word) × (string_bytes word ≡ text))

-- that this word is none, for a reason that isn't lack of memory; or that is wanted
abbrev pub IsUnread : EditError → List ℕ → Failure → Type 0
IsUnread why text told = (told ≡ failure.Memory) ⊎ ((why ≢ edit_error.Memory) × IsNamed text told)

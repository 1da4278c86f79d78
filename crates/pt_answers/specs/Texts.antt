-- The texts of files: a table's, and that of runs of sectors.
use Rattle.std.specs.Prelude.{◌≡◌, ◌≤◌, ◌<◌, ℕ, List, ◌∷◌, Option, Result, Ok, Err, IfSome, IsUtf8, length}
use Rattle.pt_disks.specs.declared.open.OpenError.{OpenError}
use Rattle.pt_answers.specs.Images.{Call, Doing, TableOpened, Then, most_text}
use Rattle.pt_answers.specs.declared.failure.Failure.{Failure}
use Rattle.pt_answers.specs.declared.failure.Failure.TheVariants as failure
use Rattle.pt_answers.specs.declared.failure.NoText.{NoText}
use Rattle.pt_answers.specs.declared.failure.NoText.TheVariants.{Unreadable, TooLong, NotUtf8}
use Rattle.pt_answers.specs.declared.failure.TextOf.{TextOf}

-- the text of a file whose bytes are known, if they are
abbrev pub IsTextIn : Option (List ℕ) → (List ℕ → Type 0) → Type 0
IsTextIn known Holds = IfSome known (λ bytes. (length bytes ≤ most_text) × IsUtf8 bytes × Holds bytes)

-- why it isn't read
abbrev pub IsUnread : Option (List ℕ) → NoText → Type 0
IsUnread known Unreadable = Unit {0}
IsUnread known TooLong = IfSome known (λ bytes. most_text < length bytes)
IsUnread known NotUtf8 = IfSome known (λ bytes. (length bytes ≤ most_text) × ¬ IsUtf8 bytes)

-- what comes of a file that was opened, or wasn't: of its bytes this is read
abbrev pub OfText : {T X : Type 0} → (Option (List ℕ) → Result X Failure → Type 0) → TextOf → (T → Option (List ℕ)) → Result T OpenError
    → Result X Failure → Type 0
OfText Reads of remaining (Ok file) read = Reads (remaining file) read
OfText Reads of remaining (Err error) read = read ≡ Err (failure.NoText of Unreadable)

-- the file of a text is opened and read
abbrev pub IsTextAt : {D T X : Type 0} → (Option (List ℕ) → Result X Failure → Type 0) → TextOf → (T → Option (List ℕ)) → List ℕ
    → List (Call D T) → List (Call D T) → Result X Failure → Type 0
IsTextAt {D} {T} Reads of remaining path old new read =
    (opened : Result T OpenError) × (new ≡ TableOpened path opened ∷ old) × OfText Reads of remaining opened read

-- and with what was read this comes next
abbrev pub WithText : {D T X : Type 0} → (Option (List ℕ) → Result X Failure → Type 0) → TextOf → (T → Option (List ℕ)) → List ℕ
    → (X → Doing (Call D T)) → Doing (Call D T)
WithText {D} {T} {X} Reads of remaining path Next old new answer = (between : List (Call D T)) × (read : Result X Failure)
    × IsTextAt Reads of remaining path old between read × Then Next read between new answer

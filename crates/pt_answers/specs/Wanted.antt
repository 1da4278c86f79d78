-- The words of an edit as they are read, and the fresh GUIDs that they take.
use Rattle.std.specs.Prelude.{◌≡◌, ◌≢◌, ◌<◌, ◌/◌, ◌%◌, ℕ, List, [], ◌∷◌, ◌++◌, Option, Some, None, Result, Ok, Err, string_bytes, String}
use Rattle.std.specs.Prelude.{◌⊎◌, length, map}
use Rattle.std.specs.Prelude.{slice_index_or}
use Rattle.std.specs.Simd.{first_chunks}
use Rattle.hex.specs.declared.error.FromHexError.{FromHexError}
use Rattle.std.specs.declared.alloc.Global.{Global}
use Rattle.hex.specs.Hex.{decode_sized}
use Rattle.pt_guid.specs.Guids.{fresh_of}
use Rattle.pt_guid.specs.declared.guid.Guid.{Guid}
use Rattle.pt_words.specs.Words.{fields, IsWord, IsWordFault}
use Rattle.pt_words.specs.declared.error.EditError.{EditError}
use Rattle.pt_words.specs.declared.word.Edit.{Edit}
use Rattle.pt_plan.specs.Batches.{Words}
use Rattle.pt_answers.specs.declared.failure.Failure.{Failure}
use Rattle.pt_answers.specs.declared.failure.Failure.TheVariants as failure
use Rattle.pt_answers.specs.declared.words.Wanted.{Wanted}

-- the edits are these words, one for each
unfoldable pub AreEdits : List (List ℕ) → List Edit → Type 0
AreEdits [] [] = Unit {0}
AreEdits [] (edit ∷ edits) = ⊥
AreEdits (word ∷ words) [] = ⊥
AreEdits (word ∷ words) (edit ∷ edits) = IsWord (fields word) edit × AreEdits words edits

-- the first of the words that is none
pub record IsFirstBad (words : List (List ℕ)) (word : List ℕ) : Type 0 where
  pub before : List (List ℕ)
  pub after : List (List ℕ)
  pub edits : List Edit
  pub split : words ≡ before ++ word ∷ after
  pub read : AreEdits before edits
  pub why : EditError
  pub fault : IsWordFault (fields word) why

-- the GUID that 16 bytes in hexadecimal make
abbrev pub guid_of : Result (List ℕ) FromHexError → Option Guid
guid_of (Ok drawn) = Some (record { 0 = fresh_of drawn })
guid_of (Err why) = None

abbrev pub guid_in : List ℕ → Option Guid
guid_in digits = guid_of (decode_sized digits 16)

-- the groups of 32 digits of a text
abbrev pub groups : List ℕ → List (List ℕ)
groups text = first_chunks 32 (length text / 32) text

-- the text is whole groups, and each makes one of these GUIDs
abbrev pub AreFresh : List ℕ → List Guid → Type 0
AreFresh text guids = (length text % 32 ≡ 0) × (map guid_in (groups text) ≡ map Some guids)

-- the text isn't whole groups, or one of them makes no GUID
abbrev pub AreNoFresh : List ℕ → Type 0
AreNoFresh text = (length text % 32 ≢ 0)
    ⊎ ((k : ℕ) × (k < length (groups text)) × (guid_in (slice_index_or (groups text) k []) ≡ None))

-- no text, no GUIDs
abbrev pub AreGiven : Option (List ℕ) → List Guid → Type 0
AreGiven None guids = guids ≡ []
AreGiven (Some text) guids = AreFresh text guids

abbrev pub AreNotGiven : Option (List ℕ) → Type 0
AreNotGiven None = ⊥
AreNotGiven (Some text) = AreNoFresh text

-- what is wanted by words and a text of GUIDs, or what is first wrong with these, the text before the words
abbrev pub IsWanted : Option (List ℕ) → List (List ℕ) → Result Wanted Failure → Type 0
IsWanted fresh words (Ok wanted) = AreGiven fresh wanted.guids.items × AreEdits words wanted.edits.items
IsWanted fresh words (Err why) = (why ≡ failure.Memory) ⊎ (((why ≡ failure.BadFresh) × AreNotGiven fresh)
    ⊎ ((word : String Global) × (why ≡ failure.BadWord word) × ((guids : List Guid) × AreGiven fresh guids)
    × IsFirstBad words (string_bytes word)))

abbrev pub words_of : Wanted → Words
words_of wanted = record { edits = wanted.edits.items; guids = wanted.guids.items }

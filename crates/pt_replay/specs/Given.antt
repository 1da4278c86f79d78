-- What a caller gives: views, rows of plans, words, random bytes.
use Rattle.std.specs.Prelude.{◌≡◌, ◌≢◌, ◌<◌, ◌+◌, ◌*◌, ◌/◌, ◌⊎◌, ℕ, List, [], ◌∷◌, ◌++◌, length, map, slice_index, ◌≤◌, ◌-◌, flat_map}
use Rattle.std.specs.Prelude.{take, drop, slice_index_or}
use Rattle.std.specs.Str.{IsUtf8}
use Rattle.std.specs.Simd.{first_chunks}
use Rattle.pt_guid.specs.Guids.{fresh_of}
use Rattle.pt_guid.specs.declared.guid.Guid.{Guid}
use Rattle.pt_words.specs.declared.error.EditError.{EditError}
use Rattle.pt_words.specs.declared.word.Edit.{Edit}
use Rattle.pt_words.specs.Words.{fields, IsWord, IsWordFault}
use Rattle.pt_plan.specs.Batches.{Words}
use Rattle.pt_replay.specs.Replies.{the_words, bad_argument, bad_word, the_rows, counting, bad_row}
use Rattle.pt_replay.specs.declared.answers.Reply.{Reply}
use Rattle.pt_sector.specs.Sectors.{Sectors, Writes}
use Rattle.pt_replay.specs.declared.rows.WriteRow.{WriteRow}

-- ## What C asks for: words and random bytes.

-- no byte of the text is zero
abbrev pub HasNoZero : List ℕ → Type 0
HasNoZero text = (i : ℕ) → i < length text → slice_index text i ≢ 0

-- the bytes are these words, each ended by a zero byte
unfoldable pub AreWords : List ℕ → List Edit → Type 0
AreWords bytes [] = bytes ≡ []
AreWords bytes (e ∷ es) = (word : List ℕ) × (rest : List ℕ) × (bytes ≡ word ++ 0 ∷ rest) × HasNoZero word × IsWord (fields word) e
    × AreWords rest es

-- the bytes are a text in UTF-8 of these words, at least one
pub record AreEdits (bytes : List ℕ) (edits : List Edit) : Type 0 where
  pub text : IsUtf8 bytes
  pub some : edits ≢ []
  pub words_are : AreWords bytes edits

-- the bytes end within a word: behind words that can be read stands more, and no zero byte ends it
pub record AreUnended (bytes : List ℕ) : Type 0 where
  pub front : List ℕ
  pub rest : List ℕ
  pub before : List Edit
  pub split : bytes ≡ front ++ rest
  pub read : AreWords front before
  pub unended : HasNoZero rest
  pub some : rest ≢ []

-- the bytes aren't a text of words, whatever the words are: not UTF-8, none at all, or ending within a word
abbrev pub AreNoText : List ℕ → Type 0
AreNoText bytes = (¬ IsUtf8 bytes) ⊎ ((bytes ≡ []) ⊎ AreUnended bytes)

-- the bytes are a text whose word `at`, from 1, can't be read for the reason e, and all words before it can
pub record IsBadWord (bytes : List ℕ) (at : ℕ) (e : EditError) : Type 0 where
  pub text : IsUtf8 bytes
  pub front : List ℕ
  pub word : List ℕ
  pub rest : List ℕ
  pub before : List Edit
  pub split : bytes ≡ front ++ (word ++ 0 ∷ rest)
  pub read : AreWords front before
  pub ended : HasNoZero word
  pub fault : IsWordFault (fields word) e
  pub place : at ≡ length before + 1

-- what is reported of bytes that are no words: that they are no text of words, or the first word that can't be read
abbrev pub ToldOfWords : List ℕ → Reply → Type 0
ToldOfWords bytes r =
    (AreNoText bytes × (r ≡ bad_argument the_words))
    ⊎ ((at : ℕ) × (e : EditError) × IsBadWord bytes at e × (r ≡ bad_word at e))

-- the bytes are words
abbrev pub AreSomeEdits : List ℕ → Type 0
AreSomeEdits bytes = (edits : List Edit) × AreEdits bytes edits

-- the GUIDs of random bytes, sixteen for each
abbrev pub drawn_of : List ℕ → List Guid
drawn_of bytes = map (λ (group : List ℕ). record { 0 = fresh_of group }) (first_chunks 16 (length bytes / 16) bytes)

-- the random bytes are whole groups, and these their GUIDs
pub record AreDrawn (bytes : List ℕ) (guids : List Guid) : Type 0 where
  pub whole : length bytes ≡ length guids * 16
  pub guids_are : guids ≡ drawn_of bytes

-- the random bytes are whole groups
abbrev pub AreGroups : List ℕ → Type 0
AreGroups bytes = (guids : List Guid) × AreDrawn bytes guids

-- the batch is what was asked for
pub record IsAskedFor (words drawn : List ℕ) (batch : Words) : Type 0 where
  pub edits : AreEdits words batch.edits
  pub guids : AreDrawn drawn batch.guids

-- ## The writes of plans, in rows and bytes.

-- the rows of a phase of this number
abbrev pub rows_in : ℕ → Writes → List WriteRow
rows_in n ws = map (λ (w : ℕ × List ℕ). record { sector = w.0; phase = n }) ws

abbrev pub bytes_in : Writes → List ℕ
bytes_in ws = flat_map (λ (w : ℕ × List ℕ). w.1) ws

-- the rows of phases, the first of which has this number
unfoldable pub rows_from : ℕ → List Writes → List WriteRow
rows_from n [] = []
rows_from n (p ∷ ps) = rows_in n p ++ rows_from (n + 1) ps

unfoldable pub bytes_of : List Writes → List ℕ
bytes_of [] = []
bytes_of (p ∷ ps) = bytes_in p ++ bytes_of ps

-- their sectors
unfoldable pub sectors_of : List Writes → Sectors
sectors_of [] = []
sectors_of (p ∷ ps) = map (λ (w : ℕ × List ℕ). w.1) p ++ sectors_of ps

-- each phase has a write
unfoldable pub AreFull : List Writes → Type 0
AreFull [] = Unit {0}
AreFull (p ∷ ps) = (1 ≤ length p) × AreFull ps

-- the rows that C gave, and their sectors of b bytes, are those of the phases, of which none is empty
pub record AreTaken (b : ℕ) (phases : List Writes) (rows : List WriteRow) (bytes : List ℕ) : Type 0 where
  pub full : AreFull phases
  pub whole : length bytes ≡ length rows * b
  pub rows_are : rows ≡ rows_from 1 phases
  pub sectors_are : first_chunks b (length bytes / b) bytes ≡ sectors_of phases

-- the rows and bytes that C gave are a plan's
abbrev pub ArePlan : ℕ → List WriteRow → List ℕ → Type 0
ArePlan b rows bytes = (phases : List Writes) × AreTaken b phases rows bytes

-- the phase of row k, from 1 on; 0 stands before the first
abbrev pub phase_at : List WriteRow → ℕ → ℕ
phase_at rows k = slice_index_or (0 ∷ map (λ (row : WriteRow). row.phase) rows) k 0

-- row k, from 1 on, is in order: its phase is that of the row before it, or the next one; phases begin with 1
pub record IsInOrder (rows : List WriteRow) (k : ℕ) : Type 0 where
  pub begun : 1 ≤ phase_at rows k
  pub follows : (phase_at rows k ≡ phase_at rows (k - 1)) ⊎ (phase_at rows k ≡ phase_at rows (k - 1) + 1)

-- row k, from 1 on, is the first that isn't in order
pub record IsBadRow (rows : List WriteRow) (k : ℕ) : Type 0 where
  pub from : 1 ≤ k
  pub to : k ≤ length rows
  pub before : (i : ℕ) → 1 ≤ i → i < k → IsInOrder rows i
  pub bad : ¬ IsInOrder rows k

-- what is reported of rows that are no plan: that the bytes aren't a sector for each row, or the first row that isn't in order
abbrev pub ToldOfRows : ℕ → List WriteRow → List ℕ → Reply → Type 0
ToldOfRows b rows bytes r =
    ((length bytes ≢ length rows * b) × (r ≡ bad_argument the_rows))
    ⊎ ((k : ℕ) × (length bytes ≡ length rows * b) × IsBadRow rows k × (r ≡ bad_row k))

-- what the caller's buffers hold
pub record Buffers : Type 0 where
  pub writes : List WriteRow
  pub bytes : List ℕ

abbrev pub buffers : List WriteRow → List ℕ → Buffers
buffers writes bytes = record { writes = writes; bytes = bytes }

-- the phases stand at the head of the buffers, the rest of which is as it was, and the reply counts them
pub record Stands (phases : List Writes) (old new : Buffers) (r : Reply) : Type 0 where
  pub reply_is : r ≡ counting (length (rows_from 1 phases)) (length phases)
  pub rows_are : take (length (rows_from 1 phases)) new.writes ≡ rows_from 1 phases
  pub bytes_are : take (length (bytes_of phases)) new.bytes ≡ bytes_of phases
  pub writes_rest : drop (length (rows_from 1 phases)) new.writes ≡ drop (length (rows_from 1 phases)) old.writes
  pub bytes_rest : drop (length (bytes_of phases)) new.bytes ≡ drop (length (bytes_of phases)) old.bytes

-- the buffers are too small for the phases, which the reply counts, and stay as they were
pub record HasNoPlace (phases : List Writes) (old new : Buffers) (r : Reply) : Type 0 where
  pub reply_is : r ≡ counting (length (rows_from 1 phases)) (length phases)
  pub small : (length old.writes < length (rows_from 1 phases)) ⊎ (length old.bytes < length (bytes_of phases))
  pub stay : new ≡ old

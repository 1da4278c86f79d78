-- What a caller gives: views, rows of plans, words, random bytes: what private contracts cite.
use Rattle.std.specs.Prelude.{List, ◌≡◌, ◌≢◌, ◌≤◌, ◌⊎◌, ℕ, ◌+◌, [], ◌∷◌, ◌++◌, length}
use Rattle.pt_guid.specs.declared.guid.Guid.{Guid}
use Rattle.pt_words.specs.declared.word.Edit.{Edit}
use Rattle.pt_plan.specs.Batches.{Words}
use Rattle.pt_sector.specs.Sectors.{Writes}
use Rattle.pt_replay.specs.declared.answers.Status.{Status}
use Rattle.pt_replay.specs.declared.answers.Status.TheVariants.{Done, No, Usage, Refused, NoTable, Device, Memory, Want, Room, WantOther}
use Rattle.pt_replay.specs.declared.answers.Reply.{Reply}
use Rattle.pt_replay.specs.Replies.{nothing}
use Rattle.pt_replay.specs.declared.rows.WriteRow.{WriteRow}
use Rattle.pt_replay.specs.declared.plan_rows.Partial.{Partial}
use Rattle.pt_apply.specs.Plans.{writes_of}
use Rattle.pt_apply.specs.inner.Plans.{phases_in}
use Rattle.pt_replay.specs.Given.{rows_from, bytes_of, sectors_of, AreFull, Buffers, Stands, HasNoPlace}

-- ## What C asks for: words and random bytes.

-- words with their GUIDs
abbrev pub batch_of : List Edit → List Guid → Words
batch_of edits guids = record { edits = edits; guids = guids }

-- ## The writes of plans, in rows and bytes.

-- the phases stand in these rows, numbered from 1 on, with their bytes at the same places
pub record AreRows (phases : List Writes) (rows : List WriteRow) (bytes : List ℕ) : Type 0 where
  pub rows_are : rows ≡ rows_from 1 phases
  pub bytes_are : bytes ≡ bytes_of phases

-- the phases that were read so far, the last of which grows
abbrev pub phases_read : {b : _} → Partial b → List Writes
phases_read p = phases_in p.phases.items ++ writes_of p.last.items ∷ []

-- the last phase has its number
abbrev pub IsNumbered : {b : _} → Partial b → Type 0
IsNumbered p = p.number ≡ 1 + length (phases_in p.phases.items)

-- the row is neither of the last phase nor of a next one
pub record IsMisplaced {b : _} (row : WriteRow) (p : Partial b) : Type 0 where
  pub not_last : row.phase ≢ p.number
  pub not_next : 1 ≤ length p.last.items → row.phase ≢ p.number + 1

-- one more write was read
pub record Took {b : _} (row : WriteRow) (sector : List ℕ) (old new : Partial b) : Type 0 where
  pub numbered : IsNumbered new
  pub front : AreFull (phases_in old.phases.items) → AreFull (phases_in new.phases.items)
  pub last : row.phase ≡ new.number
  pub next : (row.phase ≡ old.number) ⊎ ((row.phase ≡ old.number + 1) × (1 ≤ length old.last.items))
  pub some : 1 ≤ length new.last.items
  pub rows : rows_from 1 (phases_read new) ≡ rows_from 1 (phases_read old) ++ row ∷ []
  pub sectors : sectors_of (phases_read new) ≡ sectors_of (phases_read old) ++ sector ∷ []

-- a plan is given, or there is no room for it, or no memory
abbrev pub Gives : List Writes → Buffers → Buffers → Status → Reply → Type 0
Gives phases old new Done r = Stands phases old new r
Gives phases old new No r = ⊥
Gives phases old new Usage r = ⊥
Gives phases old new Refused r = ⊥
Gives phases old new NoTable r = ⊥
Gives phases old new Device r = ⊥
Gives phases old new Memory r = (r ≡ nothing) × (new ≡ old)
Gives phases old new Want r = ⊥
Gives phases old new Room r = HasNoPlace phases old new r
Gives phases old new WantOther r = ⊥

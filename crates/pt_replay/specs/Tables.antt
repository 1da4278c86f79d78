-- What a reply says of a disk's table as text, of its free blocks, and of a plan by which a disk takes the table of a text.
use Rattle.std.specs.Prelude.{◌≡◌, ◌<◌, ◌⊎◌, ℕ, List, Option, Some, None, Result, Ok, Err, length, map, take, drop}
use Rattle.std.specs.Str.{IsUtf8}
use Rattle.pt_guid.specs.declared.guid.Guid.{Guid}
use Rattle.pt_sector.specs.Sectors.{Sectors, Writes}
use Rattle.pt_members.specs.declared.layout.Layout.{Layout}
use Rattle.pt_recover.specs.Denotes.{Denotes, Reads}
use Rattle.pt_cases.specs.declared.primary.Primary.{Primary as Choice}
use Rattle.pt_edit.specs.Free.{AreFree, free_places}
use Rattle.pt_edit.specs.declared.free.FreeBlock.{FreeBlock}
use Rattle.pt_tables.specs.Text.{IsText, table_data}
use Rattle.pt_drafts.specs.Tables.{draft_of}
use Rattle.pt_drafts.specs.declared.draft.Draft.{Draft}
use Rattle.pt_drafts.specs.declared.fault.TextFault.{TextFault}
use Rattle.pt_plan.specs.Batches.{LayoutReads}
use Rattle.pt_plan.specs.Layouts.{IsReadyFor, IsRefusalOf}
use Rattle.pt_set.specs.Sets.{IsMadeFrom, IsUnread}
use Rattle.pt_set.specs.declared.error.SetError.{SetError}
use Rattle.pt_set.specs.declared.error.SetError.TheVariants.{Fault as Faulty, Disk}
use Rattle.pt_replay.specs.Claims.{NoLayout, SaysNothing, Wants, kept}
use Rattle.pt_replay.specs.Given.{AreGroups, AreDrawn, Buffers, Stands, HasNoPlace}
use Rattle.pt_replay.specs.Replies.{the_random_bytes, the_text, nothing, answer, counting, set_answer}
use Rattle.pt_replay.specs.Wanted.{Judged, Tells, OfView, OrMemory}
use Rattle.pt_replay.specs.declared.answers.Reply.{Reply}
use Rattle.pt_replay.specs.declared.answers.Status.{Status}
use Rattle.pt_replay.specs.declared.answers.Status.TheVariants.{Done, No, Usage, Refused, NoTable, Device, Memory, Want, Room, WantOther}
use Rattle.pt_replay.specs.declared.rows.FreeRow.{FreeRow}
use Rattle.pt_replay.specs.declared.view.View.{View}

-- ## A buffer that takes a list: the bytes of a text, or rows.

-- the list stands at the head of the buffer, the rest of which is as it was, and the reply counts it
pub record Fills {A : Type 0} (list old new : List A) (r : Reply) : Type 0 where
  pub reply_is : r ≡ counting (length list) 0
  pub list_is : take (length list) new ≡ list
  pub rest_is : drop (length list) new ≡ drop (length list) old

-- the buffer is too small for the list, which the reply counts, and stays as it was
pub record IsTooLong {A : Type 0} (list old new : List A) (r : Reply) : Type 0 where
  pub reply_is : r ≡ counting (length list) 0
  pub small : length old < length list
  pub stays : new ≡ old

-- ## The table as text.

-- the text of what the disk denotes, under the name of its device, stands in the buffer, or has no room there
abbrev pub Texts : ℕ → View → Sectors → List ℕ → List ℕ → List ℕ → Status → Reply → Type 0
Texts b v d device old new Done r =
    (o : Layout) × Denotes b d (Some o) × ((text : List ℕ) × IsText text (table_data device b o) × Fills text old new r)
Texts b v d device old new No r = ⊥
Texts b v d device old new Usage r = ⊥
Texts b v d device old new Refused r = ⊥
Texts b v d device old new NoTable r = SaysNothing b d r × (new ≡ old)
Texts b v d device old new Device r = ⊥
Texts b v d device old new Memory r = (r ≡ nothing) × (new ≡ old)
Texts b v d device old new Want r = NoLayout b v d Want r × (new ≡ old)
Texts b v d device old new Room r =
    (o : Layout) × Denotes b d (Some o) × ((text : List ℕ) × IsText text (table_data device b o) × IsTooLong text old new r)
Texts b v d device old new WantOther r = ⊥

-- the same, once the device's name is judged, and then the view
abbrev pub TextFor : ℕ → View → Sectors → List ℕ → List ℕ → List ℕ → Status → Reply → Type 0
TextFor b v d device old new = Judged (IsUtf8 device) (Tells the_text (new ≡ old)) (OfView b v (new ≡ old) (Texts b v d device old new))

-- ## Blocks of free sectors.

-- the number of what a block lies inside; 0 at the table's own level
abbrev pub inside_number : Option ℕ → ℕ
inside_number None = 0
inside_number (Some n) = n

abbrev pub free_row : FreeBlock → FreeRow
free_row block = record { first = block.first; last = block.last; inside = inside_number block.inside }

-- the rows are those of all free blocks of what the disk denotes, in their order
abbrev pub AreFreeRows : ℕ → Layout → List FreeRow → Type 0
AreFreeRows b o rows = (blocks : List FreeBlock) × AreFree (free_places b o) blocks × (rows ≡ map free_row blocks)

-- these stand in the buffer, or have no room there
abbrev pub Frees : ℕ → View → Sectors → List FreeRow → List FreeRow → Status → Reply → Type 0
Frees b v d old new Done r = (o : Layout) × Denotes b d (Some o) × ((rows : List FreeRow) × AreFreeRows b o rows × Fills rows old new r)
Frees b v d old new No r = ⊥
Frees b v d old new Usage r = ⊥
Frees b v d old new Refused r = ⊥
Frees b v d old new NoTable r = SaysNothing b d r × (new ≡ old)
Frees b v d old new Device r = ⊥
Frees b v d old new Memory r = (r ≡ nothing) × (new ≡ old)
Frees b v d old new Want r = NoLayout b v d Want r × (new ≡ old)
Frees b v d old new Room r = (o : Layout) × Denotes b d (Some o) × ((rows : List FreeRow) × AreFreeRows b o rows × IsTooLong rows old new r)
Frees b v d old new WantOther r = ⊥

-- the same, once the view is judged
abbrev pub FreeFor : ℕ → View → Sectors → List FreeRow → List FreeRow → Status → Reply → Type 0
FreeFor b v d old new = OfView b v (new ≡ old) (Frees b v d old new)

-- ## The table of a text on a disk d of n sectors of b bytes, with these fresh GUIDs.

-- what is made by a text's draft; a text that has none makes its fault
abbrev pub MadeBy : ℕ → ℕ → Sectors → List Guid → Result Draft TextFault → Result Layout TextFault → Type 0
MadeBy b n d fresh (Err fault) r = r ≡ Err fault
MadeBy b n d fresh (Ok draft) r = IsMadeFrom b n d fresh draft r

-- the layout that a text makes of what the disk denotes, or its first fault
abbrev pub TextMakes : ℕ → ℕ → Sectors → List Guid → List ℕ → Result Layout TextFault → Type 0
TextMakes b n d fresh text r = MadeBy b n d fresh (draft_of text) r

-- a checked plan for that layout
abbrev pub IsReadyToSet : Choice → ℕ → ℕ → Sectors → List Guid → List ℕ → List Writes → Type 0
IsReadyToSet primary b n d fresh text phases =
    (wanted : Layout) × TextMakes b n d fresh text (Ok wanted) × IsReadyFor primary b n wanted d phases

-- why there is none: the text's first fault, or what hinders a plan, or that a read failed or memory was refused
abbrev pub NotSet : Choice → ℕ → ℕ → Sectors → List Guid → List ℕ → SetError → Type 0
NotSet primary b n d fresh text (Faulty fault) = TextMakes b n d fresh text (Err fault)
NotSet primary b n d fresh text (Disk error) =
    IsUnread error ⊎ ((wanted : Layout) × TextMakes b n d fresh text (Ok wanted) × IsRefusalOf primary b n wanted d error)

-- the sectors that decide the plan: where the text itself has no fault those that recovery reads, and those that a commit of the text's
-- layout reads
pub data SetReads (primary : Choice) (b n : ℕ) (d : Sectors) (fresh : List Guid) (text : List ℕ) (s : ℕ) : Type 0 where
  set_old : (draft : Draft) → draft_of text ≡ Ok draft → Reads b d s → SetReads primary b n d fresh text s
  set_plan : (wanted : Layout) → TextMakes b n d fresh text (Ok wanted) → LayoutReads primary b wanted d s
      → SetReads primary b n d fresh text s

-- ## What a status says of that plan for the disk d, of which the caller has given the view v.

-- the disk doesn't take the table for the reason that the answer tells, with this status
abbrev pub IsUnset : ℕ → View → Sectors → List Guid → List ℕ → Status → Reply → Type 0
IsUnset b v d fresh text s r = (e : SetError) × NotSet (kept v) b v.sectors d fresh text e × (set_answer e ≡ answer s r)

-- no plan for the text: it has a fault, or its table is refused, for the reason that the reply tells, or no answer yet
abbrev pub NoSetting : ℕ → View → Sectors → List Guid → List ℕ → Status → Reply → Type 0
NoSetting b v d fresh text Done r = ⊥
NoSetting b v d fresh text No r = ⊥
NoSetting b v d fresh text Usage r = ⊥
NoSetting b v d fresh text Refused r = IsUnset b v d fresh text Refused r
NoSetting b v d fresh text NoTable r = ⊥
NoSetting b v d fresh text Device r = ⊥
NoSetting b v d fresh text Memory r = r ≡ nothing
NoSetting b v d fresh text Want r = Wants b v (SetReads (kept v) b v.sectors d fresh text) r
NoSetting b v d fresh text Room r = ⊥
NoSetting b v d fresh text WantOther r = ⊥

-- a checked plan for the text stands in the buffers, or it has no room there; or there is none, and they stay as they were
abbrev pub Set : ℕ → View → Sectors → List Guid → List ℕ → Buffers → Buffers → Status → Reply → Type 0
Set b v d fresh text old new Done r =
    (phases : List Writes) × IsReadyToSet (kept v) b v.sectors d fresh text phases × Stands phases old new r
Set b v d fresh text old new No r = ⊥
Set b v d fresh text old new Usage r = ⊥
Set b v d fresh text old new Refused r = NoSetting b v d fresh text Refused r × (new ≡ old)
Set b v d fresh text old new NoTable r = ⊥
Set b v d fresh text old new Device r = ⊥
Set b v d fresh text old new Memory r = (r ≡ nothing) × (new ≡ old)
Set b v d fresh text old new Want r = NoSetting b v d fresh text Want r × (new ≡ old)
Set b v d fresh text old new Room r =
    (phases : List Writes) × IsReadyToSet (kept v) b v.sectors d fresh text phases × HasNoPlace phases old new r
Set b v d fresh text old new WantOther r = ⊥

-- the same of what C asks for: the random bytes are judged, then the text, then the view
abbrev pub SetFor : ℕ → View → Sectors → List ℕ → List ℕ → Buffers → Buffers → Status → Reply → Type 0
SetFor b v d text drawn old new =
    OrMemory (new ≡ old) (Judged (AreGroups drawn) (Tells the_random_bytes (new ≡ old))
    (Judged (IsUtf8 text) (Tells the_text (new ≡ old)) (OfView b v (new ≡ old)
    (λ s r. (fresh : List Guid) × AreDrawn drawn fresh × Set b v d fresh text old new s r))))

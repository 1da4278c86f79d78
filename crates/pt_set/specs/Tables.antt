-- The GPT that a draft makes of a disk.
use Rattle.std.specs.Prelude.{◌≡◌, ◌⊎◌, ℕ, ◌+◌, List, [], ◌∷◌, Option, None, Result, Ok, Err, ok_or, replicate}
use Rattle.pt_guid.specs.declared.guid.Guid.{Guid}
use Rattle.pt_gpt.specs.declared.entry.Entry.{Entry}
use Rattle.pt_gpt.specs.declared.table.Table.{Table}
use Rattle.pt_members.specs.Members.{label_of}
use Rattle.pt_members.specs.declared.layout.Body.TheVariants.{Gpt}
use Rattle.pt_members.specs.declared.layout.Labelled.{Labelled}
use Rattle.pt_members.specs.declared.layout.Layout.{Layout}
use Rattle.pt_edit.specs.declared.space.Run.{Run}
use Rattle.pt_drafts.specs.declared.draft.Draft.{Draft}
use Rattle.pt_drafts.specs.declared.fault.Key.TheVariants as key
use Rattle.pt_drafts.specs.declared.draft.PartDraft.{PartDraft}
use Rattle.pt_drafts.specs.declared.fault.TextFault.{TextFault}
use Rattle.pt_set.specs.declared.entries.Known.{Known}
use Rattle.pt_set.specs.declared.gpt.Ready.{Ready}
use Rattle.pt_set.specs.declared.head.Head.{Head}
use Rattle.pt_set.specs.Entries.{State, entry_of, foreign_key, kind_for, label_for, no_foreign, number_for, old_entry, unique_for}
use Rattle.pt_set.specs.Entries.{with_part}
use Rattle.pt_set.specs.Faults.{◌>>=◌, at}
use Rattle.pt_set.specs.Heads.{head_for}
use Rattle.pt_set.specs.Places.{IsPlace, stated}

-- what the partitions of a draft are made by: the size of sectors, the table itself, the table that was there with its labels, the fresh
-- GUIDs, and all partitions of the text
pub record Frame : Type 0 where
  pub bytes : ℕ
  pub head : Head
  pub old : Option Table
  pub labels : List Labelled
  pub fresh : List Guid
  pub parts : List PartDraft

-- what is known of partition k before its place is
unfoldable pub known_of : List PartDraft → ℕ → PartDraft → List (Option Entry) → Result Known TextFault
known_of parts k p entries = do
  _ ← no_foreign k (foreign_key p)
  number ← ok_or (number_for parts entries p.number) (at k key.Number)
  kind ← ok_or (kind_for p.kind) (at k key.Type)
  Ok (record { number = number; kind = kind })

-- its own GUID and its label, in a place
unfoldable pub ready_for : Frame → ℕ → PartDraft → ℕ → Known → Run → Result Ready TextFault
ready_for f k p taken known run = do
  unique ← ok_or (unique_for f.fresh taken (old_entry f.old known.number) p.unique) (at k key.Uuid)
  label ← label_for f.bytes k (old_entry f.old known.number) (label_of f.labels known.number) known.kind run p.bsd
  Ok (record { unique = unique; label = label })

-- and what is made of it then
abbrev pub made_of : PartDraft → State → Known → Run → Ready → State
made_of p s known run ready =
    with_part s known.number (entry_of p known.kind ready.unique.guid run) ready.label run ready.unique.taken

unfoldable pub made_at : Frame → ℕ → PartDraft → State → Known → Run → Result State TextFault
made_at f k p s known run = do
  ready ← ready_for f k p s.taken known run
  Ok (made_of p s known run ready)

abbrev pub IsMadeOf : Frame → ℕ → PartDraft → State → Result Known TextFault → Result State TextFault → Type 0
IsMadeOf f k p s (Err fault) r = r ≡ Err fault
IsMadeOf f k p s (Ok known) r =
    (place : Result Run TextFault) × IsPlace f.bytes f.head s.runs k p.start p.extent place × (r ≡ (place >>= made_at f k p s known))

-- what partition k makes of what those before it made
abbrev pub IsMade : Frame → ℕ → PartDraft → State → Result State TextFault → Type 0
IsMade f k p s r = IsMadeOf f k p s (known_of f.parts k p s.entries) r

-- the partitions in order, from k on; the first fault ends them
abbrev pub AreMade : Frame → ℕ → List PartDraft → State → Result State TextFault → Type 0
AreMade f k [] s r = r ≡ Ok s
AreMade f k (p ∷ ps) s r =
    ((t : State) × IsMade f k p s (Ok t) × AreMade f (k + 1) ps t r) ⊎ ((fault : TextFault) × IsMade f k p s (Err fault) × (r ≡ Err fault))

-- an empty table, with the sectors taken that the text gives by start and size
abbrev pub initial : Frame → State
initial f = record {
  entries = replicate f.head.count None;
  labels = [];
  runs = stated f.bytes f.parts;
  taken = f.head.disk.taken;
}

abbrev pub layout_of : ℕ → Head → State → Layout
layout_of n h s = record {
  sectors = n;
  body = Gpt (record { disk = h.disk.guid; first = h.first; last = h.last; entries = s.entries });
  labels = s.labels;
}

abbrev pub frame_of : ℕ → Head → Option Table → List Labelled → List Guid → Draft → Frame
frame_of b h old labels fresh d = record {
  bytes = b;
  head = h;
  old = old;
  labels = labels;
  fresh = fresh;
  parts = d.parts;
}

abbrev pub IsGptBy : ℕ → ℕ → Option Table → List Labelled → List Guid → Draft → Result Head TextFault → Result Layout TextFault → Type 0
IsGptBy b n old labels fresh d (Err fault) r = r ≡ Err fault
IsGptBy b n old labels fresh d (Ok h) r =
    (made : Result State TextFault)
    × AreMade (frame_of b h old labels fresh d) 0 d.parts (initial (frame_of b h old labels fresh d)) made
    × (r ≡ (made >>= (λ s. Ok (layout_of n h s))))

-- the layout that a draft of a GPT makes of a disk of n sectors of b bytes, on which this table was, if any, with these labels; or what
-- is at fault in the draft
abbrev pub IsGptOf : ℕ → ℕ → Option Table → List Labelled → List Guid → Draft → Result Layout TextFault → Type 0
IsGptOf b n old labels fresh d r = IsGptBy b n old labels fresh d (head_for b n old fresh d) r

-- The MBR that a draft makes of a disk.
use Rattle.std.specs.Prelude.{◌≡◌, ℕ, Bool, List, [], ◌∷◌, Option, Some, None, Result, Ok, Err, nat_lt, false, true, length}
use Rattle.std.specs.Option.{is_some}
use Rattle.pt_mbr.specs.declared.ebr.Ebr.{Ebr}
use Rattle.pt_mbr.specs.declared.record.Record.{Record}
use Rattle.pt_members.specs.declared.layout.Labelled.{Labelled}
use Rattle.pt_members.specs.declared.layout.Layout.{Layout}
use Rattle.pt_edit.specs.Records.{layout_with}
use Rattle.pt_drafts.specs.declared.draft.DiskId.{DiskId}
use Rattle.pt_drafts.specs.declared.draft.DiskId.TheVariants as id
use Rattle.pt_drafts.specs.declared.draft.Draft.{Draft}
use Rattle.pt_drafts.specs.declared.fault.Key.TheVariants as key
use Rattle.pt_drafts.specs.declared.fault.TextFault.{TextFault}
use Rattle.pt_set.specs.declared.records.Later.{Later}
use Rattle.pt_set.specs.Chains.{AreEntered, Row, chain_of, first_row, links_for}
use Rattle.pt_set.specs.Faults.{◌>>=◌, at, fails_if, of}
use Rattle.pt_set.specs.Pasts.{past_of}
use Rattle.pt_set.specs.Records.{AreStaged, MbrFrame, Stage, first_stage}

-- ## What the table itself may say: nothing that only a GPT has. Four records, and a chain of 128, have no more partitions.

abbrev pub is_guid : Option DiskId → Bool
is_guid None = false
is_guid (Some id.Signature) = false
is_guid (Some (id.Guid guid)) = true

unfoldable pub fits_mbr : Draft → Result (Unit {0}) TextFault
fits_mbr d = do
  _ ← fails_if (is_guid d.disk) (of key.Id)
  _ ← fails_if (is_some d.first) (of key.FirstLba)
  _ ← fails_if (is_some d.last) (of key.LastLba)
  _ ← fails_if (is_some d.entries) (of key.Entries)
  fails_if (nat_lt 132 (length d.parts)) (of key.Partitions)

-- ## Without an extended partition there are no logical ones, and there is no chain.

abbrev pub none_later : List Later → Result (Unit {0}) TextFault
none_later [] = Ok tt
none_later (l ∷ ls) = Err (at l.place key.Number)

unfoldable pub without_chain : ℕ → Option (List ℕ) → Stage → Result Layout TextFault
without_chain n chain s = do
  _ ← fails_if (is_some chain) (of key.Chain)
  _ ← none_later s.later
  Ok (layout_with n s.records [] s.labels)

-- ## With one there is a chain.

abbrev pub chained : ℕ → Stage → Row → Layout
chained n s t = layout_with n s.records (chain_of t.logicals t.links) t.labels

abbrev pub IsChainedBy : MbrFrame → Stage → Record → Result (List ℕ) TextFault → Result Layout TextFault → Type 0
IsChainedBy f s x (Err fault) r = r ≡ Err fault
IsChainedBy f s x (Ok links) r =
    (made : Result Row TextFault) × AreEntered f x 0 s.later (first_row f x s.labels s.later links) made
    × (r ≡ (made >>= (λ t. Ok (chained f.sectors s t))))

abbrev pub IsChained : MbrFrame → Option (List ℕ) → Stage → Option Record → Result Layout TextFault → Type 0
IsChained f chain s None r = r ≡ without_chain f.sectors chain s
IsChained f chain s (Some x) r = IsChainedBy f s x (links_for x.start chain) r

-- ## The whole.

abbrev pub IsMbrWith : MbrFrame → Option (List ℕ) → Result Stage TextFault → Result Layout TextFault → Type 0
IsMbrWith f chain (Err fault) r = r ≡ Err fault
IsMbrWith f chain (Ok s) r = IsChained f chain s s.extended r

abbrev pub frame_of : ℕ → ℕ → List (Option Record) → List Ebr → List Labelled → Draft → MbrFrame
frame_of b n records chain labels d = record { bytes = b; sectors = n; past = past_of records chain labels; parts = d.parts }

abbrev pub IsMbrBy : MbrFrame → Draft → Result (Unit {0}) TextFault → Result Layout TextFault → Type 0
IsMbrBy f d (Err fault) r = r ≡ Err fault
IsMbrBy f d (Ok x) r =
    (made : Result Stage TextFault) × AreStaged f 0 d.parts (first_stage f) made × IsMbrWith f d.chain made r

-- the layout that a draft of an MBR makes of a disk of n sectors of b bytes, on which these records were, with this chain and these
-- labels; or what is at fault in the draft
abbrev pub IsMbrOf : ℕ → ℕ → List (Option Record) → List Ebr → List Labelled → Draft → Result Layout TextFault → Type 0
IsMbrOf b n records chain labels d r = IsMbrBy (frame_of b n records chain labels d) d (fits_mbr d) r

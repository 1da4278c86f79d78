-- The layout that a draft makes of a disk.
use Rattle.std.specs.Prelude.{◌≡◌, ℕ, List, [], Option, Some, None, Result, Ok, Err, not, nat_eq, replicate}
use Rattle.std.specs.Option.{unwrap_or}
use Rattle.pt_guid.specs.declared.guid.Guid.{Guid}
use Rattle.pt_members.specs.declared.layout.Body.{Body}
use Rattle.pt_members.specs.declared.layout.Body.TheVariants as body
use Rattle.pt_members.specs.declared.layout.Labelled.{Labelled}
use Rattle.pt_members.specs.declared.layout.Layout.{Layout}
use Rattle.pt_drafts.specs.declared.draft.Draft.{Draft}
use Rattle.pt_drafts.specs.declared.draft.TableKind.{TableKind}
use Rattle.pt_drafts.specs.declared.draft.TableKind.TheVariants.{Gpt, Mbr}
use Rattle.pt_drafts.specs.declared.fault.Key.TheVariants as key
use Rattle.pt_drafts.specs.declared.fault.TextFault.{TextFault}
use Rattle.pt_set.specs.Faults.{◌>>=◌, of, fails_if}
use Rattle.pt_set.specs.Mbrs.{IsMbrOf}
use Rattle.pt_set.specs.Tables.{IsGptOf}

-- a draft says nothing else of the sectors of a disk than is so
unfoldable pub fits_disk : ℕ → ℕ → Draft → Result (Unit {0}) TextFault
fits_disk b n d = do
  _ ← fails_if (not (nat_eq (unwrap_or d.sectors n) n)) (of key.Sectors)
  fails_if (not (nat_eq (unwrap_or d.sector_size b) b)) (of key.SectorSize)

-- the kind of the table: the text's, or else that of the table that was there, or else a GPT
abbrev pub kind_of : Body → TableKind
kind_of (body.Mbr records chain) = Mbr
kind_of (body.Gpt t) = Gpt

abbrev pub kind_for : Option TableKind → Option Layout → TableKind
kind_for (Some kind) old = kind
kind_for None (Some o) = kind_of o.body
kind_for None None = Gpt

-- a GPT on a disk with this body and these labels: of an MBR nothing is kept
abbrev pub IsGptAfter : ℕ → ℕ → Body → List Labelled → List Guid → Draft → Result Layout TextFault → Type 0
IsGptAfter b n (body.Gpt t) labels fresh d r = IsGptOf b n (Some t) labels fresh d r
IsGptAfter b n (body.Mbr records chain) labels fresh d r = IsGptOf b n None [] fresh d r

abbrev pub IsGptOver : ℕ → ℕ → Option Layout → List Guid → Draft → Result Layout TextFault → Type 0
IsGptOver b n None fresh d r = IsGptOf b n None [] fresh d r
IsGptOver b n (Some o) fresh d r = IsGptAfter b n o.body o.labels fresh d r

-- an MBR on a disk with this body and these labels: of a GPT nothing is kept
abbrev pub IsMbrAfter : ℕ → ℕ → Body → List Labelled → Draft → Result Layout TextFault → Type 0
IsMbrAfter b n (body.Mbr records chain) labels d r = IsMbrOf b n records chain labels d r
IsMbrAfter b n (body.Gpt t) labels d r = IsMbrOf b n (replicate 4 None) [] [] d r

abbrev pub IsMbrOver : ℕ → ℕ → Option Layout → Draft → Result Layout TextFault → Type 0
IsMbrOver b n None d r = IsMbrOf b n (replicate 4 None) [] [] d r
IsMbrOver b n (Some o) d r = IsMbrAfter b n o.body o.labels d r

-- a table of that kind
abbrev pub IsOfKind : ℕ → ℕ → Option Layout → List Guid → Draft → TableKind → Result Layout TextFault → Type 0
IsOfKind b n old fresh d Gpt r = IsGptOver b n old fresh d r
IsOfKind b n old fresh d Mbr r = IsMbrOver b n old d r

abbrev pub IsTableBy : ℕ → ℕ → Option Layout → List Guid → Draft → Result (Unit {0}) TextFault → Result Layout TextFault → Type 0
IsTableBy b n old fresh d (Err fault) r = r ≡ Err fault
IsTableBy b n old fresh d (Ok x) r = IsOfKind b n old fresh d (kind_for d.label old) r

-- the layout that a draft makes of a disk of n sectors of b bytes, on which this is, if anything; or the draft's first fault
abbrev pub IsTableOf : ℕ → ℕ → Option Layout → List Guid → Draft → Result Layout TextFault → Type 0
IsTableOf b n old fresh d r = IsTableBy b n old fresh d (fits_disk b n d) r

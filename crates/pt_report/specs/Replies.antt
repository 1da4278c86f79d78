-- The text of each answer.
use Rattle.std.specs.Prelude.{ℕ, List, [], ◌∷◌, ◌++◌, codes, decimal, flat_map, Option, Some, None, string_bytes, ◌≡◌}
use Rattle.pt_sector.specs.declared.address.Lba.{Lba}
use Rattle.pt_gpt.specs.Copies.{error_number}
use Rattle.pt_mbr.specs.declared.chain.ChainError.{ChainError}
use Rattle.pt_mbr.specs.declared.chain.ChainError.TheVariants as chain
use Rattle.pt_mbr.specs.Records as chains
use Rattle.pt_recover.specs.declared.error.NoTable.{NoTable}
use Rattle.pt_recover.specs.declared.error.NoTable.TheVariants.{NoCopy, Chain, TwoExtended, TooSmall, Device, Memory}
use Rattle.pt_recover.specs.declared.side.SideError.{SideError}
use Rattle.pt_recover.specs.declared.side.SideError.TheVariants as of_side
use Rattle.pt_report.specs.Shown.{line, path_text, layout_text}
use Rattle.pt_gpt.specs.declared.table.Side.{Side}
use Rattle.pt_gpt.specs.declared.table.Side.TheVariants.{Primary, Backup}
use Rattle.pt_layout.specs.declared.sound.finding.Finding.{Finding}
use Rattle.pt_layout.specs.declared.sound.finding.Finding.TheVariants as finding
use Rattle.pt_layout.specs.declared.sound.finding.Verdict.{Verdict}
use Rattle.pt_layout.specs.declared.sound.finding.Verdict.TheVariants as verdict
use Rattle.pt_layout.specs.Healthy.{finding_number}
use Rattle.pt_layout.specs.Sentences.{finding_sentence}
use Rattle.pt_check.specs.declared.answer.Answer.{Answer}
use Rattle.pt_check.specs.declared.answer.Answer.TheVariants as answer
use Rattle.pt_check.specs.declared.answer.Why.{Why}
use Rattle.pt_check.specs.declared.answer.Why.TheVariants as why
use Rattle.pt_check.specs.Answers.{why_number}
use Rattle.pt_check.specs.Sentences.{why_sentence}
use Rattle.pt_edit.specs.declared.free.FreeBlock.{FreeBlock}
use Rattle.pt_report.specs.declared.reply.Reply.{Reply}
use Rattle.pt_report.specs.declared.reply.Reply.TheVariants.{Text, Layout, Place, Free, Checked, Done}
use Rattle.pt_report.specs.declared.reply.Reply.TheVariants as reply

-- ## Why a disk denotes no layout, as it is printed.

-- what no output explains, as everywhere: a device's fault, lack of memory
abbrev pub device_line : List ℕ
device_line = line (codes "device" ∷ [])

abbrev pub memory_line : List ℕ
memory_line = line (codes "memory" ∷ [])

-- the number of what is wrong with a chain, and the sector where it is
abbrev pub chain_at : ChainError → Lba → List ℕ
chain_at error at = line (codes "no table: chain" ∷ decimal (chains.error_number error) ∷ decimal at.0 ∷ [])

abbrev pub chain_text : ChainError → List ℕ
chain_text (chain.NoSignature at) = chain_at (chain.NoSignature at) at
chain_text (chain.BadRecord at) = chain_at (chain.BadRecord at) at
chain_text (chain.NotUpward at) = chain_at (chain.NotUpward at) at
chain_text (chain.OutsideExtended at) = chain_at (chain.OutsideExtended at) at
chain_text chain.TooLong = line (codes "no table: chain" ∷ decimal (chains.error_number chain.TooLong) ∷ [])
chain_text (chain.Device at) = device_line

abbrev pub no_table_text : NoTable → List ℕ
no_table_text (NoCopy primary backup) =
    line (codes "no table: copies" ∷ decimal (error_number primary) ∷ decimal (error_number backup) ∷ [])
no_table_text (Chain error) = chain_text error
no_table_text TwoExtended = line (codes "no table: two extended" ∷ [])
no_table_text TooSmall = line (codes "no table: too small" ∷ [])
no_table_text (Device at) = device_line
no_table_text Memory = memory_line

-- ## Why one side's copy of a GPT gives no layout.

abbrev pub copy_name : Side → List ℕ
copy_name Primary = codes "primary copy"
copy_name Backup = codes "backup copy"

abbrev pub no_side_text : Side → SideError → List ℕ
no_side_text side (of_side.Copy error) = line ((codes "no table: " ++ copy_name side) ∷ decimal (error_number error) ∷ [])
no_side_text side of_side.TooSmall = line (codes "no table: too small" ∷ [])
no_side_text side (of_side.Device at) = device_line
no_side_text side of_side.Memory = memory_line

-- ## The lines of a verdict, of the checker's answer, of a place, and of blocks.

-- what a finding says, and what it names
abbrev pub finding_fields : Finding → List (List ℕ)
finding_fields (finding.NoTable e) = codes "no table" ∷ []
finding_fields (finding.PrimaryCopy e) = codes "primary copy" ∷ decimal (error_number e) ∷ []
finding_fields (finding.BackupCopy e) = codes "backup copy" ∷ decimal (error_number e) ∷ []
finding_fields finding.CopiesDiffer = codes "copies differ" ∷ []
finding_fields (finding.Alternate Primary) = codes "alternate primary" ∷ []
finding_fields (finding.Alternate Backup) = codes "alternate backup" ∷ []
finding_fields finding.Protective = codes "protective record" ∷ []
finding_fields (finding.OutsideUsable p) = codes "outside" ∷ path_text p ∷ []
finding_fields (finding.Overlap p q) = codes "overlap" ∷ path_text p ∷ path_text q ∷ []
finding_fields (finding.OnTable p at) = codes "on table" ∷ path_text p ∷ decimal at.0 ∷ []
finding_fields (finding.SameGuid i j) = codes "same guid" ∷ decimal i ∷ decimal j ∷ []
finding_fields (finding.ForeignLabel p) = codes "foreign label" ∷ path_text p ∷ []

-- the line of a finding
abbrev pub finding_line : Finding → List ℕ
finding_line f = line (codes "no" ∷ decimal (finding_number f) ∷ finding_fields f)

abbrev pub verdict_line : Verdict → List ℕ
verdict_line (verdict.Yes o) = line (codes "yes" ∷ [])
verdict_line (verdict.No f) = finding_line f

-- what the checker's reason names
abbrev pub why_fields : Why → List (List ℕ)
why_fields why.TooManyWrites = []
why_fields (why.OutOfRange write) = decimal write ∷ []
why_fields (why.BootCode write) = decimal write ∷ []
why_fields (why.ReadSector phase at) = decimal phase ∷ decimal at.0 ∷ []
why_fields (why.Neither phase) = decimal phase ∷ []
why_fields (why.NotATable at) = decimal at.0 ∷ []
why_fields (why.Owned at) = decimal at.0 ∷ []
why_fields (why.Final f) = decimal (finding_number f) ∷ []

-- the line of the checker's no
abbrev pub why_line : Why → List ℕ
why_line w = line (codes "no" ∷ decimal (why_number w) ∷ why_fields w)

abbrev pub answer_line : Answer → List ℕ
answer_line (answer.No w) = why_line w
answer_line (answer.Yes switch) = line (codes "yes" ∷ decimal switch ∷ [])

abbrev pub place_line : Option Lba → List ℕ
place_line None = line (codes "none" ∷ [])
place_line (Some at) = line (decimal at.0 ∷ [])

-- the number of the extended partition or of the slice that a block lies inside, where it lies inside one
abbrev pub inside_fields : Option ℕ → List (List ℕ)
inside_fields None = []
inside_fields (Some number) = decimal number ∷ []

-- the first and the last sector of a block, and what it lies inside
abbrev pub block_line : FreeBlock → List ℕ
block_line b = line (decimal b.first ∷ decimal b.last ∷ inside_fields b.inside)

abbrev pub blocks_text : List FreeBlock → List ℕ
blocks_text [] = line (codes "none" ∷ [])
blocks_text (b ∷ bs) = flat_map block_line (b ∷ bs)

-- ## The answers of the command, as they are printed.

-- what is printed for an answer on an image with sectors of b bytes
abbrev pub reply_text : ℕ → Reply → List ℕ
reply_text b (Text text) = string_bytes text
reply_text b (Layout o) = layout_text b o
reply_text b (reply.Verdict verdict) = verdict_line verdict
reply_text b (Place place) = place_line place
reply_text b (Free blocks) = blocks_text blocks.items
reply_text b (Checked answer) = answer_line answer
reply_text b Done = line (codes "done" ∷ [])

-- the answer is a no: a finding, no such sector, no block, or the checker's no
abbrev pub IsNo : Reply → Type 0
IsNo (reply.Verdict (verdict.No finding)) = Unit {0}
IsNo (Place None) = Unit {0}
IsNo (Free blocks) = blocks.items ≡ []
IsNo (Checked (answer.No why)) = Unit {0}
IsNo _ = ⊥

-- ## What a person is told besides.

-- of a no that gives a reason the sentence of that reason
abbrev pub reply_sentence : Reply → Option (List ℕ)
reply_sentence (reply.Verdict (verdict.No f)) = Some (finding_sentence f)
reply_sentence (Checked (answer.No w)) = Some (why_sentence w)
reply_sentence _ = None

-- a sentence on a line of its own
abbrev pub sentence_line : Option (List ℕ) → List ℕ
sentence_line None = []
sentence_line (Some sentence) = sentence ++ codes "\n"

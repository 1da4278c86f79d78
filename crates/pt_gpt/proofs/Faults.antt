-- A side has one fault at most: the first rule that fails.
use Rattle.std.specs.Prelude.{◌≡◌, ℕ, List, length}
use Rattle.std.proofs.Common.{refl, subst}
use Rattle.pt_sector.specs.Sectors.{Sectors}
use Rattle.pt_gpt.specs.Copies.{IsHeaderFault, header_sector, IsPlaceFault, IsHeadFault, no_header, misplaced, IsCopyFault, no_head}
use Rattle.pt_gpt.specs.Copies.{other_crc}
use Rattle.pt_gpt.proofs.Terms.{header_is_one_lem, no_header_lem, no_head_lem}
use Rattle.pt_gpt.specs.declared.header.Header.{Header}
use Rattle.pt_gpt.specs.declared.error.CopyError.{CopyError}
use Rattle.pt_gpt.specs.declared.error.CopyError.TheVariants.{Signature, Revision, HeaderSize, HeaderCrc, MyLba, ArrayPlace, EntryShape}
use Rattle.pt_gpt.specs.declared.error.CopyError.TheVariants.{UsableRange}
use Rattle.pt_gpt.specs.declared.table.Side.{Side}

header_fault_one : (b : ℕ) (bytes : List ℕ) (e f : CopyError) → IsHeaderFault b e bytes → IsHeaderFault b f bytes → e ≡ f
header_fault_one b bytes Signature Signature p q = refl
header_fault_one b bytes Signature Revision p q = absurd (p q.0)
header_fault_one b bytes Signature HeaderSize p q = absurd (p q.0)
header_fault_one b bytes Signature HeaderCrc p q = absurd (p q.0)
header_fault_one b bytes Signature _ p q = absurd q
header_fault_one b bytes Revision Signature p q = absurd (q p.0)
header_fault_one b bytes Revision Revision p q = refl
header_fault_one b bytes Revision HeaderSize p q = absurd (p.1 q.1)
header_fault_one b bytes Revision HeaderCrc p q = absurd (p.1 q.1)
header_fault_one b bytes Revision _ p q = absurd q
header_fault_one b bytes HeaderSize Signature p q = absurd (q p.0)
header_fault_one b bytes HeaderSize Revision p q = absurd (q.1 p.1)
header_fault_one b bytes HeaderSize HeaderSize p q = refl
header_fault_one b bytes HeaderSize HeaderCrc p q = absurd (p.2 q.2)
header_fault_one b bytes HeaderSize _ p q = absurd q
header_fault_one b bytes HeaderCrc Signature p q = absurd (q p.0)
header_fault_one b bytes HeaderCrc Revision p q = absurd (q.1 p.1)
header_fault_one b bytes HeaderCrc HeaderSize p q = absurd (q.2 p.2)
header_fault_one b bytes HeaderCrc HeaderCrc p q = refl
header_fault_one b bytes HeaderCrc _ p q = absurd q
header_fault_one b bytes _ f p q = absurd p

place_fault_one : (b : ℕ) (side : Side) (n : ℕ) (h : Header) (e f : CopyError) → IsPlaceFault b side n h e
    → IsPlaceFault b side n h f → e ≡ f
place_fault_one b side n h MyLba MyLba p q = refl
place_fault_one b side n h MyLba ArrayPlace p q = absurd (p q.0)
place_fault_one b side n h MyLba EntryShape p q = absurd (p q.0)
place_fault_one b side n h MyLba UsableRange p q = absurd (p q.0)
place_fault_one b side n h MyLba _ p q = absurd q
place_fault_one b side n h ArrayPlace MyLba p q = absurd (q p.0)
place_fault_one b side n h ArrayPlace ArrayPlace p q = refl
place_fault_one b side n h ArrayPlace EntryShape p q = absurd (p.1 q.1)
place_fault_one b side n h ArrayPlace UsableRange p q = absurd (p.1 q.1)
place_fault_one b side n h ArrayPlace _ p q = absurd q
place_fault_one b side n h EntryShape MyLba p q = absurd (q p.0)
place_fault_one b side n h EntryShape ArrayPlace p q = absurd (q.1 p.1)
place_fault_one b side n h EntryShape EntryShape p q = refl
place_fault_one b side n h EntryShape UsableRange p q = absurd (p.2 q.2)
place_fault_one b side n h EntryShape _ p q = absurd q
place_fault_one b side n h UsableRange MyLba p q = absurd (q p.0)
place_fault_one b side n h UsableRange ArrayPlace p q = absurd (q.1 p.1)
place_fault_one b side n h UsableRange EntryShape p q = absurd (q.2 p.2)
place_fault_one b side n h UsableRange UsableRange p q = refl
place_fault_one b side n h UsableRange _ p q = absurd q
place_fault_one b side n h _ f p q = absurd p

-- of a header
pub head_fault_is_one_lem : (b : ℕ) (d : Sectors) (side : Side) (e f : CopyError) → IsHeadFault b d side e → IsHeadFault b d side f → e ≡ f
head_fault_is_one_lem b d side _ _ (no_header e p) (no_header f q) = header_fault_one b (header_sector d side) e f p q
head_fault_is_one_lem b d side _ _ (no_header e p) (misplaced h f bytes q) = absurd (no_header_lem b e h (header_sector d side) p bytes)
head_fault_is_one_lem b d side _ _ (misplaced h e bytes p) (no_header f q) = absurd (no_header_lem b f h (header_sector d side) q bytes)
head_fault_is_one_lem b d side _ _ (misplaced h e x p) (misplaced k f y q) =
    let same = header_is_one_lem b k h (header_sector d side) y x in
    place_fault_one b side (length d) h e f p (subst (λ (i : Header). IsPlaceFault b side (length d) i f) same q)

-- of a copy
pub copy_fault_is_one_lem : (b : ℕ) (d : Sectors) (side : Side) (e f : CopyError) → IsCopyFault b d side e → IsCopyFault b d side f → e ≡ f
copy_fault_is_one_lem b d side _ _ (no_head e p) (no_head f q) = head_fault_is_one_lem b d side e f p q
copy_fault_is_one_lem b d side _ _ (no_head e p) (other_crc h head other) = absurd (no_head_lem b d side e h p head)
copy_fault_is_one_lem b d side _ _ (other_crc h head other) (no_head f q) = absurd (no_head_lem b d side f h q head)
copy_fault_is_one_lem b d side _ _ (other_crc h x p) (other_crc k y q) = refl

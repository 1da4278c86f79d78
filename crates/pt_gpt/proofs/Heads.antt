-- What was read at a side's place is its header, or its fault.
use Rattle.std.proofs.Common.{◌≡◌, ◌≤◌, ◌<◌, ◌+◌, ◌*◌, ◌^◌, ℕ, List, refl, ap, ◌∙◌, subst, inl, inr, arith}
use Rattle.std.specs.Prelude.{◌⊎◌, length, Option, None, Bool, IsTrue}
use Rattle.pt_sector.specs.Sectors.{Sectors, sector, IsSectorSize}
use Rattle.pt_sum.specs.Sums.{crc_of}
use Rattle.pt_gpt.specs.Copies.{IsOutsideCopy, NeedsNoMemory, FailedInCopy, fault_in, HeaderBytes, IsHeaderFault, header_place, IsPlaced}
use Rattle.pt_gpt.specs.Copies.{IsPlaceFault, IsHead, no_header, misplaced, no_head, other_crc, array_of, HasArrayCrc, CopyWith}
use Rattle.pt_gpt.specs.Copies.{AreEntries, HasRoom, counted, TellsHeadFault, TellsFault, TellsSame}
use Rattle.pt_gpt.specs.inner.Copies.{HasNumbers}
use Rattle.pt_gpt.specs.declared.header.Header.{Header}
use Rattle.pt_gpt.specs.declared.entry.Entry.{Entry}
use Rattle.pt_gpt.specs.declared.error.CopyError.{CopyError}
use Rattle.pt_gpt.specs.declared.error.CopyError.TheVariants.{ArrayCrc, Device, Memory}
use Rattle.pt_gpt.specs.declared.table.Side.{Side}
use Rattle.pt_gpt.specs.declared.table.Table.{Table}
use Rattle.pt_gpt.specs.declared.table.Side.TheVariants.{Primary, Backup}

-- n is the count of sectors that the reader asked for
pub place_of : (d : Sectors) (side : Side) (at n : ℕ) → at ≡ header_place side n → n ≡ length d → at ≡ header_place side (length d)
place_of d side at n place count = place ∙ ap (header_place side) count

pub head_of : (b : ℕ) (d : Sectors) (side : Side) (h : Header) (at n : ℕ) → at ≡ header_place side n → n ≡ length d
    → HeaderBytes b h (sector d at) → IsPlaced b side n h → IsHead b d side h
head_of b d side h at n place count bytes placed = record {
  bytes = subst (λ (k : ℕ). HeaderBytes b h (sector d k)) (place_of d side at n place count) bytes;
  placed = subst (λ (k : ℕ). IsPlaced b side k h) count placed;
}

pub fault_of_header : (b : ℕ) (d : Sectors) (side : Side) (e : CopyError) (at n : ℕ) → at ≡ header_place side n → n ≡ length d
    → IsOutsideCopy e ⊎ IsHeaderFault b e (sector d at) → TellsHeadFault b d side e
fault_of_header b d side e at n place count (inl out) = inl out
fault_of_header b d side e at n place count (inr fault) =
    inr (no_header e (subst (λ (k : ℕ). IsHeaderFault b e (sector d k)) (place_of d side at n place count) fault))

pub fault_of_place : (b : ℕ) (d : Sectors) (side : Side) (h : Header) (e : CopyError) (at n : ℕ) → at ≡ header_place side n
    → n ≡ length d → HeaderBytes b h (sector d at) → IsPlaceFault b side n h e → TellsHeadFault b d side e
fault_of_place b d side h e at n place count bytes fault =
    inr (misplaced h e (subst (λ (k : ℕ). HeaderBytes b h (sector d k)) (place_of d side at n place count) bytes)
    (subst (λ (k : ℕ). IsPlaceFault b side k h e) count fault))

pub fault_of_head : (b : ℕ) (d : Sectors) (side : Side) (e : CopyError) → TellsHeadFault b d side e → TellsFault b d side e
fault_of_head b d side e (inl out) = inl out
fault_of_head b d side e (inr fault) = inr (no_head e fault)

pub failed_in : (S T : ℕ → Type 0) (e : CopyError) → ((s : ℕ) → S s → T s) → FailedInCopy S e → FailedInCopy T e
failed_in S T (Device at) weaker here = weaker at.0 here
failed_in S T _ weaker here = tt

pub other_crc_of : (b : ℕ) (d : Sectors) (side : Side) (h : Header) → IsHead b d side h → ¬ HasArrayCrc b d h → TellsFault b d side ArrayCrc
other_crc_of b d side h head other = inr (other_crc h head other)

pub table_of : (b : ℕ) (d : Sectors) (side : Side) (h : Header) (entries : List (Option Entry)) → IsHead b d side h
    → h.array_crc ≡ crc_of (array_of b d h) → length entries ≡ h.count → AreEntries entries (array_of b d h)
    → CopyWith b d side h (record { disk = h.disk; first = h.first; last = h.last; entries = entries })
table_of b d side h entries head crc count are =
    record { is_head = head; crc = crc; disk = refl; first = refl; last = refl; count = count; entries = are }

pub header_needs_none : (b : ℕ) (e : CopyError) (bytes : List ℕ) → IsHeaderFault b e bytes → NeedsNoMemory e
header_needs_none b Memory bytes fault = fault
header_needs_none b _ bytes fault = tt

pub place_needs_none : (b : ℕ) (side : Side) (n : ℕ) (h : Header) (e : CopyError) → IsPlaceFault b side n h e → NeedsNoMemory e
place_needs_none b side n h Memory fault = fault
place_needs_none b side n h _ fault = tt

pub header_blames_none : (b : ℕ) (e : CopyError) (bytes : List ℕ) → IsHeaderFault b e bytes → fault_in e ≡ None
header_blames_none b (Device f) bytes fault = absurd fault
header_blames_none b _ bytes fault = refl

pub place_blames_none : (b : ℕ) (side : Side) (n : ℕ) (h : Header) (e : CopyError) → IsPlaceFault b side n h e → fault_in e ≡ None
place_blames_none b side n h (Device f) fault = absurd fault
place_blames_none b side n h _ fault = refl

-- the array that a header tells of ends within the disk, and a disk's sectors have numbers of 64 bits
pub array_within : (b : ℕ) (side : Side) (n : ℕ) (h : Header) → IsSectorSize b → HasRoom b n → IsPlaced b side n h
    → h.array + counted b h.count ≤ n
array_within b Primary n h (inl e) room placed = let r = rw e at room in rw e (omega (arith, r, placed.place, placed.shape.1))
array_within b Primary n h (inr e) room placed = let r = rw e at room in rw e (omega (arith, r, placed.place, placed.shape.1))
array_within b Backup n h (inl e) room placed =
    let r = rw e at room in let at = rw e at placed.place in rw e (omega (arith, r, at, placed.shape.1))
array_within b Backup n h (inr e) room placed =
    let r = rw e at room in let at = rw e at placed.place in rw e (omega (arith, r, at, placed.shape.1))

pub small_within : (b n a : ℕ) → IsSectorSize b → n * b ≤ 2 ^ 64 → a ≤ n → a < 2 ^ 64
small_within b n a (inl e) small within = let s = rw e at small in omega (arith, s, within)
small_within b n a (inr e) small within = let s = rw e at small in omega (arith, s, within)

same_table : (t u : Table) → u.disk ≡ t.disk → u.first ≡ t.first → u.last ≡ t.last → u.entries ≡ t.entries → u ≡ t
same_table t u disk first last entries = λ i. record { disk = disk i; first = first i; last = last i; entries = entries i }

-- of the copy with these entries
pub tells_same : (b : ℕ) (d : Sectors) (side : Side) (h : Header) (t : Table) (es : List (Option Entry)) (same : Bool) → IsHead b d side h
    → h.array_crc ≡ crc_of (array_of b d h) → length (array_of b d h) ≡ h.count * 128 → AreEntries es (array_of b d h)
    → (IsTrue same → (es ≡ t.entries) × HasNumbers h t) → (es ≡ t.entries → HasNumbers h t → IsTrue same) → TellsSame b d side h t same
tells_same b d side h t es same head crc long are told back =
    let u : Table = record { disk = h.disk; first = h.first; last = h.last; entries = es } in
    let count : length es ≡ h.count = omega (arith, are.count, long) in (
      u,
      table_of b d side h es head crc count are,
      (
        λ is. let p = told is in same_table t u p.1.0 p.1.1 p.1.2 p.0,
        λ is. back (ap (λ (x : Table). x.entries) is)
            (ap (λ (x : Table). x.disk) is, ap (λ (x : Table). x.first) is, ap (λ (x : Table). x.last) is),
      ),
    )

-- Where recovery of a GPT disk reads.
use Rattle.std.proofs.Common.{◌≡◌, ◌⊎◌, inl, inr, ℕ, ◌+◌, ◌<◌, ◌≤◌, length, replicate, subst, arith}
use Rattle.std.specs.Prelude.{slice_range, codes}
use Rattle.pt_sector.specs.Sectors.{Sectors, sector, IsSectorSize}
use Rattle.pt_gpt.specs.Copies.{array_len, counted, HasHeaderSignature, header_place, array_place, IsHead, HasCopy, SideReads}
use Rattle.pt_gpt.specs.declared.header.Header.{Header}
use Rattle.pt_gpt.specs.declared.table.Side.{Side}
use Rattle.pt_gpt.specs.declared.table.Side.TheVariants.{Primary, Backup}
use Rattle.pt_recover.specs.Denotes.{Reads, BodyIs, head, chain, table, body, label, IsMbrDisk}
use Rattle.pt_members.specs.Members.{places_of, IsPlace}
use Rattle.pt_members.specs.declared.layout.Body.{Body}

counted_within : (b count : ℕ) → IsSectorSize b → count ≤ 128 → counted b count ≤ array_len b
counted_within b count (inl e) most = rw e (omega (arith, most))
counted_within b count (inr e) most = rw e (omega (arith, most))

-- a side is decided in its header's sector and its array's
pub side_within : (b : ℕ) (c : Sectors) (side : Side) (s : ℕ) → IsSectorSize b → SideReads b c side s
    → (s ≡ header_place side (length c)) ⊎ ((array_place b side (length c) ≤ s) × (s < array_place b side (length c) + array_len b))
side_within b c side s size (inl is) = inl is
side_within b c side s size (inr (h, is, inside)) =
    let few = counted_within b h.count size is.placed.shape.1 in
    inr (omega (arith, is.placed.place, inside.0), omega (arith, is.placed.place, inside.1, few))

-- zeros are no header
no_signature : (b : ℕ) → IsSectorSize b → ¬ HasHeaderSignature (replicate b 0)
no_signature b (inl e) =
    λ is. (let no : slice_range (replicate 512 0) 0 8 ≡ codes "EFI PART" = subst (λ (n : ℕ). HasHeaderSignature (replicate n 0)) e is in
    absurd (cc no))
no_signature b (inr e) =
    λ is. (let no : slice_range (replicate 4096 0) 0 8 ≡ codes "EFI PART" = subst (λ (n : ℕ). HasHeaderSignature (replicate n 0)) e is in
    absurd (cc no))

pub zeros_no_head : (b : ℕ) (c : Sectors) (h : Header) → IsSectorSize b → sector c 1 ≡ replicate b 0 → ¬ IsHead b c Primary h
zeros_no_head b c h size zeros is = no_signature b size (subst HasHeaderSignature zeros is.bytes.signature)

-- where recovery of a disk that is no MBR disk reads
pub reads_gpt : (b : ℕ) (d : Sectors) (s : ℕ) → ¬ IsMbrDisk d → Reads b d s
    → (s ≡ 0) ⊎
    (SideReads b d Primary s
    ⊎ (((¬ HasCopy b d Primary) × SideReads b d Backup s) ⊎ ((y : Body) × BodyIs b d y × IsPlace (places_of b (length d) y) s)))
reads_gpt b d s isnt (body (head some at)) = inl at
reads_gpt b d s isnt (body (chain m mbr reads)) = absurd (isnt mbr.0)
reads_gpt b d s isnt (body (table plain room (inl first))) = inr (inl first)
reads_gpt b d s isnt (body (table plain room (inr second))) = inr (inr (inl second))
reads_gpt b d s isnt (label y is at) = inr (inr (inr (y, is, at)))

-- A copy that was read is followed.
use Rattle.std.specs.Prelude.{◌≡◌, ◌<◌, ◌≤◌, ℕ, ◌+◌, List, [], length, Option, Some, None, Bool}
use Rattle.std.proofs.Common.{refl, sym, ap, ◌∙◌, subst, arith, inl, inr}
use Rattle.pt_sum.specs.Sums.{crc_of}
use Rattle.pt_sector.specs.Sectors.{Sectors, IsSectorSize}
use Rattle.pt_gpt.specs.Copies.{HasRoom, counted, header_place, array_place, IsHead, SideReads, InArray}
use Rattle.pt_gpt.specs.declared.header.Header.{Header}
use Rattle.pt_gpt.specs.declared.table.Side.{Side}
use Rattle.pt_gpt.specs.declared.table.Table.{Table}
use Rattle.pt_follow.specs.declared.copy.FollowedCopy.{FollowedCopy}
use Rattle.pt_gpt.specs.Copies.{failure_in, TellsHeadFault}
use Rattle.pt_gpt.specs.declared.error.CopyError.{CopyError}
use Rattle.pt_gpt.specs.declared.error.CopyError.TheVariants.{Signature, Revision, HeaderSize, HeaderCrc, MyLba, ArrayPlace, EntryShape}
use Rattle.pt_gpt.specs.declared.error.CopyError.TheVariants.{UsableRange, ArrayCrc, Device, Memory}
use Rattle.pt_gpt.proofs.Terms.{no_head_lem}
use Rattle.pt_follow.specs.Follow.{Follows, HeadIs, InCopy, entries_at}
use Rattle.pt_follow.specs.inner.Follow.{ReadArray, KnowsNoEntry}

pub follows_read : (b : ℕ) (d : Sectors) (side : Side) (t : Table) (h : Header) (c : FollowedCopy) → HasRoom b (length d)
    → IsHead b d side h → c.known ≤ 128 → c.sectors ≡ length d → c.side ≡ side → c.head ≡ Some h
    → ReadArray b d h.array c.known t.entries c.bytes.items c.sums.items c.same.items → c.sum ≡ crc_of c.bytes.items
    → Follows b d side t c
follows_read b d side t h c room head few sectors of_side is read sum =
    let r = subst (λ (a : ℕ). ReadArray b d a c.known t.entries c.bytes.items c.sums.items c.same.items) head.placed.place read in
    record {
      room = room;
      sectors = sectors;
      of_side = of_side;
      few = few;
      whole = r.whole;
      head = subst (λ (o : Option Header). HeadIs b d side o) (sym is) head;
      bytes = r.bytes_are;
      sum = sum ∙ ap crc_of r.bytes_are;
      parts = r.parts;
      sums = r.sums_are;
      flags = r.long;
      same = r.same;
    }

-- the sectors of as many entries as are in those of the header's
pub in_array_as : (b known : ℕ) (h : Header) (s : ℕ) → counted b known ≡ counted b h.count
    → (h.array ≤ s) × (s < h.array + counted b known) → InArray b h s
in_array_as b known h s same within = (within.0, subst (λ (n : ℕ). s < h.array + n) same within.1)

-- the sectors of such a copy are those that decide the side
pub copy_reads : (b : ℕ) (d : Sectors) (side : Side) (n : ℕ) (h : Header) (known s : ℕ) → IsHead b d side h
    → counted b known ≡ counted b h.count → n ≡ length d → InCopy b n side known s → SideReads b d side s
copy_reads b d side n h known s head as_many long (inl here) = inl (here ∙ ap (λ (m : ℕ). header_place side m) long)
copy_reads b d side n h known s head as_many long (inr within) =
    let place : array_place b side n ≡ h.array = ap (λ (m : ℕ). array_place b side m) long ∙ sym head.placed.place in
    let low : h.array ≤ s = rw (← place) within.0 in
    let high : s < h.array + counted b known = rw (← place) within.1 in
    inr (h, head, in_array_as b known h s as_many (low, high))

-- ## Where no header stands.

-- an error that isn't a failure says that there is none
pub no_head_at : (b : ℕ) (d : Sectors) (side : Side) (e : CopyError) → failure_in e ≡ None → TellsHeadFault b d side e
    → (h : Header) → ¬ IsHead b d side h
no_head_at b d side e none (inr fault) h head = no_head_lem b d side e h fault head
no_head_at b d side (Device at) none (inl outside) h head = absurd cc
no_head_at b d side Memory none (inl outside) h head = absurd cc
no_head_at b d side Signature none (inl outside) h head = absurd outside
no_head_at b d side Revision none (inl outside) h head = absurd outside
no_head_at b d side HeaderSize none (inl outside) h head = absurd outside
no_head_at b d side HeaderCrc none (inl outside) h head = absurd outside
no_head_at b d side MyLba none (inl outside) h head = absurd outside
no_head_at b d side ArrayPlace none (inl outside) h head = absurd outside
no_head_at b d side EntryShape none (inl outside) h head = absurd outside
no_head_at b d side UsableRange none (inl outside) h head = absurd outside
no_head_at b d side ArrayCrc none (inl outside) h head = absurd outside

no_sectors : (b : ℕ) → IsSectorSize b → counted b 0 ≡ 0
no_sectors b (inl e) = rw e refl
no_sectors b (inr e) = rw e refl

no_bytes : (b : ℕ) (d : Sectors) (side : Side) → entries_at b d side 0 ≡ []
no_bytes b d side = refl

pub follows_none : (b : ℕ) (d : Sectors) (side : Side) (t : Table) (n : ℕ) (c : FollowedCopy) → IsSectorSize b → HasRoom b (length d)
    → n ≡ length d → ((h : Header) → ¬ IsHead b d side h) → KnowsNoEntry side n c → Follows b d side t c
follows_none b d side t n c size room count none is =
    let no = no_sectors b size in
    let known = is.known in
    let zero : counted b c.known ≡ 0 = ap (λ (m : ℕ). counted b m) known ∙ no in
    let entries : entries_at b d side c.known ≡ [] = ap (λ (m : ℕ). entries_at b d side m) known ∙ no_bytes b d side in
    record {
      room = room;
      sectors = is.sectors ∙ count;
      of_side = is.of_side;
      few = omega (arith, known);
      whole = λ k lt. absurd (omega (arith, lt, zero));
      head = subst (λ (o : Option Header). HeadIs b d side o) (sym is.head) none;
      bytes = is.bytes ∙ sym entries;
      sum = is.sum ∙ ap crc_of (sym entries);
      parts = ap (λ (x : List ℕ). length x) is.sums ∙ sym zero;
      sums = λ k lt. absurd (omega (arith, lt, zero));
      flags = ap (λ (x : List Bool). length x) is.same ∙ sym zero;
      same = λ k lt. absurd (omega (arith, lt, zero));
    }

-- only the header's sector is of a copy of no entries
pub none_reads : (b : ℕ) (d : Sectors) (side : Side) (n known s : ℕ) → IsSectorSize b → known ≡ 0 → n ≡ length d
    → InCopy b n side known s → SideReads b d side s
none_reads b d side n known s size zero count (inl here) = inl (here ∙ ap (λ (m : ℕ). header_place side m) count)
none_reads b d side n known s size zero count (inr within) =
    let no : counted b known ≡ 0 = ap (λ (m : ℕ). counted b m) zero ∙ no_sectors b size in
    absurd (omega (arith, within.0, within.1, no))

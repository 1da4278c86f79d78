-- Lemmas on what proofs/SliceListsLemmas.antt says.
use Rattle.std.specs.Prelude.{if◌then◌else◌, ◌≡◌, ◌+◌, ◌-◌, ℕ, Bool, true, false, List, [], ◌∷◌, ◌++◌, flat_map, Option, Some, None}
use Rattle.std.specs.Prelude.{nat_eq, is_some, option_map, ◌&&◌}
use Rattle.std.proofs.Common.{refl, sym, ap, subst, ◌∙◌, arith, append-nil}
use Rattle.std.proofs.lemmas.Bool.{eqb-true}
use Rattle.std.proofs.lemmas.Grind.{flat_map-append}
use Rattle.pt_mbr.specs.Records.{is_extended}
use Rattle.pt_mbr.specs.declared.record.Record.{Record}
use Rattle.pt_mbr.specs.declared.ebr.Ebr.{Ebr}
use Rattle.pt_gpt.specs.declared.entry.Entry.{Entry}
use Rattle.pt_gpt.specs.declared.table.Table.{Table}
use Rattle.pt_members.specs.declared.layout.Slice.{Slice}
use Rattle.pt_members.specs.declared.layout.Body.{Body}
use Rattle.pt_members.specs.declared.layout.Body.TheVariants.{Mbr, Gpt}
use Rattle.pt_members.specs.declared.member.Kind.{Kind}
use Rattle.pt_members.specs.declared.member.Kind.TheVariants as kind
use Rattle.pt_members.specs.Members.{is_slice_kind, record_kind, logical_kind, entry_kind, record_member, logical_member, entry_member}
use Rattle.pt_members.specs.Members.{records_as, entries_as, logicals_as, tops, logicals, slice_from, slice_as, slice_of, slice_in}
use Rattle.pt_members.specs.Members.{slices_of}
use Rattle.pt_members.proofs.SliceListsLemmas.{next_number}

-- the slice of a record of sector 0, of an extended boot record, of an entry
unfoldable pub primary_slice : ℕ → Option Record → List Slice
primary_slice n r = slice_in (option_map (record_member 512 n) r)

unfoldable pub logical_slice : ℕ → Ebr → List Slice
logical_slice n e = slice_in (option_map (logical_member 512 n e.at.0) e.logical)

unfoldable pub entry_slice : ℕ → Option Entry → List Slice
entry_slice n e = slice_in (option_map (entry_member 512 n) e)

-- those of all from a number on
unfoldable pub primary_slices : ℕ → List (Option Record) → List Slice
primary_slices n rs = flat_map slice_in (records_as 512 n rs)

unfoldable pub logical_slices : ℕ → List Ebr → List Slice
logical_slices n es = flat_map slice_in (logicals_as 512 n es)

unfoldable pub entry_slices : ℕ → List (Option Entry) → List Slice
entry_slices n es = flat_map slice_in (entries_as 512 n es)

-- a slice, if a test says so
abbrev pub slice_if : Bool → Slice → List Slice
slice_if c s = if c then s ∷ [] else []

-- by the type of a record whose start counts from a sector
unfoldable pub record_slice : ℕ → ℕ → Record → List Slice
record_slice n at r = slice_if (nat_eq r.kind 0xA5) (slice_from n (at + r.start) (at + r.start + r.size - 1))

-- ---- a record, a logical partition, an entry
pub record_yes : (n at : ℕ) (r : Record) → nat_eq r.kind 0xA5 ≡ true
    → record_slice n at r ≡ slice_from n (at + r.start) (at + r.start + r.size - 1) ∷ []
unfolding record_slice
record_yes n at r so = rw so refl

pub record_no : (n at : ℕ) (r : Record) → nat_eq r.kind 0xA5 ≡ false → record_slice n at r ≡ []
unfolding record_slice
record_no n at r none = rw none refl

-- no slice, whatever else a record's type says
record_other : (b x : ℕ) (s : Slice) → (nat_eq b 512 && nat_eq x 0xA5) ≡ false → slice_as (record_kind b x) s ≡ []
record_other b x s none = by_case (is_extended x) refl where
  by_case : (c : Bool) → is_extended x ≡ c → slice_as (record_kind b x) s ≡ []
  by_case true so = let e : record_kind b x ≡ kind.Extended = rw none (rw so refl) in ap (λ (k : Kind). slice_as k s) e
  by_case false other = let e : record_kind b x ≡ kind.Leaf = rw none (rw other refl) in ap (λ (k : Kind). slice_as k s) e

record_is : (n : ℕ) (r : Record) → slice_of (record_member 512 n r) ≡ record_slice n 0 r
record_is n r = by_case (nat_eq r.kind 0xA5) refl where
  by_case : (c : Bool) → nat_eq r.kind 0xA5 ≡ c → slice_of (record_member 512 n r) ≡ record_slice n 0 r
  by_case true so =
      let sort : record_kind 512 r.kind ≡ kind.Slice = rw so refl in
      let e : r.start ≡ 0 + r.start = omega arith in
      ap (λ (k : Kind). slice_as k (slice_from n r.start (r.start + r.size - 1))) sort
      ∙ ap (λ (x : ℕ). slice_from n x (x + r.size - 1) ∷ []) e ∙ sym (record_yes n 0 r so)
  by_case false none =
      record_other 512 r.kind (slice_from n r.start (r.start + r.size - 1)) (rw none refl) ∙ sym (record_no n 0 r none)

logical_is : (n at : ℕ) (r : Record) → slice_of (logical_member 512 n at r) ≡ record_slice n at r
logical_is n at r = by_case (nat_eq r.kind 0xA5) refl where
  by_case : (c : Bool) → nat_eq r.kind 0xA5 ≡ c → slice_of (logical_member 512 n at r) ≡ record_slice n at r
  by_case true so =
      let sort : logical_kind 512 r.kind ≡ kind.Slice = rw so refl in
      ap (λ (k : Kind). slice_as k (slice_from n (at + r.start) (at + r.start + r.size - 1))) sort ∙ sym (record_yes n at r so)
  by_case false none =
      let sort : logical_kind 512 r.kind ≡ kind.Leaf = rw none refl in
      ap (λ (k : Kind). slice_as k (slice_from n (at + r.start) (at + r.start + r.size - 1))) sort ∙ sym (record_no n at r none)

pub primary_some : (n : ℕ) (r : Record) → primary_slice n (Some r) ≡ record_slice n 0 r
unfolding primary_slice
primary_some n r = record_is n r

pub logical_none : (n : ℕ) (e : Ebr) → e.logical ≡ None → logical_slice n e ≡ []
unfolding logical_slice
logical_none n e none = ap (λ (o : Option Record). slice_in (option_map (logical_member 512 n e.at.0) o)) none

pub logical_some : (n : ℕ) (e : Ebr) (r : Record) → e.logical ≡ Some r → logical_slice n e ≡ record_slice n e.at.0 r
unfolding logical_slice
logical_some n e r is =
    ap (λ (o : Option Record). slice_in (option_map (logical_member 512 n e.at.0) o)) is ∙ logical_is n e.at.0 r

pub entry_some : (n : ℕ) (e : Entry) → entry_slice n (Some e) ≡ slice_if (is_slice_kind e.kind.0) (slice_from n e.first e.last)
unfolding entry_slice
entry_some n e = by_case (is_slice_kind e.kind.0) refl where
  by_case : (c : Bool) → is_slice_kind e.kind.0 ≡ c
      → slice_of (entry_member 512 n e) ≡ slice_if (is_slice_kind e.kind.0) (slice_from n e.first e.last)
  by_case true so =
      let sort : entry_kind 512 e.kind.0 ≡ kind.Slice = rw so refl in
      ap (λ (k : Kind). slice_as k (slice_from n e.first e.last)) sort
      ∙ ap (λ (c : Bool). slice_if c (slice_from n e.first e.last)) (sym so)
  by_case false none =
      let sort : entry_kind 512 e.kind.0 ≡ kind.Leaf = rw none refl in
      ap (λ (k : Kind). slice_as k (slice_from n e.first e.last)) sort
      ∙ ap (λ (c : Bool). slice_if c (slice_from n e.first e.last)) (sym none)

pub next_is : (n : ℕ) (e : Ebr) (o : Option Record) → e.logical ≡ o → next_number n e ≡ (if is_some o then n + 1 else n)
unfolding next_number
next_is n e o is = ap (λ (x : Option Record). if is_some x then n + 1 else n) is

-- ---- and with others
no_records : (b n : ℕ) (rs : List (Option Record)) → nat_eq b 512 ≡ false → flat_map slice_in (records_as b n rs) ≡ []
unfolding records_as
no_records b n [] none = refl
no_records b n (None ∷ rs) none = no_records b (n + 1) rs none
no_records b n (Some r ∷ rs) none =
    ap (λ (l : List Slice). l ++ flat_map slice_in (records_as b (n + 1) rs))
    (record_other b r.kind (slice_from n r.start (r.start + r.size - 1)) (rw none refl))
    ∙ no_records b (n + 1) rs none

no_entries : (b n : ℕ) (es : List (Option Entry)) → nat_eq b 512 ≡ false → flat_map slice_in (entries_as b n es) ≡ []
unfolding entries_as
no_entries b n [] none = refl
no_entries b n (None ∷ es) none = no_entries b (n + 1) es none
no_entries b n (Some e ∷ es) none =
    let sort : entry_kind b e.kind.0 ≡ kind.Leaf = rw none refl in
    ap (λ (k : Kind). slice_as k (slice_from n e.first e.last) ++ flat_map slice_in (entries_as b (n + 1) es)) sort
    ∙ no_entries b (n + 1) es none

no_logical : (b n at : ℕ) (o : Option Record) → nat_eq b 512 ≡ false → slice_in (option_map (logical_member b n at) o) ≡ []
no_logical b n at None none = refl
no_logical b n at (Some r) none =
    let sort : logical_kind b r.kind ≡ kind.Leaf = rw none refl in
    ap (λ (k : Kind). slice_as k (slice_from n (at + r.start) (at + r.start + r.size - 1))) sort

no_logicals : (b n : ℕ) (es : List Ebr) → nat_eq b 512 ≡ false → flat_map slice_in (logicals_as b n es) ≡ []
unfolding logicals_as
no_logicals b n [] none = refl
no_logicals b n (e ∷ es) none =
    ap (λ (l : List Slice). l ++ flat_map slice_in (logicals_as b (if is_some e.logical then n + 1 else n) es))
    (no_logical b n e.at.0 e.logical none)
    ∙ no_logicals b (if is_some e.logical then n + 1 else n) es none

-- ---- the slices of a layout

-- of an MBR
pub slices_mbr : (b : ℕ) (rs : List (Option Record)) (chain : List Ebr) (c : Bool) → nat_eq b 512 ≡ c
    → slices_of b (Mbr rs chain) ≡ (if c then primary_slices 1 rs ++ logical_slices 5 chain else [])
unfolding slices_of tops logicals primary_slices logical_slices
slices_mbr b rs chain true is =
    let e : b ≡ 512 = eqb-true b 512 is in
    subst (λ (x : ℕ). slices_of x (Mbr rs chain) ≡ primary_slices 1 rs ++ logical_slices 5 chain) (sym e)
    (flat_map-append slice_in (records_as 512 1 rs) (logicals_as 512 5 chain))
slices_mbr b rs chain false is =
    flat_map-append slice_in (records_as b 1 rs) (logicals_as b 5 chain)
    ∙ ap (λ (l : List Slice). l ++ flat_map slice_in (logicals_as b 5 chain)) (no_records b 1 rs is)
    ∙ no_logicals b 5 chain is

-- of a GPT
pub slices_gpt : (b : ℕ) (t : Table) (c : Bool) → nat_eq b 512 ≡ c → slices_of b (Gpt t) ≡ (if c then entry_slices 1 t.entries else [])
unfolding slices_of tops logicals entry_slices
slices_gpt b t true is =
    let e : b ≡ 512 = eqb-true b 512 is in
    subst (λ (x : ℕ). slices_of x (Gpt t) ≡ entry_slices 1 t.entries) (sym e)
    (flat_map-append slice_in (entries_as 512 1 t.entries) [] ∙ append-nil (flat_map slice_in (entries_as 512 1 t.entries)))
slices_gpt b t false is =
    flat_map-append slice_in (entries_as b 1 t.entries) [] ∙ append-nil (flat_map slice_in (entries_as b 1 t.entries))
    ∙ no_entries b 1 t.entries is

-- with sectors of 4096 bytes there are none
pub slices_4096 : (b : ℕ) (y : Body) → nat_eq b 512 ≡ false → slices_of b y ≡ []
slices_4096 b (Mbr rs chain) none = slices_mbr b rs chain false none
slices_4096 b (Gpt t) none = slices_gpt b t false none

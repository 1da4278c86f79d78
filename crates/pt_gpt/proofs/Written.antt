-- What is written is read back: entries, arrays, and so whole copies.
use Rattle.std.specs.Prelude.{◌≡◌, ◌<◌, ◌≤◌, ◌^◌, ℕ, zero, suc, ◌+◌, ◌-◌, ◌*◌, ◌/◌, List, [], ◌∷◌, ◌++◌, length, take, drop, slice_range}
use Rattle.std.specs.Prelude.{slice_index_or, Option, Some, None, IfSome}
use Rattle.std.specs.List.{flat_map}
use Rattle.std.proofs.Common.{get_or, refl, sym, ap, ◌∙◌, arith, inl, inr, append_assoc, length-append, zero-add}
use Rattle.std.proofs.lemmas.Bool.{cases_lt}
use Rattle.std.proofs.lemmas.List.{append-nil, drop-drop, drop-append-le, take-append-le, length-drop, take_all, take_at, drop_at}
use Rattle.byteorder.specs.Endian.{little_number, little_bytes}
use Rattle.byteorder.specs.Numbers.{little_number-reads_back}
use Rattle.pt_sector.specs.Sectors.{Sectors, sector, IsSectorSize}
use Rattle.pt_sum.specs.Sums.{crc_of}
use Rattle.pt_gpt.specs.Entries.{EntryFields, EntryBytes, EntryIs, EntryFits, IsTyped, UnitsAt, used_bytes, entry_bytes}
use Rattle.pt_gpt.specs.Copies.{counted, AreEntries, entries_bytes, array_bytes, AllFit, AllTyped, bytes_from, array_of, CopyWith}
use Rattle.pt_gpt.specs.Copies.{IsWrittenCopy, array_len, array_sector}
use Rattle.pt_gpt.specs.declared.header.Header.{Header}
use Rattle.pt_gpt.specs.declared.entry.Entry.{Entry}
use Rattle.pt_gpt.specs.declared.table.Side.{Side}
use Rattle.pt_gpt.specs.declared.table.Table.{Table}

-- a number that fits is read back
pub number_back : (n x : ℕ) → x < 256 ^ n → little_number n (little_bytes n x) ≡ x
number_back n x small = ap (little_number n) (sym (append-nil (little_bytes n x))) ∙ little_number-reads_back n x [] small

unit_at : (units rest : List ℕ) (k : ℕ) → k < length units → ((i : ℕ) → get_or units i 0 < 2 ^ 16)
    → get_or units k 0 ≡ little_number 2 (take 2 (drop (2 * k) (flat_map (little_bytes 2) units ++ rest)))
unit_at [] rest k lt fits = absurd (omega arith)
unit_at (u ∷ units) rest zero lt fits = sym (number_back 2 u (fits 0))
unit_at (u ∷ units) rest (suc k) lt fits =
    let e : 2 * suc k ≡ suc (suc (2 * k)) = omega arith in
    rw e (unit_at units rest k (omega arith) (λ i. fits (suc i)))

units_in : (s units rest : List ℕ) → drop 56 s ≡ flat_map (little_bytes 2) units ++ rest → length units ≡ 36
    → ((i : ℕ) → get_or units i 0 < 2 ^ 16) → UnitsAt s units
units_in s units rest at long fits = (
  long,
  λ k lt.
      let two : 56 + 2 * k + 2 - (56 + 2 * k) ≡ 2 = omega arith in
      unit_at units rest k (omega arith) fits
      ∙ ap (λ (t : List ℕ). little_number 2 (take 2 (drop (2 * k) t))) (sym at)
      ∙ ap (λ (t : List ℕ). little_number 2 (take 2 t)) (drop-drop (2 * k) 56 s)
      ∙ ap (λ (n : ℕ). little_number 2 (take n (drop (56 + 2 * k) s))) (sym two),
)

-- two bytes a unit
pub length_units : (units : List ℕ) → length (flat_map (little_bytes 2) units) ≡ 2 * length units
length_units [] = refl
length_units (u ∷ units) = let e = length_units units in omega (arith, e)

-- an entry's bytes, with those of its GUIDs named
abbrev pub laid : Entry → List ℕ → List ℕ → List ℕ
laid e kind unique =
    kind ++ (unique ++ (little_bytes 8 e.first ++ (little_bytes 8 e.last ++ (little_bytes 8 e.attributes ++ flat_map
    (little_bytes 2) e.name))))

laid_fields : (e : Entry) (a b : List ℕ) → length a ≡ 16 → length b ≡ 16 → a ≡ e.kind.0 → b ≡ e.unique.0 → EntryFits e
    → EntryFields e (laid e a b)
laid_fields e (x0 ∷ x1 ∷ x2 ∷ x3 ∷ x4 ∷ x5 ∷ x6 ∷ x7 ∷ x8 ∷ x9 ∷ xa ∷ xb ∷ xc ∷ xd ∷ xe ∷ xf ∷ [])
    (y0 ∷ y1 ∷ y2 ∷ y3 ∷ y4 ∷ y5 ∷ y6 ∷ y7 ∷ y8 ∷ y9 ∷ ya ∷ yb ∷ yc ∷ yd ∷ ye ∷ yf ∷ []) la lb ea eb fits = record {
      kind = ea;
      unique = eb;
      first = number_back 8 e.first fits.first;
      last = number_back 8 e.last fits.last;
      attributes = number_back 8 e.attributes fits.attributes;
      name = units_in _ e.name [] (sym (append-nil (flat_map (little_bytes 2) e.name))) fits.name fits.units;
    }
laid_fields e a b la lb ea eb fits = absurd (omega arith)

-- an entry's bytes have its fields
pub used_fields : (e : Entry) → EntryFits e → EntryFields e (used_bytes e)
unfolding used_bytes
used_fields e fits = laid_fields e e.kind.0 e.unique.0 fits.kind fits.unique refl refl fits

-- and are the entry, where its type isn't zero
pub used_entry : (e : Entry) → EntryFits e → IsTyped e → EntryBytes e (used_bytes e)
used_entry e fits typed = record { used = λ none. typed (sym (used_fields e fits).kind ∙ none); fields = used_fields e fits }

length_laid : (e : Entry) (a b : List ℕ) → length a ≡ 16 → length b ≡ 16 → length e.name ≡ 36 → length (laid e a b) ≡ 128
length_laid e (x0 ∷ x1 ∷ x2 ∷ x3 ∷ x4 ∷ x5 ∷ x6 ∷ x7 ∷ x8 ∷ x9 ∷ xa ∷ xb ∷ xc ∷ xd ∷ xe ∷ xf ∷ [])
    (y0 ∷ y1 ∷ y2 ∷ y3 ∷ y4 ∷ y5 ∷ y6 ∷ y7 ∷ y8 ∷ y9 ∷ ya ∷ yb ∷ yc ∷ yd ∷ ye ∷ yf ∷ []) la lb name =
    let units = length_units e.name in omega (arith, units, name)
length_laid e a b la lb name = absurd (omega arith)

length_entry : (o : Option Entry) → IfSome o EntryFits → length (entry_bytes o) ≡ 128
unfolding used_bytes
length_entry None fits = refl
length_entry (Some e) fits = length_laid e e.kind.0 e.unique.0 fits.kind fits.unique fits.name

entry_back : (o : Option Entry) → IfSome o EntryFits → IfSome o IsTyped → EntryIs o (entry_bytes o)
entry_back None fits typed = refl
entry_back (Some e) fits typed = used_entry e fits typed

fits_past : (es : List (Option Entry)) → AllFit es → (j : ℕ) → IfSome (slice_index_or es j None) EntryFits
fits_past es fits j = elim (cases_lt j (length es)) [ inl below ↦ fits j below | inr past ↦ none es j past ] where
  none : (es : List (Option Entry)) (j : ℕ) → length es ≤ j → IfSome (slice_index_or es j None) EntryFits
  none [] j past = tt
  none (e ∷ es) zero past = absurd (omega arith)
  none (e ∷ es) (suc j) past = none es j (omega arith)

length_entries : (es : List (Option Entry)) (i n : ℕ) → ((j : ℕ) → IfSome (slice_index_or es j None) EntryFits)
    → length (entries_bytes es i n) ≡ n * 128
unfolding entries_bytes
length_entries es i zero fits = refl
length_entries es i (suc n) fits =
    let x = entries_bytes es i n in
    let y = entry_bytes (slice_index_or es (i + n) None) in
    omega (arith, length-append x y, length_entries es i n fits, length_entry (slice_index_or es (i + n) None) (fits (i + n)))

-- where each entry stands
entries_part : (es : List (Option Entry)) (i n k : ℕ) → ((j : ℕ) → IfSome (slice_index_or es j None) EntryFits) → k < n
    → slice_range (entries_bytes es i n) (k * 128) (k * 128 + 128) ≡ entry_bytes (slice_index_or es (i + k) None)
unfolding entries_bytes
entries_part es i zero k fits lt = absurd (omega arith)
entries_part es i (suc n) k fits lt =
    let x = entries_bytes es i n in
    let y = entry_bytes (slice_index_or es (i + n) None) in
    let long = length_entries es i n fits in
    elim (cases_lt k n) [
      | inl below ↦
          let d = drop-append-le (k * 128) x y (omega arith) in
          let t = take-append-le (k * 128 + 128 - k * 128) (drop (k * 128) x) y (omega (arith, length-drop (k * 128) x)) in
          rw (d, t) (entries_part es i n k fits below)
      | inr above ↦
          let e : k ≡ n = omega arith in
          let d : drop (k * 128) (x ++ y) ≡ y = drop_at x y (k * 128) (omega arith) in
          let t : take (k * 128 + 128 - k * 128) y ≡ y =
          take_all (k * 128 + 128 - k * 128) y (omega (arith, length_entry (slice_index_or es (i + n) None) (fits (i + n)))) in
          rw (d, t, e) refl
    ]

-- entries in two parts
entries_split : (es : List (Option Entry)) (i m n : ℕ) → entries_bytes es i (m + n) ≡ entries_bytes es i m ++ entries_bytes es (i + m) n
unfolding entries_bytes
entries_split es i m zero =
    let e : m + 0 ≡ m = omega arith in
    rw e (sym (append-nil (entries_bytes es i m)))
entries_split es i m (suc n) =
    let e : m + suc n ≡ suc (m + n) = omega arith in
    let at : i + (m + n) ≡ i + m + n = omega arith in
    rw (e, at) (ap (λ (t : List ℕ). t ++ entry_bytes (slice_index_or es (i + m + n) None)) (entries_split es i m n)
    ∙ append_assoc (entries_bytes es i m) (entries_bytes es (i + m) n) (entry_bytes (slice_index_or es (i + m + n) None)))

-- entries in the midst of a whole array
midst : (es : List (Option Entry)) (i q rest : ℕ) → ((j : ℕ) → IfSome (slice_index_or es j None) EntryFits)
    → take (q * 128) (drop (i * 128) (entries_bytes es 0 (i + (q + rest)))) ≡ entries_bytes es i q
midst es i q rest fits =
    let front = entries_bytes es 0 i in
    let part = entries_bytes es i q in
    let back = entries_bytes es (i + q) rest in
    let split : entries_bytes es 0 (i + (q + rest)) ≡ front ++ (part ++ back) =
    entries_split es 0 i (q + rest)
    ∙ ap (λ (t : List ℕ). front ++ t) (ap (λ (j : ℕ). entries_bytes es j (q + rest)) (zero-add i) ∙ entries_split es i q rest) in
    ap (λ (t : List ℕ). take (q * 128) (drop (i * 128) t)) split
    ∙ ap (λ (t : List ℕ). take (q * 128) t) (drop_at front (part ++ back) (i * 128) (length_entries es 0 i fits))
    ∙ take_at part back (q * 128) (length_entries es i q fits)

part_at : (es : List (Option Entry)) (n b i q : ℕ) → ((j : ℕ) → IfSome (slice_index_or es j None) EntryFits) → q * 128 ≡ b
    → i + q ≤ 128 → n ≡ i * 128 → take b (drop n (entries_bytes es 0 128)) ≡ entries_bytes es i q
part_at es n b i q fits long room at =
    let rest = 128 - (i + q) in
    let all : i + (q + rest) ≡ 128 = omega (arith, room) in
    ap (λ (m : ℕ). take b (drop m (entries_bytes es 0 128))) at
    ∙ ap (λ (m : ℕ). take m (drop (i * 128) (entries_bytes es 0 128))) (sym long)
    ∙ sym (ap (λ (m : ℕ). take (q * 128) (drop (i * 128) (entries_bytes es 0 m))) all)
    ∙ midst es i q rest fits

-- the sectors of an array that is encoded whole
pub encoded_sector : (b : ℕ) (es : List (Option Entry)) (k : ℕ) → IsSectorSize b → AllFit es → k < array_len b
    → take b (drop (k * b) (entries_bytes es 0 128)) ≡ array_sector b es k
encoded_sector b es k (inl e) fits lt =
    let few : k < 32 = rw e at lt in
    rw e (part_at es (k * 512) 512 (k * 4) 4 (fits_past es fits) refl (omega (arith, few)) (omega arith))
encoded_sector b es k (inr e) fits lt =
    let few : k < 4 = rw e at lt in
    rw e (part_at es (k * 4096) 4096 (k * 32) 32 (fits_past es fits) refl (omega (arith, few)) (omega arith))

-- what entries are written as is those entries
pub entries_back_lem : (es : List (Option Entry)) → AllFit es → AllTyped es → AreEntries es (array_bytes es)
entries_back_lem es fits typed = record {
  count = length_entries es 0 (length es) (fits_past es fits);
  each = λ k lt.
      let same =
      entries_part es 0 (length es) k (fits_past es fits) lt ∙ ap (λ (j : ℕ). entry_bytes (slice_index_or es j None)) (zero-add k) in
      rw same (entry_back (slice_index_or es k None) (fits k lt) (typed k lt));
}

sectors_of : (d : Sectors) (es : List (Option Entry)) (at n q : ℕ)
    → ((k : ℕ) → k < n → sector d (at + k) ≡ entries_bytes es (k * q) q) → bytes_from d at n ≡ entries_bytes es 0 (n * q)
unfolding bytes_from entries_bytes
sectors_of d es at zero q each = let e : 0 * q ≡ 0 = omega arith in rw e refl
sectors_of d es at (suc n) q each =
    let product : suc n * q ≡ n * q + q = omega arith in
    rw (
      product,
      entries_split es 0 (n * q) q,
      zero-add (n * q),
      each n (omega arith),
      sectors_of d es at n q (λ k lt. each k (omega arith)),
    ) refl

enough : (b count : ℕ) → IsSectorSize b → count ≤ counted b count * (b / 128)
enough b count (inl e) = rw e (omega arith)
enough b count (inr e) = rw e (omega arith)

-- an array that is written as these entries has their bytes, as many as are counted
array_back : (b : ℕ) (d : Sectors) (es : List (Option Entry)) (at : ℕ) → IsSectorSize b → AllFit es
    → ((k : ℕ) → k < counted b (length es) → sector d (at + k) ≡ entries_bytes es (k * (b / 128)) (b / 128))
    → take (length es * 128) (bytes_from d at (counted b (length es))) ≡ array_bytes es
array_back b d es at size fits each =
    let n = counted b (length es) in
    let rest = n * (b / 128) - length es in
    let all = sectors_of d es at n (b / 128) each in
    let whole : n * (b / 128) ≡ length es + rest = omega (arith, enough b (length es) size) in
    let cut = entries_split es 0 (length es) rest in
    rw (all, whole, cut) (take_at (array_bytes es) (entries_bytes es (0 + length es) rest) (length es * 128)
    (length_entries es 0 (length es) (fits_past es fits)))

-- a header, and an array that is written as a table's entries, are that table's copy
pub written_is_copy_lem : (b : ℕ) (d : Sectors) (side : Side) (h : Header) (t : Table) → IsSectorSize b → AllFit t.entries
    → AllTyped t.entries → IsWrittenCopy b d side h t → CopyWith b d side h t
written_is_copy_lem b d side h t size fits typed is =
    let bytes : array_of b d h ≡ array_bytes t.entries =
    rw (← is.count) (array_back b d t.entries h.array size fits (rw (← is.count) at is.array)) in
    record {
      is_head = is.is_head;
      crc = is.crc ∙ ap crc_of (sym bytes);
      disk = is.disk;
      first = is.first;
      last = is.last;
      count = is.count;
      entries = rw bytes (entries_back_lem t.entries fits typed);
    }

-- What is written is read again, and nothing else changes.
use Rattle.std.proofs.Common.{◌≡◌, ◌≢◌, ℕ, ◌+◌, ◌-◌, ◌*◌, ◌/◌, ◌%◌, ◌^◌, ◌<◌, ◌≤◌, List, [], ◌∷◌, ◌++◌, length, take, drop, replicate}
use Rattle.std.proofs.Common.{get_or, Option, Some, None, refl, sym, ap, ◌∙◌, arith, inl, inr, Bor}
use Rattle.std.specs.Prelude.{◌⊎◌, slice_range, slice_index, MatchOption, ⊤}
use Rattle.std.specs.Option.{option_map}
use Rattle.std.proofs.lemmas.List.{append-nil, append_assoc, drop-drop, length-append, length-take-le, get_or-drop, get_or-take}
use Rattle.std.proofs.lemmas.List.{get_or_append_left, length-drop}
use Rattle.std.proofs.lemmas.Bool.{cases_lt}
use Rattle.std.proofs.Math.Seq.{drop-append_seam, take-append_seam}
use Rattle.std.proofs.lemmas.Slice.{drop-append-drop}
use Rattle.byteorder.specs.Endian.{little_number, little_bytes}
use Rattle.byteorder.specs.Numbers.{little_number-reads_back}
use Rattle.pt_mbr.specs.Records.{put_at, HasFields, RecordIs, ReadsAsUsed, place_of, record_bytes}
use Rattle.pt_mbr.specs.inner.Records.{RecordFits}
use Rattle.pt_mbr.specs.declared.record.Record.{Record}
use Rattle.pt_mbr.proofs.Kept.{range_at}

pub read_back : (n x : ℕ) → x < 256 ^ n → little_number n (little_bytes n x) ≡ x
read_back n x small = ap (little_number n) (sym (append-nil (little_bytes n x))) ∙ little_number-reads_back n x [] small

-- the parts of a record, written one by one, are its bytes
laid : (boot kind start size : ℕ) (a c : List ℕ) → length a ≡ 3 → length c ≡ 3
    → put_at 12 (little_bytes 4 size) (put_at 8 (little_bytes 4 start) (put_at 5 c (put_at 1 a (boot ∷ 0 ∷ 0 ∷ 0 ∷ kind ∷ replicate 11 0))))
    ≡ (boot ∷ a) ++ (kind ∷ c) ++ little_bytes 4 start ++ little_bytes 4 size
unfolding put_at
laid boot kind start size (a0 ∷ a1 ∷ a2 ∷ []) (c0 ∷ c1 ∷ c2 ∷ []) la lc = refl
laid boot kind start size a c la lc = absurd (omega arith)

pub laid_out : (r : Record) → length r.start_chs ≡ 3 → length r.end_chs ≡ 3
    → put_at 12 (little_bytes 4 r.size) (put_at 8 (little_bytes 4 r.start)
    (put_at 5 r.end_chs (put_at 1 r.start_chs (r.boot ∷ 0 ∷ 0 ∷ 0 ∷ r.kind ∷ replicate 11 0)))) ≡ record_bytes (Some r)
unfolding record_bytes
laid_out r la lc = laid r.boot r.kind r.start r.size r.start_chs r.end_chs la lc

pub range_from : (at i j : ℕ) (c tail : List ℕ) (low high : ℕ) → drop at c ≡ tail → low ≡ at + i → high ≡ at + j
    → slice_range c low high ≡ take (j - i) (drop i tail)
range_from at i j c tail low high same lows highs = rw (lows, highs) (range_at at i j c tail same)

pub index_at : (at i : ℕ) (c tail : List ℕ) → drop at c ≡ tail → slice_index c (at + i) ≡ get_or tail i 0
index_at at i c tail same = sym (get_or-drop at c i 0) ∙ ap (λ (t : List ℕ). get_or t i 0) same

pub first_at : (at : ℕ) (c tail : List ℕ) → drop at c ≡ tail → slice_index c at ≡ get_or tail 0 0
first_at at c tail same =
    let none : at ≡ at + 0 = omega arith in
    ap (λ (n : ℕ). slice_index c n) none ∙ index_at at 0 c tail same

-- the fields in the bytes of a record
record Parts (boot kind start size : ℕ) (a e tail : List ℕ) : Type 0 where
  first : get_or tail 0 0 ≡ boot
  start_chs : take 3 (drop 1 tail) ≡ a
  fourth : get_or tail 4 0 ≡ kind
  end_chs : take 3 (drop 5 tail) ≡ e
  eighth : little_number 4 (take 4 (drop 8 tail)) ≡ start
  twelfth : little_number 4 (take 4 (drop 12 tail)) ≡ size

parts : (boot kind start size : ℕ) (a e rest : List ℕ) → length a ≡ 3 → length e ≡ 3 → start < 2 ^ 32 → size < 2 ^ 32
    → Parts boot kind start size a e (((boot ∷ a) ++ (kind ∷ e) ++ little_bytes 4 start ++ little_bytes 4 size) ++ rest)
parts boot kind start size (a0 ∷ a1 ∷ a2 ∷ []) (e0 ∷ e1 ∷ e2 ∷ []) rest la le s z = record {
  first = refl;
  start_chs = refl;
  fourth = refl;
  end_chs = refl;
  eighth = read_back 4 start s;
  twelfth = read_back 4 size z;
}
parts boot kind start size a e rest la le s z = absurd (omega arith)

pub has_fields : (r : Record) (at : ℕ) (c rest : List ℕ) → drop at c ≡ record_bytes (Some r) ++ rest → RecordFits r → HasFields r at c
unfolding record_bytes
has_fields r at c rest same fits =
    let p = parts r.boot r.kind r.start r.size r.start_chs r.end_chs rest fits.start_chs fits.end_chs fits.start fits.size in
    record {
      boot = first_at at c _ same ∙ p.first;
      start_chs = range_from at 1 4 c _ (at + 1) (at + 4) same refl refl ∙ p.start_chs;
      kind = index_at at 4 c _ same ∙ p.fourth;
      end_chs = range_from at 5 8 c _ (at + 5) (at + 8) same refl refl ∙ p.end_chs;
      start = ap (little_number 4) (range_from at 8 12 c _ (at + 8) (at + 8 + 4) same refl (omega arith)) ∙ p.eighth;
      size = ap (little_number 4) (range_from at 12 16 c _ (at + 12) (at + 12 + 4) same refl (omega arith)) ∙ p.twelfth;
    }

pub reads_again : (o : Option Record) (at : ℕ) (c rest : List ℕ) → drop at c ≡ record_bytes o ++ rest
    → ((r : Record) → o ≡ Some r → RecordFits r) → ReadsAsUsed o → RecordIs o at c
unfolding record_bytes
reads_again None at c rest same fits usable = λ used. used.0 (index_at at 4 c _ same)
reads_again (Some r) at c rest same fits usable =
    let fields = has_fields r at c rest same (fits r refl) in
    ((λ none. usable.0 (sym fields.kind ∙ none), λ none. usable.1 (sym fields.size ∙ none)), fields)

-- what is put stands there, and all else as before
pub put_here : (p : ℕ) (new b : List ℕ) → p ≤ length b → drop p (put_at p new b) ≡ new ++ drop (p + length new) b
unfolding put_at
put_here p new b fits =
    let count : length (take p b) ≡ p = length-take-le p b fits in
    ap (λ (n : ℕ). drop n (take p b ++ (new ++ drop (p + length new) b))) (sym count)
    ∙ drop-append_seam (take p b) (new ++ drop (p + length new) b)

pub put_above : (p i : ℕ) (new b : List ℕ) → p ≤ length b → p + length new ≤ i → drop i (put_at p new b) ≡ drop i b
unfolding put_at
put_above p i new b fits above =
    ap (drop i) (sym (append_assoc (take p b) new (drop (p + length new) b)))
    ∙ drop-append-drop (p + length new) b (take p b ++ new) i above
    (length-append (take p b) new ∙ ap (λ (n : ℕ). n + length new) (length-take-le p b fits))

pub put_below : (p i : ℕ) (new b : List ℕ) → p ≤ length b → i < p → slice_index (put_at p new b) i ≡ slice_index b i
unfolding put_at
put_below p i new b fits below =
    get_or_append_left (take p b) (new ++ drop (p + length new) b) 0 i (let count = length-take-le p b fits in omega (arith, count))
    ∙ get_or-take p b i 0 below

pub put_other : (p i n : ℕ) (new b : List ℕ) → p ≤ length b → length new ≡ n → (i < p) ⊎ (p + n ≤ i)
    → slice_index (put_at p new b) i ≡ slice_index b i
put_other p i n new b fits count (inl below) = put_below p i new b fits below
put_other p i n new b fits count (inr above) =
    first_at i (put_at p new b) (drop i b) (put_above p i new b fits (omega (arith, count))) ∙ sym (first_at i b (drop i b) refl)

-- the sixteen bytes that were put
pub range_put : (at : ℕ) (new c rest : List ℕ) → length new ≡ 16 → drop at c ≡ new ++ rest → slice_range c at (at + 16) ≡ new
range_put at new c rest count same =
    let whole : 16 ≡ length new = sym count in
    range_from at 0 16 c (new ++ rest) at (at + 16) same (omega arith) refl ∙ ap (λ (n : ℕ). take n (new ++ rest)) whole
    ∙ take-append_seam new rest

pub none_bytes : replicate 16 0 ≡ record_bytes None
unfolding record_bytes
none_bytes = refl

-- a record that was passed, or none
pub fields_put : (o : Option (Bor Record)) (at : ℕ) (c rest : List ℕ) → drop at c ≡ record_bytes (option_map (λ r. r.now) o) ++ rest
    → MatchOption o ⊤ (λ r. RecordFits r.now)
    → MatchOption o (slice_range c at (at + 16) ≡ replicate 16 0) (λ r. HasFields r.now at c)
unfolding record_bytes
fields_put None at c rest same fits = range_from at 0 16 c _ at (at + 16) same (omega arith) refl
fields_put (Some r) at c rest same fits = has_fields r.now at c rest same fits

-- sixteen zero bytes are no used record
pub zero_at : (at i : ℕ) (c : List ℕ) → slice_range c at (at + 16) ≡ replicate 16 0 → i < 16 → slice_index (replicate 16 0) i ≡ 0
    → slice_index c (at + i) ≡ 0
zero_at at i c zeros few none =
    let count : at + 16 - at ≡ 16 = omega arith in
    sym (get_or-drop at c i 0) ∙ sym (get_or-take 16 (drop at c) i 0 few)
    ∙ ap (λ (n : ℕ). get_or (take n (drop at c)) i 0) (sym count) ∙ ap (λ (t : List ℕ). get_or t i 0) zeros ∙ none

pub record_put : (o : Option (Bor Record)) (at : ℕ) (c : List ℕ)
    → MatchOption o (slice_range c at (at + 16) ≡ replicate 16 0) (λ r. HasFields r.now at c) → ReadsAsUsed (option_map (λ r. r.now) o)
    → RecordIs (option_map (λ r. r.now) o) at c
record_put None at c zeros usable = λ used. used.0 (zero_at at 4 c zeros (omega arith) refl)
record_put (Some r) at c fields usable = ((λ none. usable.0 (sym fields.kind ∙ none), λ none. usable.1 (sym fields.size ∙ none)), fields)

pub places_apart : (j k i : ℕ) → j ≢ k → place_of j ≤ i → i < place_of j + 16 → (i < place_of k) ⊎ (place_of k + 16 ≤ i)
places_apart j k i other low high =
    elim (cases_lt i (place_of k)) as (λ w. (i < place_of k) ⊎ (place_of k + 16 ≤ i)) [
      | inl below ↦ inl below
      | inr above ↦ inr
          (past above)
    ] where
      past : place_of k ≤ i → place_of k + 16 ≤ i
      past above = omega (arith, other, above, low, high)

-- bytes with the fields of a record are its bytes
four_bytes : (p q s t n : ℕ) → p < 256 → q < 256 → s < 256 → t < 256 → little_number 4 (p ∷ q ∷ s ∷ t ∷ []) ≡ n
    → p ∷ q ∷ s ∷ t ∷ [] ≡ little_bytes 4 n
four_bytes p q s t n ps qs ss ts sum =
    let number : p + 256 * (q + 256 * (s + 256 * t)) ≡ n = omega (arith, sum) in
    let first : p ≡ n % 256 = omega (arith, ps, qs, ss, ts, number) in
    let second : q ≡ n / 256 ^ 1 % 256 = omega (arith, ps, qs, ss, ts, number) in
    let third : s ≡ n / 256 ^ 2 % 256 = omega (arith, ps, qs, ss, ts, number) in
    let fourth : t ≡ n / 256 ^ 3 % 256 = omega (arith, ps, qs, ss, ts, number) in
    λ i. first i ∷ second i ∷ third i ∷ fourth i ∷ []

cells_back : (boot kind start size : ℕ) (a e x : List ℕ) → 16 ≤ length x → ((i : ℕ) → get_or x i 0 < 256) → Parts boot kind start size a e x
    → x ≡ ((boot ∷ a) ++ (kind ∷ e) ++ little_bytes 4 start ++ little_bytes 4 size) ++ drop 16 x
cells_back boot kind start size a e (x0 ∷ x1 ∷ x2 ∷ x3 ∷ x4 ∷ x5 ∷ x6 ∷ x7 ∷ x8 ∷ x9 ∷ xa ∷ xb ∷ xc ∷ xd ∷ xe ∷ xf ∷ rest) long small p =
    let starts = four_bytes x8 x9 xa xb start (small 8) (small 9) (small 10) (small 11) p.eighth in
    let sizes = four_bytes xc xd xe xf size (small 12) (small 13) (small 14) (small 15) p.twelfth in
    λ i. ((p.first i ∷ p.start_chs i) ++ (p.fourth i ∷ p.end_chs i) ++ starts i ++ sizes i) ++ rest
cells_back boot kind start size a e x long small p = absurd (omega (arith, long))

pub bytes_back : (r : Record) (at : ℕ) (b : List ℕ) → at + 16 ≤ length b → ((i : ℕ) → slice_index b i < 256) → HasFields r at b
    → drop at b ≡ record_bytes (Some r) ++ drop (at + 16) b
unfolding record_bytes
bytes_back r at b long small fields =
    let x = drop at b in
    cells_back r.boot r.kind r.start r.size r.start_chs r.end_chs x (let e = length-drop at b in omega (arith, long, e))
    (λ i. let e = get_or-drop at b i 0 in let s = small (at + i) in omega (arith, e, s)) record {
      first = sym (first_at at b x refl) ∙ fields.boot;
      start_chs = sym (range_from at 1 4 b x (at + 1) (at + 4) refl refl refl) ∙ fields.start_chs;
      fourth = sym (index_at at 4 b x refl) ∙ fields.kind;
      end_chs = sym (range_from at 5 8 b x (at + 5) (at + 8) refl refl refl) ∙ fields.end_chs;
      eighth = ap (little_number 4) (sym (range_from at 8 12 b x (at + 8) (at + 8 + 4) refl refl (omega arith))) ∙ fields.start;
      twelfth = ap (little_number 4) (sym (range_from at 12 16 b x (at + 12) (at + 12 + 4) refl refl (omega arith))) ∙ fields.size;
    }
    ∙ ap (λ (t : List ℕ). record_bytes (Some r) ++ t) (drop-drop 16 at b)

-- What sixteen bytes are read as.
use Rattle.std.proofs.Common.{◌≡◌, ℕ, ◌+◌, ◌-◌, ◌*◌, ◌<◌, ◌≤◌, List, take, drop, get_or, Option, Some, None, refl, sym, ap, subst, ◌∙◌}
use Rattle.pt_sector.specs.Sectors.{number_at}
use Rattle.std.proofs.Common.{arith, inl, inr}
use Rattle.std.specs.Prelude.{slice_index, slice_range}
use Rattle.std.proofs.lemmas.List.{drop-drop, drop-take, take-take, get_or-take, get_or-drop}
use Rattle.byteorder.specs.Endian.{little_number}
use Rattle.pt_mbr.specs.Records.{IsUsed, RecordIs, place_of}
use Rattle.pt_mbr.specs.Changes.{IsChanged}
use Rattle.pt_mbr.specs.declared.record.Record.{Record}
use Rattle.pt_cases.specs.Writes.{IsRecordTarget, record_at}

-- the sixteen bytes from a place on
abbrev pub part : ℕ → List ℕ → List ℕ
part at x = take 16 (drop at x)

index_of : (at i : ℕ) (x : List ℕ) → i < 16 → slice_index x (at + i) ≡ get_or (part at x) i 0
index_of at i x few = sym (get_or-take 16 (drop at x) i 0 few ∙ get_or-drop at x i 0)

range_of : (at i n : ℕ) (x : List ℕ) → i + n ≤ 16 → take n (drop (at + i) x) ≡ take n (drop i (part at x))
range_of at i n x fits =
    ap (take n) (sym (drop-drop i at x))
    ∙ sym (drop-take i n (drop at x))
    ∙ ap (drop i) (sym (take-take (i + n) 16 (drop at x) fits))
    ∙ drop-take i n (take 16 (drop at x))

pub index_same : (at i : ℕ) (b c : List ℕ) → i < 16 → part at b ≡ part at c → slice_index b (at + i) ≡ slice_index c (at + i)
index_same at i b c few same = index_of at i b few ∙ ap (λ (p : List ℕ). get_or p i 0) same ∙ sym (index_of at i c few)

first_same : (at : ℕ) (b c : List ℕ) → part at b ≡ part at c → slice_index b at ≡ slice_index c at
first_same at b c same =
    let e : at + 0 ≡ at = omega arith in
    subst (λ (n : ℕ). slice_index b n ≡ slice_index c n) e (index_same at 0 b c (omega arith) same)

range_same : (at i n high : ℕ) (b c : List ℕ) → i + n ≤ 16 → high ≡ at + i + n → part at b ≡ part at c
    → slice_range b (at + i) high ≡ slice_range c (at + i) high
range_same at i n high b c fits ends same =
    let count : high - (at + i) ≡ n = omega (arith, ends) in
    ap (λ (m : ℕ). take m (drop (at + i) b)) count
    ∙ range_of at i n b fits ∙ ap (λ (p : List ℕ). take n (drop i p)) same ∙ sym (range_of at i n c fits)
    ∙ ap (λ (m : ℕ). take m (drop (at + i) c)) (sym count)

pub number_same : (at i : ℕ) (b c : List ℕ) → i + 4 ≤ 16 → part at b ≡ part at c → number_at (at + i) 4 b ≡ number_at (at + i) 4 c
number_same at i b c fits same = ap (little_number 4) (range_same at i 4 (at + i + 4) b c fits refl same)

pub used_same : (at : ℕ) (b c : List ℕ) → part at b ≡ part at c → IsUsed at b → IsUsed at c
used_same at b c same used = (
  (λ none. used.0 (index_same at 4 b c (omega arith) same ∙ none)),
  (λ none. used.1 (number_same at 12 b c (omega arith) same ∙ none)),
)

pub record_same : (o : Option Record) (at : ℕ) (b c : List ℕ) → part at b ≡ part at c → RecordIs o at b → RecordIs o at c
record_same None at b c same unused = λ used. unused (used_same at c b (sym same) used)
record_same (Some r) at b c same is = (
  used_same at b c same is.0,
  record {
    boot = sym (first_same at b c same) ∙ is.1.boot;
    start_chs = sym (range_same at 1 3 (at + 4) b c (omega arith) (omega arith) same) ∙ is.1.start_chs;
    kind = sym (index_same at 4 b c (omega arith) same) ∙ is.1.kind;
    end_chs = sym (range_same at 5 3 (at + 8) b c (omega arith) (omega arith) same) ∙ is.1.end_chs;
    start = sym (number_same at 8 b c (omega arith) same) ∙ is.1.start;
    size = sym (number_same at 12 b c (omega arith) same) ∙ is.1.size;
  },
)

-- a record that is changed is one that stays or is written
ends : (k : ℕ) (x : List ℕ) → record_at k x ≡ slice_range x (place_of k) (place_of k + 16)
ends k x =
    let e : 462 + 16 * k ≡ 446 + 16 * k + 16 = omega arith in
    ap (λ (n : ℕ). slice_range x (446 + 16 * k) n) e

pub target_of : (o n : Option Record) (k : ℕ) (b c : List ℕ) → IsChanged (o ≡ n) n k b c → IsRecordTarget o n k b c
target_of o n k b c (inl stays) = inl (stays.0, ends k c ∙ stays.1 ∙ sym (ends k b))
target_of o n k b c (inr new) = inr (new.0, ends k c ∙ new.1)

-- and what it holds is reported
pub both : (o n : Option Record) (k : ℕ) (b v c : List ℕ) → IsRecordTarget o n k b v → IsRecordTarget o n k b c
    → record_at k v ≡ record_at k c
both o n k b v c (inl p) (inl q) = p.1 ∙ sym q.1
both o n k b v c (inl p) (inr q) = absurd (q.0 p.0)
both o n k b v c (inr p) (inl q) = absurd (p.0 q.0)
both o n k b v c (inr p) (inr q) = p.1 ∙ sym q.1

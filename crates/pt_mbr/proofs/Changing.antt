-- A sector in which records change is read as the new ones.
use Rattle.std.proofs.Common.{◌≡◌, ◌≢◌, ℕ, zero, suc, ◌+◌, ◌-◌, ◌<◌, ◌≤◌, List, length, take, drop, get_or, Option, Some, None, refl, sym}
use Rattle.std.proofs.Common.{ap, ◌∙◌, subst, arith, inl, inr}
use Rattle.std.specs.Prelude.{◌⊎◌, slice_index, slice_range}
use Rattle.std.proofs.lemmas.List.{ext_get_or, get_or-drop, get_or-take, length-drop, length-take-le}
use Rattle.pt_mbr.specs.Records.{HasSignature, RecordIs, ReadsAsUsed, place_of, record_bytes, IsBootIndicator, HasBootIndicators}
use Rattle.pt_mbr.specs.Records.{MbrBytes, BearsProtective}
use Rattle.pt_mbr.specs.inner.Records.{IsWritten, boot_of}
use Rattle.pt_mbr.specs.Changes.{mbr_of, IsChanged, IsPlainRecord, ArePlain}
use Rattle.pt_mbr.specs.inner.Changes.{IsStep}
use Rattle.pt_mbr.specs.declared.record.Record.{Record}
use Rattle.pt_mbr.proofs.Kept.{range_same, record_kept}
use Rattle.pt_mbr.proofs.Encoding.{places_apart, none_bytes, zero_at}

-- a part of the bytes that are the same one by one
pub part_same : (at n : ℕ) (b c : List ℕ) → at + n ≤ length b → length c ≡ length b
    → ((i : ℕ) → at ≤ i → i < at + n → slice_index c i ≡ slice_index b i) → slice_range c at (at + n) ≡ slice_range b at (at + n)
part_same at n b c long count same =
    let few : at + n - at ≡ n = omega arith in
    rw few (ext_get_or 0 (take n (drop at c)) (take n (drop at b)) (all c (omega (arith, long, count)) ∙ sym (all b long))
    (λ i lt. each i (let e = all c (omega (arith, long, count)) in omega (arith, lt, e)))) where
      all : (x : List ℕ) → at + n ≤ length x → length (take n (drop at x)) ≡ n
      all x fits = length-take-le n (drop at x) (let e = length-drop at x in omega (arith, fits, e))

      each : (i : ℕ) → i < n → get_or (take n (drop at c)) i 0 ≡ get_or (take n (drop at b)) i 0
      each i below =
          get_or-take n (drop at c) i 0 below ∙ get_or-drop at c i 0 ∙ same (at + i) (omega arith) (omega arith)
          ∙ sym (get_or-drop at b i 0) ∙ sym (get_or-take n (drop at b) i 0 below)

-- record k of c has the bytes that it has in b
abbrev pub Stays : ℕ → List ℕ → List ℕ → Type 0
Stays k b c = (i : ℕ) → place_of k ≤ i → i < place_of k + 16 → slice_index c i ≡ slice_index b i

-- record k of c is this one, as it is written
pub record Stands (o : Option Record) (k : ℕ) (c : List ℕ) : Type 0 where
  pub bytes : slice_range c (place_of k) (place_of k + 16) ≡ record_bytes o
  pub boot : slice_index c (place_of k) ≡ boot_of o
  pub read : ReadsAsUsed o → RecordIs o (place_of k) c

abbrev pub Turned : Type 0 → Option Record → ℕ → List ℕ → List ℕ → Type 0
Turned Same o k b c = (Same × Stays k b c) ⊎ ((¬ Same) × Stands o k c)

-- one step
pub step_other : (Same : Type 0) (o : Option Record) (k : ℕ) (b c : List ℕ) → IsStep Same o k b c → (i : ℕ)
    → (i < place_of k) ⊎ (place_of k + 16 ≤ i) → slice_index c i ≡ slice_index b i
step_other Same o k b c (inl same) i away = ap (λ (s : List ℕ). slice_index s i) same.1
step_other Same o k b c (inr new) i away = new.1.other i away

pub step_stays : (Same : Type 0) (o : Option Record) (k : ℕ) (b c : List ℕ) (j : ℕ) → j ≢ k → IsStep Same o k b c → Stays j b c
step_stays Same o k b c j other step i low high = step_other Same o k b c step i (places_apart j k i other low high)

pub stays_on : (k : ℕ) (b c d : List ℕ) → Stays k b c → Stays k c d → Stays k b d
stays_on k b c d p q i low high = q i low high ∙ p i low high

pub stays_so : (k : ℕ) (b : List ℕ) → Stays k b b
stays_so k b i low high = refl

pub stands_on : (o : Option Record) (k : ℕ) (b c : List ℕ) → k < 4 → 512 ≤ length b → length c ≡ length b → Stays k b c
    → Stands o k b → Stands o k c
stands_on o k b c few long count each stands = record {
  bytes = range_same (place_of k) b c (omega (arith, few, long)) count each ∙ stands.bytes;
  boot = each (place_of k) (omega arith) (omega arith) ∙ stands.boot;
  read = λ usable. record_kept o (place_of k) b c (omega (arith, few, long)) count each (stands.read usable);
}

pub written_stands : (o : Option Record) (k : ℕ) (b c : List ℕ) → IsWritten o k b c → Stands o k c
written_stands o k b c is = record { bytes = is.bytes; boot = is.boot; read = is.read }

pub turned : (Same : Type 0) (o : Option Record) (k : ℕ) (u b a c : List ℕ) → k < 4 → 512 ≤ length a → length c ≡ length a
    → Stays k u b → IsStep Same o k b a → Stays k a c → Turned Same o k u c
turned Same o k u b a c few long count before (inl same) after =
    inl (same.0, stays_on k u a c (subst (λ (s : List ℕ). Stays k u s) (sym same.1) before) after)
turned Same o k u b a c few long count before (inr new) after =
    inr (new.0, stands_on o k a c few long count after (written_stands o k b a new.1))

pub changed : (Same : Type 0) (o : Option Record) (k : ℕ) (u c : List ℕ) → k < 4 → 512 ≤ length u → length c ≡ length u
    → Turned Same o k u c → IsChanged Same o k u c
changed Same o k u c few long count (inl stays) = inl (stays.0, range_same (place_of k) u c (omega (arith, few, long)) count stays.1)
changed Same o k u c few long count (inr stands) = inr (stands.0, stands.1.bytes)

-- what a plain record is read as
pub plain_usable : (o : Option Record) → IsPlainRecord o → ReadsAsUsed o
plain_usable None plain = tt
plain_usable (Some r) plain = (plain.typed, plain.sized)

pub plain_boot : (o : Option Record) → IsPlainRecord o → IsBootIndicator (boot_of o)
plain_boot None plain = inl refl
plain_boot (Some r) plain = plain.boot

pub reads : (o n : Option Record) (k : ℕ) (u c : List ℕ) → k < 4 → 512 ≤ length u → length c ≡ length u → ReadsAsUsed n
    → RecordIs o (place_of k) u → Turned (o ≡ n) n k u c → RecordIs n (place_of k) c
reads o n k u c few long count usable is (inl stays) =
    record_kept n (place_of k) u c (omega (arith, few, long)) count stays.1
    (subst (λ (p : Option Record). RecordIs p (place_of k) u) stays.0 is)
reads o n k u c few long count usable is (inr stands) = stands.1.read usable

pub boots : (Same : Type 0) (n : Option Record) (k : ℕ) (u c : List ℕ) → (¬ Same → IsBootIndicator (boot_of n))
    → IsBootIndicator (slice_index u (place_of k)) → Turned Same n k u c → IsBootIndicator (slice_index c (place_of k))
boots Same n k u c new boot (inl stays) = subst (λ (b : ℕ). IsBootIndicator b) (sym (stays.1 (place_of k) (omega arith) (omega arith))) boot
boots Same n k u c new boot (inr stands) = subst (λ (b : ℕ). IsBootIndicator b) (sym stands.1.boot) (new stands.0)

stands_plain : (n : Option Record) (k : ℕ) (c : List ℕ) → IsPlainRecord n → Stands n k c → slice_index c (place_of k + 4) ≢ 0xEE
stands_plain None k c plain stands ee =
    let none = zero_at (place_of k) 4 c (stands.bytes ∙ sym none_bytes) (omega arith) refl in
    omega (arith, none, ee)
stands_plain (Some r) k c plain stands ee = plain.plain (sym (stands.read (plain_usable (Some r) plain)).1.kind ∙ ee)

pub unborne : (Same : Type 0) (n : Option Record) (k : ℕ) (u c : List ℕ) → IsPlainRecord n → slice_index u (place_of k + 4) ≢ 0xEE
    → Turned Same n k u c → slice_index c (place_of k + 4) ≢ 0xEE
unborne Same n k u c plain before (inl stays) ee = before (sym (stays.1 (place_of k + 4) (omega arith) (omega arith)) ∙ ee)
unborne Same n k u c plain before (inr stands) ee = stands_plain n k c plain stands.1 ee

-- four records
abbrev At : List (Option Record) → List (Option Record) → ℕ → List ℕ → List ℕ → Type 0
At old new k b c = IsStep (get_or old k None ≡ get_or new k None) (get_or new k None) k b c

module _ (old new : List (Option Record)) (u s0 s1 s2 c : List ℕ)
    (w0 : At old new 0 u s0) (w1 : At old new 1 s0 s1) (w2 : At old new 2 s1 s2) (w3 : At old new 3 s2 c)
    (long : 512 ≤ length u) (l0 : length s0 ≡ length u) (l1 : length s1 ≡ length u) (l2 : length s2 ≡ length u)
    (l3 : length c ≡ length u) where
  by_0 : (j : ℕ) → j ≢ 0 → Stays j u s0
  by_0 j away = step_stays _ _ 0 u s0 j away w0

  by_1 : (j : ℕ) → j ≢ 1 → Stays j s0 s1
  by_1 j away = step_stays _ _ 1 s0 s1 j away w1

  by_2 : (j : ℕ) → j ≢ 2 → Stays j s1 s2
  by_2 j away = step_stays _ _ 2 s1 s2 j away w2

  by_3 : (j : ℕ) → j ≢ 3 → Stays j s2 c
  by_3 j away = step_stays _ _ 3 s2 c j away w3

  pub four_turned : (k : ℕ) → k < 4 → Turned (get_or old k None ≡ get_or new k None) (get_or new k None) k u c
  four_turned zero few = turned _ _ 0 u u s0 c few (omega (arith, long, l0)) (omega (arith, l3, l0)) (stays_so 0 u) w0
      (stays_on 0 s0 s1 c (by_1 0 (omega arith)) (stays_on 0 s1 s2 c (by_2 0 (omega arith)) (by_3 0 (omega arith))))
  four_turned (suc zero) few = turned _ _ 1 u s0 s1 c few (omega (arith, long, l1)) (omega (arith, l3, l1)) (by_0 1 (omega arith)) w1
      (stays_on 1 s1 s2 c (by_2 1 (omega arith)) (by_3 1 (omega arith)))
  four_turned (suc (suc zero)) few =
      turned _ _ 2 u s1 s2 c few (omega (arith, long, l2)) (omega (arith, l3, l2))
      (stays_on 2 u s0 s1 (by_0 2 (omega arith)) (by_1 2 (omega arith))) w2
      (by_3 2 (omega arith))
  four_turned (suc (suc (suc zero))) few =
      turned _ _ 3 u s2 c c few (omega (arith, long, l3)) refl (stays_on 3 u s0 s2 (by_0 3 (omega arith))
      (stays_on 3 s0 s1 s2 (by_1 3 (omega arith)) (by_2 3 (omega arith)))) w3
      (stays_so 3 c)
  four_turned (suc (suc (suc (suc k)))) few = absurd (omega (arith, few))

  pub all_else : (i : ℕ) → (i < 446) ⊎ (510 ≤ i) → slice_index c i ≡ slice_index u i
  all_else i (inl low) =
      step_other _ _ 3 s2 c w3 i (inl (omega (arith, low))) ∙ step_other _ _ 2 s1 s2 w2 i (inl (omega (arith, low)))
      ∙ step_other _ _ 1 s0 s1 w1 i (inl (omega (arith, low))) ∙ step_other _ _ 0 u s0 w0 i (inl (omega (arith, low)))
  all_else i (inr high) =
      step_other _ _ 3 s2 c w3 i (inr (omega (arith, high))) ∙ step_other _ _ 2 s1 s2 w2 i (inr (omega (arith, high)))
      ∙ step_other _ _ 1 s0 s1 w1 i (inr (omega (arith, high))) ∙ step_other _ _ 0 u s0 w0 i (inr (omega (arith, high)))

  pub each_changed : (k : ℕ) → k < 4 → IsChanged (get_or old k None ≡ get_or new k None) (get_or new k None) k u c
  each_changed k few = changed _ _ k u c few long l3 (four_turned k few)

  pub taken : take 440 c ≡ take 440 u
  taken = part_same 0 440 u c (omega (arith, long)) l3 (λ i low high. all_else i (inl (omega (arith, high))))

  pub read_anew : ArePlain new → length new ≡ 4 → MbrBytes (mbr_of old) u → MbrBytes (mbr_of new) c
  unfolding HasSignature HasBootIndicators
  read_anew plain four is = record {
    formed = record {
      signature = (all_else 510 (inr (omega arith)) ∙ is.formed.signature.0, all_else 511 (inr (omega arith)) ∙ is.formed.signature.1);
      boots = (
        boot 0 (omega arith) is.formed.boots.0,
        boot 1 (omega arith) is.formed.boots.1,
        boot 2
            (omega arith) is.formed.boots.2,
        boot 3 (omega arith) is.formed.boots.3,
      );
    };
    records = record {
      four = four;
      first = at 0 (omega arith) is.records.first;
      second = at 1 (omega arith) is.records.second;
      third = at 2 (omega arith) is.records.third;
      fourth = at 3 (omega arith) is.records.fourth;
    };
  } where
    at : (k : ℕ) → k < 4 → RecordIs (get_or old k None) (place_of k) u → RecordIs (get_or new k None) (place_of k) c
    at k few there = reads _ _ k u c few long l3 (plain_usable _ (plain k few)) there (four_turned k few)

    boot : (k : ℕ) → k < 4 → IsBootIndicator (slice_index u (place_of k)) → IsBootIndicator (slice_index c (place_of k))
    boot k few there = boots _ _ k u c (λ no. plain_boot _ (plain k few)) there (four_turned k few)

  pub none_borne : ArePlain new → ¬ BearsProtective u → ¬ BearsProtective c
  unfolding BearsProtective
  none_borne plain free (inl here) = unborne _ _ 0 u c (plain 0 (omega arith)) (λ ee. free (inl ee)) (four_turned 0 (omega arith)) here
  none_borne plain free (inr (inl here)) =
      unborne _ _ 1 u c (plain 1 (omega arith)) (λ ee. free (inr (inl ee))) (four_turned 1 (omega arith)) here
  none_borne plain free (inr (inr (inl here))) =
      unborne _ _ 2 u c (plain 2 (omega arith)) (λ ee. free (inr (inr (inl ee)))) (four_turned 2 (omega arith)) here
  none_borne plain free (inr (inr (inr here))) =
      unborne _ _ 3 u c (plain 3 (omega arith)) (λ ee. free (inr (inr (inr ee)))) (four_turned 3 (omega arith)) here

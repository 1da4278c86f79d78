-- A master boot record that is written is read again.
use Rattle.std.proofs.Common.{◌≡◌, ℕ, zero, suc, ◌+◌, ◌<◌, ◌≤◌, List, [], ◌∷◌, ◌++◌, length, drop, get_or, Option, Some, None, refl, sym}
use Rattle.std.proofs.Common.{ap, ◌∙◌, subst, arith, inl, inr}
use Rattle.std.specs.Prelude.{◌⊎◌, slice_index, slice_range}
use Rattle.pt_mbr.specs.Records.{put_at, HasSignature, RecordIs, ReadsAsUsed, place_of, record_bytes, IsMbrFormed, IsBootIndicator}
use Rattle.pt_mbr.specs.Records.{HasBootIndicators, AreRecords}
use Rattle.pt_mbr.specs.inner.Records.{IsWritten, boot_of}
use Rattle.pt_mbr.specs.declared.record.Record.{Record}
use Rattle.pt_mbr.proofs.Encoding.{put_here, put_other, index_at, first_at}
use Rattle.pt_mbr.proofs.Kept.{range_same, record_kept}

-- a record that some bytes are may be written
pub usable_of : (o : Option Record) (at : ℕ) (b : List ℕ) → RecordIs o at b → ReadsAsUsed o
usable_of None at b is = tt
usable_of (Some r) at b is = ((λ none. is.0.0 (is.1.kind ∙ none)), λ none. is.0.1 (is.1.size ∙ none))

boot_in : (o : Option Record) (at : ℕ) (b : List ℕ) → RecordIs o at b → IsBootIndicator (slice_index b at) → IsBootIndicator (boot_of o)
boot_in None at b is boot = inl refl
boot_in (Some r) at b is boot = subst (λ (n : ℕ). IsBootIndicator n) is.1.boot boot

module _ (records : List (Option Record)) (u s0 s1 s2 s3 c : List ℕ)
    (w0 : IsWritten (get_or records 0 None) 0 u s0) (w1 : IsWritten (get_or records 1 None) 1 s0 s1)
    (w2 : IsWritten (get_or records 2 None) 2 s1 s2) (w3 : IsWritten (get_or records 3 None) 3 s2 s3)
    (end : c ≡ put_at 510 (0x55 ∷ 0xAA ∷ []) s3) (long : 512 ≤ length s3) (count : length c ≡ length s3) where
  at_end : (i : ℕ) → (i < 510) ⊎ (510 + 2 ≤ i) → slice_index c i ≡ slice_index s3 i
  at_end i away = ap (λ (s : List ℕ). slice_index s i) end ∙ put_other 510 i 2 (0x55 ∷ 0xAA ∷ []) s3 (omega (arith, long)) refl away

  pub all_else : (i : ℕ) → (i < 446) ⊎ (512 ≤ i) → slice_index c i ≡ slice_index u i
  all_else i (inl low) =
      at_end i (inl (omega arith)) ∙ w3.other i (inl (omega arith)) ∙ w2.other i (inl (omega arith))
      ∙ w1.other i (inl (omega arith)) ∙ w0.other i (inl (omega arith))
  all_else i (inr high) =
      at_end i (inr high) ∙ w3.other i (inr (omega arith)) ∙ w2.other i (inr (omega arith)) ∙ w1.other i (inr (omega arith))
      ∙ w0.other i (inr (omega arith))

  -- the bytes of a record that a later write does not touch
  stands : (k : ℕ) (o : Option Record) (s : List ℕ) → k < 4 → length s ≡ length c
      → slice_range s (place_of k) (place_of k + 16) ≡ record_bytes o
      → ((i : ℕ) → place_of k ≤ i → i < place_of k + 16 → slice_index c i ≡ slice_index s i)
      → slice_range c (place_of k) (place_of k + 16) ≡ record_bytes o
  stands k o s few same bytes each = range_same (place_of k) s c (omega (arith, few, same, count, long)) (sym same) each ∙ bytes

  pub records_stand : length s0 ≡ length c → length s1 ≡ length c → length s2 ≡ length c → (k : ℕ) → k < 4
      → slice_range c (place_of k) (place_of k + 16) ≡ record_bytes (get_or records k None)
  records_stand l0 l1 l2 zero few =
      stands 0 _ s0 few l0 w0.bytes (λ i low high. at_end i (inl (omega arith)) ∙ w3.other i (inl (omega arith))
      ∙ w2.other i (inl (omega arith)) ∙ w1.other i (inl (omega arith)))
  records_stand l0 l1 l2 (suc zero) few =
      stands 1 _ s1 few l1 w1.bytes (λ i low high. at_end i (inl (omega arith)) ∙ w3.other i (inl (omega arith))
      ∙ w2.other i (inl (omega arith)))
  records_stand l0 l1 l2 (suc (suc zero)) few =
      stands 2 _ s2 few l2 w2.bytes (λ i low high. at_end i (inl (omega arith)) ∙ w3.other i (inl (omega arith)))
  records_stand l0 l1 l2 (suc (suc (suc zero))) few = stands 3 _ s3 few (sym count) w3.bytes (λ i low high. at_end i (inl (omega arith)))
  records_stand l0 l1 l2 (suc (suc (suc (suc k)))) few = absurd (omega arith)

  signature_here : drop 510 c ≡ (0x55 ∷ 0xAA ∷ []) ++ drop 512 s3
  signature_here = ap (λ (s : List ℕ). drop 510 s) end ∙ put_here 510 (0x55 ∷ 0xAA ∷ []) s3 (omega (arith, long))

  pub signed : HasSignature c
  unfolding HasSignature
  signed = (first_at 510 c _ signature_here, index_at 510 1 c _ signature_here)

  stays_so : (o : Option Record) (at : ℕ) → at + 16 ≤ 510 → RecordIs o at s3 → RecordIs o at c
  stays_so o at low is = record_kept o at s3 c (omega (arith, long)) count (λ i a z. at_end i (inl (omega arith))) is

  pub again : (b : List ℕ) → AreRecords records b → AreRecords records c
  again b are = record {
    four = are.four;
    first = stays_so _ 446 (omega arith) (w3.kept 0 _ (omega arith) (omega arith)
        (w2.kept 0 _ (omega arith) (omega arith) (w1.kept 0 _ (omega arith) (omega arith) (w0.read (usable_of _ 446 b are.first)))));
    second =
        stays_so _ 462 (omega arith) (w3.kept 1 _ (omega arith) (omega arith)
        (w2.kept 1 _ (omega arith) (omega arith) (w1.read (usable_of _ 462 b are.second))));
    third = stays_so _ 478 (omega arith) (w3.kept 2 _ (omega arith) (omega arith) (w2.read (usable_of _ 478 b are.third)));
    fourth = stays_so _ 494 (omega arith) (w3.read (usable_of _ 494 b are.fourth));
  }

  indicator : (o : Option Record) (at : ℕ) (b : List ℕ) → slice_index c at ≡ boot_of o → RecordIs o at b
      → IsBootIndicator (slice_index b at) → IsBootIndicator (slice_index c at)
  indicator o at b same is boot = subst (λ (n : ℕ). IsBootIndicator n) (sym same) (boot_in o at b is boot)

  pub formed_again : (b : List ℕ) → IsMbrFormed b → AreRecords records b → IsMbrFormed c
  unfolding HasBootIndicators
  formed_again b formed are =
      record {
        signature = signed;
        boots = (
          indicator _ 446 b (at_end 446 (inl (omega arith)) ∙ w3.other 446 (inl (omega arith)) ∙ w2.other 446 (inl (omega arith))
              ∙ w1.other 446 (inl (omega arith)) ∙ w0.boot) are.first formed.boots.0,
          indicator _ 462 b (at_end 462 (inl (omega arith)) ∙ w3.other 462 (inl (omega arith)) ∙ w2.other 462 (inl (omega arith))
              ∙ w1.boot) are.second formed.boots.1,
          indicator _ 478 b (at_end 478 (inl (omega arith)) ∙ w3.other 478 (inl (omega arith)) ∙ w2.boot) are.third formed.boots.2,
          indicator _ 494 b (at_end 494 (inl (omega arith)) ∙ w3.boot) are.fourth formed.boots.3,
        );
      }

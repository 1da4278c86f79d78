-- An extended boot record over zeros.
use Rattle.std.proofs.Common.{◌≡◌, ℕ, ◌+◌, ◌-◌, ◌<◌, ◌≤◌, ◌⊎◌, List, ◌∷◌, ◌++◌, length, take, drop, replicate, get_or, Option, sym, ap}
use Rattle.std.proofs.Common.{subst, ◌∙◌, arith, inl, inr, drop-cons}
use Rattle.std.specs.Prelude.{slice_index, slice_range}
use Rattle.std.proofs.lemmas.List.{ext_get_or, get_or-drop, get_or-take, get_or-replicate, length-drop, length-replicate, length-take-le}
use Rattle.std.proofs.lemmas.List.{take-append-drop, drop-drop}
use Rattle.pt_mbr.specs.Records.{HasSignature, record_bytes}
use Rattle.pt_mbr.specs.Chain.{EbrBytes}
use Rattle.pt_mbr.specs.declared.record.Record.{Record}
use Rattle.pt_mbr.specs.declared.ebr.Ebr.{Ebr}
use Rattle.pt_cases.specs.Writes.{IsEbrMade}

zeros_at : (at n : ℕ) (c : List ℕ) → at + n ≤ length c → ((i : ℕ) → at ≤ i → i < at + n → slice_index c i ≡ 0)
    → take n (drop at c) ≡ replicate n 0
zeros_at at n c fits zero_there =
    ext_get_or 0 (take n (drop at c)) (replicate n 0) (all ∙ sym (length-replicate {A = ℕ} n 0))
    (λ i lt. each i (let e = all in omega (arith, lt, e))) where
      all : length (take n (drop at c)) ≡ n
      all = length-take-le n (drop at c) (let e = length-drop at c in omega (arith, fits, e))

      each : (i : ℕ) → i < n → get_or (take n (drop at c)) i 0 ≡ get_or (replicate n 0) i 0
      each i below =
          get_or-take n (drop at c) i 0 below ∙ get_or-drop at c i 0 ∙ zero_there (at + i) (omega arith) (omega arith)
          ∙ sym (get_or-replicate n i 0 0 below)

zeros_from : (at : ℕ) (c : List ℕ) → at ≤ length c → ((i : ℕ) → at ≤ i → slice_index c i ≡ 0) → drop at c ≡ replicate (length c - at) 0
zeros_from at c fits zero_there =
    ext_get_or 0 (drop at c) (replicate (length c - at) 0) (length-drop at c ∙ sym (length-replicate {A = ℕ} (length c - at) 0))
    (λ i lt. each i (let e = length-drop at c in omega (arith, lt, e))) where
      each : (i : ℕ) → i < length c - at → get_or (drop at c) i 0 ≡ get_or (replicate (length c - at) 0) i 0
      each i below = get_or-drop at c i 0 ∙ zero_there (at + i) (omega arith) ∙ sym (get_or-replicate (length c - at) i 0 0 below)

cut : (at n : ℕ) (c : List ℕ) → drop at c ≡ take n (drop at c) ++ drop (at + n) c
cut at n c = sym (take-append-drop n (drop at c)) ∙ ap (λ (r : List ℕ). take n (drop at c) ++ r) (drop-drop n at c)

abbrev made_of : ℕ → List ℕ → List ℕ → List ℕ
made_of b logical link = replicate 446 0 ++ (logical ++ (link ++ (replicate 32 0 ++ (0x55 ∷ 0xAA ∷ replicate (b - 512) 0))))

module _ (b : ℕ) (logical link c : List ℕ) (long : 512 ≤ b) (count : length c ≡ b)
    (zeros : (i : ℕ) → (i < 446) ⊎ ((478 ≤ i) × (i < 510)) ⊎ (512 ≤ i) → slice_index c i ≡ 0)
    (first : slice_range c 446 462 ≡ logical) (second : slice_range c 462 478 ≡ link) (signed : HasSignature c) where
  from_510 : drop 510 c ≡ 0x55 ∷ 0xAA ∷ replicate (b - 512) 0
  unfolding HasSignature
  from_510 =
      drop-cons c 510 0 (omega (arith, long, count))
      ∙ ap (λ (r : List ℕ). get_or c 510 0 ∷ r) (drop-cons c 511 0 (omega (arith, long, count)))
      ∙ (λ i. signed.0 i ∷ signed.1 i ∷ drop 512 c)
      ∙ ap (λ (r : List ℕ). 0x55 ∷ 0xAA ∷ r)
      (zeros_from 512 c (omega (arith, long, count)) (λ i high. zeros i (inr (inr high))) ∙ ap (λ (n : ℕ). replicate (n - 512) 0) count)

  pub made_bytes : c ≡ made_of b logical link
  made_bytes =
      cut 0 446 c
      ∙ (λ i. zeros_at 0 446 c (omega (arith, long, count)) (λ j low high. zeros j (inl high)) i ++ from_446 i) where
        from_478 : drop 478 c ≡ replicate 32 0 ++ (0x55 ∷ 0xAA ∷ replicate (b - 512) 0)
        from_478 =
            cut 478 32 c
            ∙ (λ i. zeros_at 478 32 c (omega (arith, long, count)) (λ j low high. zeros j (inr (inl (low, high)))) i ++ from_510 i)

        from_462 : drop 462 c ≡ link ++ (replicate 32 0 ++ (0x55 ∷ 0xAA ∷ replicate (b - 512) 0))
        from_462 = cut 462 16 c ∙ (λ i. second i ++ from_478 i)

        from_446 : drop 446 c ≡ logical ++ (link ++ (replicate 32 0 ++ (0x55 ∷ 0xAA ∷ replicate (b - 512) 0)))
        from_446 = cut 446 16 c ∙ (λ i. first i ++ from_462 i)

module _ (b first : ℕ) (e : Ebr) (link spec : Option Record) (c : List ℕ) (long : 512 ≤ b) (count : length c ≡ b)
    (zeros : (i : ℕ) → (i < 446) ⊎ ((478 ≤ i) × (i < 510)) ⊎ (512 ≤ i) → slice_index c i ≡ 0)
    (logical : slice_range c 446 462 ≡ record_bytes e.logical) (next : slice_range c 462 478 ≡ record_bytes link) (signed : HasSignature c)
    (bytes : record_bytes link ≡ record_bytes spec) where
  is_made : c ≡ replicate 446 0 ++
      (record_bytes e.logical ++ (record_bytes spec ++ (replicate 32 0 ++ (0x55 ∷ 0xAA ∷ replicate (b - 512) 0))))
  is_made = made_bytes b (record_bytes e.logical) (record_bytes spec) c long count zeros logical (next ∙ bytes) signed

  pub made_some : EbrBytes first e.at e c → IsEbrMade b first e spec c
  made_some reads = record { reads = reads; bytes = is_made }

  -- another one is the same
  pub made_same : (v : List ℕ) → IsEbrMade b first e spec v → EbrBytes first e.at e c
  made_same v is = subst (λ (x : List ℕ). EbrBytes first e.at e x) (is.bytes ∙ sym is_made) is.reads

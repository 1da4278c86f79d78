-- Sector 0 with its records changed.
use Rattle.std.proofs.Common.{◌≡◌, ℕ, ◌<◌, ◌≤◌, ◌⊎◌, List, length, take, get_or, Option, None, Bool, true, false, not, ◌+◌, refl, sym}
use Rattle.std.proofs.Common.{subst, ◌∙◌, arith, inl, inr}
use Rattle.std.specs.Prelude.{IsTrue, slice_index, ◌↔◌}
use Rattle.std.proofs.lemmas.Bool.{false≢true}
use Rattle.pt_mbr.specs.Records.{HasSignature, IsBootIndicator, HasBootIndicators, AreRecords, MbrBytes, BearsProtective}
use Rattle.pt_mbr.specs.Changes.{IsChanged, mbr_of}
use Rattle.pt_mbr.specs.declared.record.Record.{Record}
use Rattle.pt_mbr.specs.declared.mbr.Mbr.{Mbr}
use Rattle.pt_recover.specs.Denotes.{IsMbrSector}
use Rattle.pt_cases.specs.Writes.{IsHeadTarget, IsRecordTarget, record_at}
use Rattle.pt_planner.proofs.Parts.{part, index_same, record_same, target_of, both}

-- what a sector is read as, by a test of the protective type
pub reads_so : (m : Mbr) (rs : List (Option Record)) (b : List ℕ) (bears : Bool) → MbrBytes m b → m.records ≡ rs
    → (IsTrue bears ↔ BearsProtective b)
    → (IsTrue (not bears) ↔ (IsMbrSector b × AreRecords rs b))
reads_so m rs b true is same told = ((λ free. absurd (false≢true free)), (λ at. absurd (at.0.plain (told.0 refl))))
reads_so m rs b false is same told = (
  (λ free. (
    record { formed = is.formed; plain = λ bears. false≢true (told.1 bears) },
    subst (λ (r : List (Option Record)). AreRecords r b) same is.records,
  )),
  (λ at. refl),
)

-- an MBR of these records that is no protective one
pub is_mbr : (rs : List (Option Record)) (b : List ℕ) → MbrBytes (mbr_of rs) b → ¬ BearsProtective b → IsMbrSector b × AreRecords rs b
is_mbr rs b read plain = (record { formed = read.formed; plain = plain }, read.records)

-- the facts of a sector whose records were changed
module _ (old new : List (Option Record)) (under c : List ℕ)
    (other : (i : ℕ) → (i < 446) ⊎ (510 ≤ i) → slice_index c i ≡ slice_index under i) (boot : take 440 c ≡ take 440 under)
    (each : (k : ℕ) → k < 4 → IsChanged (get_or old k None ≡ get_or new k None) (get_or new k None) k under c) where
  target_at : (k : ℕ) → k < 4 → IsRecordTarget (get_or old k None) (get_or new k None) k under c
  target_at k few = target_of (get_or old k None) (get_or new k None) k under c (each k few)

  pub head_some : length c ≡ length under → IsMbrSector c × AreRecords new c → IsHeadTarget old new under c
  head_some count is = record { formed = is.0; records = is.1; boot = boot; count = count; other = other; each = target_at }

  -- another target is read the same way
  module _ (v : List ℕ) (is : IsHeadTarget old new under v) where
    same_at : (k : ℕ) → k < 4 → record_at k v ≡ record_at k c
    same_at k few = both (get_or old k None) (get_or new k None) k under v c (is.each k few) (target_at k few)

    else_same : (i : ℕ) → 510 ≤ i → slice_index c i ≡ slice_index v i
    else_same i high = other i (inr high) ∙ sym (is.other i (inr high))

    p0 : part 446 v ≡ part 446 c
    p0 = same_at 0 (omega arith)

    p1 : part 462 v ≡ part 462 c
    p1 = same_at 1 (omega arith)

    p2 : part 478 v ≡ part 478 c
    p2 = same_at 2 (omega arith)

    p3 : part 494 v ≡ part 494 c
    p3 = same_at 3 (omega arith)

    indicator : (at : ℕ) → part at v ≡ part at c → IsBootIndicator (slice_index v (at + 0)) → IsBootIndicator (slice_index c (at + 0))
    indicator at same there = subst (λ (n : ℕ). IsBootIndicator n) (index_same at 0 v c (omega arith) same) there

    unborne : BearsProtective c → BearsProtective v
    unfolding BearsProtective
    unborne (inl here) = inl (index_same 446 4 v c (omega arith) p0 ∙ here)
    unborne (inr (inl here)) = inr (inl (index_same 462 4 v c (omega arith) p1 ∙ here))
    unborne (inr (inr (inl here))) = inr (inr (inl (index_same 478 4 v c (omega arith) p2 ∙ here)))
    unborne (inr (inr (inr here))) = inr (inr (inr (index_same 494 4 v c (omega arith) p3 ∙ here)))

    pub head_same : IsMbrSector c × AreRecords new c
    unfolding HasSignature HasBootIndicators
    head_same = (
      record {
        formed = record {
          signature = (
            else_same 510 (omega arith) ∙ is.formed.formed.signature.0,
            else_same 511 (omega arith)
                ∙ is.formed.formed.signature.1,
          );
          boots = (
            indicator 446 p0 is.formed.formed.boots.0,
            indicator 462 p1 is.formed.formed.boots.1,
            indicator 478 p2 is.formed.formed.boots.2,
            indicator 494 p3 is.formed.formed.boots.3,
          );
        };
        plain = λ bears. is.formed.plain (unborne bears);
      },
      record {
        four = is.records.four;
        first = record_same (get_or new 0 None) 446 v c p0 is.records.first;
        second = record_same (get_or new 1 None) 462 v c p1 is.records.second;
        third = record_same (get_or new 2 None) 478 v c p2 is.records.third;
        fourth = record_same (get_or new 3 None) 494 v c p3 is.records.fourth;
      },
    )

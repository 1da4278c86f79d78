-- An extended boot record over one that stands there.
use Rattle.std.proofs.Common.{◌≡◌, ◌≢◌, ℕ, ◌+◌, ◌<◌, ◌≤◌, ◌⊎◌, List, length, take, drop, get_or, Option, Some, None, refl, sym, ap, subst}
use Rattle.std.proofs.Common.{◌∙◌, arith, inl, inr}
use Rattle.std.specs.Prelude.{slice_index}
use Rattle.std.proofs.lemmas.List.{ext_get_or, get_or-drop, get_or-take, length-drop, length-take-le}
use Rattle.pt_sector.specs.declared.address.Lba.{Lba}
use Rattle.pt_mbr.specs.Records.{HasSignature, IsExtendedKind, record_bytes, IsBootIndicator, HasBootIndicators}
use Rattle.pt_mbr.specs.Chain.{EbrBytes, NextIs, HasZeros, HasBadLogical, HasBadLink}
use Rattle.pt_mbr.specs.Changes.{IsChanged}
use Rattle.pt_mbr.proofs.One.{ebr_one}
use Rattle.pt_mbr.specs.declared.record.Record.{Record}
use Rattle.pt_mbr.specs.declared.ebr.Ebr.{Ebr}
use Rattle.pt_cases.specs.Writes.{IsEbrOver, IsRecordTarget, record_at}
use Rattle.pt_planner.proofs.Parts.{part, index_same, number_same, used_same, record_same, target_of, both}

-- bytes that are the same one by one
same_part : (at n : ℕ) (b c : List ℕ) → at + n ≤ length b → length c ≡ length b → ((i : ℕ) → at ≤ i → slice_index c i ≡ slice_index b i)
    → take n (drop at c) ≡ take n (drop at b)
same_part at n b c long count same =
    ext_get_or 0 (take n (drop at c)) (take n (drop at b)) (all c (omega (arith, long, count)) ∙ sym (all b long))
    (λ i lt. each i (let e = all c (omega (arith, long, count)) in omega (arith, lt, e))) where
      all : (x : List ℕ) → at + n ≤ length x → length (take n (drop at x)) ≡ n
      all x fits = length-take-le n (drop at x) (let e = length-drop at x in omega (arith, fits, e))

      each : (i : ℕ) → i < n → get_or (take n (drop at c)) i 0 ≡ get_or (take n (drop at b)) i 0
      each i below =
          get_or-take n (drop at c) i 0 below ∙ get_or-drop at c i 0 ∙ same (at + i) (omega arith) ∙ sym (get_or-drop at b i 0)
          ∙ sym (get_or-take n (drop at b) i 0 below)

next_same : (first : ℕ) (o : Option Lba) (b c : List ℕ) → part 462 b ≡ part 462 c → NextIs first o b → NextIs first o c
next_same first None b c same unused = λ used. unused (used_same 462 c b (sym same) used)
next_same first (Some y) b c same is =
    (used_same 462 b c same is.0, is.1 ∙ ap (λ (n : ℕ). first + n) (number_same 462 8 b c (omega arith) same))

logical_kept : (b c : List ℕ) → part 446 b ≡ part 446 c → HasBadLogical c → HasBadLogical b
unfolding HasBadLogical
logical_kept b c same bad = (used_same 446 c b (sym same) bad.0, kinds bad.1) where
  kind : slice_index c 450 ≡ slice_index b 450
  kind = index_same 446 4 c b (omega arith) (sym same)

  kinds : IsExtendedKind (slice_index c 450) ⊎ (slice_index c 450 ≡ 0xEE) → IsExtendedKind (slice_index b 450) ⊎ (slice_index b 450 ≡ 0xEE)
  kinds (inl extended) = inl (subst (λ (n : ℕ). IsExtendedKind n) kind extended)
  kinds (inr protective) = inr (sym kind ∙ protective)

link_kept : (b c : List ℕ) → part 462 b ≡ part 462 c → HasBadLink c → HasBadLink b
unfolding HasBadLink
link_kept b c same bad = (
  used_same 462 c b (sym same) bad.0,
  λ extended. bad.1 (subst (λ (n : ℕ). IsExtendedKind n) (index_same 462 4 b c (omega arith) same) extended),
)

-- the facts of a sector whose extended boot record was changed
module _ (first : ℕ) (e w : Ebr) (link spec : Option Record) (under c : List ℕ) (was : EbrBytes first e.at w under)
    (other : (i : ℕ) → (i < 446) ⊎ (478 ≤ i) → slice_index c i ≡ slice_index under i)
    (logical : IsChanged (w.logical ≡ e.logical) e.logical 0 under c) (next : IsChanged (w.next ≡ e.next) link 1 under c)
    (bytes : record_bytes link ≡ record_bytes spec) where
  logical_target : IsRecordTarget w.logical e.logical 0 under c
  logical_target = target_of w.logical e.logical 0 under c logical

  next_target : ((w.next ≡ e.next) × (record_at 1 c ≡ record_at 1 under)) ⊎ ((w.next ≢ e.next) × (record_at 1 c ≡ record_bytes spec))
  next_target = by_case next where
    by_case : IsChanged (w.next ≡ e.next) link 1 under c
        → ((w.next ≡ e.next) × (record_at 1 c ≡ record_at 1 under)) ⊎ ((w.next ≢ e.next) × (record_at 1 c ≡ record_bytes spec))
    by_case (inl stays) = inl stays
    by_case (inr new) = inr (new.0, new.1 ∙ bytes)

  pub over_some : length c ≡ length under → EbrBytes first e.at e c → IsEbrOver first e w spec under c
  over_some count reads = record { was = was; reads = reads; count = count; other = other; logical = logical_target; next = next_target }

  next_both : (v : List ℕ)
      → ((w.next ≡ e.next) × (record_at 1 v ≡ record_at 1 under)) ⊎ ((w.next ≢ e.next) × (record_at 1 v ≡ record_bytes spec))
      → ((w.next ≡ e.next) × (record_at 1 c ≡ record_at 1 under)) ⊎ ((w.next ≢ e.next) × (record_at 1 c ≡ record_bytes spec))
      → record_at 1 v ≡ record_at 1 c
  next_both v (inl p) (inl q) = p.1 ∙ sym q.1
  next_both v (inl p) (inr q) = absurd (q.0 p.0)
  next_both v (inr p) (inl q) = absurd (p.0 q.0)
  next_both v (inr p) (inr q) = p.1 ∙ sym q.1

  -- another one over it is read the same way
  over_as : (v : List ℕ) → 512 ≤ length under → length c ≡ length under → IsEbrOver first e w spec under v → EbrBytes first e.at e c
  unfolding HasSignature HasBootIndicators HasZeros
  over_as v long count is = record {
    signature = (above 510 (omega arith) ∙ is.reads.signature.0, above 511 (omega arith) ∙ is.reads.signature.1);
    boots = (
      subst (λ (n : ℕ). IsBootIndicator n) (index_same 446 0 v c (omega arith) p0) is.reads.boots.0,
      subst (λ (n : ℕ). IsBootIndicator n) (index_same 462 0 v c (omega arith) p1) is.reads.boots.1,
      subst (λ (n : ℕ). IsBootIndicator n) (sym (above 478 (omega arith))) is.reads.boots.2,
      subst (λ (n : ℕ). IsBootIndicator n) (sym (above 494 (omega arith))) is.reads.boots.3,
    );
    zeros = same_part 478 32 under c (omega (arith, long)) count (λ i high. other i (inr high)) ∙ was.zeros;
    logical_kind = λ bad. is.reads.logical_kind (logical_kept v c p0 bad);
    link_kind = λ bad. is.reads.link_kind (link_kept v c p1 bad);
    place = refl;
    logical = record_same e.logical 446 v c p0 is.reads.logical;
    next = next_same first e.next v c p1 is.reads.next;
  } where
    above : (i : ℕ) → 478 ≤ i → slice_index c i ≡ slice_index v i
    above i high = other i (inr high) ∙ sym (is.other i (inr high))

    p0 : part 446 v ≡ part 446 c
    p0 = both w.logical e.logical 0 under v c is.logical logical_target

    p1 : part 462 v ≡ part 462 c
    p1 = next_both v is.next next_target

  pub over_same : (x : Ebr) (v : List ℕ) → 512 ≤ length under → length c ≡ length under → IsEbrOver first e x spec under v
      → EbrBytes first e.at e c
  over_same x v long count is =
      over_as v long count (subst (λ (y : Ebr). IsEbrOver first e y spec under v) (ebr_one first e.at x w under is.was was) is)

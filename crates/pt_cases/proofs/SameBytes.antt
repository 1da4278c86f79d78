-- Bytes that sector 0 or an extended boot record must come to hold are one list.
use Rattle.std.proofs.Common.{◌≡◌, ◌∙◌, ◌⊎◌, inl, inr, ⊎_elim, ℕ, ◌+◌, ◌-◌, ◌*◌, ◌<◌, ◌≤◌, List, drop, get_or, Option, None, sym, ap}
use Rattle.std.proofs.Common.{subst, arith}
use Rattle.std.specs.Prelude.{slice_index, slice_range}
use Rattle.std.proofs.lemmas.Bool.{cases_lt}
use Rattle.std.proofs.lemmas.List.{ext_get_or, get_or-drop, get_or-take}
use Rattle.pt_sector.specs.Sectors.{Sectors, sector}
use Rattle.pt_mbr.proofs.Terms.{ebr_is_one}
use Rattle.pt_mbr.specs.declared.ebr.Ebr.{Ebr}
use Rattle.pt_mbr.specs.declared.record.Record.{Record}
use Rattle.pt_cases.specs.Writes.{IsRecordTarget, IsHeadTarget, IsEbrOver, IsEbrTarget, over, made, record_at}

-- a byte of equal parts
in_part : (low high i : ℕ) (x y : List ℕ) → slice_range x low high ≡ slice_range y low high → low ≤ i → i < high
    → slice_index x i ≡ slice_index y i
in_part low high i x y same ge lt =
    let at : low + (i - low) ≡ i = omega (arith, ge) in
    let few : i - low < high - low = omega (arith, ge, lt) in
    subst (λ (k : ℕ). slice_index x k ≡ slice_index y k) at (
    sym (get_or-drop low x (i - low) 0)
    ∙ sym (get_or-take (high - low) (drop low x) (i - low) 0 few)
    ∙ ap (λ (s : List ℕ). get_or s (i - low) 0) same
    ∙ get_or-take (high - low) (drop low y) (i - low) 0 few
    ∙ get_or-drop low y (i - low) 0)

-- a record that must hold something must hold one thing
record_target_one : (old new : Option Record) (k : ℕ) (under v x : List ℕ) → IsRecordTarget old new k under v
    → IsRecordTarget old new k under x → record_at k v ≡ record_at k x
record_target_one old new k under v x (inl p) (inl q) = p.1 ∙ sym q.1
record_target_one old new k under v x (inl p) (inr q) = absurd (q.0 p.0)
record_target_one old new k under v x (inr p) (inl q) = absurd (p.0 q.0)
record_target_one old new k under v x (inr p) (inr q) = p.1 ∙ sym q.1

-- a byte of equal records
in_record : (k i : ℕ) (v x : List ℕ) → record_at k v ≡ record_at k x → 446 + 16 * k ≤ i → i < 462 + 16 * k
    → slice_index v i ≡ slice_index x i
in_record k i v x same ge lt = in_part (446 + 16 * k) (462 + 16 * k) i v x same ge lt

-- sector 0 must hold one list of bytes
pub head_target_one : (old new : List (Option Record)) (under v x : List ℕ) → IsHeadTarget old new under v → IsHeadTarget old new under x
    → v ≡ x
head_target_one old new under v x p q = ext_get_or 0 v x (p.count ∙ sym q.count) (λ i lt. each i)
  where
    one : (k i : ℕ) → k < 4 → 446 + 16 * k ≤ i → i < 462 + 16 * k → slice_index v i ≡ slice_index x i
    one k i few ge lt =
        in_record k i v x (record_target_one (get_or old k None) (get_or new k None) k under v x (p.each k few) (q.each k few)) ge lt

    outside : (i : ℕ) → (i < 446) ⊎ (510 ≤ i) → slice_index v i ≡ slice_index x i
    outside i away = p.other i away ∙ sym (q.other i away)

    each : (i : ℕ) → slice_index v i ≡ slice_index x i
    each i = ⊎_elim
        (λ below. outside i (inl below))
        (λ in_first. ⊎_elim
        (λ first. one 0 i (omega arith) (omega (arith, in_first)) (omega (arith, first)))
        (λ in_second. ⊎_elim
        (λ second. one 1 i (omega arith) (omega (arith, in_second)) (omega (arith, second)))
        (λ in_third. ⊎_elim
        (λ third. one 2 i (omega arith) (omega (arith, in_third)) (omega (arith, third)))
        (λ in_fourth. ⊎_elim
        (λ fourth. one 3 i (omega arith) (omega (arith, in_fourth)) (omega (arith, fourth)))
        (λ behind. outside i (inr behind))
        (cases_lt i 510))
        (cases_lt i 494))
        (cases_lt i 478))
        (cases_lt i 462))
        (cases_lt i 446)

-- so must an extended boot record over an old one
over_one : (first : ℕ) (e w : Ebr) (link : Option Record) (under v x : List ℕ) → IsEbrOver first e w link under v
    → IsEbrOver first e w link under x → v ≡ x
over_one first e w link under v x p q = ext_get_or 0 v x (p.count ∙ sym q.count) (λ i lt. each i)
  where
    logical : record_at 0 v ≡ record_at 0 x
    logical = record_target_one w.logical e.logical 0 under v x p.logical q.logical

    next : record_at 1 v ≡ record_at 1 x
    next = ⊎_elim
        (λ stays. ⊎_elim (λ again. stays.1 ∙ sym again.1) (λ turns. absurd (turns.0 stays.0)) q.next)
        (λ turns. ⊎_elim (λ stays. absurd (turns.0 stays.0)) (λ again. turns.1 ∙ sym again.1) q.next)
        p.next

    outside : (i : ℕ) → (i < 446) ⊎ (478 ≤ i) → slice_index v i ≡ slice_index x i
    outside i away = p.other i away ∙ sym (q.other i away)

    each : (i : ℕ) → slice_index v i ≡ slice_index x i
    each i = ⊎_elim
        (λ below. outside i (inl below))
        (λ in_first. ⊎_elim
        (λ first_one. in_record 0 i v x logical (omega (arith, in_first)) (omega (arith, first_one)))
        (λ in_second. ⊎_elim
        (λ second. in_record 1 i v x next (omega (arith, in_second)) (omega (arith, second)))
        (λ behind. outside i (inr behind))
        (cases_lt i 478))
        (cases_lt i 462))
        (cases_lt i 446)

-- so must the sector of each extended boot record
pub ebr_target_one : (b : ℕ) (d : Sectors) (old : List Ebr) (first : ℕ) (e : Ebr) (link : Option Record) (v x : List ℕ)
    → IsEbrTarget b d old first e link v → IsEbrTarget b d old first e link x → v ≡ x
ebr_target_one b d old first e link v x (over w stands p) (over u there q) =
    let same : w ≡ u = ebr_is_one first e.at w u (sector d e.at.0) p.was q.was in
    over_one first e u link (sector d e.at.0) v x (subst (λ (y : Ebr). IsEbrOver first e y link (sector d e.at.0) v) same p) q
ebr_target_one b d old first e link v x (over w stands p) (made none q) = absurd (none stands)
ebr_target_one b d old first e link v x (made none p) (over u stands q) = absurd (none stands)
ebr_target_one b d old first e link v x (made none p) (made others q) = p.bytes ∙ sym q.bytes

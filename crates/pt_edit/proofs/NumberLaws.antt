-- The laws of numbers, as terms that definitions and proofs above can cite: a new logical partition comes between those
-- of lower and of higher numbers, and one that goes leaves the others in order.
use Rattle.std.specs.Prelude.{◌≡◌, ◌<◌, ◌+◌, ◌-◌, ℕ, zero, suc, List, [], ◌∷◌, ◌++◌, length, take, is_some, Option, Some, None, Ok}
use Rattle.std.specs.Prelude.{if◌then◌else◌}
use Rattle.std.specs.List.{insert, remove}
use Rattle.std.proofs.Common.{sym, ap, refl, subst, ◌∙◌, arith}
use Rattle.std.proofs.lemmas.List.Sums.{sum_by-cons}
use Rattle.pt_mbr.specs.declared.record.Record.{Record}
use Rattle.pt_mbr.specs.declared.ebr.Ebr.{Ebr}
use Rattle.pt_members.specs.declared.layout.Labelled.{Labelled}
use Rattle.pt_members.specs.Members.{used_before}
use Rattle.pt_words.specs.declared.asked.Asked.{Asked}
use Rattle.pt_edit.specs.declared.space.Run.{Run}
use Rattle.pt_edit.specs.Space.{placed}
use Rattle.pt_edit.specs.Chains.{ebr_at, with_logical, with_ebr, len_of, record_for}
use Rattle.pt_edit.specs.Chains.{Logical, logical_in, logicals_of, logical_area, logical_deleted, logical_new, labels_with}
use Rattle.pt_edit.proofs.LinkLaws.{more, with_ebr_is}
use Rattle.pt_edit.proofs.RecordSteps.{Entered, IsPlaceFor, added, logical_deleted_is, logical_new_is, reused}

logical : ℕ → Record → Logical
logical s r = record { at = s; partition = r }

counted : (e : Ebr) (es : List Ebr) (j : ℕ) → used_before (suc j) (e ∷ es) ≡ (if is_some e.logical then 1 else 0) + used_before j es
counted e es j = sum_by-cons (λ (x : Ebr). if is_some x.logical then 1 else 0) e (take j es)

-- what is put in behind the first comes one further with it, where it has a number
put_step : (s : ℕ) (o : Option Record) (old new : List Logical) (m n : ℕ) (x : Logical) → new ≡ insert old m x
    → n ≡ (if is_some o then 1 else 0) + m → logical_in s o ++ new ≡ insert (logical_in s o ++ old) n x
put_step s None old new m n x is count =
    let e : m ≡ n = omega (arith, count) in
    is ∙ ap (λ (k : ℕ). insert old k x) e
put_step s (Some r) old new m n x is count =
    let e : suc m ≡ n = omega (arith, count) in
    ap (λ (l : List Logical). record { at = s; partition = r } ∷ l) is
    ∙ ap (λ (k : ℕ). insert (record { at = s; partition = r } ∷ old) k x) e

cut_step : (s : ℕ) (o : Option Record) (old new : List Logical) (m n : ℕ) → new ≡ remove old m
    → n ≡ (if is_some o then 1 else 0) + m → logical_in s o ++ new ≡ remove (logical_in s o ++ old) n
cut_step s None old new m n is count =
    let e : m ≡ n = omega (arith, count) in
    is ∙ ap (λ (k : ℕ). remove old k) e
cut_step s (Some r) old new m n is count =
    let e : suc m ≡ n = omega (arith, count) in
    ap (λ (l : List Logical). record { at = s; partition = r } ∷ l) is ∙ ap (λ (k : ℕ). remove (record { at = s; partition = r } ∷ old) k) e

filled : (chain : List Ebr) (k : ℕ) (r : Record) → k < length chain → (ebr_at chain k).logical ≡ None
    → logicals_of (with_logical chain k (Some r)) ≡ insert (logicals_of chain) (used_before k chain) (logical (ebr_at chain k).at.0 r)
unfolding logical
filled [] k r within none = absurd (omega arith)
filled (e ∷ es) zero r within none =
    ap (λ (o : Option Record). insert (logical_in e.at.0 o ++ logicals_of es) 0 (record { at = e.at.0; partition = r })) (sym none)
filled (e ∷ es) (suc j) r within none =
    put_step e.at.0 e.logical (logicals_of es) (logicals_of (with_logical es j (Some r))) (used_before j es)
    (used_before (suc j) (e ∷ es)) (logical (ebr_at es j).at.0 r)
    (filled es j r (omega arith) none) (counted e es j)

emptied : (chain : List Ebr) (k : ℕ) (r : Record) → k < length chain → (ebr_at chain k).logical ≡ Some r
    → logicals_of (with_logical chain k None) ≡ remove (logicals_of chain) (used_before k chain)
emptied [] k r within some = absurd (omega arith)
emptied (e ∷ es) zero r within some = ap (λ (o : Option Record). remove (logical_in e.at.0 o ++ logicals_of es) 0) (sym some)
emptied (e ∷ es) (suc j) r within some =
    cut_step e.at.0 e.logical (logicals_of es) (logicals_of (with_logical es j None)) (used_before j es)
    (used_before (suc j) (e ∷ es)) (emptied es j r (omega arith) some) (counted e es j)

put_behind : (chain : List Ebr) (j s : ℕ) (r : Record) → j < length chain
    → logicals_of (more chain j s r) ≡ insert (logicals_of chain) (used_before (suc j) chain) (logical s r)
unfolding more logical
put_behind [] j s r within = absurd (omega arith)
put_behind (e ∷ es) zero s r within =
    put_step e.at.0 e.logical (logicals_of es) (logical s r ∷ logicals_of es) 0 (used_before 1 (e ∷ es)) (logical s r) refl (counted e es 0)
put_behind (e ∷ es) (suc j) s r within =
    put_step e.at.0 e.logical (logicals_of es) (logicals_of (more es j s r)) (used_before (suc j) es)
    (used_before (suc (suc j)) (e ∷ es)) (logical s r)
    (put_behind es j s r (omega arith)) (counted e es (suc j))

put_at : (chain : List Ebr) (k s : ℕ) (r : Record) → IsPlaceFor chain s k
    → logicals_of (with_ebr chain k s r) ≡ insert (logicals_of chain) (used_before k chain) (logical s r)
unfolding logical
put_at chain zero s r place = refl
put_at chain (suc j) s r place = ap logicals_of (with_ebr_is chain j s r) ∙ put_behind chain j s r (omega (arith, place.within))

behind_five : (n m : ℕ) → n ≡ 5 + m → m ≡ n - 5
behind_five n m is = omega arith

pub entered_numbered_lem : (chain : List Ebr) (s : ℕ) (r : Record) (n : ℕ) (made : List Ebr) → Entered chain s r n made
    → logicals_of made ≡ insert (logicals_of chain) (n - 5) (record { at = s; partition = r })
unfolding logical
entered_numbered_lem chain s r n made (reused k empty number is) =
    ap logicals_of is
    ∙ (filled chain k r empty.within empty.here.unused
    ∙ (ap (λ (m : ℕ). insert (logicals_of chain) m (record { at = (ebr_at chain k).at.0; partition = r }))
    (behind_five n (used_before k chain) number)
    ∙ ap (λ (a : ℕ). insert (logicals_of chain) (n - 5) (record { at = a; partition = r })) empty.here.at))
entered_numbered_lem chain s r n made (added k none few place number is) =
    ap logicals_of is
    ∙ (put_at chain k s r place
    ∙ ap (λ (m : ℕ). insert (logicals_of chain) m (record { at = s; partition = r })) (behind_five n (used_before k chain) number))

pub logical_new_numbered_lem : (b : ℕ) (x : Record) (chain : List Ebr) (labels : List Labelled) (a : Asked) (made : List Ebr)
    (left : List Labelled) → logical_new b (Some x) chain labels a ≡ Ok (made, left)
    → (kind number : ℕ) × (run : Run) × (placed (logical_area x chain) a.alignment a.start a.end ≡ Ok run)
    × (logicals_of made ≡ insert (logicals_of chain) (number - 5) (record { at = run.first - 1; partition = record_for kind (len_of run) }))
    × (left ≡ labels_with b kind (len_of run) number labels)
logical_new_numbered_lem b x chain labels a made left is =
    let y = logical_new_is b (Some x) chain labels a made left is in
    let parent = y.is_parent in
    let same : y.parent ≡ x = cc in (
      y.kind,
      y.number,
      y.place,
      subst (λ (r : Record). placed (logical_area r chain) a.alignment a.start a.end ≡ Ok y.place) same y.placed,
      entered_numbered_lem chain (y.place.first - 1) (record_for y.kind (len_of y.place)) y.number made y.entered,
      y.moved,
    )

pub logical_deleted_numbered_lem : (number : ℕ) (chain : List Ebr) (labels : List Labelled) (made : List Ebr) (left : List Labelled)
    → logical_deleted number chain labels ≡ Ok (made, left) → logicals_of made ≡ remove (logicals_of chain) (number - 5)
logical_deleted_numbered_lem number chain labels made left is =
    let x = logical_deleted_is number chain labels made left is in
    ap logicals_of x.is
    ∙ (emptied chain x.place x.partition x.is_logical.within x.is_logical.has
    ∙ ap (λ (m : ℕ). remove (logicals_of chain) m) (behind_five number (used_before x.place chain) (sym x.is_logical.counted)))

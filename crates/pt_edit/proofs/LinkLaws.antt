-- The laws of chains as disks have them, as terms that definitions and proofs above can cite: edits leave such chains.
use Rattle.std.specs.Prelude.{Ok}
use Rattle.std.specs.Prelude.{◌≡◌, ◌≢◌, ◌<◌, ◌≤◌, ◌+◌, ◌-◌, ℕ, zero, suc, Bool, false, List, [], ◌∷◌, length, flat_map, Contains}
use Rattle.std.specs.Prelude.{option_map, slice_get, slice_set, Option, Some, None, if◌then◌else◌}
use Rattle.std.specs.List.{insert}
use Rattle.std.proofs.Common.{sym, ap, subst, refl, ◌∙◌, arith, inl, inr}
use Rattle.std.proofs.lemmas.Bool.{ne_eqb}
use Rattle.std.proofs.lemmas.Option.{none-some}
use Rattle.std.proofs.lemmas.List.Elements.{Contains-append_left, Contains-append_right, Contains-append_cases, Contains-push_cases}
use Rattle.pt_sector.specs.Sectors.{Sectors, Span}
use Rattle.pt_sector.specs.declared.address.Lba.{Lba}
use Rattle.pt_mbr.specs.Chain.{lba, IsUpward, Walk, Chain}
use Rattle.pt_mbr.specs.declared.record.Record.{Record}
use Rattle.pt_mbr.specs.declared.ebr.Ebr.{Ebr}
use Rattle.pt_members.specs.declared.layout.Labelled.{Labelled}
use Rattle.pt_members.specs.Members.{logicals_as}
use Rattle.pt_edit.specs.declared.space.Run.{Run}
use Rattle.pt_edit.specs.Space.{IsInRuns, IsFreeRun, Placed, taken_by}
use Rattle.pt_edit.proofs.Placing.{placed_is_free_lem}
use Rattle.pt_words.specs.declared.word.Code.{Code}
use Rattle.pt_words.specs.declared.word.End.{End}
use Rattle.pt_edit.specs.Chains.{ebr_at, with_logical, with_ebr}
use Rattle.pt_edit.specs.Chains.{own_sector, taken_of, empty_sector, logical_area, len_of, record_for}
use Rattle.pt_edit.specs.Chains.{IsLinked}
use Rattle.pt_edit.proofs.RecordSteps.{Entered, IsEmptyIn, IsPlaceFor, LogicalNew, NoEmptyIn, added, logical_deleted_is, logical_new_is}
use Rattle.pt_edit.proofs.RecordSteps.{logical_typed_is, reused}
use Rattle.pt_words.specs.declared.asked.Asked.{Asked}
use Rattle.pt_edit.specs.Chains.{logical_deleted, logical_new, logical_typed}

-- another logical partition, or none, changes no link
kept : (chain : List Ebr) (from : Option Lba) (k : ℕ) (o : Option Record) → k < length chain → IsLinked from chain
    → IsLinked from (with_logical chain k o)
kept [] from k o within x = absurd (omega arith)
kept (e ∷ es) from zero o within x = (x.0, x.1, x.2)
kept (e ∷ es) from (suc k) o within x = (x.0, x.1, kept es e.next k o (omega arith) x.2)

-- the chain with one more behind the one at a place
unfoldable pub more : List Ebr → ℕ → ℕ → Record → List Ebr
more chain j s r =
    insert (slice_set chain j (record (ebr_at chain j) { next = Some (lba s) })) (suc j)
    (record { at = lba s; logical = Some r; next = (ebr_at chain j).next })

shaped : List Ebr → ℕ → ℕ → Record → Bool → ℕ → List Ebr
shaped chain j s r c i =
    insert (if c then chain else slice_set chain i (record (ebr_at chain i) { next = Some (lba s) })) (suc j)
    (record {
      at = lba s;
      logical = Some r;
      next = if c then option_map (λ (e : Ebr). e.at) (slice_get chain 0)
          else (ebr_at chain i).next;
    })

pub with_ebr_is : (chain : List Ebr) (j s : ℕ) (r : Record) → with_ebr chain (suc j) s r ≡ more chain j s r
unfolding more shaped
with_ebr_is chain j s r =
    let some : ¬ (suc j ≡ 0) = omega arith in
    let back : suc j - 1 ≡ j = omega arith in
    ap (λ (c : Bool). shaped chain j s r c (suc j - 1)) (ne_eqb (suc j) 0 some) ∙ ap (λ (i : ℕ). shaped chain j s r false i) back

-- what comes behind a sector that is below it is above it
next_up : (es : List Ebr) (to : Option Lba) (s : ℕ) → IsLinked to es → (0 < length es → s < (ebr_at es 0).at.0) → IsUpward (lba s) to
next_up [] to s x above = subst (λ (o : Option Lba). IsUpward (lba s) o) (sym x) tt
next_up (f ∷ fs) to s x above = subst (λ (o : Option Lba). IsUpward (lba s) o) (sym x.0) (above (omega arith))

linked_more : (chain : List Ebr) (from : Option Lba) (j s : ℕ) (r : Record) → j < length chain → IsLinked from chain
    → (ebr_at chain j).at.0 < s → (suc j < length chain → s < (ebr_at chain (suc j)).at.0) → IsLinked from (more chain j s r)
unfolding more
linked_more [] from j s r within x below above = absurd (omega arith)
linked_more (e ∷ es) from zero s r within x below above = (x.0, below, (refl, next_up es e.next s x.2 (λ some. above (omega arith)), x.2))
linked_more (e ∷ es) from (suc j) s r within x below above =
    (x.0, x.1, linked_more es e.next j s r (omega arith) x.2 below (λ some. above (omega arith)))

-- where a chain begins
begins : (chain : List Ebr) (at : Lba) → IsLinked (Some at) chain → (0 < length chain) × (at ≡ (ebr_at chain 0).at)
begins [] at x = absurd (none-some at (sym x))
begins (e ∷ es) at x = let same = x.0 in let first : at ≡ e.at = cc in (omega arith, first)

-- the place of a sector above the first
pub added_linked_lem : (chain : List Ebr) (low s : ℕ) (r : Record) (k : ℕ) → IsLinked (Some (lba low)) chain → low ≤ s
    → ((i : ℕ) → i < length chain → (ebr_at chain i).at.0 ≢ s) → IsPlaceFor chain s k → IsLinked (Some (lba low)) (with_ebr chain k s r)
added_linked_lem chain low s r zero x below apart place =
    let start = begins chain (lba low) x in
    let at = ap (λ (a : Lba). a.0) start.1 in
    absurd (apart 0 start.0 (omega (arith, at, place.behind start.0)))
added_linked_lem chain low s r (suc j) x below apart place =
    subst (λ (l : List Ebr). IsLinked (Some (lba low)) l) (sym (with_ebr_is chain j s r))
    (linked_more chain (Some (lba low)) j s r (omega (arith, place.within)) x (place.before j (omega arith))
    (λ some. omega (arith, place.behind some, apart (suc j) some)))

abbrev own_run : ℕ → Run
own_run s = record { first = s; last = s }

own_listed : (chain : List Ebr) (i : ℕ) → i < length chain → Contains (flat_map own_sector chain) (own_run (ebr_at chain i).at.0)
own_listed [] i within = absurd (omega arith)
own_listed (e ∷ es) zero within =
    Contains-append_left (own_sector e) (flat_map own_sector es) (own_run e.at.0) (0, omega arith, refl)
own_listed (e ∷ es) (suc i) within =
    Contains-append_right (own_sector e) (flat_map own_sector es) (own_run (ebr_at es i).at.0) (own_listed es i (omega arith))

-- a sector that isn't taken is none of a chain's records
pub not_own : (chain : List Ebr) (s i : ℕ) → i < length chain → ¬ IsInRuns (taken_of chain) s → (ebr_at chain i).at.0 ≢ s
not_own chain s i within free same =
    let at = (ebr_at chain i).at.0 in
    free (
      own_run at,
      Contains-append_right (taken_by (logicals_as 512 5 chain)) (flat_map own_sector chain) (own_run at)
          (own_listed chain i within),
      (omega (arith, same), omega (arith, same)),
    )

none_in : (s : ℕ) → ¬ Contains {X = ℕ} [] s
none_in s x = omega (arith, x.1)

in_one : (s at : ℕ) → Contains (at ∷ []) s → at ≡ s
in_one s at x = elim (Contains-push_cases [] at s x) [ inl y ↦ absurd (none_in s y) | inr y ↦ y ]

sector_of : ℕ → Option Record → List ℕ
sector_of at o = elim o as (λ p. List ℕ) [ None ↦ at ∷ [] | Some r ↦ [] ]

empty_as : (e : Ebr) (s : ℕ) (o : Option Record) → e.logical ≡ o → Contains (sector_of e.at.0 o) s → IsEmptyIn s e
unfolding sector_of
empty_as e s None is x = record { at = in_one s e.at.0 x; unused = is }
empty_as e s (Some r) is x = absurd (none_in s x)

empty_here : (e : Ebr) (s : ℕ) → Contains (empty_sector e) s → IsEmptyIn s e
unfolding sector_of
empty_here e s x = empty_as e s e.logical refl x

-- the sectors of empty ones are theirs
empty_there : (chain : List Ebr) (s : ℕ) → NoEmptyIn chain s → Contains (flat_map empty_sector chain) s → ⊥
empty_there [] s none x = none_in s x
empty_there (e ∷ es) s none x = elim (Contains-append_cases (empty_sector e) (flat_map empty_sector es) s x) [
  | inl y ↦ none 0 (omega arith) (empty_here e s y)
  | inr y ↦ empty_there es s (λ k within. none (suc k) (omega arith)) y
]

-- the record of a new logical partition comes to a sector of its own, or to an empty one's
apart_from : (x : Record) (chain : List Ebr) (alignment start : ℕ) (end : End) (p : Run)
    → Placed (logical_area x chain) alignment start end p → NoEmptyIn chain (p.first - 1) → (i : ℕ) → i < length chain
    → (ebr_at chain i).at.0 ≢ p.first - 1
apart_from x chain alignment start end p placed none i within same =
    let free : IsFreeRun (logical_area x chain) p = placed_is_free_lem (logical_area x chain) alignment start end p placed in
    let led = free.leads in
    let next : led.0 + 1 ≡ p.first = led.1 in
    let here : led.0 ≡ p.first - 1 = omega (arith, next) in
    elim led.2.1 [
      | inl not ↦ not_own chain led.0 i within not (omega (arith, same, here))
      | inr has ↦ empty_there chain (p.first - 1) none (subst (λ (n : ℕ). Contains (flat_map empty_sector chain) n) here has)
    ]

above_low : (x : Record) (chain : List Ebr) (alignment start : ℕ) (end : End) (p : Run)
    → Placed (logical_area x chain) alignment start end p → x.start ≤ p.first - 1
above_low x chain alignment start end p placed =
    let free : IsFreeRun (logical_area x chain) p = placed_is_free_lem (logical_area x chain) alignment start end p placed in
    let led = free.leads in
    let next : led.0 + 1 ≡ p.first = led.1 in
    let low : x.start ≤ led.0 = led.2.0.0 in
    omega (arith, next, low)

entered_linked : (x : Record) (chain : List Ebr) (alignment start : ℕ) (end : End) (p : Run) (r : Record) (n : ℕ) (made : List Ebr)
    → Placed (logical_area x chain) alignment start end p
    → IsLinked (Some (lba x.start)) chain → Entered chain (p.first - 1) r n made → IsLinked (Some (lba x.start)) made
entered_linked x chain alignment start end p r n made placed linked (reused k empty number is) =
    subst (λ (l : List Ebr). IsLinked (Some (lba x.start)) l) (sym is) (kept chain (Some (lba x.start)) k (Some r) empty.within linked)
entered_linked x chain alignment start end p r n made placed linked (added k none few place number is) =
    subst (λ (l : List Ebr). IsLinked (Some (lba x.start)) l) (sym is)
    (added_linked_lem chain x.start (p.first - 1) r k linked (above_low x chain alignment start end p placed)
    (apart_from x chain alignment start end p placed none) place)

new_linked : (b : ℕ) (x : Record) (chain : List Ebr) (labels : List Labelled) (alignment start : ℕ) (end : End)
    (code : Option Code) (made : List Ebr) (left : List Labelled)
    → LogicalNew b (Some x) chain labels alignment start end code made left → IsLinked (Some (lba x.start)) chain
    → IsLinked (Some (lba x.start)) made
new_linked b x chain labels alignment start end code made left y linked =
    let is = y.is_parent in
    let same : y.parent ≡ x = cc in
    entered_linked x chain alignment start end y.place (record_for y.kind (len_of y.place)) y.number made
    (subst (λ (p : Record). Placed (logical_area p chain) alignment start end y.place) same y.placed) linked y.entered

pub logical_new_linked_lem : (b : ℕ) (x : Record) (chain : List Ebr) (labels : List Labelled) (a : Asked) (made : List Ebr)
    (left : List Labelled) → logical_new b (Some x) chain labels a ≡ Ok (made, left) → IsLinked (Some (lba x.start)) chain
    → IsLinked (Some (lba x.start)) made
logical_new_linked_lem b x chain labels a made left is linked =
    new_linked b x chain labels a.alignment a.start a.end a.code made left (logical_new_is b (Some x) chain labels a made left is) linked

pub logical_typed_linked_lem : (b number : ℕ) (code : Code) (chain made : List Ebr) (from : Option Lba)
    → logical_typed b number code chain ≡ Ok made → IsLinked from chain → IsLinked from made
logical_typed_linked_lem b number code chain made from is linked =
    let x = logical_typed_is b number code chain made is in
    subst (λ (l : List Ebr). IsLinked from l) (sym x.is)
    (kept chain from x.place (Some (record x.partition { kind = x.kind })) x.is_logical.within linked)

pub logical_deleted_linked_lem : (number : ℕ) (chain : List Ebr) (labels : List Labelled) (made : List Ebr) (left : List Labelled)
    (from : Option Lba) → logical_deleted number chain labels ≡ Ok (made, left) → IsLinked from chain → IsLinked from made
logical_deleted_linked_lem number chain labels made left from is linked =
    let x = logical_deleted_is number chain labels made left is in
    subst (λ (l : List Ebr). IsLinked from l) (sym x.is) (kept chain from x.place None x.is_logical.within linked)

walk_linked : (d : Sectors) (x : Span) (from : Option Lba) (list : List Ebr) → Walk d x from list None → IsLinked from list
walk_linked d x from [] walk = walk
walk_linked d x None (e ∷ es) walk = absurd walk
walk_linked d x (Some at) (e ∷ es) walk =
    let same : e.at ≡ at = walk.0.bytes.place in
    (ap (λ (a : Lba). Some a) (sym same), subst (λ (a : Lba). IsUpward a e.next) (sym same) walk.1, walk_linked d x e.next es walk.2)

-- the chains of disks are such ones
pub chain_linked_lem : (d : Sectors) (x : Span) (list : List Ebr) → Chain d x list → IsLinked (Some (lba x.first)) list
chain_linked_lem d x list chain = walk_linked d x (Some (lba x.first)) list chain.whole

-- Lemmas on specs/Chains.antt: records that lie on the disk and share no sector, and that `n` keeps them so.
use Rattle.std.specs.Prelude.{◌≡◌, ◌≢◌, ◌≤◌, ◌<◌, ◌⊎◌, ◌+◌, ◌-◌, ℕ, zero, suc, List, [], ◌∷◌, length, option_map, slice_index_or}
use Rattle.std.specs.Prelude.{slice_set, min, Contains, Option, Some, None, Ok}
use Rattle.std.proofs.Common.{◌∙◌, sym, subst, refl, inl, inr, arith}
use Rattle.std.proofs.lemmas.Bool.{cases_eq, cases_lt, le-leb}
use Rattle.std.proofs.lemmas.Option.{none-some}
use Rattle.std.proofs.lemmas.List.{get_or-set_same, get_or-set_other, get_or_past, length-set}
use Rattle.std.proofs.lemmas.List.Concat.{flat_map-cons}
use Rattle.std.proofs.lemmas.List.Elements.{Contains-append_left, Contains-append_right}
use Rattle.pt_mbr.specs.declared.record.Record.{Record}
use Rattle.pt_mbr.specs.declared.ebr.Ebr.{Ebr}
use Rattle.pt_members.specs.declared.layout.Layout.{Layout}
use Rattle.pt_members.specs.Members.{record_member, records_as}
use Rattle.pt_words.specs.declared.word.Code.{Code}
use Rattle.pt_words.specs.declared.word.End.{End}
use Rattle.pt_edit.specs.declared.space.Run.{Run}
use Rattle.pt_edit.specs.Space.{IsInRuns, IsFree, IsFreeRun, span_of, spanned_by}
use Rattle.pt_edit.proofs.Placing.{placed_is_free_lem}
use Rattle.pt_edit.specs.Records.{with_record}
use Rattle.pt_words.specs.declared.asked.Asked.{Asked}
use Rattle.pt_edit.specs.MbrEdits.{disk_area, record_at, record_new}
use Rattle.pt_edit.specs.Chains.{InRecord, LieApart, RecordsLieApart}
use Rattle.pt_edit.proofs.RecordSteps.{NewIn, has_record, new_is, new_logical, new_record, record_used}

run_at : Record → Run
run_at r = record { first = r.start; last = r.start + r.size - 1 }

-- what a record's place takes, by its number
span_at : ℕ → Option Record → List Run
span_at n o = span_of (option_map (record_member 512 n) o)

own_run : (n : ℕ) (r : Record) → r.size ≢ 0 → Contains (span_at n (Some r)) (run_at r)
unfolding run_at span_at
own_run n r some = rw (le-leb r.start (r.start + r.size - 1) (omega (arith, some))) (0, omega arith, refl)

first_run : (n : ℕ) (o : Option Record) (r : Record) → o ≡ Some r → r.size ≢ 0 → Contains (span_at n o) (run_at r)
first_run n o r is some = subst (λ (p : Option Record). Contains (span_at n p) (run_at r)) (sym is) (own_run n r some)

contains_run : (n : ℕ) (records : List (Option Record)) (i : ℕ) (r : Record) → slice_index_or records i None ≡ Some r → r.size ≢ 0
    → Contains (spanned_by (records_as 512 n records)) (run_at r)
unfolding records_as span_at
contains_run n [] i r is some = absurd (none-some r (sym (get_or_past [] i None (omega arith)) ∙ is))
contains_run n (o ∷ os) zero r is some =
    rw (flat_map-cons span_of (option_map (record_member 512 n) o) (records_as 512 (n + 1) os))
    (Contains-append_left (span_at n o) (spanned_by (records_as 512 (n + 1) os)) (run_at r) (first_run n o r is some))
contains_run n (o ∷ os) (suc i) r is some =
    rw (flat_map-cons span_of (option_map (record_member 512 n) o) (records_as 512 (n + 1) os))
    (Contains-append_right (span_at n o) (spanned_by (records_as 512 (n + 1) os)) (run_at r) (contains_run (n + 1) os i r is some))

-- the sectors of used records are taken
taken_in : (records : List (Option Record)) (k s : ℕ) → InRecord records k s → IsInRuns (spanned_by (records_as 512 1 records)) s
unfolding run_at
taken_in records k s i =
    let from : i.part.start ≤ s = i.from in
    let to : s < i.part.start + i.part.size = i.to in (
      run_at i.part,
      contains_run 1 records (k - 1) i.part (has_record records k i.part i.is_record).used (λ z. omega (arith, from, to, z)),
      (from, omega (arith, from, to)),
    )

-- a sector of the records after one more is in that one, or in one that was there
InNew : List (Option Record) → ℕ → Record → ℕ → ℕ → Type 0
InNew old number x j s = ((j ≡ number) × (x.start ≤ s) × (s < x.start + x.size)) ⊎ InRecord old j s

set_there : (old : List (Option Record)) (i : ℕ) (x r : Record) → (i < length old) ⊎ (length old ≤ i)
    → slice_index_or (slice_set old i (Some x)) i None ≡ Some r → x ≡ r
set_there old i x r (inl within) is = let e : Some x ≡ Some r = sym (get_or-set_same old i (Some x) None within) ∙ is in cc
set_there old i x r (inr past) is =
    let far : length (slice_set old i (Some x)) ≤ i = rw (length-set old i (Some x)) past in
    absurd (none-some r (sym (get_or_past (slice_set old i (Some x)) i None far) ∙ is))

split_new : (old : List (Option Record)) (number : ℕ) (x : Record) (j s : ℕ) → 1 ≤ number → (j ≡ number) ⊎ (j ≡ number → ⊥)
    → InRecord (with_record old number (Some x)) j s → InNew old number x j s
unfolding InNew
split_new old number x j s least (inl same) i =
    let has = has_record (with_record old number (Some x)) j i.part i.is_record in
    let at : slice_index_or (with_record old number (Some x)) (number - 1) None ≡ Some i.part =
    subst (λ (k : ℕ). slice_index_or (with_record old number (Some x)) (k - 1) None ≡ Some i.part) same has.used in
    let is : x ≡ i.part = set_there old (number - 1) x i.part (cases_lt (number - 1) (length old)) at in
    inl (same, subst (λ (r : Record). r.start ≤ s) (sym is) i.from, subst (λ (r : Record). s < r.start + r.size) (sym is) i.to)
split_new old number x j s least (inr other) i =
    let has = has_record (with_record old number (Some x)) j i.part i.is_record in
    let first : 1 ≤ j = has.primary.0 in
    let apart : (j - 1) ≢ (number - 1) = λ same. other (omega (arith, same, first, least)) in
    inr (record {
      part = i.part;
      is_record = record_used old j i.part (record {
        primary = has.primary;
        used = sym (get_or-set_other old (number - 1) (j - 1) (Some x) None apart) ∙ has.used;
      });
      from = i.from;
      to = i.to;
    })

-- a sector of the new record is on the disk, and in no used record
new_free : (n : ℕ) (records : List (Option Record)) (kind : ℕ) (run : Run) (s : ℕ) → IsFreeRun (disk_area n records) run
    → (record_at kind run).start ≤ s → s < (record_at kind run).start + (record_at kind run).size → IsFree (disk_area n records) s
new_free n records kind run s free from to =
    let some : run.first ≤ run.last = free.some in
    let low : run.first ≤ s = from in
    let high : s < run.first + (run.last - run.first + 1) = to in
    free.free s (low, omega (arith, some, high))

kept_inside : (n : ℕ) (records : List (Option Record)) (number kind : ℕ) (run : Run) (k s : ℕ) → LieApart n records
    → IsFreeRun (disk_area n records) run → InNew records number (record_at kind run) k s → (1 ≤ s) × (s < n)
unfolding InNew
kept_inside n records number kind run k s old free (inl (is, from, to)) =
    let usable = (new_free n records kind run s free from to).0 in
    let low : 1 ≤ s = usable.0 in
    let high : s ≤ min (n - 1) 4294967295 = usable.1 in
    (low, omega (arith, low, high))
kept_inside n records number kind run k s old free (inr i) = old.inside k s i

kept_one : (n : ℕ) (records : List (Option Record)) (number kind : ℕ) (run : Run) (j k s : ℕ) → LieApart n records
    → IsFreeRun (disk_area n records) run
    → InNew records number (record_at kind run) j s → InNew records number (record_at kind run) k s → j ≡ k
unfolding InNew
kept_one n records number kind run j k s old free (inl (is, from, to)) (inl (so, low, high)) = is ∙ sym so
kept_one n records number kind run j k s old free (inl (is, from, to)) (inr i) =
    absurd ((new_free n records kind run s free from to).1 (taken_in records k s i))
kept_one n records number kind run j k s old free (inr i) (inl (so, low, high)) =
    absurd ((new_free n records kind run s free low high).1 (taken_in records j s i))
kept_one n records number kind run j k s old free (inr i) (inr h) = old.one j k s i h

kept_apart : (n : ℕ) (records : List (Option Record)) (number kind : ℕ) (run : Run) → 1 ≤ number → LieApart n records
    → IsFreeRun (disk_area n records) run → LieApart n (with_record records number (Some (record_at kind run)))
kept_apart n records number kind run least old free =
    let split : (k s : ℕ) → InRecord (with_record records number (Some (record_at kind run))) k s
    → InNew records number (record_at kind run) k s =
    λ k s i. split_new records number (record_at kind run) k s least (cases_eq k number) i in
    record {
      inside = λ k s i. kept_inside n records number kind run k s old free (split k s i);
      one = λ j k s i h. kept_one n records number kind run j k s old free (split j s i) (split k s h);
    }

new_in_apart : (b asked alignment start : ℕ) (end : End) (code : Option Code) (o : Layout) (records : List (Option Record))
    (chain : List Ebr) (p : Layout)
    → NewIn b asked alignment start end code o records chain p → LieApart o.sectors records → RecordsLieApart p
new_in_apart b asked alignment start end code o records chain p (new_record other x) old =
    let free = placed_is_free_lem (disk_area o.sectors records) alignment start end x.run x.placed in
    subst RecordsLieApart (sym x.made) (kept_apart o.sectors records x.number x.kind x.run x.unused.primary.0 old free)
new_in_apart b asked alignment start end code o records chain p (new_logical made labels five x is) old = subst RecordsLieApart (sym is) old

-- records that lie apart still do after `n`
pub new_apart_lem : (b : ℕ) (a : Asked) (records : List (Option Record)) (chain : List Ebr) (o p : Layout)
    → record_new b a records chain o ≡ Ok p → LieApart o.sectors records → RecordsLieApart p
new_apart_lem b a records chain o p is old =
    new_in_apart b a.number a.alignment a.start a.end a.code o records chain p (new_is b a records chain o p is) old

-- What the words on an MBR found on the way to what they made.
use Rattle.std.specs.Prelude.{◌≡◌, ◌≢◌, ◌<◌, ◌≤◌, ◌-◌, ◌^◌, ◌⊎◌, ℕ, Bool, true, false, not, cond, List, [], length, Option, Some}
use Rattle.std.specs.Prelude.{None}
use Rattle.std.specs.Prelude.{Ok, Err, slice_index_or, nat_eq, nat_le, nat_lt, ◌||◌, ok_or, is_some, is_none, find}
use Rattle.std.specs.Prelude.{option_map}
use Rattle.std.specs.Prelude.{option_and_then, unwrap_or}
use Rattle.std.specs.List.{range_with_len}
use Rattle.std.proofs.Common.{refl, sym, ap, subst, inl, inr, arith}
use Rattle.std.proofs.lemmas.Bool.{and_from, and_parts, both_ways, eq-eqb, eqb-true, eqb-false, le-leb, leb-true, leb-false, lt-ltb}
use Rattle.std.proofs.lemmas.Bool.{or_left, or_parts, or_right}
use Rattle.pt_mbr.specs.declared.record.Record.{Record}
use Rattle.pt_mbr.specs.declared.ebr.Ebr.{Ebr}
use Rattle.pt_mbr.specs.Records.{is_extended}
use Rattle.pt_members.specs.declared.layout.Labelled.{Labelled}
use Rattle.pt_members.specs.declared.layout.Layout.{Layout}
use Rattle.pt_words.specs.declared.asked.Asked.{Asked}
use Rattle.pt_words.specs.declared.error.Refusal.TheVariants.{NoSuchPartition, UnknownCode, ContainerType, NoSpace, NumberTaken}
use Rattle.pt_words.specs.declared.word.Code.{Code}
use Rattle.pt_words.specs.declared.word.End.{End}
use Rattle.pt_edit.specs.declared.space.Run.{Run}
use Rattle.pt_edit.specs.Space.{Placed, placed}
use Rattle.pt_edit.specs.SliceLabels.{lowered, without_label, without_logicals}
use Rattle.pt_edit.specs.Records.{record_type, new_type, is_slice, is_container, is_primary, used_record, with_record, with_mbr, is_unused}
use Rattle.pt_edit.specs.Records.{lowest_unused, number_for}
use Rattle.pt_edit.specs.Chains.{ebr_at, number_at, is_numbered, place_of, logical_of, with_logical, logical_typed, logical_deleted}
use Rattle.pt_edit.specs.Chains.{is_empty_in}
use Rattle.pt_edit.specs.Chains.{empty_at, place_for, with_ebr, entered_at, entered, logical_area, len_of, record_for, is_misfit}
use Rattle.pt_edit.specs.Chains.{labels_with}
use Rattle.pt_edit.specs.Chains.{logical_new}
use Rattle.pt_edit.specs.MbrEdits.{primary_typed, record_typed, without_record, primary_deleted, record_deleted, extended_record, is_second}
use Rattle.pt_edit.specs.MbrEdits.{disk_area, is_short_slice, record_at, new_chain, new_labels, primary_new, one_more, record_new}
use Rattle.pt_edit.proofs.Ranges.{below_found, in_range, passed_by}
use Rattle.pt_edit.proofs.Steps.{bound, given_ok, if_false, if_true, none_is, only_ok, same_ok, unless_ok}

-- ## Records by their numbers.

-- the numbers of the records of sector 0
abbrev pub IsPrimary : ℕ → Type 0
IsPrimary number = (1 ≤ number) × (number ≤ 4)

-- the used record of a number
pub record HasRecord (records : List (Option Record)) (number : ℕ) (r : Record) : Type 0 where
  pub primary : IsPrimary number
  pub used : slice_index_or records (number - 1) None ≡ Some r

-- a number of no used record
pub record IsUnusedNumber (records : List (Option Record)) (number : ℕ) : Type 0 where
  pub primary : IsPrimary number
  pub unused : slice_index_or records (number - 1) None ≡ None

pub primary_is : (number : ℕ) → is_primary number ≡ true → IsPrimary number
primary_is number is =
    let (low, high) = and_parts (nat_le 1 number) (nat_le number 4) is in (leb-true 1 number low, leb-true number 4 high)

pub is_primary_of : (number : ℕ) → IsPrimary number → is_primary number ≡ true
is_primary_of number (low, high) = and_from (nat_le 1 number) (nat_le number 4) (le-leb 1 number low) (le-leb number 4 high)

pub has_record : (records : List (Option Record)) (number : ℕ) (r : Record) → used_record records number ≡ Some r
    → HasRecord records number r
has_record records number r is = by_case (is_primary number) refl where
  by_case : (t : Bool) → is_primary number ≡ t → HasRecord records number r
  by_case true primary = record { primary = primary_is number primary; used = rw primary at is }
  by_case false other = let was : None ≡ Some r = rw other at is in absurd cc

pub record_used : (records : List (Option Record)) (number : ℕ) (r : Record) → HasRecord records number r
    → used_record records number ≡ Some r
record_used records number r has = rw (is_primary_of number has.primary) has.used

pub unused_is : (records : List (Option Record)) (number : ℕ) → is_unused records number ≡ true → IsUnusedNumber records number
unused_is records number is =
    let (primary, none) = and_parts (is_primary number) (is_none (slice_index_or records (number - 1) None)) is in
    record { primary = primary_is number primary; unused = none_is _ none }

pub number_unused : (records : List (Option Record)) (asked number : ℕ) → number_for records asked ≡ Ok number
    → IsUnusedNumber records number
number_unused records asked number is = by_case (nat_eq asked 0) refl where
  by_case : (t : Bool) → nat_eq asked 0 ≡ t → IsUnusedNumber records number
  by_case true zero =
      let found = given_ok (lowest_unused records) NoSpace number (rw zero at is) in
      unused_is records number (in_range (is_unused records) 1 4 number found).2
  by_case false some =
      let (primary, rest) = unless_ok (not (is_primary asked)) NoSuchPartition _ number (rw some at is) in
      let (unused, same) = only_ok (is_unused records asked) NumberTaken asked number rest in
      unused_is records number (subst (λ (n : ℕ). is_unused records n ≡ true) same unused)

-- ## Logical partitions.

-- the logical partition of a number: the place of its extended boot record, and its record
pub record IsLogical (chain : List Ebr) (number k : ℕ) (r : Record) : Type 0 where
  pub within : k < length chain
  pub has : (ebr_at chain k).logical ≡ Some r
  pub counted : number_at chain k ≡ number

pub logical_is : (chain : List Ebr) (number : ℕ) (x : ℕ × Record) → logical_of chain number ≡ Some x → IsLogical chain number x.0 x.1
unfolding logical_of
logical_is chain number x is = by_place (place_of chain number) refl is where
  by_record : (k : ℕ) (o : Option Record) → place_of chain number ≡ Some k → (ebr_at chain k).logical ≡ o
      → option_map (λ (r : Record). (k, r)) o ≡ Some x → IsLogical chain number x.0 x.1
  by_record k None at none done = absurd cc
  by_record k (Some r) at has done =
      let same : (k, r) ≡ x = cc in
      let (low, within, test) = in_range (is_numbered chain number) 0 (length chain) k at in
      let parts = and_parts (is_some (ebr_at chain k).logical) (nat_eq (number_at chain k) number) test in
      subst (λ (y : ℕ × Record). IsLogical chain number y.0 y.1) same
      (record { within = omega arith; has = has; counted = eqb-true (number_at chain k) number parts.1 })

  by_place : (o : Option ℕ) → place_of chain number ≡ o
      → option_and_then (λ (k : ℕ). option_map (λ (r : Record). (k, r)) (ebr_at chain k).logical) o ≡ Some x
      → IsLogical chain number x.0 x.1
  by_place None none done = absurd cc
  by_place (Some k) at done = by_record k (ebr_at chain k).logical at refl done

-- `t` of a logical partition: it has another type, neither is a container's, and nothing else changes
pub record LogicalTyped (b number : ℕ) (code : Code) (chain made : List Ebr) : Type 0 where
  pub place : ℕ
  pub partition : Record
  pub kind : ℕ
  pub is_logical : IsLogical chain number place partition
  pub known : record_type code ≡ Some kind
  pub old : is_container b partition.kind ≡ false
  pub new : is_container b kind ≡ false
  pub is : made ≡ with_logical chain place (Some (record partition { kind = kind }))

-- `d` of a logical partition: its extended boot record stays in the chain, empty, and each higher one has the number
-- below its own, with its label
pub record LogicalDeleted (number : ℕ) (chain : List Ebr) (labels : List Labelled) (made : List Ebr) (left : List Labelled) : Type 0 where
  pub place : ℕ
  pub partition : Record
  pub is_logical : IsLogical chain number place partition
  pub is : made ≡ with_logical chain place None
  pub moved : left ≡ lowered number labels

pub logical_typed_is : (b number : ℕ) (code : Code) (chain made : List Ebr) → logical_typed b number code chain ≡ Ok made
    → LogicalTyped b number code chain made
unfolding logical_typed
logical_typed_is b number code chain made is =
    let (x, one, rest) = bound (ok_or (logical_of chain number) NoSuchPartition) _ made is in
    let (kind, two, more) = bound (ok_or (record_type code) UnknownCode) _ made rest in
    let (plain, same) = unless_ok (is_container b x.1.kind || is_container b kind) ContainerType _ made more in
    let (old, new) = or_parts (is_container b x.1.kind) (is_container b kind) plain in
    record {
      place = x.0;
      partition = x.1;
      kind = kind;
      is_logical = logical_is chain number x (given_ok (logical_of chain number) NoSuchPartition x one);
      known = given_ok (record_type code) UnknownCode kind two;
      old = old;
      new = new;
      is = same_ok _ made same;
    }

pub logical_deleted_is : (number : ℕ) (chain : List Ebr) (labels : List Labelled) (made : List Ebr) (left : List Labelled)
    → logical_deleted number chain labels ≡ Ok (made, left) → LogicalDeleted number chain labels made left
unfolding logical_deleted
logical_deleted_is number chain labels made left is =
    let (x, one, same) = bound (ok_or (logical_of chain number) NoSuchPartition) _ (made, left) is in
    record {
      place = x.0;
      partition = x.1;
      is_logical = logical_is chain number x (given_ok (logical_of chain number) NoSuchPartition x one);
      is = ap (λ (y : List Ebr × List Labelled). y.0) (same_ok _ (made, left) same);
      moved = ap (λ (y : List Ebr × List Labelled). y.1) (same_ok _ (made, left) same);
    }

-- ## How a new one enters a chain.

-- it stands in the sector, and has no logical partition
pub record IsEmptyIn (s : ℕ) (e : Ebr) : Type 0 where
  pub at : e.at.0 ≡ s
  pub unused : e.logical ≡ None

-- the first such one of a chain
pub record IsEmptyAt (chain : List Ebr) (s k : ℕ) : Type 0 where
  pub within : k < length chain
  pub here : IsEmptyIn s (ebr_at chain k)

-- none stands in the sector
abbrev pub NoEmptyIn : List Ebr → ℕ → Type 0
NoEmptyIn chain s = (k : ℕ) → k < length chain → ¬ IsEmptyIn s (ebr_at chain k)

-- the place by its sector: behind those that stand below it, up to the first that doesn't
pub record IsPlaceFor (chain : List Ebr) (s k : ℕ) : Type 0 where
  pub within : k ≤ length chain
  pub before : (j : ℕ) → j < k → (ebr_at chain j).at.0 < s
  pub behind : k < length chain → s ≤ (ebr_at chain k).at.0

-- a chain with one more logical partition, behind a sector, and its number: the empty extended boot record that stands
-- in the sector has it, or else a new one, which is at most the 128th
pub data Entered (chain : List Ebr) (s : ℕ) (r : Record) (number : ℕ) (made : List Ebr) : Type 0 where
  reused : (k : ℕ) → IsEmptyAt chain s k → number ≡ number_at chain k → made ≡ with_logical chain k (Some r) → Entered chain s r number made
  added : (k : ℕ) → NoEmptyIn chain s → length chain < 128 → IsPlaceFor chain s k → number ≡ number_at chain k
      → made ≡ with_ebr chain k s r → Entered chain s r number made

-- a slice without a sector for its label, or longer than its label can tell
pub record IsMisfit (b kind len : ℕ) : Type 0 where
  pub slice : is_slice b kind ≡ true
  pub sectors : (len < 2) ⊎ (2 ^ 32 ≤ len)

-- the type of a new logical partition: no extended one's
pub record NewKind (code : Option Code) (kind : ℕ) : Type 0 where
  pub known : new_type code ≡ Some kind
  pub plain : is_extended kind ≡ false

-- a logical partition is put into the chain, behind the sector before it, and its number into the labels
pub record LogicalNew (b : ℕ) (extended : Option Record) (chain : List Ebr) (labels : List Labelled) (alignment start : ℕ) (end : End)
    (code : Option Code) (made : List Ebr) (left : List Labelled) : Type 0 where
  pub parent : Record
  pub kind : ℕ
  pub place : Run
  pub number : ℕ
  pub is_parent : extended ≡ Some parent
  pub typed : NewKind code kind
  pub placed : Placed (logical_area parent chain) alignment start end place
  pub fits : ¬ IsMisfit b kind (len_of place)
  pub entered : Entered chain (place.first - 1) (record_for kind (len_of place)) number made
  pub moved : left ≡ labels_with b kind (len_of place) number labels

empty_is : (s : ℕ) (e : Ebr) → is_empty_in s e ≡ true → IsEmptyIn s e
empty_is s e is =
    let (at, none) = and_parts (nat_eq e.at.0 s) (is_none e.logical) is in record { at = eqb-true e.at.0 s at; unused = none_is _ none }

is_empty : (s : ℕ) (e : Ebr) → IsEmptyIn s e → is_empty_in s e ≡ true
is_empty s e x = and_from (nat_eq e.at.0 s) (is_none e.logical) (eq-eqb e.at.0 s x.at) (ap (λ (o : Option Record). is_none o) x.unused)

place_is : (chain : List Ebr) (s : ℕ) → IsPlaceFor chain s (place_for chain s)
place_is chain s = by_place (find p (range_with_len 0 (length chain))) refl where
  p : ℕ → Bool
  p k = nat_le s (ebr_at chain k).at.0

  by_place : (o : Option ℕ) → find p (range_with_len 0 (length chain)) ≡ o → IsPlaceFor chain s (unwrap_or o (length chain))
  by_place None none = record {
    within = omega arith;
    before = λ j lt. leb-false s (ebr_at chain j).at.0 (passed_by p 0 (length chain) j none (omega arith) (omega arith));
    behind = λ lt. absurd (omega arith);
  }
  by_place (Some k) at = let (low, within, test) = in_range p 0 (length chain) k at in record {
    within = omega arith;
    before = λ j lt. leb-false s (ebr_at chain j).at.0 (below_found p 0 (length chain) k j at (omega arith) lt);
    behind = λ lt. leb-true s (ebr_at chain k).at.0 test;
  }

entered_is : (chain : List Ebr) (s : ℕ) (r : Record) (made : List Ebr × ℕ) → entered chain s r ≡ Ok made
    → Entered chain s r made.1 made.0
unfolding entered
entered_is chain s r made is = by_place (empty_at chain s) refl is where
  p : ℕ → Bool
  p k = is_empty_in s (ebr_at chain k)

  by_place : (o : Option ℕ) → empty_at chain s ≡ o → entered_at chain s r o ≡ Ok made → Entered chain s r made.1 made.0
  by_place (Some k) at done =
      let (low, within, test) = in_range p 0 (length chain) k at in
      let same = same_ok _ made done in
      reused k (record { within = omega arith; here = empty_is s (ebr_at chain k) test }) (ap (λ (x : List Ebr × ℕ). x.1) same)
      (ap (λ (x : List Ebr × ℕ). x.0) same)
  by_place None none done =
      let (few, rest) = unless_ok (nat_le 128 (length chain)) NoSpace _ made done in
      let same = same_ok _ made rest in
      added (place_for chain s)
      (λ k within here.
      both_ways (p k) (passed_by p 0 (length chain) k none (omega arith) (omega arith)) (is_empty s (ebr_at chain k) here))
      (leb-false 128 (length chain) few) (place_is chain s) (ap (λ (x : List Ebr × ℕ). x.1) same)
      (ap (λ (x : List Ebr × ℕ). x.0) same)

fits_is : (b kind len : ℕ) → is_misfit b kind len ≡ false → IsMisfit b kind len → ⊥
fits_is b kind len is bad =
    let wrong : (nat_lt len 2 || nat_le (2 ^ 32) len) ≡ true = elim bad.sectors as (λ _. (nat_lt len 2 || nat_le (2 ^ 32) len) ≡ true) [
      | inl short ↦ or_left _ _ (lt-ltb len 2 short)
      | inr long ↦ or_right (nat_lt len 2) _ (le-leb (2 ^ 32) len long)
    ] in
    both_ways (is_misfit b kind len) is (and_from (is_slice b kind) _ bad.slice wrong)

pub logical_new_is : (b : ℕ) (extended : Option Record) (chain : List Ebr) (labels : List Labelled) (a : Asked) (made : List Ebr)
    (left : List Labelled) → logical_new b extended chain labels a ≡ Ok (made, left)
    → LogicalNew b extended chain labels a.alignment a.start a.end a.code made left
unfolding logical_new
logical_new_is b extended chain labels a made left is =
    let (parent, one, rest) = bound (ok_or extended NoSuchPartition) _ (made, left) is in
    let (kind, two, more) = bound (ok_or (new_type a.code) UnknownCode) _ (made, left) rest in
    let (run, three, after) =
    bound (cond (is_extended kind) (Err ContainerType) (placed (logical_area parent chain) a.alignment a.start a.end))
    _ (made, left) more in
    let (plain, place) = unless_ok (is_extended kind) ContainerType _ run three in
    let (new, four, same) =
    bound (cond (is_misfit b kind (len_of run)) (Err ContainerType) (entered chain (run.first - 1) (record_for kind (len_of run))))
    _ (made, left) after in
    let (fits, put) = unless_ok (is_misfit b kind (len_of run)) ContainerType _ new four in
    let whole = same_ok (new.0, labels_with b kind (len_of run) new.1 labels) (made, left) same in
    let first : made ≡ new.0 = ap (λ (x : List Ebr × List Labelled). x.0) whole in
    record {
      parent = parent;
      kind = kind;
      place = run;
      number = new.1;
      is_parent = given_ok extended NoSuchPartition parent one;
      typed = record { known = given_ok (new_type a.code) UnknownCode kind two; plain = plain };
      placed = place;
      fits = fits_is b kind (len_of run) fits;
      entered = subst (λ (l : List Ebr). Entered chain (run.first - 1) (record_for kind (len_of run)) new.1 l) (sym first)
          (entered_is chain (run.first - 1) (record_for kind (len_of run)) new put);
      moved = ap (λ (x : List Ebr × List Labelled). x.1) whole;
    }

-- ## Records and logical partitions.

-- a record has another type, and neither is a container's; nothing else changes
pub record PrimaryTyped (b number : ℕ) (code : Code) (old new : List (Option Record)) : Type 0 where
  pub found : Record
  pub kind : ℕ
  pub is_record : HasRecord old number found
  pub known : record_type code ≡ Some kind
  pub plain : is_container b found.kind ≡ false
  pub stays : is_container b kind ≡ false
  pub made : new ≡ with_record old number (Some (record found { kind = kind }))

-- `t` of a record or of a logical partition
pub data TypedIn (b number : ℕ) (code : Code) (o : Layout) (records : List (Option Record)) (chain : List Ebr) (p : Layout) : Type 0 where
  typed_record : (made : List (Option Record)) → PrimaryTyped b number code records made → p ≡ with_mbr o made chain o.labels
      → TypedIn b number code o records chain p
  typed_logical : (made : List Ebr) → ¬ IsPrimary number → LogicalTyped b number code chain made
      → p ≡ with_mbr o records made o.labels → TypedIn b number code o records chain p

-- a record goes, with the label of its number; an extended one also with its chain and the logical partitions' labels
pub data PrimaryDeleted (number : ℕ) (o : Layout) (records : List (Option Record)) (chain : List Ebr) (p : Layout) : Type 0 where
  plain : (r : Record) → HasRecord records number r → is_extended r.kind ≡ false
      → p ≡ with_mbr o (with_record records number None) chain (without_label number o.labels) → PrimaryDeleted number o records chain p
  extended : (r : Record) → HasRecord records number r → is_extended r.kind ≡ true
      → p ≡ with_mbr o (with_record records number None) [] (without_logicals (without_label number o.labels))
      → PrimaryDeleted number o records chain p

-- `d` of a record or of a logical partition
pub data DeletedIn (number : ℕ) (o : Layout) (records : List (Option Record)) (chain : List Ebr) (p : Layout) : Type 0 where
  deleted_record : PrimaryDeleted number o records chain p → DeletedIn number o records chain p
  deleted_logical : (made : List Ebr) (labels : List Labelled) → ¬ IsPrimary number
      → LogicalDeleted number chain o.labels made labels → p ≡ with_mbr o records made labels → DeletedIn number o records chain p

-- a new record
pub record RecordMade (b asked alignment start : ℕ) (end : End) (code : Option Code) (o : Layout) (records : List (Option Record))
    (chain : List Ebr) (p : Layout) : Type 0 where
  pub number : ℕ
  pub kind : ℕ
  pub run : Run
  pub unused : IsUnusedNumber records number
  pub known : new_type code ≡ Some kind
  pub lone : is_second records kind ≡ false
  pub placed : Placed (disk_area o.sectors records) alignment start end run
  pub enough : is_short_slice b kind run ≡ false
  pub made : p ≡ with_mbr o (with_record records number (Some (record_at kind run))) (new_chain kind run chain)
      (new_labels b number kind run o.labels)

-- a new record or logical partition
pub data NewIn (b asked alignment start : ℕ) (end : End) (code : Option Code) (o : Layout) (records : List (Option Record))
    (chain : List Ebr) (p : Layout) : Type 0 where
  new_record : asked ≢ one_more → RecordMade b asked alignment start end code o records chain p
      → NewIn b asked alignment start end code o records chain p
  new_logical : (made : List Ebr) (labels : List Labelled) → asked ≡ one_more
      → LogicalNew b (extended_record records) chain o.labels alignment start end code made labels
      → p ≡ with_mbr o records made labels → NewIn b asked alignment start end code o records chain p

primary_typed_is : (b number : ℕ) (code : Code) (records made : List (Option Record)) → primary_typed b number code records ≡ Ok made
    → PrimaryTyped b number code records made
unfolding primary_typed
primary_typed_is b number code records made is =
    let (r, one, rest) = bound (ok_or (used_record records number) NoSuchPartition) _ made is in
    let (kind, two, more) = bound (ok_or (record_type code) UnknownCode) _ made rest in
    let (apart, done) = unless_ok (is_container b r.kind || is_container b kind) ContainerType _ made more in
    let (old, new) = or_parts (is_container b r.kind) (is_container b kind) apart in
    record {
      found = r;
      kind = kind;
      is_record = has_record records number r (given_ok (used_record records number) NoSuchPartition r one);
      known = given_ok (record_type code) UnknownCode kind two;
      plain = old;
      stays = new;
      made = same_ok _ made done;
    }

pub typed_is : (b number : ℕ) (code : Code) (records : List (Option Record)) (chain : List Ebr) (o p : Layout)
    → record_typed b number code records chain o ≡ Ok p → TypedIn b number code o records chain p
unfolding record_typed
typed_is b number code records chain o p is = by_case (is_primary number) refl where
  by_case : (t : Bool) → is_primary number ≡ t → TypedIn b number code o records chain p
  by_case true primary =
      let (made, whole, same) =
      bound (primary_typed b number code records) _ p (if_true (is_primary number) _ _ p primary is) in
      typed_record made (primary_typed_is b number code records made whole) (same_ok _ p same)
  by_case false other =
      let (made, whole, same) = bound (logical_typed b number code chain) _ p (if_false (is_primary number) _ _ p other is) in
      typed_logical made (λ primary. both_ways (is_primary number) other (is_primary_of number primary))
      (logical_typed_is b number code chain made whole) (same_ok _ p same)

primary_deleted_is : (number : ℕ) (records : List (Option Record)) (chain : List Ebr) (o p : Layout)
    → primary_deleted number records chain o ≡ Ok p → PrimaryDeleted number o records chain p
unfolding primary_deleted
primary_deleted_is number records chain o p is =
    let (r, one, same) = bound (ok_or (used_record records number) NoSuchPartition) _ p is in
    by_kind (is_extended r.kind) r (has_record records number r (given_ok (used_record records number) NoSuchPartition r one)) refl
    (same_ok _ p same) where
      by_kind : (t : Bool) (r : Record) → HasRecord records number r → is_extended r.kind ≡ t → p ≡ without_record number t records chain o
          → PrimaryDeleted number o records chain p
      by_kind true r has kind made = extended r has kind made
      by_kind false r has kind made = plain r has kind made

pub deleted_is : (number : ℕ) (records : List (Option Record)) (chain : List Ebr) (o p : Layout)
    → record_deleted number records chain o ≡ Ok p → DeletedIn number o records chain p
unfolding record_deleted
deleted_is number records chain o p is = by_case (is_primary number) refl where
  by_case : (t : Bool) → is_primary number ≡ t → DeletedIn number o records chain p
  by_case true primary =
      deleted_record (primary_deleted_is number records chain o p (if_true (is_primary number) _ _ p primary is))
  by_case false other =
      let (x, whole, same) = bound (logical_deleted number chain o.labels) _ p (if_false (is_primary number) _ _ p other is) in
      deleted_logical x.0 x.1 (λ primary. both_ways (is_primary number) other (is_primary_of number primary))
      (logical_deleted_is number chain o.labels x.0 x.1 whole) (same_ok _ p same)

pub new_is : (b : ℕ) (a : Asked) (records : List (Option Record)) (chain : List Ebr) (o p : Layout)
    → record_new b a records chain o ≡ Ok p → NewIn b a.number a.alignment a.start a.end a.code o records chain p
unfolding record_new primary_new
new_is b a records chain o p is = by_case (nat_eq a.number one_more) refl where
  by_case : (t : Bool) → nat_eq a.number one_more ≡ t → NewIn b a.number a.alignment a.start a.end a.code o records chain p
  by_case true five =
      let (x, whole, same) = bound (logical_new b (extended_record records) chain o.labels a) _ p (rw five at is) in
      new_logical x.0 x.1 (eqb-true a.number one_more five)
      (logical_new_is b (extended_record records) chain o.labels a x.0 x.1 whole) (same_ok _ p same)
  by_case false other =
      let (number, one, rest) = bound (number_for records a.number) _ p (rw other at is) in
      let (kind, two, more) = bound (ok_or (new_type a.code) UnknownCode) _ p rest in
      let (run, three, after) =
      bound (cond (is_second records kind) (Err ContainerType) (placed (disk_area o.sectors records) a.alignment a.start a.end)) _ p more in
      let (lone, place) = unless_ok (is_second records kind) ContainerType _ run three in
      let (enough, same) = unless_ok (is_short_slice b kind run) ContainerType _ p after in
      new_record (eqb-false a.number one_more other) (record {
        number = number;
        kind = kind;
        run = run;
        unused = number_unused records a.number number one;
        known = given_ok (new_type a.code) UnknownCode kind two;
        lone = lone;
        placed = place;
        enough = enough;
        made = same_ok _ p same;
      })

-- What words keep, one after the other.
use Rattle.std.specs.Prelude.{◌≡◌, ◌<◌, ◌+◌, ◌*◌, ◌^◌, ℕ, cond, nat_lt, List, [], ◌∷◌, Option, Some, None, Result, Ok, Err, ok_or}
use Rattle.std.specs.Prelude.{slice_get}
use Rattle.std.specs.String.{string_bytes}
use Rattle.std.proofs.Common.{refl, sym, ap, subst}
use Rattle.std.proofs.lemmas.Bool.{ltb-false}
use Rattle.pt_gpt.specs.Copies.{array_len}
use Rattle.pt_words.specs.declared.error.Refusal.{Refusal}
use Rattle.pt_words.specs.declared.error.Refusal.TheVariants.{NotForThisTable, NoFreshGuid, NoRoomForGpt}
use Rattle.pt_guid.specs.declared.guid.Guid.{Guid}
use Rattle.pt_gpt.specs.declared.table.Table.{Table}
use Rattle.pt_mbr.specs.declared.record.Record.{Record}
use Rattle.pt_mbr.specs.declared.ebr.Ebr.{Ebr}
use Rattle.pt_members.specs.declared.layout.Layout.{Layout}
use Rattle.pt_members.specs.declared.layout.Body.{Body}
use Rattle.pt_members.specs.declared.layout.Body.TheVariants.{Mbr, Gpt}
use Rattle.pt_words.specs.declared.word.Code.{Code}
use Rattle.pt_words.specs.declared.word.End.{End}
use Rattle.pt_words.specs.declared.word.Edit.{Edit}
use Rattle.pt_words.specs.declared.word.Edit.TheVariants.{Align, New, Delete, SetKind, SetName, SetUnique, SetDisk, SetBit, Extend, ToGpt}
use Rattle.pt_words.specs.declared.word.Edit.TheVariants.{Empty}
use Rattle.pt_words.specs.declared.asked.Asked.{Asked}
use Rattle.pt_cases.specs.Writes.{Shaped}
use Rattle.pt_cases.specs.Keeps.{Keeps}
use Rattle.pt_kept.specs.Old.{MayBe}
use Rattle.pt_cases.proofs.Terms.{keeps_refl, keeps_trans}
use Rattle.pt_kept.proofs.Parts.{keeps_part}
use Rattle.pt_kept.proofs.Logicals.{keeps_logical_typed, keeps_logical_deleted}
use Rattle.pt_kept.proofs.NewLogicals.{keeps_logical_new}
use Rattle.pt_kept.proofs.Records.{keeps_record_typed, keeps_record_deleted}
use Rattle.pt_kept.proofs.NewRecords.{keeps_record_new}
use Rattle.pt_kept.proofs.GptWords.{keeps_changed, keeps_disk, keeps_extended, keeps_typed, keeps_deleted, keeps_made, keeps_empty}
use Rattle.pt_kept.proofs.Conversion.{keeps_converted}
use Rattle.pt_edit.specs.Edited.{State, initial, emptied, in_kind, typed, deleted, made, asked_for, made_of, step_of, step, edited_from}
use Rattle.pt_edit.specs.Edited.{Edited}
use Rattle.pt_edit.proofs.EntrySteps as entries
use Rattle.pt_edit.proofs.RecordSteps as records
use Rattle.pt_edit.proofs.ConvertSteps.{converted_is}
use Rattle.pt_edit.proofs.LabelSteps.{deleted_made, new_made, typed_made}
use Rattle.pt_edit.proofs.Steps.{bound, given_ok, same_ok, unless_ok}
use Rattle.pt_edit.proofs.RecordSteps.{DeletedIn, NewIn, TypedIn, deleted_logical, deleted_record, new_logical, new_record, typed_logical}
use Rattle.pt_edit.proofs.RecordSteps.{typed_record}

-- what a word makes of an MBR or of a GPT
by_kind : (o p : Layout) (C : Type 0) (f : List (Option Record) → List Ebr → Result Layout Refusal) (g : Table → Result Layout Refusal)
    → in_kind o.body f g ≡ Ok p
    → ((rs : List (Option Record)) (chain : List Ebr) → o.body ≡ Mbr rs chain → f rs chain ≡ Ok p → C)
    → ((t : Table) → o.body ≡ Gpt t → g t ≡ Ok p → C) → C
by_kind o p C f g is mbr gpt = by_body o.body refl is where
  by_body : (y : Body) → o.body ≡ y → in_kind y f g ≡ Ok p → C
  by_body (Mbr rs chain) same holds = mbr rs chain same holds
  by_body (Gpt t) same holds = gpt t same holds

typed_kept : (b number : ℕ) (code : Code) (o p : Layout) (rs : List (Option Record)) (chain : List Ebr) → Shaped b o
    → o.body ≡ Mbr rs chain → TypedIn b number code o rs chain p → Keeps b o.sectors (Some o) p
typed_kept b number code o p rs chain shaped is (typed_record made typed so) =
    subst (λ (q : Layout). Keeps b o.sectors (Some o) q) (sym so) (keeps_record_typed b number code o rs made chain shaped is typed)
typed_kept b number code o p rs chain shaped is (typed_logical made other typed so) =
    subst (λ (q : Layout). Keeps b o.sectors (Some o) q) (sym so) (keeps_logical_typed b number code o rs chain made shaped is typed)

deleted_kept : (b number : ℕ) (o p : Layout) (rs : List (Option Record)) (chain : List Ebr) → Shaped b o → o.body ≡ Mbr rs chain
    → DeletedIn number o rs chain p → Keeps b o.sectors (Some o) p
deleted_kept b number o p rs chain shaped is (deleted_record gone) = keeps_record_deleted b number o p rs chain shaped is gone
deleted_kept b number o p rs chain shaped is (deleted_logical made labels other gone so) =
    subst (λ (q : Layout). Keeps b o.sectors (Some o) q) (sym so) (keeps_logical_deleted b number o rs chain made labels shaped is gone)

new_kept : (b asked alignment start : ℕ) (end : End) (code : Option Code) (o p : Layout) (rs : List (Option Record))
    (chain : List Ebr) → Shaped b o → o.body ≡ Mbr rs chain → NewIn b asked alignment start end code o rs chain p
    → Keeps b o.sectors (Some o) p
new_kept b asked alignment start end code o p rs chain shaped is (new_record other made) =
    keeps_record_new b asked alignment start end code o p rs chain shaped is made
new_kept b asked alignment start end code o p rs chain shaped is (new_logical made labels five new so) =
    subst (λ (q : Layout). Keeps b o.sectors (Some o) q) (sym so)
    (keeps_logical_new b alignment start end code o rs chain made labels shaped is new)

-- `t`, `d` and `n` by the path
path_typed : (b number : ℕ) (letter : Option ℕ) (code : Code) (o p : Layout) → Shaped b o → typed b number letter code o ≡ Ok p
    → Keeps b o.sectors (Some o) p
unfolding typed
path_typed b number (Some letter) code o p shaped is = keeps_part b number letter o p shaped (typed_made b number letter code o p is)
path_typed b number None code o p shaped is =
    by_kind o p (Keeps b o.sectors (Some o) p) _ _ is
    (λ rs chain at it. typed_kept b number code o p rs chain shaped at (records.typed_is b number code rs chain o p it))
    (λ t at it. keeps_typed b number code o p t shaped at (entries.typed_is b t number code o p it))

path_deleted : (b number : ℕ) (letter : Option ℕ) (o p : Layout) → Shaped b o → deleted b number letter o ≡ Ok p
    → Keeps b o.sectors (Some o) p
unfolding deleted
path_deleted b number (Some letter) o p shaped is = keeps_part b number letter o p shaped (deleted_made b number letter o p is)
path_deleted b number None o p shaped is =
    by_kind o p (Keeps b o.sectors (Some o) p) _ _ is
    (λ rs chain at it. deleted_kept b number o p rs chain shaped at (records.deleted_is number rs chain o p it))
    (λ t at it. keeps_deleted b number o p t shaped at (entries.deleted_is t number o p it))

path_made : (b : ℕ) (letter : Option ℕ) (a : Asked) (fresh : List Guid) (o p : Layout) → o.sectors < 2 ^ 63 → Shaped b o
    → made b letter a fresh o ≡ Ok p → Keeps b o.sectors (Some o) p
unfolding made
path_made b (Some letter) a fresh o p small shaped is = keeps_part b a.number letter o p shaped (new_made b letter a o p is)
path_made b None a fresh o p small shaped is =
    by_kind o p (Keeps b o.sectors (Some o) p) _ _ is
    (λ rs chain at it. new_kept b a.number a.alignment a.start a.end a.code o p rs chain shaped at (records.new_is b a rs chain o p it))
    (λ t at it. keeps_made b a o p t small shaped at (entries.new_is b t a fresh o p it))

-- what a word makes of a layout keeps of it
pub word_keeps : (b alignment : ℕ) (fresh : List Guid) (w : Edit) (o p : Layout) → o.sectors < 2 ^ 63 → Shaped b o
    → made_of b alignment fresh w o ≡ Ok p → Keeps b o.sectors (Some o) p
unfolding made_of
word_keeps b alignment fresh (New path start end code) o p small shaped is =
    path_made b path.letter (asked_for path.number alignment start end code) fresh o p small shaped is
word_keeps b alignment fresh (Delete path) o p small shaped is = path_deleted b path.number path.letter o p shaped is
word_keeps b alignment fresh (SetKind path code) o p small shaped is = path_typed b path.number path.letter code o p shaped is
word_keeps b alignment fresh (SetName number name) o p small shaped is =
    keeps_changed b number _ o p (λ e. refl) (λ e. refl) (λ e. refl) shaped (entries.named_is number (string_bytes name) o p is)
word_keeps b alignment fresh (SetUnique number guid) o p small shaped is =
    keeps_changed b number _ o p (λ e. refl) (λ e. refl) (λ e. refl) shaped (entries.unique_is number guid o p is)
word_keeps b alignment fresh (SetDisk guid) o p small shaped is = keeps_disk b guid o p shaped (entries.disk_is guid o p is)
word_keeps b alignment fresh (SetBit number bit value) o p small shaped is =
    keeps_changed b number _ o p (λ e. refl) (λ e. refl) (λ e. refl) shaped (entries.bit_is number bit value o p is)
word_keeps b alignment fresh Extend o p small shaped is = keeps_extended b o p shaped (entries.extended_is b o p is)
word_keeps b alignment fresh ToGpt o p small shaped is = keeps_converted b fresh o p shaped (converted_is b fresh o p is)
word_keeps b alignment fresh (Align k) o p small shaped is = cc
word_keeps b alignment fresh Empty o p small shaped is = cc

-- what the words so far made keeps of the old layout; without one there was none
abbrev LayoutKept : ℕ → ℕ → Option Layout → Option Layout → Type 0
LayoutKept b n old None = old ≡ None
LayoutKept b n old (Some o) = Keeps b n old o

of_kept : (b n : ℕ) (old : Option Layout) (w : Edit) (s t : State) → n < 2 ^ 63 → LayoutKept b n old s.layout
    → step_of b w s ≡ Ok t → LayoutKept b n old t.layout
unfolding step_of
of_kept b n old w s t small kept is =
    let (o, one, rest) = bound (ok_or s.layout NotForThisTable) _ t is in
    let (p, two, same) = bound (made_of b s.alignment s.fresh w o) _ t rest in
    let x : Keeps b n old o = subst (LayoutKept b n old) (given_ok s.layout NotForThisTable o one) kept in
    let y : Keeps b o.sectors (Some o) p =
    word_keeps b s.alignment s.fresh w o p (subst (λ (k : ℕ). k < 2 ^ 63) (sym x.sectors) small) x.shaped two in
    subst (LayoutKept b n old) (sym (ap (λ (u : State). u.layout) (same_ok _ t same)))
    (keeps_trans b n old o p x (subst (λ (k : ℕ). Keeps b k (Some o) p) x.sectors y))

step_kept : (b n : ℕ) (old : Option Layout) (w : Edit) (s t : State) → n < 2 ^ 63 → LayoutKept b n old s.layout → step b n w s ≡ Ok t
    → LayoutKept b n old t.layout
unfolding emptied
step_kept b n old (Align k) s t small kept is = subst (LayoutKept b n old) (sym (ap (λ (u : State). u.layout) (same_ok _ t is))) kept
step_kept b n old Empty s t small kept is =
    let (guid, one, same) =
    bound (cond (nat_lt n (2 * array_len b + 4)) (Err NoRoomForGpt) (ok_or (slice_get s.fresh 0) NoFreshGuid)) _ t is in
    let (room, there) = unless_ok (nat_lt n (2 * array_len b + 4)) NoRoomForGpt _ guid one in
    subst (LayoutKept b n old) (sym (ap (λ (u : State). u.layout) (same_ok _ t same)))
    (keeps_empty b n guid old (ltb-false n (2 * array_len b + 4) room))
step_kept b n old (New path start end code) s t small kept is = of_kept b n old (New path start end code) s t small kept is
step_kept b n old (Delete path) s t small kept is = of_kept b n old (Delete path) s t small kept is
step_kept b n old (SetKind path code) s t small kept is = of_kept b n old (SetKind path code) s t small kept is
step_kept b n old (SetName number name) s t small kept is = of_kept b n old (SetName number name) s t small kept is
step_kept b n old (SetUnique number guid) s t small kept is = of_kept b n old (SetUnique number guid) s t small kept is
step_kept b n old (SetDisk guid) s t small kept is = of_kept b n old (SetDisk guid) s t small kept is
step_kept b n old (SetBit number bit value) s t small kept is = of_kept b n old (SetBit number bit value) s t small kept is
step_kept b n old Extend s t small kept is = of_kept b n old Extend s t small kept is
step_kept b n old ToGpt s t small kept is = of_kept b n old ToGpt s t small kept is

from_kept : (b n : ℕ) (old : Option Layout) (ws : List Edit) (s : State) (p : Layout) → n < 2 ^ 63 → LayoutKept b n old s.layout
    → edited_from b n ws s ≡ Ok p → Keeps b n old p
unfolding edited_from
from_kept b n old [] s p small kept is = subst (LayoutKept b n old) (given_ok s.layout NotForThisTable p is) kept
from_kept b n old (w ∷ ws) s p small kept is =
    let (t, one, rest) = bound (step b n w s) (edited_from b n ws) p is in
    from_kept b n old ws t p small (step_kept b n old w s t small kept one) rest

begins : (b n : ℕ) (old : Option Layout) → MayBe b n old → LayoutKept b n old old
begins b n None is = refl
begins b n (Some o) is = subst (λ (k : ℕ). Keeps b k (Some o) o) is.0 (keeps_refl b o is.1)

-- what words make of a layout that a disk may denote, or of nothing
pub edit_keeps_lem : (b n : ℕ) (old : Option Layout) (words : List Edit) (guids : List Guid) (p : Layout) → n < 2 ^ 63
    → MayBe b n old → Edited b n old words guids (Ok p) → Keeps b n old p
edit_keeps_lem b n old words guids p small may edited =
    from_kept b n old words (initial b old guids) p small (begins b n old may) (sym edited)

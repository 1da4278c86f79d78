-- A word takes no more fresh GUIDs than are left.
use Rattle.std.proofs.Common.{◌≡◌, ◌≤◌, ℕ, List, length, Option, Some, None, arith}
use Rattle.std.specs.Prelude.{Result, Ok, slice_get, ok_or}
use Rattle.std.proofs.lemmas.Option.{slice_get_within}
use Rattle.pt_guid.specs.declared.guid.Guid.{Guid}
use Rattle.pt_gpt.specs.declared.table.Table.{Table}
use Rattle.pt_mbr.specs.declared.ebr.Ebr.{Ebr}
use Rattle.pt_mbr.specs.declared.record.Record.{Record}
use Rattle.pt_members.specs.declared.layout.Body.{Body}
use Rattle.pt_members.specs.declared.layout.Body.TheVariants.{Mbr, Gpt}
use Rattle.pt_members.specs.declared.layout.Layout.{Layout}
use Rattle.pt_words.specs.declared.asked.Asked.{Asked}
use Rattle.pt_words.specs.declared.error.Refusal.{Refusal}
use Rattle.pt_words.specs.declared.error.Refusal.TheVariants.{NoFreshGuid}
use Rattle.pt_words.specs.declared.word.Edit.{Edit}
use Rattle.pt_words.specs.declared.word.Edit.TheVariants.{Align, New, Delete, SetKind, SetName, SetUnique, SetDisk, SetBit, Extend, ToGpt}
use Rattle.pt_words.specs.declared.word.Edit.TheVariants.{Empty}
use Rattle.pt_edit.specs.Entries.{entry_place, entry_new}
use Rattle.pt_edit.specs.Edited.{in_kind, made, asked_for, made_of, taken_by, taken_by_new}
use Rattle.pt_edit.proofs.ConvertSteps.{converted_is}
use Rattle.pt_edit.proofs.Steps.{bound, given_ok}

entry_taken : (b : ℕ) (t : Table) (a : Asked) (fresh : List Guid) (o p : Layout) → entry_new b t a fresh o ≡ Ok p → 1 ≤ length fresh
unfolding entry_new
entry_taken b t a fresh o p is =
    let (spot, one, rest) = bound (entry_place b t a) _ p is in
    let (guid, two, more) = bound (ok_or (slice_get fresh 0) NoFreshGuid) _ p rest in
    slice_get_within fresh 0 guid (given_ok (slice_get fresh 0) NoFreshGuid guid two)

kind_taken : (y : Body) (f : List (Option Record) → List Ebr → Result Layout Refusal) (g : Table → Result Layout Refusal) (p : Layout)
    (n : ℕ) → ((t : Table) → g t ≡ Ok p → 1 ≤ n) → in_kind y f g ≡ Ok p → taken_by_new None y ≤ n
kind_taken (Mbr records chain) f g p n one is = omega arith
kind_taken (Gpt t) f g p n one is = one t is

made_taken : (b : ℕ) (letter : Option ℕ) (a : Asked) (fresh : List Guid) (o p : Layout) → made b letter a fresh o ≡ Ok p
    → taken_by_new letter o.body ≤ length fresh
unfolding made
made_taken b (Some letter) a fresh o p is = omega arith
made_taken b None a fresh o p is = kind_taken o.body _ _ p (length fresh) (λ t. entry_taken b t a fresh o p) is

pub enough_left : (b alignment : ℕ) (fresh : List Guid) (w : Edit) (o p : Layout) → made_of b alignment fresh w o ≡ Ok p
    → taken_by w o ≤ length fresh
unfolding made_of
enough_left b alignment fresh (New path start end code) o p is =
    made_taken b path.letter (asked_for path.number alignment start end code) fresh o p is
enough_left b alignment fresh ToGpt o p is = (converted_is b fresh o p is).enough
enough_left b alignment fresh (Delete path) o p is = omega arith
enough_left b alignment fresh (SetKind path code) o p is = omega arith
enough_left b alignment fresh (SetName number name) o p is = omega arith
enough_left b alignment fresh (SetUnique number guid) o p is = omega arith
enough_left b alignment fresh (SetDisk guid) o p is = omega arith
enough_left b alignment fresh (SetBit number bit value) o p is = omega arith
enough_left b alignment fresh Extend o p is = omega arith
enough_left b alignment fresh (Align k) o p is = omega arith
enough_left b alignment fresh Empty o p is = omega arith

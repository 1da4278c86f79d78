-- No word is refused for lack of memory: that refusal is the program's alone.
use Rattle.std.specs.Prelude.{◌≡◌, ℕ, Bool, true, false, cond, not, nat_eq, List, [], ◌∷◌, Option, Some, None, Result, Ok}
use Rattle.std.specs.Prelude.{Err, ok_or}
use Rattle.std.proofs.Common.{ap, sym}
use Rattle.pt_gpt.specs.declared.table.Table.{Table}
use Rattle.pt_guid.specs.declared.guid.Guid.{Guid}
use Rattle.pt_mbr.specs.declared.ebr.Ebr.{Ebr}
use Rattle.pt_mbr.specs.declared.record.Record.{Record}
use Rattle.pt_members.specs.declared.layout.Body.{Body}
use Rattle.pt_members.specs.declared.layout.Body.TheVariants.{Mbr, Gpt}
use Rattle.pt_members.specs.declared.layout.Labelled.{Labelled}
use Rattle.pt_members.specs.declared.layout.Layout.{Layout}
use Rattle.pt_words.specs.declared.asked.Asked.{Asked}
use Rattle.pt_words.specs.declared.error.Refusal.{Refusal}
use Rattle.pt_words.specs.declared.error.Refusal.TheVariants.{Memory, NoSpace, OutsideUsable, Overlap, NoSuchPartition, NumberTaken}
use Rattle.pt_words.specs.declared.error.Refusal.TheVariants.{NotForThisTable, UnknownCode, ContainerType, ForeignLabel, LabelOffset}
use Rattle.pt_words.specs.declared.error.Refusal.TheVariants.{NameTooLong, SameGuid, NoFreshGuid, NoRoomForGpt}
use Rattle.pt_words.specs.declared.word.Code.{Code}
use Rattle.pt_words.specs.declared.word.End.{End}
use Rattle.pt_words.specs.declared.word.Edit.{Edit}
use Rattle.pt_words.specs.declared.word.Edit.TheVariants.{Align, New, Delete, SetKind, SetName, SetUnique, SetDisk, SetBit, Extend, ToGpt}
use Rattle.pt_words.specs.declared.word.Edit.TheVariants.{Empty}
use Rattle.pt_edit.specs.declared.partitions.Partition.{Partition}
use Rattle.pt_edit.specs.declared.space.Run.{Run}
use Rattle.pt_edit.specs.Space.{◌>>=◌, Area, led, started_at, started, past_end, ended, placed}
use Rattle.pt_edit.specs.SliceLabels as parts
use Rattle.pt_edit.specs.Entries as entries
use Rattle.pt_edit.specs.Records as numbers
use Rattle.pt_edit.specs.Chains as chains
use Rattle.pt_edit.specs.MbrEdits as records
use Rattle.pt_edit.specs.Converted as conversion
use Rattle.pt_edit.specs.Edited.{State, initial, emptied, in_kind, typed, deleted, made, asked_for, made_of, step_of, step, edited_from}
use Rattle.pt_edit.specs.Edited.{Edited}

-- it isn't lack of memory
record Real {A : Type 0} (r : Result A Refusal) : Type 0 where
  pub not : r ≡ Err Memory → ⊥

of : {A : Type 0} (x : A) → Real (Ok x)
of x = record { not = λ is. absurd cc }

refused : {A : Type 0} (e : Refusal) → (e ≡ Memory → ⊥) → Real {A = A} (Err e)
refused e not = record { not = λ is. not cc }

steps : {A B : Type 0} (r : Result A Refusal) (f : A → Result B Refusal) → Real r → ((x : A) → Real (f x)) → Real (r >>= f)
steps (Ok x) f now next = next x
steps {A} (Err e) f now next = refused e (λ same. now.not (ap (λ (x : Refusal). Err x) same))

given : {A : Type 0} (o : Option A) (e : Refusal) → (e ≡ Memory → ⊥) → Real (ok_or o e)
given None e not = refused e not
given (Some x) e not = of x

either : {A : Type 0} (b : Bool) (r q : Result A Refusal) → Real r → Real q → Real (cond b r q)
either true r q one two = one
either false r q one two = two

unless : {A : Type 0} (b : Bool) (e : Refusal) (r : Result A Refusal) → (e ≡ Memory → ⊥) → Real r → Real (cond b (Err e) r)
unless true e r not real = refused e not
unless false e r not real = real

no_space : NoSpace ≡ Memory → ⊥
no_space e = absurd cc

outside : OutsideUsable ≡ Memory → ⊥
outside e = absurd cc

overlap : Overlap ≡ Memory → ⊥
overlap e = absurd cc

missing : NoSuchPartition ≡ Memory → ⊥
missing e = absurd cc

taken : NumberTaken ≡ Memory → ⊥
taken e = absurd cc

no_table : NotForThisTable ≡ Memory → ⊥
no_table e = absurd cc

unknown : UnknownCode ≡ Memory → ⊥
unknown e = absurd cc

container : ContainerType ≡ Memory → ⊥
container e = absurd cc

foreign : ForeignLabel ≡ Memory → ⊥
foreign e = absurd cc

no_offset : LabelOffset ≡ Memory → ⊥
no_offset e = absurd cc

long_name : NameTooLong ≡ Memory → ⊥
long_name e = absurd cc

same_guid : SameGuid ≡ Memory → ⊥
same_guid e = absurd cc

no_fresh : NoFreshGuid ≡ Memory → ⊥
no_fresh e = absurd cc

too_small : NoRoomForGpt ≡ Memory → ⊥
too_small e = absurd cc

ruleset real = (
  steps,
  given,
  unless,
  either,
  of,
  refused,
  no_space,
  outside,
  overlap,
  missing,
  taken,
  no_table,
  unknown,
  container,
  foreign,
)

ruleset also = (no_offset, long_name, same_guid, no_fresh, too_small)

-- places
led_real : (a : Area) (empties : Option (List ℕ)) (part : Run) → Real (led a empties part)
led_real a None part = of part
led_real a (Some empties) part = unless _ OutsideUsable _ outside (unless _ Overlap _ overlap (of part))

started_real : (a : Area) (alignment start : ℕ) → Real (started a alignment start)
unfolding started started_at
started_real a alignment start =
    either (nat_eq start 0) _ _ (given _ NoSpace no_space)
    (steps {A = Run} _ _ (either _ (ok_or _ Overlap) (Err OutsideUsable) (given _ Overlap overlap) (refused OutsideUsable outside))
    (λ block. led_real a a.empties _))

ended_real : (high : ℕ) (part : Run) (past : ℕ) → Real (ended high part past)
ended_real high part past = unless _ NoSpace _ no_space (unless _ OutsideUsable _ outside (unless _ Overlap _ overlap (of _)))

placed_real : (a : Area) (alignment start : ℕ) (end : End) → Real (placed a alignment start end)
unfolding placed
placed_real a alignment start end =
    steps (started a alignment start) _ (started_real a alignment start) (λ part. ended_real a.high part (past_end part end))

-- partitions of labels
entry_real : (b : ℕ) (o : Layout) (number letter : ℕ) → Real (parts.entry_at b o number letter)
unfolding parts.entry_at
entry_real b o number letter = search (real, also) depth 30 fits 4000

part_real : (b : ℕ) (o : Layout) (number letter : ℕ) → Real (parts.part_at b o number letter)
unfolding parts.part_at
part_real b o number letter = search (real, also, entry_real) depth 30 fits 4000

unused_real : (b : ℕ) (o : Layout) (number letter : ℕ) → Real (parts.unused_at b o number letter)
unfolding parts.unused_at
unused_real b o number letter = search (real, also, entry_real) depth 30 fits 4000

part_typed_real : (b number letter : ℕ) (code : Code) (o : Layout) → Real (parts.part_typed b number letter code o)
unfolding parts.part_typed
part_typed_real b number letter code o = search (real, also, part_real) depth 30 fits 4000

part_deleted_real : (b number letter : ℕ) (o : Layout) → Real (parts.part_deleted b number letter o)
unfolding parts.part_deleted
part_deleted_real b number letter o = search (real, also, part_real) depth 30 fits 4000

part_new_real : (b letter : ℕ) (a : Asked) (o : Layout) → Real (parts.part_new b letter a o)
unfolding parts.part_new
part_new_real b letter a o = search (real, also, unused_real, placed_real) depth 30 fits 4000

-- records and logical partitions
logical_typed_real : (b number : ℕ) (code : Code) (chain : List Ebr) → Real (chains.logical_typed b number code chain)
unfolding chains.logical_typed
logical_typed_real b number code chain = search (real, also) depth 30 fits 4000

logical_deleted_real : (number : ℕ) (chain : List Ebr) (labels : List Labelled) → Real (chains.logical_deleted number chain labels)
unfolding chains.logical_deleted
logical_deleted_real number chain labels = search (real, also) depth 30 fits 4000

entered_real : (chain : List Ebr) (s : ℕ) (r : Record) → Real (chains.entered chain s r)
unfolding chains.entered
entered_real chain s r = by_place (chains.empty_at chain s) where
  by_place : (o : Option ℕ) → Real (chains.entered_at chain s r o)
  by_place (Some k) = of _
  by_place None = unless _ NoSpace _ no_space (of _)

logical_new_real : (b : ℕ) (x : Option Record) (chain : List Ebr) (labels : List Labelled) (a : Asked)
    → Real (chains.logical_new b x chain labels a)
unfolding chains.logical_new
logical_new_real b x chain labels a = search (real, also, placed_real, entered_real) depth 30 fits 4000

record_typed_real : (b number : ℕ) (code : Code) (rs : List (Option Record)) (chain : List Ebr) (o : Layout)
    → Real (records.record_typed b number code rs chain o)
unfolding records.record_typed records.primary_typed
record_typed_real b number code rs chain o = search (real, also, logical_typed_real) depth 30 fits 4000

record_deleted_real : (number : ℕ) (rs : List (Option Record)) (chain : List Ebr) (o : Layout)
    → Real (records.record_deleted number rs chain o)
unfolding records.record_deleted records.primary_deleted
record_deleted_real number rs chain o = search (real, also, logical_deleted_real) depth 30 fits 4000

record_number_real : (rs : List (Option Record)) (asked : ℕ) → Real (numbers.number_for rs asked)
record_number_real rs asked = search (real, also) depth 30 fits 4000

record_new_real : (b : ℕ) (a : Asked) (rs : List (Option Record)) (chain : List Ebr) (o : Layout)
    → Real (records.record_new b a rs chain o)
unfolding records.record_new records.primary_new
record_new_real b a rs chain o = search (real, also, logical_new_real, record_number_real, placed_real) depth 30 fits 4000

-- a GPT's entries
table_real : (y : Body) → Real (entries.table_in y)
table_real (Mbr rs chain) = refused NotForThisTable no_table
table_real (Gpt t) = of t

named_real : (number : ℕ) (name : List ℕ) (o : Layout) → Real (entries.named number name o)
unfolding entries.named
named_real number name o = search (real, also, table_real) depth 30 fits 4000

unique_real : (number : ℕ) (guid : Guid) (o : Layout) → Real (entries.unique_set number guid o)
unfolding entries.unique_set
unique_real number guid o = search (real, also, table_real) depth 30 fits 4000

bit_real : (number bit : ℕ) (value : Bool) (o : Layout) → Real (entries.bit_set number bit value o)
unfolding entries.bit_set
bit_real number bit value o = search (real, also, table_real) depth 30 fits 4000

disk_real : (guid : Guid) (o : Layout) → Real (entries.disk_set guid o)
unfolding entries.disk_set
disk_real guid o = search (real, also, table_real) depth 30 fits 4000

extended_real : (b : ℕ) (o : Layout) → Real (entries.extended b o)
unfolding entries.extended
extended_real b o = search (real, also, table_real) depth 30 fits 4000

entry_typed_real : (b : ℕ) (t : Table) (number : ℕ) (code : Code) (o : Layout) → Real (entries.entry_typed b t number code o)
unfolding entries.entry_typed
entry_typed_real b t number code o = search (real, also) depth 30 fits 4000

entry_deleted_real : (t : Table) (number : ℕ) (o : Layout) → Real (entries.entry_deleted t number o)
unfolding entries.entry_deleted
entry_deleted_real t number o = search (real, also) depth 30 fits 4000

entry_number_real : (t : Table) (asked : ℕ) → Real (entries.number_for t asked)
entry_number_real t asked = search (real, also) depth 30 fits 4000

entry_new_real : (b : ℕ) (t : Table) (a : Asked) (fresh : List Guid) (o : Layout) → Real (entries.entry_new b t a fresh o)
unfolding entries.entry_new entries.entry_place
entry_new_real b t a fresh o = search (real, also, entry_number_real, placed_real) depth 30 fits 4000

-- `g`
found_real : (y : Body) → Real (conversion.partitions_in y)
found_real (Mbr rs chain) = of _
found_real (Gpt t) = refused NotForThisTable no_table

checked_real : (b : ℕ) (guids : List Guid) (o : Layout) (ps : List Partition) → Real (conversion.checked b guids o ps)
checked_real b guids o ps = search (real, also) depth 30 fits 4000

converted_real : (b : ℕ) (guids : List Guid) (o : Layout) → Real (conversion.converted b guids o)
unfolding conversion.converted
converted_real b guids o = search (real, also, found_real, checked_real) depth 30 fits 4000

-- words in order
kind_real : (y : Body) (f : List (Option Record) → List Ebr → Result Layout Refusal) (g : Table → Result Layout Refusal)
    → ((rs : List (Option Record)) (chain : List Ebr) → Real (f rs chain)) → ((t : Table) → Real (g t)) → Real (in_kind y f g)
kind_real (Mbr rs chain) f g one two = one rs chain
kind_real (Gpt t) f g one two = two t

typed_real : (b number : ℕ) (letter : Option ℕ) (code : Code) (o : Layout) → Real (typed b number letter code o)
unfolding typed
typed_real b number (Some letter) code o = part_typed_real b number letter code o
typed_real b number None code o =
    kind_real o.body _ _ (λ rs chain. record_typed_real b number code rs chain o) (λ t. entry_typed_real b t number code o)

deleted_real : (b number : ℕ) (letter : Option ℕ) (o : Layout) → Real (deleted b number letter o)
unfolding deleted
deleted_real b number (Some letter) o = part_deleted_real b number letter o
deleted_real b number None o =
    kind_real o.body _ _ (λ rs chain. record_deleted_real number rs chain o) (λ t. entry_deleted_real t number o)

made_real : (b : ℕ) (letter : Option ℕ) (a : Asked) (fresh : List Guid) (o : Layout) → Real (made b letter a fresh o)
unfolding made
made_real b (Some letter) a fresh o = part_new_real b letter a o
made_real b None a fresh o =
    kind_real o.body _ _ (λ rs chain. record_new_real b a rs chain o) (λ t. entry_new_real b t a fresh o)

word_real : (b alignment : ℕ) (fresh : List Guid) (w : Edit) (o : Layout) → Real (made_of b alignment fresh w o)
unfolding made_of
word_real b alignment fresh (New path start end code) o =
    made_real b path.letter (asked_for path.number alignment start end code) fresh o
word_real b alignment fresh (Delete path) o = deleted_real b path.number path.letter o
word_real b alignment fresh (SetKind path code) o = typed_real b path.number path.letter code o
word_real b alignment fresh (SetName number name) o = named_real number _ o
word_real b alignment fresh (SetUnique number guid) o = unique_real number guid o
word_real b alignment fresh (SetDisk guid) o = disk_real guid o
word_real b alignment fresh (SetBit number bit value) o = bit_real number bit value o
word_real b alignment fresh Extend o = extended_real b o
word_real b alignment fresh ToGpt o = converted_real b fresh o
word_real b alignment fresh (Align k) o = refused NotForThisTable no_table
word_real b alignment fresh Empty o = refused NotForThisTable no_table

of_real : (b : ℕ) (w : Edit) (s : State) → Real (step_of b w s)
unfolding step_of
of_real b w s = search (real, also, word_real) depth 30 fits 4000

step_real : (b n : ℕ) (w : Edit) (s : State) → Real (step b n w s)
unfolding emptied
step_real b n (Align k) s = of _
step_real b n Empty s = search (real, also) depth 30 fits 4000
step_real b n (New path start end code) s = of_real b (New path start end code) s
step_real b n (Delete path) s = of_real b (Delete path) s
step_real b n (SetKind path code) s = of_real b (SetKind path code) s
step_real b n (SetName number name) s = of_real b (SetName number name) s
step_real b n (SetUnique number guid) s = of_real b (SetUnique number guid) s
step_real b n (SetDisk guid) s = of_real b (SetDisk guid) s
step_real b n (SetBit number bit value) s = of_real b (SetBit number bit value) s
step_real b n Extend s = of_real b Extend s
step_real b n ToGpt s = of_real b ToGpt s

from_real : (b n : ℕ) (words : List Edit) (s : State) → Real (edited_from b n words s)
unfolding edited_from
from_real b n [] s = given _ NotForThisTable no_table
from_real b n (w ∷ ws) s = steps (step b n w s) _ (step_real b n w s) (λ t. from_real b n ws t)

pub memory_is_no_answer_lem : (b n : ℕ) (old : Option Layout) (words : List Edit) (guids : List Guid)
    → Edited b n old words guids (Err Memory) → ⊥
memory_is_no_answer_lem b n old words guids is = (from_real b n words (initial b old guids)).not (sym is)

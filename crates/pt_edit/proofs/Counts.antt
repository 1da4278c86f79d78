-- Partitions, counted.
use Rattle.std.proofs.Common.{◌≡◌, ◌≤◌, ◌+◌, ℕ, Bool, true, false, cond, List, [], ◌∷◌, length, length-append, Option, Some, None, refl}
use Rattle.std.proofs.Common.{sym, ap, ◌∙◌, arith}
use Rattle.std.specs.Prelude.{count_by, flat_map, if◌then◌else◌, is_some, option_to_list}
use Rattle.std.proofs.lemmas.List.{length-map, take_all}
use Rattle.std.proofs.lemmas.List.Sums.{sum_by-cons}
use Rattle.pt_mbr.specs.declared.record.Record.{Record}
use Rattle.pt_mbr.specs.declared.ebr.Ebr.{Ebr}
use Rattle.pt_members.specs.declared.layout.Body.{Body}
use Rattle.pt_members.specs.declared.member.Member.{Member}
use Rattle.pt_members.specs.declared.row.Row.{Row}
use Rattle.pt_members.specs.declared.row.Source.{Source}
use Rattle.pt_members.specs.declared.row.Source.TheVariants as source
use Rattle.pt_members.specs.Members.{used_before, logicals_as, present, slots}
use Rattle.pt_members.specs.Rows.{body_rows, member_of}
use Rattle.pt_members.proofs.RowMembers.{body_members}
use Rattle.pt_members.proofs.SliceListsLemmas.{next_number}
use Rattle.pt_edit.proofs.Kept.{logicals_same}
use Rattle.pt_edit.proofs.PartsLemmas.{logical, logicals_from}
use Rattle.pt_edit.specs.Entries.{is_kept, kept_by, kept_of, partitions}
use Rattle.pt_edit.specs.declared.partitions.Partition.{Partition}

-- ## Logical partitions.

-- it isn't empty
abbrev has_logical : Ebr → Bool
has_logical e = is_some e.logical

logical_len : (n : ℕ) (e : Ebr) → length (logical n e) ≡ cond (has_logical e) 1 0
unfolding logical
logical_len n e = by_case e.logical refl where
  by_case : (o : Option Record) → e.logical ≡ o → length (logical n e) ≡ cond (has_logical e) 1 0
  by_case None is = rw is refl
  by_case (Some r) is = rw is refl

logicals_len : (n : ℕ) (es : List Ebr) → length (logicals_from n es) ≡ count_by has_logical es
unfolding logicals_from
logicals_len n [] = refl
logicals_len n (e ∷ es) =
    let more : count_by has_logical (e ∷ es) ≡ (cond (has_logical e) 1 0) + count_by has_logical es =
    sum_by-cons (λ (x : Ebr). cond (has_logical x) 1 0) e es in
    let m = next_number n e in
    omega (arith, length-append (logical n e) (logicals_from m es), logical_len n e, logicals_len m es, more)

pub logicals_counted : (b : ℕ) (es : List Ebr) → length (present (logicals_as b 5 es)) ≡ used_before (length es) es
logicals_counted b es =
    logicals_same b 5 es ∙ (logicals_len 5 es ∙ ap (count_by has_logical) (sym (take_all (length es) es (omega arith))))

-- ## All of them: no more than places.

most : {X Y : Type 0} (f : X → List Y) → ((x : X) → length (f x) ≤ 1) → (xs : List X) → length (flat_map f xs) ≤ length xs
most f one [] = omega arith
most f one (x ∷ xs) = omega (arith, one x, most f one xs, length-append (f x) (flat_map f xs))

one_member : (o : Option Member) → length (option_to_list o) ≤ 1
one_member None = omega arith
one_member (Some m) = omega arith

one_if : (is : Bool) (p : Partition) → length (if is then p ∷ [] else []) ≤ 1
one_if true p = omega arith
one_if false p = omega arith

one_by : (m : Member) (s : Source) → length (kept_by m s) ≤ 1
one_by m (source.Record r) = one_if (is_kept m) (record { number = m.path.number; kind = r.kind; first = m.first; last = m.last })
one_by m (source.Entry e) = omega arith
one_by m (source.Part e) = omega arith

pub partitions_few : (y : Body) → length (partitions y) ≤ length (slots 512 y)
partitions_few y =
    let there = body_rows 512 y in
    let same = ap (λ (ms : List Member). length ms) (body_members 512 y) in
    omega (
      arith,
      most kept_of (λ (r : Row). one_by r.member r.source) there,
      length-map there member_of,
      same,
      most option_to_list one_member (slots 512 y),
    )

-- Lemmas on specs/Entries.antt: the partitions of an MBR, record by record, for proofs that walk its records and its chain.
use Rattle.std.specs.Prelude.{◌≡◌, ◌+◌, ◌-◌, ℕ, Bool, true, false, List, [], ◌∷◌, ◌++◌, map, flat_map, option_map, is_some, Option, Some}
use Rattle.std.specs.Prelude.{option_to_list, None, if◌then◌else◌, nat_eq, ◌&&◌}
use Rattle.std.proofs.Common.{refl, sym, ap, ◌∙◌, arith, append_assoc}
use Rattle.pt_gpt.specs.declared.entry.Entry.{Entry}
use Rattle.pt_gpt.specs.declared.table.Table.{Table}
use Rattle.pt_mbr.specs.declared.record.Record.{Record}
use Rattle.pt_mbr.specs.declared.ebr.Ebr.{Ebr}
use Rattle.pt_mbr.specs.Records.{is_extended}
use Rattle.pt_members.proofs.SliceListsLemmas.{next_number}
use Rattle.pt_members.specs.declared.layout.Body.{Body}
use Rattle.pt_members.specs.declared.layout.Body.TheVariants.{Mbr, Gpt}
use Rattle.pt_members.specs.declared.member.Kind.{Kind}
use Rattle.pt_members.specs.declared.member.Member.{Member}
use Rattle.pt_members.specs.declared.row.Source.{Source}
use Rattle.pt_members.specs.declared.row.Source.TheVariants as source
use Rattle.pt_members.specs.Members.{record_kind, logical_kind, record_member, logical_member, records_as, entries_as, logicals_as, tops}
use Rattle.pt_members.specs.Members.{logicals, sources, row_of, rows_with, rows}
use Rattle.pt_members.specs.Rows.{body_rows}
use Rattle.pt_members.specs.declared.row.Row.{Row}
use Rattle.pt_members.proofs.Grouped.{kind_extended}
use Rattle.pt_edit.specs.Entries.{kept_of, partitions, is_kept_kind}
use Rattle.pt_edit.specs.declared.partitions.Partition.{Partition}

-- of a record whose start counts from a sector
abbrev pub partition_of : ℕ → ℕ → Record → Partition
partition_of number at r = record { number = number; kind = r.kind; first = at + r.start; last = at + r.start + r.size - 1 }

-- of a record of sector 0, where it is used and not extended
unfoldable pub primary : ℕ → Option Record → List Partition
primary number None = []
primary number (Some r) = if is_extended r.kind then [] else partition_of number 0 r ∷ []

-- those of the records from a number on
unfoldable pub primaries : ℕ → List (Option Record) → List Partition
primaries number [] = []
primaries number (r ∷ rs) = primary number r ++ primaries (number + 1) rs

-- of an extended boot record, where it isn't empty
abbrev pub logical_in : ℕ → ℕ → Option Record → List Partition
logical_in number at None = []
logical_in number at (Some r) = partition_of number at r ∷ []

unfoldable pub logical : ℕ → Ebr → List Partition
logical number e = logical_in number e.at.0 e.logical

-- those of a chain from a number on
unfoldable pub logicals_from : ℕ → List Ebr → List Partition
logicals_from number [] = []
logicals_from number (e ∷ es) = logical number e ++ logicals_from (next_number number e) es

-- ---- which members are kept
pub other_kind : (b k : ℕ) → is_extended k ≡ false → record_kind b k ≡ logical_kind b k
other_kind b k is = rw is refl

pub logical_kept : (b k : ℕ) → is_kept_kind (logical_kind b k) ≡ true
logical_kept b k = by_case (nat_eq b 512 && nat_eq k 0xA5) refl where
  by_case : (c : Bool) → (nat_eq b 512 && nat_eq k 0xA5) ≡ c → is_kept_kind (logical_kind b k) ≡ true
  by_case true is = rw is refl
  by_case false is = rw is refl

-- ---- the row of a record

-- the partition in a place: none where it is unused
abbrev kept_at : Option Row → List Partition
kept_at None = []
kept_at (Some row) = kept_of row

by_place : (os : List (Option Row)) → flat_map kept_of (flat_map option_to_list os) ≡ flat_map kept_at os
by_place [] = refl
by_place (None ∷ os) = by_place os
by_place (Some row ∷ os) = ap (λ (l : List Partition). kept_of row ++ l) (by_place os)

one_record : (b n : ℕ) (r : Option Record)
    → kept_at (row_of (option_map (record_member b n) r) (option_map source.Record r)) ≡ primary n r
unfolding primary
one_record b n None = refl
one_record b n (Some r) = by_case (is_extended r.kind) refl where
  whole : Partition
  whole = record { number = n; kind = r.kind; first = r.start; last = r.start + r.size - 1 }

  by_case : (c : Bool) → is_extended r.kind ≡ c → (if is_kept_kind (record_kind b r.kind) then whole ∷ [] else []) ≡ primary n (Some r)
  by_case true is =
      ap (λ (k : Kind). if is_kept_kind k then whole ∷ [] else []) (kind_extended b r.kind is)
      ∙ sym (ap (λ (c : Bool). if c then [] else partition_of n 0 r ∷ []) is)
  by_case false is =
      let kept : is_kept_kind (record_kind b r.kind) ≡ true = ap is_kept_kind (other_kind b r.kind is) ∙ logical_kept b r.kind in
      let start : r.start ≡ 0 + r.start = omega arith in
      ap (λ (c : Bool). if c then whole ∷ [] else []) kept
      ∙ ap (λ (s : ℕ). record { number = n; kind = r.kind; first = s; last = s + r.size - 1 } ∷ []) start
      ∙ sym (ap (λ (c : Bool). if c then [] else partition_of n 0 r ∷ []) is)

one_logical : (b n at : ℕ) (o : Option Record)
    → kept_at (row_of (option_map (logical_member b n at) o) (option_map source.Record o)) ≡ logical_in n at o
one_logical b n at None = refl
one_logical b n at (Some r) = ap (λ (c : Bool). if c then partition_of n at r ∷ [] else []) (logical_kept b r.kind)

one_ebr : (b n : ℕ) (e : Ebr)
    → kept_at (row_of (option_map (logical_member b n e.at.0) e.logical) (option_map source.Record e.logical)) ≡ logical n e
unfolding logical
one_ebr b n e = one_logical b n e.at.0 e.logical

pub next_same : (n : ℕ) (e : Ebr) → (if is_some e.logical then n + 1 else n) ≡ next_number n e
unfolding next_number
next_same n e = refl

-- ---- the rows of all records

-- those of sector 0, with other rows behind them
records_rows : (b n : ℕ) (rs : List (Option Record)) (ms : List (Option Member)) (ss : List (Option Source))
    → flat_map kept_at (rows_with (records_as b n rs ++ ms) (map (option_map source.Record) rs ++ ss))
    ≡ primaries n rs ++ flat_map kept_at (rows_with ms ss)
unfolding records_as rows_with primaries
records_rows b n [] ms ss = refl
records_rows b n (r ∷ rs) ms ss =
    let others = flat_map kept_at (rows_with (records_as b (n + 1) rs ++ ms) (map (option_map source.Record) rs ++ ss)) in
    ap (λ (l : List Partition). l ++ others) (one_record b n r)
    ∙ (ap (λ (l : List Partition). primary n r ++ l) (records_rows b (n + 1) rs ms ss)
    ∙ sym (append_assoc (primary n r) (primaries (n + 1) rs) (flat_map kept_at (rows_with ms ss))))

chain_rows : (b n : ℕ) (es : List Ebr)
    → flat_map kept_at (rows_with (logicals_as b n es) (map (λ (e : Ebr). option_map source.Record e.logical) es)) ≡ logicals_from n es
unfolding logicals_as rows_with logicals_from
chain_rows b n [] = refl
chain_rows b n (e ∷ es) =
    let m = if is_some e.logical then n + 1 else n in
    let others = flat_map kept_at (rows_with (logicals_as b m es) (map (λ (x : Ebr). option_map source.Record x.logical) es)) in
    ap (λ (l : List Partition). l ++ others) (one_ebr b n e)
    ∙ (ap (λ (l : List Partition). logical n e ++ l) (chain_rows b m es)
    ∙ ap (λ (k : ℕ). logical n e ++ logicals_from k es) (next_same n e))

entries_rows : (b n : ℕ) (es : List (Option Entry))
    → flat_map kept_at (rows_with (entries_as b n es ++ []) (map (option_map source.Entry) es)) ≡ []
unfolding entries_as rows_with
entries_rows b n [] = refl
entries_rows b n (None ∷ es) = entries_rows b (n + 1) es
entries_rows b n (Some e ∷ es) = entries_rows b (n + 1) es

rows_mbr : (b : ℕ) (rs : List (Option Record)) (chain : List Ebr)
    → flat_map kept_of (body_rows b (Mbr rs chain)) ≡ primaries 1 rs ++ logicals_from 5 chain
unfolding tops logicals sources
rows_mbr b rs chain =
    by_place (rows b (Mbr rs chain))
    ∙ records_rows b 1 rs (logicals_as b 5 chain) (map (λ (e : Ebr). option_map source.Record e.logical) chain)
    ∙ ap (λ (l : List Partition). primaries 1 rs ++ l) (chain_rows b 5 chain)

rows_gpt : (b : ℕ) (t : Table) → flat_map kept_of (body_rows b (Gpt t)) ≡ []
unfolding tops logicals sources
rows_gpt b t = by_place (rows b (Gpt t)) ∙ entries_rows b 1 t.entries

-- the partitions of four records and a chain
pub partitions_mbr : (rs : List (Option Record)) (chain : List Ebr) → partitions (Mbr rs chain) ≡ primaries 1 rs ++ logicals_from 5 chain
partitions_mbr rs chain = rows_mbr 512 rs chain

-- a GPT has none
pub partitions_gpt : (t : Table) → partitions (Gpt t) ≡ []
partitions_gpt t = rows_gpt 512 t

-- the size of sectors doesn't matter
pub any_size : (b : ℕ) (y : Body) → flat_map kept_of (body_rows b y) ≡ partitions y
any_size b (Mbr rs chain) = rows_mbr b rs chain ∙ sym (partitions_mbr rs chain)
any_size b (Gpt t) = rows_gpt b t ∙ sym (partitions_gpt t)

-- Layouts that are written as one table are equal.
use Rattle.std.proofs.Common.{◌≡◌, ◌≤◌, ◌+◌, ◌∙◌, ℕ, List, [], ◌∷◌, ◌++◌, length, Option, Some, None, IfSome, refl, sym, ap, ap₂}
use Rattle.std.proofs.Common.{arith, codes, append-nil, subst}
use Rattle.serde_json.specs.Data.{Data, string}
use Rattle.pt_gpt.specs.declared.entry.Entry.{Entry}
use Rattle.pt_gpt.specs.declared.table.Table.{Table}
use Rattle.pt_sector.specs.declared.address.Lba.{Lba}
use Rattle.pt_mbr.specs.declared.ebr.Ebr.{Ebr}
use Rattle.pt_mbr.specs.declared.record.Record.{Record}
use Rattle.pt_edit.specs.Chains.{IsLinked}
use Rattle.pt_members.specs.Members.{label_of}
use Rattle.pt_members.specs.declared.layout.Body.{Body}
use Rattle.pt_members.specs.declared.layout.Body.TheVariants.{Gpt, Mbr}
use Rattle.pt_members.specs.declared.layout.Labelled.{Labelled}
use Rattle.pt_members.specs.declared.layout.Layout.{Layout}
use Rattle.pt_tables.specs.Fields.{Field, array_of, num, object_of}
use Rattle.pt_tables.specs.Entries.{entries_data}
use Rattle.pt_tables.specs.Records.{chain_fields, logicals_data, records_data}
use Rattle.pt_tables.specs.Text.{IsText, body_fields, common_fields, table_data}
use Rattle.pt_tables.specs.Shown.{AreLabelsAt, BodyWidths, ChainWidths, EntriesWidths, EntryWidths, InOrder, LabelsWidths, LeadsOn}
use Rattle.pt_tables.specs.Shown.{RecordWidths, RecordsWidths, Widths, numbers_from, numbers_of, logical_numbers}
use Rattle.pt_tables.proofs.Found.{Lacks, Other, Tells, apart, looked, one_found, one_looked, tells_before, tells_behind, tells_here}
use Rattle.pt_tables.proofs.Found.{tells_later, tells_looked}
use Rattle.pt_tables.proofs.LabelLists.{Ascends, SameAt, entries_ascend, mbr_ascends, one_labels, same_both, widths_of}
use Rattle.pt_tables.proofs.ListedChains.{chain_keyed, chain_keys, chain_slots, logicals_listed, one_chain, same_chain, sectors_of}
use Rattle.pt_tables.proofs.ListedPlaces.{entries_listed, entry_object, entry_tells, number_told, one_row, place_of, record_object}
use Rattle.pt_tables.proofs.ListedPlaces.{record_tells}
use Rattle.pt_tables.proofs.ListedPlaces.{records_listed, same_keys, slots, slots_keyed}
use Rattle.pt_tables.proofs.SameEntries.{guid_from, one_entry}
use Rattle.pt_tables.proofs.SameLabels.{data_from, num_from}
use Rattle.pt_tables.proofs.SameLists.{one_array, one_items}
use Rattle.pt_tables.proofs.SameRecords.{one_record}
use Rattle.pt_tables.proofs.Slots.{datas, datas_more, one_slots}

-- ## The entries of a GPT.

module _ (device other : List ℕ) (ls ms : List Labelled) (label_fits : LabelsWidths ls) (label_others : LabelsWidths ms) where
  entry_back : (n : ℕ) (e f : Entry) → EntryWidths e → EntryWidths f → entry_object device ls n e ≡ entry_object other ms n f
      → (e ≡ f) × (label_of ls n ≡ label_of ms n)
  entry_back n e f fits others same =
      one_entry device other n n e f (label_of ls n) (label_of ms n) fits others (widths_of ls n label_fits)
      (widths_of ms n label_others) same

  record_back : (n : ℕ) (r s : Record) → RecordWidths r → RecordWidths s → record_object device ls n r ≡ record_object other ms n s
      → (r ≡ s) × (label_of ls n ≡ label_of ms n)
  record_back n r s fits others same =
      one_record device other n n r s (label_of ls n) (label_of ms n) fits others (widths_of ls n label_fits)
      (widths_of ms n label_others) same

  one_entries : (es fs : List (Option Entry)) → EntriesWidths es → EntriesWidths fs → length es ≡ length fs
      → entries_data device ls 1 es ≡ entries_data other ms 1 fs → (es ≡ fs) × SameAt (numbers_from 1 es) ls ms
  one_entries es fs fits others long same =
      let here = slots (entry_object device ls) 1 es in
      let there = slots (entry_object other ms) 1 fs in
      let listed : datas (here ++ []) ≡ datas (there ++ []) =
      ap datas (append-nil here) ∙ entries_listed device ls 1 es ∙ same ∙ sym (entries_listed other ms 1 fs) ∙ ap datas
      (sym (append-nil there)) in
      let keyed = slots_keyed (entry_object device ls) number_told (entry_tells device ls) 1 es [] tt in
      let keyed_there = slots_keyed (entry_object other ms) number_told (entry_tells other ms) 1 fs [] tt in
      let keys = same_keys (entry_object device ls) (entry_object other ms) 1 es fs [] [] long refl in
      let all = one_slots number_told 1 (here ++ []) (there ++ []) keyed keyed_there keys listed in
      let row = one_row (entry_object device ls) (entry_object other ms) EntryWidths ls ms entry_back 1 es fs [] [] fits others long all in
      (row.0, row.1)

  -- ## The records and the chain of an MBR.

  one_mbr : (rs ss : List (Option Record)) (es fs : List Ebr) (from to : Option Lba) → length rs ≡ 4 → length ss ≡ 4 → RecordsWidths rs
      → RecordsWidths ss → ChainWidths es → ChainWidths fs → IsLinked from es → IsLinked to fs → sectors_of es ≡ sectors_of fs
      → records_data device ls 1 rs ++ logicals_data device ls 5 es ≡ records_data other ms 1 ss ++ logicals_data other ms 5 fs
      → (rs ≡ ss) × (es ≡ fs) × SameAt (numbers_from 1 rs ++ logical_numbers 5 es) ls ms
  one_mbr rs ss es fs from to four four_there fits others chain_fits chain_others linked linked_there sectors same =
      let here = slots (record_object device ls) 1 rs in
      let there = slots (record_object other ms) 1 ss in
      let behind = chain_slots device ls 5 es in
      let behind_there = chain_slots other ms 5 fs in
      let listed : datas (here ++ behind) ≡ datas (there ++ behind_there) =
      datas_more here behind ∙ ap₂ (λ xs ys. xs ++ ys) (records_listed device ls 1 rs) (logicals_listed device ls 5 es) ∙ same
      ∙ sym (datas_more there behind_there ∙ ap₂ (λ xs ys. xs ++ ys) (records_listed other ms 1 ss) (logicals_listed other ms 5 fs)) in
      let keyed = slots_keyed (record_object device ls) place_of (record_tells device ls) 1 rs behind
      (chain_keyed device ls (1 + length rs) 5 from es linked (least from (1 + length rs) (omega (arith, four)))) in
      let keyed_there = slots_keyed (record_object other ms) place_of (record_tells other ms) 1 ss behind_there
      (chain_keyed other ms (1 + length ss) 5 to fs linked_there (least to (1 + length ss) (omega (arith, four_there)))) in
      let keys = same_keys (record_object device ls) (record_object other ms) 1 rs ss behind behind_there (four ∙ sym four_there)
      (chain_keys device other ls ms 5 5 es fs sectors) in
      let all = one_slots place_of 1 (here ++ behind) (there ++ behind_there) keyed keyed_there keys listed in
      let row = one_row (record_object device ls)
      (record_object other ms) RecordWidths ls ms record_back 1 rs ss behind behind_there fits others
      (four ∙ sym four_there) all in
      let chain = one_chain device other ls ms label_fits label_others 5 es fs chain_fits chain_others row.2 in (
        row.0,
        (same_chain from to es fs linked linked_there chain.0).1,
        same_both (numbers_from 1 rs)
            (logical_numbers 5 es) ls ms row.1 chain.1,
      )
    where
      least : (o : Option Lba) (low : ℕ) → low ≤ 5 → IfSome o (λ (a : Lba). low ≤ 5 + a.0)
      least None low less = tt
      least (Some a) low less = omega (arith, less)

-- ## Bodies.

lacks_chain : (k : List ℕ) → Other k (codes "chain") → (chain : List Ebr) → Lacks k (chain_fields chain)
lacks_chain k other [] = tt
lacks_chain k other (e ∷ es) = (other, tt)

-- a name that no body has
lacks_body : (k : List ℕ) → Other k (codes "label") → Other k (codes "id") → Other k (codes "firstlba") → Other k (codes "lastlba")
    → Other k (codes "entries") → Other k (codes "partitions") → Other k (codes "chain")
    → (device : List ℕ) (labels : List Labelled) (y : Body)
    → Lacks k (body_fields device labels y)
lacks_body k label id first last entries partitions chain device labels (Gpt t) =
    (label, (id, (first, (last, (entries, (partitions, tt))))))
lacks_body k label id first last entries partitions chain device labels (Mbr rs es) = (label, (partitions, lacks_chain k chain es))

module _ (device : List ℕ) (labels : List Labelled) (rs : List (Option Record)) (es : List Ebr) where
  tells_label : Tells (codes "label") (body_fields device labels (Mbr rs es)) (Some (string (codes "dos")))
  tells_label = tells_here (codes "label") (string (codes "dos")) _ (refl, lacks_chain (codes "label") refl es)

  tells_partitions : Tells (codes "partitions") (body_fields device labels (Mbr rs es))
      (Some (array_of (records_data device labels 1 rs ++ logicals_data device labels 5 es)))
  tells_partitions =
      tells_later (codes "partitions") _ _ _ refl
      (tells_here (codes "partitions") (array_of (records_data device labels 1 rs ++ logicals_data device labels 5 es)) _
      (lacks_chain (codes "partitions") refl es))

  tells_chain : Tells (codes "chain") (body_fields device labels (Mbr rs es)) (looked (codes "chain") (chain_fields es))
  tells_chain =
      tells_later (codes "chain") _ _ _ refl (tells_later (codes "chain") _ _ _ refl (tells_looked (codes "chain") (chain_fields es)))

one_sectors : (es fs : List Ebr) → looked (codes "chain") (chain_fields es) ≡ looked (codes "chain") (chain_fields fs)
    → sectors_of es ≡ sectors_of fs
one_sectors [] [] same = refl
one_sectors [] (f ∷ fs) same = absurd (cc)
one_sectors (e ∷ es) [] same = absurd (cc)
one_sectors (e ∷ es) (f ∷ fs) same =
    one_array (λ (x : Ebr). num x.at.0) (λ (x : Ebr). x.at.0) (λ x y is. cc) (e ∷ es) (f ∷ fs) (data_from _ _ same)

one_string : (s t : List ℕ) → Some (string s) ≡ Some (string t) → s ≡ t
one_string s t same = cc

gpt_is_no_dos : Some (string (codes "gpt")) ≡ Some (string (codes "dos")) → ⊥
gpt_is_no_dos same = apart (codes "gpt") (codes "dos") refl (one_string (codes "gpt") (codes "dos") same)

module _ (device other : List ℕ) (ls ms : List Labelled) (label_fits : LabelsWidths ls) (label_others : LabelsWidths ms) where
  one_gpt : (t u : Table) → BodyWidths (Gpt t) → BodyWidths (Gpt u)
      → ((k : List ℕ) → Lacks k (common_fields [] 0 0) → looked k (body_fields device ls (Gpt t)) ≡ looked k (body_fields other ms (Gpt u)))
      → (Gpt t ≡ Gpt u) × SameAt (numbers_from 1 t.entries) ls ms
  one_gpt t u fits others at =
      let disk = guid_from t.disk u.disk fits.0 others.0 (at (codes "id") (refl, (refl, (refl, (refl, tt))))) in
      let first = num_from t.first u.first (at (codes "firstlba") (refl, (refl, (refl, (refl, tt))))) in
      let last = num_from t.last u.last (at (codes "lastlba") (refl, (refl, (refl, (refl, tt))))) in
      let long = num_from (length t.entries) (length u.entries) (at (codes "entries") (refl, (refl, (refl, (refl, tt))))) in
      let list = one_items (entries_data device ls 1 t.entries) (entries_data other ms 1 u.entries)
      (data_from _ _ (at (codes "partitions") (refl, (refl, (refl, (refl, tt)))))) in
      let entries = one_entries device other ls ms label_fits label_others t.entries u.entries fits.1 others.1 long list in
      (ap Gpt (λ i. record { disk = disk i; first = first i; last = last i; entries = entries.0 i }), entries.1)

  same_mbr : (rs ss : List (Option Record)) (es fs : List Ebr) → BodyWidths (Mbr rs es) → BodyWidths (Mbr ss fs)
      → LeadsOn (Mbr rs es) → LeadsOn (Mbr ss fs)
      → ((k : List ℕ) (o q : Option Data) → Lacks k (common_fields [] 0 0) → Tells k (body_fields device ls (Mbr rs es)) o
      → Tells k (body_fields other ms (Mbr ss fs)) q → o ≡ q)
      → (Mbr rs es ≡ Mbr ss fs) × SameAt (numbers_from 1 rs ++ logical_numbers 5 es) ls ms
  same_mbr rs ss es fs fits others linked linked_there at =
      let sectors = one_sectors es fs
      (at (codes "chain") _ _ (refl, (refl, (refl, (refl, tt)))) (tells_chain device ls rs es) (tells_chain other ms ss fs)) in
      let list = one_items (records_data device ls 1 rs ++ logicals_data device ls 5 es)
      (records_data other ms 1 ss ++ logicals_data other ms 5 fs)
      (data_from _ _
      (at (codes "partitions") _ _ (refl, (refl, (refl, (refl, tt)))) (tells_partitions device ls rs es)
      (tells_partitions other ms ss fs))) in
      let all = one_mbr device other ls ms label_fits label_others rs ss es fs linked.0 linked_there.0 fits.0 others.0 fits.1 others.1
      fits.2 others.2 linked.1 linked_there.1 sectors list in
      (ap₂ Mbr all.0 all.1, all.2)

  -- the two bodies are one, and so are the labels at the numbers of their partitions
  one_body : (y z : Body) → BodyWidths y → BodyWidths z → LeadsOn y → LeadsOn z
      → ((k : List ℕ) (o q : Option Data) → Lacks k (common_fields [] 0 0) → Tells k (body_fields device ls y) o
      → Tells k (body_fields other ms z) q → o ≡ q)
      → (y ≡ z) × SameAt (numbers_of y) ls ms × Ascends 1 (numbers_of y)
  unfolding numbers_of
  one_body (Gpt t) (Gpt u) fits others linked linked_there at =
      let there : (k : List ℕ) → Lacks k (common_fields [] 0 0)
      → looked k (body_fields device ls (Gpt t)) ≡ looked k (body_fields other ms (Gpt u)) =
      λ k lacks. at k _ _ lacks (tells_looked k (body_fields device ls (Gpt t))) (tells_looked k (body_fields other ms (Gpt u))) in
      let same = one_gpt t u fits others there in
      (same.0, same.1, entries_ascend 1 t.entries)
  one_body (Gpt t) (Mbr ss fs) fits others linked linked_there at =
      absurd (gpt_is_no_dos
      (at (codes "label") _ _ (refl, (refl, (refl, (refl, tt)))) (tells_looked (codes "label") (body_fields device ls (Gpt t)))
      (tells_label other ms ss fs)))
  one_body (Mbr rs es) (Gpt u) fits others linked linked_there at =
      absurd (gpt_is_no_dos (sym (at (codes "label") _ _ (refl, (refl, (refl, (refl, tt)))) (tells_label device ls rs es)
      (tells_looked (codes "label") (body_fields other ms (Gpt u))))))
  one_body (Mbr rs es) (Mbr ss fs) fits others linked linked_there at =
      let same = same_mbr rs ss es fs fits others linked linked_there at in
      (same.0, same.1, mbr_ascends rs es fits.0)

-- ## Tables.

module _ (device : List ℕ) (b : ℕ) (o : Layout) where
  abbrev all_fields : List Field
  all_fields = common_fields device b o.sectors ++ body_fields device o.labels o.body

  behind_common : (k : List ℕ) (q : Option Data) → Lacks k (common_fields [] 0 0) → Tells k (body_fields device o.labels o.body) q
      → Tells k all_fields q
  behind_common k q lacks tells = tells_behind k (common_fields device b o.sectors) (body_fields device o.labels o.body) q lacks tells

  tells_device : Tells (codes "device") all_fields (Some (string device))
  tells_device =
      tells_before (codes "device") (common_fields device b o.sectors) _ _
      (tells_looked (codes "device") (common_fields device b o.sectors))
      (lacks_body (codes "device") refl refl refl refl refl refl refl device o.labels o.body)

  tells_sector_size : Tells (codes "sectorsize") all_fields (Some (num b))
  tells_sector_size =
      tells_before (codes "sectorsize") (common_fields device b o.sectors) _ _
      (tells_looked (codes "sectorsize") (common_fields device b o.sectors))
      (lacks_body (codes "sectorsize") refl refl refl refl refl refl refl device o.labels o.body)

  tells_sectors : Tells (codes "sectors") all_fields (Some (num o.sectors))
  tells_sectors =
      tells_before (codes "sectors") (common_fields device b o.sectors) _ _
      (tells_looked (codes "sectors") (common_fields device b o.sectors))
      (lacks_body (codes "sectors") refl refl refl refl refl refl refl device o.labels o.body)

same_layout : (o p : Layout) → InOrder o → InOrder p → o.sectors ≡ p.sectors
    → (o.body ≡ p.body) × SameAt (numbers_of o.body) o.labels p.labels × Ascends 1 (numbers_of o.body) → o ≡ p
same_layout o p order order_there sectors same =
    let stay = subst (λ (y : Body). AreLabelsAt (numbers_of y) p.labels) (sym same.0) order_there.labels in
    let labels = one_labels 1 (numbers_of o.body) o.labels p.labels same.2 order.labels stay same.1 in
    λ i. record { sectors = sectors i; body = same.0 i; labels = labels i }

pub one_table : (device other : List ℕ) (b c : ℕ) (o p : Layout) → Widths o → Widths p → InOrder o → InOrder p
    → table_data device b o ≡ table_data other c p → (device ≡ other) × (b ≡ c) × (o ≡ p)
one_table device other b c o p fits others order order_there same =
    let inner : object_of (all_fields device b o) ≡ object_of (all_fields other c p) =
    data_from _ _
    (one_looked (codes "partitiontable") ((codes "partitiontable", object_of (all_fields device b o)) ∷ [])
    ((codes "partitiontable", object_of (all_fields other c p)) ∷ []) same) in
    let at : (k : List ℕ) (q r : Option Data) → Tells k (all_fields device b o) q → Tells k (all_fields other c p) r → q ≡ r =
    λ k q r here there. one_found k (all_fields device b o) (all_fields other c p) q r here there inner in
    let sectors = num_from o.sectors p.sectors (at (codes "sectors") _ _ (tells_sectors device b o) (tells_sectors other c p)) in
    let body = one_body device other o.labels p.labels fits.labels others.labels o.body p.body fits.body others.body order.chain
    order_there.chain
    (λ k q r lacks here there. at k q r (behind_common device b o k q lacks here) (behind_common other c p k r lacks there)) in (
      one_string device other (at (codes "device") _ _ (tells_device device b o) (tells_device other c p)),
      num_from b c (at (codes "sectorsize") _ _ (tells_sector_size device b o) (tells_sector_size other c p)),
      same_layout o p order order_there sectors body,
    )

pub one_value : (text : List ℕ) (x y : Data) → IsText text x → IsText text y → x ≡ y
one_value text x y of_x of_y = data_from x y (sym of_x.reads ∙ of_y.reads)

pub one_layout : (text device other : List ℕ) (b c : ℕ) (o p : Layout) → Widths o → Widths p → InOrder o → InOrder p
    → IsText text (table_data device b o) → IsText text (table_data other c p) → (device ≡ other) × (b ≡ c) × (o ≡ p)
one_layout text device other b c o p fits others order order_there here there =
    one_table device other b c o p fits others order order_there (one_value text (table_data device b o) (table_data other c p) here there)

-- That names and codes name what they stand for.
use Rattle.std.proofs.Common.{◌≡◌, ◌≢◌, ◌<◌, ℕ, List, [], ◌∷◌, length, Bool, true, false, Option, Some, None, find, All, refl, sym}
use Rattle.std.proofs.Common.{ap, ◌∙◌, subst, arith}
use Rattle.std.specs.Prelude.{bytes_eq, ◌==◌, ◌||◌, not, nat_eq, replicate}
use Rattle.std.specs.List.{AllByRecursion}
use Rattle.std.specs.Option.{is_some, option_map, option_or}
use Rattle.std.proofs.lemmas.Bool.{true≢false, eqb-true, ne_eqb}
use Rattle.pt_guid.specs.Codes.{rows, type_in, type_of}
use Rattle.pt_guid.specs.Guids.{stored_of, text_of}
use Rattle.pt_guid.specs.declared.guid.Guid.{Guid}
use Rattle.pt_guid.proofs.Terms.{text_reads_back}
use Rattle.pt_types.specs.Tables.{EntryRow, RecordRow, entry_table, record_table}
use Rattle.pt_types.specs.Types.{code_of, number_of, has_code, entry_of, entry_named, entry_coded, entry_for, stored_by}
use Rattle.pt_types.specs.Types.{entry_type_of, entry_name_of}
use Rattle.pt_types.specs.Types.{record_named, record_numbered, record_for, record_type_of, record_name_of}
use Rattle.pt_types.proofs.Found.{same_value, same_bytes, both, found_passes, found_all, found_named, each}
use Rattle.pt_types.proofs.TableFacts.{is_plain, is_plain_record, is_printed, is_used, is_used_number, has_text, entry_distinct}
use Rattle.pt_types.proofs.TableFacts.{record_distinct}
use Rattle.pt_types.proofs.TableFacts.{entries_plain, records_plain, entries_printed, entries_used, records_used, codes_have_rows}

-- what is no value
none_of : {X : Type 0} (o : Option X) → not (is_some o) ≡ true → o ≡ None
none_of None none = refl
none_of (Some x) none = absurd (true≢false (sym none))

plain_guid : (r : EntryRow) → is_plain r ≡ true → stored_of r.name ≡ None
plain_guid r plain = none_of (stored_of r.name) (both (not (is_some (stored_of r.name))) (not (is_some (code_of r.name))) plain).0

plain_code : (r : EntryRow) → is_plain r ≡ true → code_of r.name ≡ None
plain_code r plain = none_of (code_of r.name) (both (not (is_some (stored_of r.name))) (not (is_some (code_of r.name))) plain).1

plain_number : (r : RecordRow) → is_plain_record r ≡ true → number_of r.name ≡ None
plain_number r plain = none_of (number_of r.name) plain

printed : (r : EntryRow) → is_printed r ≡ true → option_map text_of (stored_of r.guid) ≡ Some r.guid
printed r is = by_text (option_map text_of (stored_of r.guid)) is where
  by_text : (o : Option (List ℕ)) → has_text o r.guid ≡ true → o ≡ Some r.guid
  by_text None is = absurd (true≢false (sym is))
  by_text (Some text) is = ap Some (same_bytes text r.guid is)

-- no name is a GUID's text or digits, and each GUID is printed as it stands
pub names_no_guids : All (λ (r : EntryRow). stored_of r.name ≡ None) entry_table
names_no_guids = each is_plain (λ (r : EntryRow). stored_of r.name ≡ None) plain_guid entry_table entries_plain

pub names_no_codes : All (λ (r : EntryRow). code_of r.name ≡ None) entry_table
names_no_codes = each is_plain (λ (r : EntryRow). code_of r.name ≡ None) plain_code entry_table entries_plain

pub names_no_numbers : All (λ (r : RecordRow). number_of r.name ≡ None) record_table
names_no_numbers = each is_plain_record (λ (r : RecordRow). number_of r.name ≡ None) plain_number record_table records_plain

pub guids_printed : All (λ (r : EntryRow). option_map text_of (stored_of r.guid) ≡ Some r.guid) entry_table
guids_printed = each is_printed (λ (r : EntryRow). option_map text_of (stored_of r.guid) ≡ Some r.guid) printed entry_table entries_printed

-- the type of a text that is no GUID and no code, and of one that is a code
type_named : (text : List ℕ) (o : Option EntryRow) → stored_of text ≡ None → code_of text ≡ None → entry_named text ≡ o
    → entry_type_of text ≡ stored_by o
type_named text o no_guid no_code named =
    ap (λ (g : Option (List ℕ)). option_or g (stored_by (entry_for (code_of text) text))) no_guid
    ∙ (ap (λ (k : Option ℕ). stored_by (entry_for k text)) no_code ∙ ap stored_by named)

type_coded : (text : List ℕ) (code : ℕ) → stored_of text ≡ None → code_of text ≡ Some code
    → entry_type_of text ≡ stored_by (entry_coded code)
type_coded text code no_guid coded =
    ap (λ (g : Option (List ℕ)). option_or g (stored_by (entry_for (code_of text) text))) no_guid
    ∙ ap (λ (k : Option ℕ). stored_by (entry_for k text)) coded

-- a printed name names the type
found_back : (stored : List ℕ) (r : EntryRow) → length stored ≡ 16 → All (λ byte. byte < 256) stored
    → entry_of (text_of stored) ≡ Some r → entry_type_of r.name ≡ Some stored
found_back stored r len bytes found =
    let guid : (λ (q : EntryRow). bytes_eq q.guid (text_of stored)) r ≡ true
    = found_passes (λ (q : EntryRow). bytes_eq q.guid (text_of stored)) entry_table r found in
    let plain : is_plain r ≡ true
    = found_all is_plain (λ (q : EntryRow). bytes_eq q.guid (text_of stored)) entry_table r entries_plain found in
    let named : entry_named r.name ≡ Some r
    = found_named (λ (q : EntryRow). q.name) (λ (q : EntryRow). bytes_eq q.guid (text_of stored)) entry_table r entry_distinct found in
    type_named r.name (Some r) (plain_guid r plain) (plain_code r plain) named
    ∙ (ap stored_of (same_bytes r.guid (text_of stored) guid) ∙ text_reads_back stored len bytes)

pub entry_reads_back : (stored name : List ℕ) → length stored ≡ 16 → All (λ byte. byte < 256) stored → entry_name_of stored ≡ Some name
    → entry_type_of name ≡ Some stored
entry_reads_back stored name len bytes is = by_row (entry_of (text_of stored)) refl is where
  by_row : (o : Option EntryRow) → entry_of (text_of stored) ≡ o → option_map (λ (r : EntryRow). r.name) o ≡ Some name
      → entry_type_of name ≡ Some stored
  by_row None none is = absurd cc
  by_row (Some r) found is =
      subst (λ (n : List ℕ). entry_type_of n ≡ Some stored) (same_value r.name name is) (found_back stored r len bytes found)

-- the same of records
number_back : (kind : ℕ) (r : RecordRow) → record_numbered kind ≡ Some r → record_type_of r.name ≡ Some kind
number_back kind r found =
    let here : nat_eq r.kind kind ≡ true = found_passes (λ (q : RecordRow). nat_eq q.kind kind) record_table r found in
    let plain : is_plain_record r ≡ true
    = found_all is_plain_record (λ (q : RecordRow). nat_eq q.kind kind) record_table r records_plain found in
    let named : record_named r.name ≡ Some r
    = found_named (λ (q : RecordRow). q.name) (λ (q : RecordRow). nat_eq q.kind kind) record_table r record_distinct found in
    ap (λ (n : Option ℕ). record_for n r.name) (plain_number r plain)
    ∙ (ap (option_map (λ (q : RecordRow). q.kind)) named ∙ ap Some (eqb-true r.kind kind here))

pub record_reads_back : (kind : ℕ) (name : List ℕ) → record_name_of kind ≡ Some name → record_type_of name ≡ Some kind
record_reads_back kind name is = by_row (record_numbered kind) refl is where
  by_row : (o : Option RecordRow) → record_numbered kind ≡ o → option_map (λ (r : RecordRow). r.name) o ≡ Some name
      → record_type_of name ≡ Some kind
  by_row None none is = absurd cc
  by_row (Some r) found is =
      subst (λ (n : List ℕ). record_type_of n ≡ Some kind) (same_value r.name name is) (number_back kind r found)

-- no text names the type of an unused record, or that of a protective one
used_row : (name : List ℕ) (r : RecordRow) → record_named name ≡ Some r → is_used_number r.kind ≡ true
used_row name r found = found_all (λ (q : RecordRow). is_used_number q.kind) (λ (q : RecordRow). bytes_eq q.name name) record_table r
    records_used found

used_for : (n : Option ℕ) (text : List ℕ) (kind : ℕ) → record_for n text ≡ Some kind → is_used_number kind ≡ true
used_for (Some m) text kind is = by_test ((m == 0) || (m == 0xEE)) refl where
  by_test : (b : Bool) → ((m == 0) || (m == 0xEE)) ≡ b → is_used_number kind ≡ true
  by_test true unused = let none : None ≡ Some kind = sym (rw unused refl) ∙ is in absurd cc
  by_test false used =
      subst (λ (k : ℕ). is_used_number k ≡ true) (same_value m kind (sym (rw used refl) ∙ is)) (rw used refl)
used_for None text kind is = by_row (record_named text) refl is where
  by_row : (o : Option RecordRow) → record_named text ≡ o → option_map (λ (r : RecordRow). r.kind) o ≡ Some kind
      → is_used_number kind ≡ true
  by_row None none is = absurd cc
  by_row (Some r) found is =
      subst (λ (k : ℕ). is_used_number k ≡ true) (same_value r.kind kind is) (used_row text r found)

pub never_unused : (text : List ℕ) → record_type_of text ≢ Some 0
never_unused text is = true≢false (sym (used_for (number_of text) text 0 is))

pub never_protective : (text : List ℕ) → record_type_of text ≢ Some 0xEE
never_protective text is = true≢false (sym (used_for (number_of text) text 0xEE is))

-- a row's type isn't that of an unused entry
row_used : (r : EntryRow) → is_used r ≡ true → stored_of r.guid ≢ Some (replicate 16 0)
row_used r used zero =
    let value : is_used r ≡ false = ap (λ (o : Option (List ℕ)). not (has_text o (replicate 16 0))) zero in
    true≢false (sym used ∙ value)

used_if_found : (p : EntryRow → Bool) (o : Option EntryRow) → find p entry_table ≡ o → stored_by o ≢ Some (replicate 16 0)
used_if_found p None found is = absurd cc
used_if_found p (Some r) found is = row_used r (found_all is_used p entry_table r entries_used found) is

used_if_for : (n : Option ℕ) (text : List ℕ) → stored_by (entry_for n text) ≢ Some (replicate 16 0)
used_if_for (Some code) text = used_if_found (λ (r : EntryRow). has_code r.code code) (entry_coded code) refl
used_if_for None text = used_if_found (λ (r : EntryRow). bytes_eq r.name text) (entry_named text) refl

pub never_zero : (text : List ℕ) → stored_of text ≡ None → entry_type_of text ≢ Some (replicate 16 0)
never_zero text no_guid is =
    used_if_for (code_of text) text
    (sym (ap (λ (g : Option (List ℕ)). option_or g (stored_by (entry_for (code_of text) text))) no_guid) ∙ is)

-- a code of pt_guid has the type that it has there
code_length : (text : List ℕ) (code : ℕ) → code_of text ≡ Some code → length text ≡ 4
code_length text code is = by_test (length text == 4) refl where
  by_test : (b : Bool) → (length text == 4) ≡ b → length text ≡ 4
  by_test true four = eqb-true (length text) 4 four
  by_test false other =
      let none : None ≡ Some code = sym (rw other refl) ∙ is in absurd cc

short_no_guid : (text : List ℕ) → length text ≢ 36 → stored_of text ≡ None
short_no_guid text other = rw (ne_eqb (length text) 36 other) refl

coded_in : (rs : List (ℕ × Guid)) (code : ℕ) (stored : List ℕ)
    → AllByRecursion (λ (r : ℕ × Guid). stored_by (entry_coded r.0) ≡ Some r.1.0) rs
    → type_in rs code ≡ Some stored → stored_by (entry_coded code) ≡ Some stored
coded_in [] code stored have is = absurd cc
coded_in (r ∷ rs) code stored have is = by_code (nat_eq code r.0) refl (coded_in rs code stored have.1) where
  by_code : (b : Bool) → nat_eq code r.0 ≡ b → (type_in rs code ≡ Some stored → stored_by (entry_coded code) ≡ Some stored)
      → stored_by (entry_coded code) ≡ Some stored
  by_code true here rest =
      ap (λ (k : ℕ). stored_by (entry_coded k)) (eqb-true code r.0 here) ∙ (have.0 ∙ (sym (rw here refl) ∙ is))
  by_code false other rest = rest (sym (rw other refl) ∙ is)

pub coded_agrees : (text : List ℕ) (code : ℕ) (stored : List ℕ) → code_of text ≡ Some code → type_of code ≡ Some stored
    → entry_type_of text ≡ Some stored
coded_agrees text code stored coded is =
    let four = code_length text code coded in
    type_coded text code (short_no_guid text (λ long. omega (arith, four, long))) coded
    ∙ coded_in rows code stored codes_have_rows is

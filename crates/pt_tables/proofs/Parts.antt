-- What stands under the names of a partition's object, field by field.
use Rattle.std.proofs.Common.{◌≡◌, ◌+◌, ◌-◌, ◌^◌, ℕ, List, [], ◌∷◌, length, Bool, true, false, Option, Some, None, codes}
use Rattle.std.proofs.Common.{refl, arith}
use Rattle.std.specs.Prelude.{if◌then◌else◌, nat_eq, nat_le, nat_lt}
use Rattle.std.specs.Char.Utf16.{utf16_lossy_chars}
use Rattle.std.specs.Str.{encode_utf8_all}
use Rattle.std.proofs.lemmas.Bool.{and_parts, eqb-true, leb-true}
use Rattle.serde_json.specs.Data.{Data, string}
use Rattle.pt_bsd.specs.declared.label.Label.{Label}
use Rattle.pt_tables.specs.Fields.{Field, end_field, has_size, num, nums, type_name_fields}
use Rattle.pt_tables.specs.Labels.{bsd_fields}
use Rattle.pt_tables.specs.Entries.{attribute_fields, attributes_text, is_no_text, name_fields, text_fields, trimmed}
use Rattle.pt_tables.proofs.Found.{Lacks, Other, Tells, tells_here, tells_none}

-- ## Fields that lack a name.

pub lacks_type_name : (k : List ℕ) → Other k (codes "type_name") → (o : Option (List ℕ)) → Lacks k (type_name_fields o)
lacks_type_name k other None = tt
lacks_type_name k other (Some name) = (other, tt)

pub lacks_name : (k : List ℕ) → Other k (codes "name") → Other k (codes "name_units") → (us : List ℕ) → Lacks k (name_fields us)
lacks_name k text units us = by_test (trimmed us) (nat_eq (length (trimmed us)) 0) (is_no_text (trimmed us)) where
  by_test : (ts : List ℕ) (z t : Bool)
      → Lacks k (if z then []
      else (if t then (codes "name_units", nums ts) else (codes "name", string (encode_utf8_all (utf16_lossy_chars ts)))) ∷ [])
  by_test ts true t = tt
  by_test ts false true = (units, tt)
  by_test ts false false = (text, tt)

lacks_text : (k : List ℕ) → Other k (codes "attrs") → (text : List ℕ) → Lacks k (text_fields text)
lacks_text k other [] = tt
lacks_text k other (x ∷ xs) = (other, tt)

pub lacks_attributes : (k : List ℕ) → Other k (codes "attributes") → Other k (codes "attrs") → (n : ℕ) → Lacks k (attribute_fields n)
lacks_attributes k number text n = by_test (nat_eq n 0) where
  by_test : (z : Bool) → Lacks k (if z then [] else (codes "attributes", num n) ∷ text_fields (attributes_text n))
  by_test true = tt
  by_test false = (number, lacks_text k text (attributes_text n))

pub lacks_label : (k : List ℕ) → Other k (codes "bsd") → (is_slice : Bool) (l : Option Label) → Lacks k (bsd_fields is_slice l)
lacks_label k other is_slice (Some l) = (other, tt)
lacks_label k other true None = (other, tt)
lacks_label k other false None = tt

-- ## Where a partition ends.

pub other_end : (k : List ℕ) (first last : ℕ) → Other k (codes "size") → Other k (codes "last") → Other k (end_field first last).0
other_end k first last size end = by_test (has_size first last) where
  by_test : (t : Bool) → (let f : Field = if t then (codes "size", num (last - first + 1)) else (codes "last", num last) in Other k f.0)
  by_test true = size
  by_test false = end

abbrev pub size_in : ℕ → ℕ → Option Data
size_in first last = if has_size first last then Some (num (last - first + 1)) else None

abbrev pub last_in : ℕ → ℕ → Option Data
last_in first last = if has_size first last then None else Some (num last)

module _ (first last : ℕ) (rest : List Field) where
  pub tells_size : Lacks (codes "size") rest → Tells (codes "size") (end_field first last ∷ rest) (size_in first last)
  tells_size lacks = by_test (has_size first last) where
    by_test : (t : Bool) → Tells (codes "size") ((if t then (codes "size", num (last - first + 1)) else (codes "last", num last)) ∷ rest)
        (if t then Some (num (last - first + 1)) else None)
    by_test true = tells_here (codes "size") (num (last - first + 1)) rest lacks
    by_test false = tells_none (codes "size") ((codes "last", num last) ∷ rest) (refl, lacks)

  pub tells_end : Lacks (codes "last") rest → Tells (codes "last") (end_field first last ∷ rest) (last_in first last)
  tells_end lacks = by_test (has_size first last) where
    by_test : (t : Bool) → Tells (codes "last") ((if t then (codes "size", num (last - first + 1)) else (codes "last", num last)) ∷ rest)
        (if t then None else Some (num last))
    by_test true = tells_none (codes "last") ((codes "size", num (last - first + 1)) ∷ rest) (refl, lacks)
    by_test false = tells_here (codes "last") (num last) rest lacks

pub one_end : (first last end : ℕ) → size_in first last ≡ size_in first end → last_in first last ≡ last_in first end → last ≡ end
one_end first last end size other = by_test (has_size first last) refl (has_size first end) refl size other where
  by_test : (t : Bool) → has_size first last ≡ t → (s : Bool) → has_size first end ≡ s
      → (if t then Some (num (last - first + 1)) else None) ≡ (if s then Some (num (end - first + 1)) else None)
      → (if t then None else Some (num last)) ≡ (if s then None else Some (num end)) → last ≡ end
  by_test true is true so size other =
      let low = leb-true first last (and_parts (nat_le first last) (nat_lt (last - first) (2 ^ 64 - 1)) is).0 in
      let high = leb-true first end (and_parts (nat_le first end) (nat_lt (end - first) (2 ^ 64 - 1)) so).0 in
      let many : last - first + 1 ≡ end - first + 1 = cc in
      omega (arith, low, high, many)
  by_test true is false so size other = absurd (cc)
  by_test false is true so size other = absurd (cc)
  by_test false is false so size other = cc

-- ## Attributes.

abbrev pub attributes_in : ℕ → Option Data
attributes_in n = if nat_eq n 0 then None else Some (num n)

pub tells_attributes : (n : ℕ) → Tells (codes "attributes") (attribute_fields n) (attributes_in n)
tells_attributes n = by_test (nat_eq n 0) where
  by_test : (z : Bool) → Tells (codes "attributes") (if z then [] else (codes "attributes", num n) ∷ text_fields (attributes_text n))
      (if z then None else Some (num n))
  by_test true = tells_none (codes "attributes") [] tt
  by_test false =
      tells_here (codes "attributes") (num n) (text_fields (attributes_text n)) (lacks_text (codes "attributes") refl (attributes_text n))

pub one_attributes : (m n : ℕ) → attributes_in m ≡ attributes_in n → m ≡ n
one_attributes m n same = by_test (nat_eq m 0) refl (nat_eq n 0) refl same where
  by_test : (t : Bool) → nat_eq m 0 ≡ t → (s : Bool) → nat_eq n 0 ≡ s
      → (if t then None else Some (num m)) ≡ (if s then None else Some (num n)) → m ≡ n
  by_test true is true so same = omega (arith, eqb-true m 0 is, eqb-true n 0 so)
  by_test true is false so same = absurd (cc)
  by_test false is true so same = absurd (cc)
  by_test false is false so same = cc

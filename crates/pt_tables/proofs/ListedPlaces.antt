-- Entries and records, place by place, that are written as one list.
use Rattle.std.proofs.Common.{◌≡◌, ◌+◌, ℕ, suc, List, [], ◌∷◌, ◌++◌, length, map, Option, Some, None, IfSome, All, refl, ap, ap₂}
use Rattle.std.proofs.Common.{arith, codes, option_map, subst}
use Rattle.std.proofs.lemmas.List.Elements.{All-head, All-tail}
use Rattle.serde_json.specs.Data.{Data, number, unsigned}
use Rattle.serde_json.specs.Find.{get}
use Rattle.pt_gpt.specs.declared.entry.Entry.{Entry}
use Rattle.pt_mbr.specs.declared.record.Record.{Record}
use Rattle.pt_members.specs.Members.{label_of}
use Rattle.pt_members.specs.declared.layout.Labelled.{Labelled}
use Rattle.pt_tables.specs.Fields.{numbered, object_of}
use Rattle.pt_tables.specs.Entries.{entries_data, entry_fields}
use Rattle.pt_tables.specs.Records.{record_fields, records_data}
use Rattle.pt_tables.specs.Shown.{numbers_from}
use Rattle.pt_tables.proofs.LabelLists.{SameAt}
use Rattle.pt_tables.proofs.SameEntries.{entry_number}
use Rattle.pt_tables.proofs.SameRecords.{record_number, record_place}
use Rattle.pt_tables.proofs.Slots.{Keyed, Slot, datas}

-- ## What a partition's object tells of its place.

abbrev pub number_in : Option Data → ℕ
number_in (Some (number (unsigned n))) = n
number_in _ = 0

-- an extended boot record's sector, past the numbers of records, or the number
abbrev pub place_in : Option Data → Option Data → ℕ
place_in None n = number_in n
place_in (Some at) n = 5 + number_in (Some at)

abbrev pub place_of : Data → ℕ
place_of d = place_in (get (codes "record") d) (get (codes "number") d)

abbrev pub number_told : Data → ℕ
number_told d = number_in (get (codes "number") d)

-- ## Places in a row, from number n on.

module _ {X : Type 0} (f : ℕ → X → Data) where
  abbrev pub slots : ℕ → List (Option X) → List Slot
  slots n [] = []
  slots n (x ∷ xs) = (n, option_map (f n) x) ∷ slots (n + 1) xs

  pub slots_keyed : (key : Data → ℕ) → ((n : ℕ) (x : X) → key (f n x) ≡ n) → (n : ℕ) (xs : List (Option X)) (rest : List Slot)
      → Keyed key (n + length xs) rest → Keyed key n (slots n xs ++ rest)
  slots_keyed key tells n [] rest keyed =
      let here : n + 0 ≡ n = omega arith in
      subst (λ k. Keyed key k rest) here keyed
  slots_keyed key tells n (x ∷ xs) rest keyed =
      let next : n + 1 ≡ suc n = omega arith in
      let end : n + suc (length xs) ≡ n + 1 + length xs = omega arith in
      let later = slots_keyed key tells (n + 1) xs rest (subst (λ k. Keyed key k rest) end keyed) in
      (omega arith, by_place x, subst (λ k. Keyed key k (slots (n + 1) xs ++ rest)) next later)
    where
      by_place : (o : Option X) → IfSome (option_map (f n) o) (λ d. key d ≡ n)
      by_place None = tt
      by_place (Some y) = tells n y

pub same_keys : {X : Type 0} (f g : ℕ → X → Data) (n : ℕ) (xs ys : List (Option X)) (us vs : List Slot) → length xs ≡ length ys
    → map (λ s. s.0) us ≡ map (λ s. s.0) vs → map (λ s. s.0) (slots f n xs ++ us) ≡ map (λ s. s.0) (slots g n ys ++ vs)
same_keys f g n [] [] us vs long same = same
same_keys f g n [] (y ∷ ys) us vs long same = absurd (omega (arith, long))
same_keys f g n (x ∷ xs) [] us vs long same = absurd (omega (arith, long))
same_keys f g n (x ∷ xs) (y ∷ ys) us vs long same =
    ap (λ (ks : List ℕ). n ∷ ks) (same_keys f g (n + 1) xs ys us vs (omega (arith, long)) same)

-- places that are alike: one list, and labels that are alike at the numbers of the used ones
module _ {X : Type 0} (f g : ℕ → X → Data) (Fits : X → Type 0) (ls ms : List Labelled)
    (back : (n : ℕ) (x y : X) → Fits x → Fits y → f n x ≡ g n y → (x ≡ y) × (label_of ls n ≡ label_of ms n)) where
  pub one_row : (n : ℕ) (xs ys : List (Option X)) (us vs : List Slot) → All (λ x. IfSome x Fits) xs → All (λ x. IfSome x Fits) ys
      → length xs ≡ length ys → slots f n xs ++ us ≡ slots g n ys ++ vs → (xs ≡ ys) × SameAt (numbers_from n xs) ls ms × (us ≡ vs)
  unfolding numbers_from
  one_row n [] [] us vs fits others long same = (refl, tt, same)
  one_row n [] (y ∷ ys) us vs fits others long same = absurd (omega (arith, long))
  one_row n (x ∷ xs) [] us vs fits others long same = absurd (omega (arith, long))
  one_row n (x ∷ xs) (y ∷ ys) us vs fits others long same =
      let first : Slot = (n, option_map (f n) x) in
      let other : Slot = (n, option_map (g n) y) in
      let heads : first ≡ other = cc in
      let here : option_map (f n) x ≡ option_map (g n) y = ap (λ (s : Slot). s.1) heads in
      let there : slots f (n + 1) xs ++ us ≡ slots g (n + 1) ys ++ vs = cc in
      let rest = one_row (n + 1) xs ys us vs (All-tail (λ (z : Option X). IfSome z Fits) x xs fits)
      (All-tail (λ (z : Option X). IfSome z Fits) y ys others)
      (omega (arith, long)) there in
      by_place x y (All-head (λ (z : Option X). IfSome z Fits) x xs fits) (All-head (λ (z : Option X). IfSome z Fits) y ys others) here rest
    where
      by_place : (o q : Option X) → IfSome o Fits → IfSome q Fits → option_map (f n) o ≡ option_map (g n) q
          → (xs ≡ ys) × SameAt (numbers_from (n + 1) xs) ls ms × (us ≡ vs)
          → (o ∷ xs ≡ q ∷ ys) × SameAt (numbers_from n (o ∷ xs)) ls ms × (us ≡ vs)
      by_place None None fits others same rest = (ap (λ zs. None ∷ zs) rest.0, rest.1, rest.2)
      by_place None (Some y) fits others same rest = absurd (cc)
      by_place (Some x) None fits others same rest = absurd (cc)
      by_place (Some x) (Some y) fits others same rest =
          let is : f n x ≡ g n y = cc in
          let both = back n x y fits others is in
          (ap₂ (λ z zs. Some z ∷ zs) both.0 rest.0, (both.1, rest.1), rest.2)

-- ## The entries of a GPT.

module _ (device : List ℕ) (labels : List Labelled) where
  abbrev pub entry_object : ℕ → Entry → Data
  entry_object n e = object_of (entry_fields device n e (label_of labels n))

  pub entries_listed : (n : ℕ) (es : List (Option Entry)) → datas (slots entry_object n es) ≡ entries_data device labels n es
  unfolding numbered
  entries_listed n [] = refl
  entries_listed n (None ∷ es) = entries_listed (n + 1) es
  entries_listed n (Some e ∷ es) = ap (λ ds. entry_object n e ∷ ds) (entries_listed (n + 1) es)

  pub entry_tells : (n : ℕ) (e : Entry) → number_told (entry_object n e) ≡ n
  entry_tells n e = ap number_in (entry_number device n e (label_of labels n))

  abbrev pub record_object : ℕ → Record → Data
  record_object n r = object_of (record_fields device n r (label_of labels n))

  pub records_listed : (n : ℕ) (rs : List (Option Record)) → datas (slots record_object n rs) ≡ records_data device labels n rs
  unfolding numbered
  records_listed n [] = refl
  records_listed n (None ∷ rs) = records_listed (n + 1) rs
  records_listed n (Some r ∷ rs) = ap (λ ds. record_object n r ∷ ds) (records_listed (n + 1) rs)

  pub record_tells : (n : ℕ) (r : Record) → place_of (record_object n r) ≡ n
  record_tells n r = ap₂ place_in (record_place device n r (label_of labels n)) (record_number device n r (label_of labels n))

-- Chains whose logical partitions are written as one list.
use Rattle.std.proofs.Common.{◌≡◌, ◌≤◌, ◌+◌, ◌∙◌, ℕ, suc, List, [], ◌∷◌, ◌++◌, map, Option, Some, None, IfSome, refl, sym, ap, ap₂}
use Rattle.std.proofs.Common.{arith, codes, option_map, subst}
use Rattle.std.proofs.lemmas.List.Elements.{All-head, All-tail}
use Rattle.serde_json.specs.Data.{Data}
use Rattle.serde_json.specs.Find.{get}
use Rattle.pt_sector.specs.declared.address.Lba.{Lba}
use Rattle.pt_mbr.specs.Chain.{IsUpward}
use Rattle.pt_mbr.specs.declared.ebr.Ebr.{Ebr}
use Rattle.pt_mbr.specs.declared.record.Record.{Record}
use Rattle.pt_edit.specs.Chains.{IsLinked}
use Rattle.pt_members.specs.Members.{label_of}
use Rattle.pt_members.specs.declared.layout.Labelled.{Labelled}
use Rattle.pt_tables.specs.Fields.{object_of}
use Rattle.pt_tables.specs.Records.{logical_data, logical_fields, logicals_data, number_after}
use Rattle.pt_tables.specs.Shown.{ChainWidths, LabelsWidths, RecordWidths, logical_number, logical_numbers}
use Rattle.pt_tables.proofs.LabelLists.{SameAt, widths_of}
use Rattle.pt_tables.proofs.ListedPlaces.{place_in, place_of}
use Rattle.pt_tables.proofs.SameRecords.{logical_place, one_logical}
use Rattle.pt_tables.proofs.Slots.{Keyed, Slot, datas, taken}

-- the sectors of extended boot records
abbrev pub sectors_of : List Ebr → List ℕ
sectors_of es = map (λ (e : Ebr). e.at.0) es

module _ (device : List ℕ) (labels : List Labelled) where
  abbrev pub logical_object : ℕ → ℕ → Record → Data
  logical_object n at r = object_of (logical_fields device n at r (label_of labels n))

  abbrev pub chain_slots : ℕ → List Ebr → List Slot
  chain_slots n [] = []
  chain_slots n (e ∷ es) = (5 + e.at.0, option_map (logical_object n e.at.0) e.logical) ∷ chain_slots (number_after n e.logical) es

  pub logicals_listed : (n : ℕ) (es : List Ebr) → datas (chain_slots n es) ≡ logicals_data device labels n es
  unfolding logicals_data
  logicals_listed n [] = refl
  logicals_listed n (e ∷ es) = by_logical e.logical (λ m. logicals_listed m es) where
    by_logical : (o : Option Record) → ((m : ℕ) → datas (chain_slots m es) ≡ logicals_data device labels m es)
        → taken (option_map (logical_object n e.at.0) o) (datas (chain_slots (number_after n o) es))
        ≡ logical_data device labels n e.at.0 o ++ logicals_data device labels (number_after n o) es
    by_logical None rest = rest n
    by_logical (Some r) rest = ap (λ ds. logical_object n e.at.0 r ∷ ds) (rest (n + 1))

  logical_tells : (n at : ℕ) (r : Record) → place_of (logical_object n at r) ≡ 5 + at
  logical_tells n at r =
      ap (λ o. place_in o (get (codes "number") (logical_object n at r))) (logical_place device n at r (label_of labels n))

  up_from : (at : Lba) (next : Option Lba) → IsUpward at next → IfSome next (λ (a : Lba). suc (5 + at.0) ≤ 5 + a.0)
  up_from at None up = tt
  up_from at (Some a) up = omega (arith, up)

  pub chain_keyed : (low n : ℕ) (from : Option Lba) (es : List Ebr) → IsLinked from es → IfSome from (λ (a : Lba). low ≤ 5 + a.0)
      → Keyed place_of low (chain_slots n es)
  chain_keyed low n from [] linked above = tt
  chain_keyed low n from (e ∷ es) linked above = (
    subst (λ (o : Option Lba). IfSome o (λ (a : Lba). low ≤ 5 + a.0)) linked.0 above,
    by_logical e.logical,
    chain_keyed (suc (5 + e.at.0)) (number_after n e.logical) e.next es linked.2 (up_from e.at e.next linked.1),
  ) where
    by_logical : (o : Option Record) → IfSome (option_map (logical_object n e.at.0) o) (λ d. place_of d ≡ 5 + e.at.0)
    by_logical None = tt
    by_logical (Some r) = logical_tells n e.at.0 r

pub chain_keys : (device other : List ℕ) (ls ms : List Labelled) (n m : ℕ) (es fs : List Ebr) → sectors_of es ≡ sectors_of fs
    → map (λ s. s.0) (chain_slots device ls n es) ≡ map (λ s. s.0) (chain_slots other ms m fs)
chain_keys device other ls ms n m [] [] same = refl
chain_keys device other ls ms n m [] (f ∷ fs) same = absurd (cc)
chain_keys device other ls ms n m (e ∷ es) [] same = absurd (cc)
chain_keys device other ls ms n m (e ∷ es) (f ∷ fs) same =
    let first : e.at.0 ≡ f.at.0 = cc in
    let rest : sectors_of es ≡ sectors_of fs = cc in
    ap₂ (λ (k : ℕ) (ks : List ℕ). (5 + k) ∷ ks) first
    (chain_keys device other ls ms (number_after n e.logical) (number_after m f.logical) es fs rest)

-- the two have the same sectors and the same logical partitions
abbrev pub SamePlaces : List Ebr → List Ebr → Type 0
SamePlaces [] [] = Unit {0}
SamePlaces [] (f ∷ fs) = ⊥
SamePlaces (e ∷ es) [] = ⊥
SamePlaces (e ∷ es) (f ∷ fs) = (e.at ≡ f.at) × (e.logical ≡ f.logical) × SamePlaces es fs

module _ (device other : List ℕ) (ls ms : List Labelled) (label_fits : LabelsWidths ls) (label_others : LabelsWidths ms) where
  pub one_chain : (n : ℕ) (es fs : List Ebr) → ChainWidths es → ChainWidths fs → chain_slots device ls n es ≡ chain_slots other ms n fs
      → SamePlaces es fs × SameAt (logical_numbers n es) ls ms
  unfolding logical_numbers
  one_chain n [] [] fits others same = (tt, tt)
  one_chain n [] (f ∷ fs) fits others same = absurd (cc)
  one_chain n (e ∷ es) [] fits others same = absurd (cc)
  one_chain n (e ∷ es) (f ∷ fs) fits others same =
      let first : Slot = (5 + e.at.0, option_map (logical_object device ls n e.at.0) e.logical) in
      let second : Slot = (5 + f.at.0, option_map (logical_object other ms n f.at.0) f.logical) in
      let heads : first ≡ second = cc in
      let sums : 5 + e.at.0 ≡ 5 + f.at.0 = ap (λ (s : Slot). s.0) heads in
      let place : e.at.0 ≡ f.at.0 = omega (arith, sums) in
      let here : option_map (logical_object device ls n e.at.0) e.logical ≡ option_map (logical_object other ms n e.at.0) f.logical =
      ap (λ (s : Slot). s.1) heads ∙ ap (λ (at : ℕ). option_map (logical_object other ms n at) f.logical) (sym place) in
      let there : chain_slots device ls (number_after n e.logical) es ≡ chain_slots other ms (number_after n f.logical) fs = cc in
      let at : e.at ≡ f.at = ap (λ (k : ℕ). record { 0 = k }) place in
      by_logical at e.logical refl f.logical refl
      (All-head (λ (x : Ebr). IfSome x.logical RecordWidths) e es fits)
      (All-head (λ (x : Ebr). IfSome x.logical RecordWidths) f fs others) here there
      (λ m. one_chain m es fs (All-tail (λ (x : Ebr). IfSome x.logical RecordWidths) e es fits)
      (All-tail (λ (x : Ebr). IfSome x.logical RecordWidths) f fs others))
    where
      by_logical : e.at ≡ f.at → (o : Option Record) → e.logical ≡ o → (q : Option Record) → f.logical ≡ q → IfSome o RecordWidths
          → IfSome q RecordWidths
          → option_map (logical_object device ls n e.at.0) o ≡ option_map (logical_object other ms n e.at.0) q
          → chain_slots device ls (number_after n o) es ≡ chain_slots other ms (number_after n q) fs
          → ((m : ℕ) → chain_slots device ls m es ≡ chain_slots other ms m fs → SamePlaces es fs × SameAt (logical_numbers m es) ls ms)
          → SamePlaces (e ∷ es) (f ∷ fs) × SameAt (logical_number n o ++ logical_numbers (number_after n o) es) ls ms
      by_logical at None is None so fits others here there rest =
          let more = rest n there in
          ((at, is ∙ sym so, more.0), more.1)
      by_logical at None is (Some s) so fits others here there rest = absurd (cc)
      by_logical at (Some r) is None so fits others here there rest = absurd (cc)
      by_logical at (Some r) is (Some s) so fits others here there rest =
          let more = rest (n + 1) there in
          let object : logical_object device ls n e.at.0 r ≡ logical_object other ms n e.at.0 s = cc in
          let both = one_logical device other n n e.at.0 r s (label_of ls n) (label_of ms n) fits others (widths_of ls n label_fits)
          (widths_of ms n label_others) object in
          ((at, is ∙ ap Some both.0 ∙ sym so, more.0), (both.1, more.1))

-- chains that lead on and have the same places are equal
pub same_chain : (from to : Option Lba) (es fs : List Ebr) → IsLinked from es → IsLinked to fs → SamePlaces es fs → (from ≡ to) × (es ≡ fs)
same_chain from to [] [] linked others same = (linked ∙ sym others, refl)
same_chain from to [] (f ∷ fs) linked others same = absurd same
same_chain from to (e ∷ es) [] linked others same = absurd same
same_chain from to (e ∷ es) (f ∷ fs) linked others same =
    let rest = same_chain e.next f.next es fs linked.2 others.2 same.2 in
    let first : e ≡ f = λ i. record { at = same.0 i; logical = same.1 i; next = rest.0 i } in
    (linked.0 ∙ ap Some same.0 ∙ sym others.0, ap₂ (λ (x : Ebr) (xs : List Ebr). x ∷ xs) first rest.1)

-- One step through the table of codes.
use Rattle.std.proofs.Common.{◌≡◌, ◌<◌, ◌≤◌, ◌+◌, ℕ, List, [], ◌∷◌, length, get_or, drop, Bool, true, false, Some, None, refl, sym, ap}
use Rattle.std.proofs.Common.{◌∙◌}
use Rattle.std.specs.Prelude.{◌≢◌, nat_eq}
use Rattle.std.proofs.lemmas.List.{drop_more, drop_all}
use Rattle.std.proofs.lemmas.Bool.{eq-eqb, ne_eqb}
use Rattle.pt_guid.specs.Codes.{type_in}
use Rattle.pt_guid.specs.declared.guid.Guid.{Guid}

-- a row for what has none
abbrev pub no_row : ℕ × Guid
no_row = (0, record { 0 = [] })

-- the row at a place has the code, or it is a later one's
pub type_here : (rs : List (ℕ × Guid)) (k code : ℕ) (d : ℕ × Guid) → k < length rs → (get_or rs k d).0 ≡ code
    → type_in (drop k rs) code ≡ Some (get_or rs k d).1.0
type_here rs k code d lt is =
    ap (λ (l : List (ℕ × Guid)). type_in l code) (drop_more rs k d lt) ∙ rw (eq-eqb code (get_or rs k d).0 (sym is)) refl

pub type_next : (rs : List (ℕ × Guid)) (k code : ℕ) (d : ℕ × Guid) → k < length rs → (get_or rs k d).0 ≢ code
    → type_in (drop k rs) code ≡ type_in (drop (k + 1) rs) code
type_next rs k code d lt other =
    ap (λ (l : List (ℕ × Guid)). type_in l code) (drop_more rs k d lt) ∙ rw (ne_eqb code (get_or rs k d).0 (λ same. other (sym same))) refl

pub type_none : (rs : List (ℕ × Guid)) (k code : ℕ) → length rs ≤ k → type_in (drop k rs) code ≡ None
type_none rs k code past = ap (λ (l : List (ℕ × Guid)). type_in l code) (drop_all k rs past)

-- a code with a type that the row at a place hasn't is a later row's
pub type_past : (rs : List (ℕ × Guid)) (k code : ℕ) (d : ℕ × Guid) (kind : List ℕ) → k < length rs → (get_or rs k d).1.0 ≢ kind
    → type_in (drop k rs) code ≡ Some kind → type_in (drop (k + 1) rs) code ≡ Some kind
type_past rs k code d kind lt other is = by_code (nat_eq code (get_or rs k d).0) refl where
  opened : type_in (get_or rs k d ∷ drop (k + 1) rs) code ≡ Some kind
  opened = sym (ap (λ (l : List (ℕ × Guid)). type_in l code) (drop_more rs k d lt)) ∙ is

  by_code : (p : Bool) → nat_eq code (get_or rs k d).0 ≡ p → type_in (drop (k + 1) rs) code ≡ Some kind
  by_code true here = (let both : Some (get_or rs k d).1.0 ≡ Some kind = sym (rw here refl) ∙ opened in absurd (other cc))
  by_code false there = sym (rw there refl) ∙ opened

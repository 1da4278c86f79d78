-- The number of the extended record in a search from the first to the last.
use Rattle.std.proofs.Common.{◌≡◌, ◌∙◌, ◌<◌, ◌≤◌, ◌+◌, ℕ, Bool, true, false, List, ◌∷◌, length, get_or, drop, Option, Some, None, refl, sym}
use Rattle.std.proofs.Common.{ap}
use Rattle.std.specs.Prelude.{◌↔◌, IsTrue}
use Rattle.std.proofs.lemmas.List.{drop_all, drop_more}
use Rattle.pt_mbr.specs.declared.record.Record.{Record}
use Rattle.pt_mbr.specs.Records.{IsExtendedKind, is_extended}
use Rattle.pt_edit.proofs.TypesLemmas.{told_extended}
use Rattle.pt_edit.specs.Free.{extended_from}

plain_step : (n : ℕ) (r : Record) (rs : List (Option Record)) → is_extended r.kind ≡ false
    → extended_from n (Some r ∷ rs) ≡ extended_from (n + 1) rs
unfolding extended_from
plain_step n r rs plain = rw plain refl

found_step : (n : ℕ) (r : Record) (rs : List (Option Record)) → is_extended r.kind ≡ true → extended_from n (Some r ∷ rs) ≡ Some (n, r)
unfolding extended_from
found_step n r rs is = rw is refl

none_step : (n : ℕ) (rs : List (Option Record)) → extended_from n (None ∷ rs) ≡ extended_from (n + 1) rs
unfolding extended_from
none_step n rs = refl

module _ (n : ℕ) (rs : List (Option Record)) (k : ℕ) (z : Option Record) (within : k < length rs) where
  opened : (x : Option Record) → get_or rs k z ≡ x → extended_from n (drop k rs) ≡ extended_from n (x ∷ drop (k + 1) rs)
  opened x at = ap (extended_from n) (drop_more rs k z within) ∙ ap (λ (y : Option Record). extended_from n (y ∷ drop (k + 1) rs)) at

  pub unused_next : get_or rs k z ≡ None → extended_from n (drop k rs) ≡ extended_from (n + 1) (drop (k + 1) rs)
  unused_next at = opened None at ∙ none_step n (drop (k + 1) rs)

  pub plain_next : (r : Record) (told : Bool) → get_or rs k z ≡ Some r → (IsTrue told ↔ IsExtendedKind r.kind) → told ≡ false
      → extended_from n (drop k rs) ≡ extended_from (n + 1) (drop (k + 1) rs)
  plain_next r told at tells is = opened (Some r) at ∙ plain_step n r (drop (k + 1) rs) (sym (told_extended told r.kind tells) ∙ is)

  pub found_next : (r : Record) (told : Bool) → get_or rs k z ≡ Some r → (IsTrue told ↔ IsExtendedKind r.kind) → told ≡ true
      → extended_from n (drop k rs) ≡ Some (n, r)
  found_next r told at tells is = opened (Some r) at ∙ found_step n r (drop (k + 1) rs) (sym (told_extended told r.kind tells) ∙ is)

pub none_left : (n : ℕ) (rs : List (Option Record)) (k : ℕ) → length rs ≤ k → extended_from n (drop k rs) ≡ None
unfolding extended_from
none_left n rs k past = ap (extended_from n) (drop_all k rs past)

-- a step of the search, and its end
pub ruleset searched = (unused_next, plain_next, found_next, none_left)

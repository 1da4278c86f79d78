-- The extended records, place by place.
use Rattle.std.proofs.Common.{◌≡◌, ◌<◌, ◌≤◌, ◌+◌, ℕ, List, ◌∷◌, ◌++◌, length, get_or, drop, Option, Some, None, refl, ap, ◌∙◌, arith}
use Rattle.std.proofs.Common.{true, false, append-nil}
use Rattle.std.proofs.lemmas.List.{drop_all, drop_more}
use Rattle.pt_mbr.specs.Records.{IsExtendedKind, extended_of, is_extended}
use Rattle.pt_mbr.specs.declared.record.Record.{Record}

is_kind : (k : ℕ) → IsExtendedKind k → is_extended k ≡ true
is_kind k is = grind arith

is_other : (k : ℕ) → ¬ IsExtendedKind k → is_extended k ≡ false
is_other k other = grind arith

none_step : (rs : List (Option Record)) → extended_of (None ∷ rs) ≡ extended_of rs
unfolding extended_of
none_step rs = refl

other_step : (r : Record) (rs : List (Option Record)) → is_extended r.kind ≡ false → extended_of (Some r ∷ rs) ≡ extended_of rs
unfolding extended_of
other_step r rs other = rw other refl

one_step : (r : Record) (rs : List (Option Record)) → is_extended r.kind ≡ true → extended_of (Some r ∷ rs) ≡ r ∷ extended_of rs
unfolding extended_of
one_step r rs is = rw is refl

opened_at : {X : Type 0} (xs : List X) (k : ℕ) (z x : X) → k < length xs → get_or xs k z ≡ x → drop k xs ≡ x ∷ drop (k + 1) xs
opened_at xs k z x lt at = drop_more xs k z lt ∙ ap (λ (y : _). y ∷ drop (k + 1) xs) at

pub none_here : (rs : List (Option Record)) (k : ℕ) (z : Option Record) → k < length rs → get_or rs k z ≡ None
    → extended_of (drop k rs) ≡ extended_of (drop (k + 1) rs)
none_here rs k z lt at = ap extended_of (opened_at rs k z None lt at) ∙ none_step (drop (k + 1) rs)

pub other_here : (rs : List (Option Record)) (k : ℕ) (z : Option Record) (r : Record) → k < length rs → get_or rs k z ≡ Some r
    → ¬ IsExtendedKind r.kind → extended_of (drop k rs) ≡ extended_of (drop (k + 1) rs)
other_here rs k z r lt at other = ap extended_of (opened_at rs k z (Some r) lt at) ∙ other_step r (drop (k + 1) rs) (is_other r.kind other)

pub one_here : (rs : List (Option Record)) (k : ℕ) (z : Option Record) (r : Record) → k < length rs → get_or rs k z ≡ Some r
    → IsExtendedKind r.kind → extended_of (drop k rs) ≡ r ∷ extended_of (drop (k + 1) rs)
one_here rs k z r lt at is = ap extended_of (opened_at rs k z (Some r) lt at) ∙ one_step r (drop (k + 1) rs) (is_kind r.kind is)

pub extended_end : (rs : List (Option Record)) (k : ℕ) (xs : List Record) → length rs ≤ k
    → extended_of rs ≡ xs ++ extended_of (drop k rs) → extended_of rs ≡ xs
unfolding extended_of
extended_end rs k xs past same = same ∙ ap (λ (l : _). xs ++ extended_of l) (drop_all k rs past) ∙ append-nil xs

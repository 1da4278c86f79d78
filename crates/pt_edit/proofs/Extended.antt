-- The extended record in a search from the first to the last.
use Rattle.std.proofs.Common.{◌≡◌, ◌∙◌, ◌<◌, ◌≤◌, ◌+◌, ℕ, suc, true, false, List, ◌∷◌, length, get_or, drop, Option, Some, None, refl, ap}
use Rattle.std.proofs.Common.{arith}
use Rattle.std.proofs.Math.Seq.{drop-cons}
use Rattle.std.proofs.lemmas.List.{drop_all}
use Rattle.pt_mbr.specs.declared.record.Record.{Record}
use Rattle.pt_mbr.specs.Records.{is_extended, extended_of}
use Rattle.pt_edit.specs.MbrEdits.{extended_record}

none_step : (rs : List (Option Record)) → extended_record (None ∷ rs) ≡ extended_record rs
unfolding extended_of
none_step rs = refl

plain_step : (r : Record) (rs : List (Option Record)) → is_extended r.kind ≡ false → extended_record (Some r ∷ rs) ≡ extended_record rs
unfolding extended_of
plain_step r rs plain = rw plain refl

found_step : (r : Record) (rs : List (Option Record)) → is_extended r.kind ≡ true → extended_record (Some r ∷ rs) ≡ Some r
unfolding extended_of
found_step r rs is = rw is refl

opened : (rs : List (Option Record)) (k : ℕ) (z x : Option Record) → k < length rs → get_or rs k z ≡ x → drop k rs ≡ x ∷ drop (k + 1) rs
opened rs k z x within at =
    let e : suc k ≡ k + 1 = omega arith in
    drop-cons rs k z within ∙ (ap (λ (n : ℕ). get_or rs k z ∷ drop n rs) e ∙ ap (λ (y : Option Record). y ∷ drop (k + 1) rs) at)

pub none_here : (rs : List (Option Record)) (k : ℕ) (z : Option Record) → k < length rs → get_or rs k z ≡ None
    → extended_record (drop k rs) ≡ extended_record (drop (k + 1) rs)
none_here rs k z within at = ap extended_record (opened rs k z None within at) ∙ none_step (drop (k + 1) rs)

pub plain_here : (rs : List (Option Record)) (k : ℕ) (z : Option Record) (r : Record) → k < length rs → get_or rs k z ≡ Some r
    → is_extended r.kind ≡ false → extended_record (drop k rs) ≡ extended_record (drop (k + 1) rs)
plain_here rs k z r within at plain = ap extended_record (opened rs k z (Some r) within at) ∙ plain_step r (drop (k + 1) rs) plain

pub found_here : (rs : List (Option Record)) (k : ℕ) (z : Option Record) (r : Record) → k < length rs → get_or rs k z ≡ Some r
    → is_extended r.kind ≡ true → extended_record (drop k rs) ≡ Some r
found_here rs k z r within at is = ap extended_record (opened rs k z (Some r) within at) ∙ found_step r (drop (k + 1) rs) is

pub ended : (rs : List (Option Record)) (k : ℕ) → length rs ≤ k → extended_record (drop k rs) ≡ None
unfolding extended_of
ended rs k past = ap extended_record (drop_all k rs past)

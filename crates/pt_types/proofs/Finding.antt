-- One step of a search through families of rows.
use Rattle.std.proofs.Common.{◌≡◌, ◌<◌, ◌+◌, ℕ, List, length, get_or, drop, Bool, Option, Some, None, find, flat_map, sym, ap, ◌∙◌}
use Rattle.std.specs.Option.{option_or}
use Rattle.std.proofs.lemmas.List.{drop_more}
use Rattle.std.proofs.lemmas.List.Concat.{flat_map-cons}
use Rattle.std.proofs.lemmas.List.Folds.{find-append}

module _ {X Y : Type 0} (p : Y → Bool) (h : X → List Y) where
  by_family : (xs : List X) (k : ℕ) (d : X) → k < length xs
      → find p (flat_map h (drop k xs)) ≡ option_or (find p (h (get_or xs k d))) (find p (flat_map h (drop (k + 1) xs)))
  by_family xs k d lt =
      ap (λ (l : List X). find p (flat_map h l)) (drop_more xs k d lt)
      ∙ (ap (find p) (flat_map-cons h (get_or xs k d) (drop (k + 1) xs))
      ∙ find-append p (h (get_or xs k d)) (flat_map h (drop (k + 1) xs)))

  pub found_here : (xs : List X) (k : ℕ) (d : X) (y : Y) → k < length xs → Some y ≡ find p (h (get_or xs k d))
      → find p (flat_map h (drop k xs)) ≡ Some y
  found_here xs k d y lt here =
      by_family xs k d lt ∙ ap (λ (o : Option Y). option_or o (find p (flat_map h (drop (k + 1) xs)))) (sym here)

  pub found_later : (xs : List X) (k : ℕ) (d : X) → k < length xs → None ≡ find p (h (get_or xs k d))
      → find p (flat_map h (drop k xs)) ≡ find p (flat_map h (drop (k + 1) xs))
  found_later xs k d lt none =
      by_family xs k d lt ∙ ap (λ (o : Option Y). option_or o (find p (flat_map h (drop (k + 1) xs)))) (sym none)

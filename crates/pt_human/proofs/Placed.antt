-- A line is put behind all that don't come after it.
use Rattle.std.proofs.Common.{◌≡◌, ◌∙◌, ℕ, ◌+◌, ◌<◌, Bool, true, false, cond, List, [], ◌∷◌, ◌++◌, length}
use Rattle.std.proofs.Common.{take, drop, get_or, ap, sym, arith}
use Rattle.std.proofs.Common.{append_assoc}
use Rattle.std.proofs.lemmas.List.{drop_all, drop_more, take_more}
use Rattle.pt_human.specs.declared.lines.Line.{Line}
use Rattle.pt_human.specs.Lines.{with_line}
use Rattle.pt_human.specs.Places.{is_before}

module _ (x : Line) (xs : List Line) (k : ℕ) (so : with_line x xs ≡ take k xs ++ with_line x (drop k xs)) where
  -- the next line is the first that comes after it
  pub here : (d : Line) → k < length xs → is_before x.place (get_or xs k d).place ≡ true → take k xs ++ x ∷ drop k xs ≡ with_line x xs
  unfolding with_line
  here d within is =
      let y = get_or xs k d in
      let rest = drop (k + 1) xs in
      ap (λ (ys : List Line). take k xs ++ x ∷ ys) (drop_more xs k d within)
      ∙ ap (λ (t : Bool). take k xs ++ cond t (x ∷ y ∷ rest) (y ∷ with_line x rest)) (sym is)
      ∙ ap (λ (ys : List Line). take k xs ++ with_line x ys) (sym (drop_more xs k d within))
      ∙ sym so

  -- it isn't
  pub next : (d : Line) → k < length xs → is_before x.place (get_or xs k d).place ≡ false
      → with_line x xs ≡ take (k + 1) xs ++ with_line x (drop (k + 1) xs)
  unfolding with_line
  next d within is =
      let y = get_or xs k d in
      let rest = drop (k + 1) xs in
      so ∙ ap (λ (ys : List Line). take k xs ++ with_line x ys) (drop_more xs k d within)
      ∙ ap (λ (t : Bool). take k xs ++ cond t (x ∷ y ∷ rest) (y ∷ with_line x rest)) is
      ∙ sym (append_assoc (take k xs) (y ∷ []) (with_line x rest))
      ∙ ap (λ (ys : List Line). ys ++ with_line x rest) (sym (take_more xs k d within))

  -- there is none
  pub end : k ≡ length xs → take (length xs) xs ++ x ∷ drop (length xs) xs ≡ with_line x xs
  unfolding with_line
  end last =
      ap (λ (n : ℕ). take n xs ++ x ∷ drop n xs) (sym last)
      ∙ ap (λ (ys : List Line). take k xs ++ x ∷ ys) (drop_all k xs (omega (arith, last)))
      ∙ ap (λ (ys : List Line). take k xs ++ with_line x ys) (sym (drop_all k xs (omega (arith, last))))
      ∙ sym so

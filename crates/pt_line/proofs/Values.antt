-- What the getters of matches give, by their rows.
use Rattle.std.proofs.Common.{◌≡◌, ◌∙◌, ◌<◌, ◌+◌, ℕ, zero, suc, arith, refl, ap, sym, codes, length, take, List, [], ◌∷◌, ◌++◌, Option}
use Rattle.std.proofs.Common.{None, Some, option_map}
use Rattle.std.specs.Prelude.{is_some, slice_index_or, unwrap_or}
use Rattle.std.specs.Borrow.{Bor}
use Rattle.clap.specs.Walk.{Row, Text, all_of, first_of, rows_of, texts}
use Rattle.clap.specs.Matches.{first_value, matched_of, raw_values}
use Rattle.clap.specs.declared.parser.matches.Found.{Found}
use Rattle.pt_line.specs.inner.Lines.{IsSizeNamed, IsSizeOrLess}
use Rattle.pt_line.specs.declared.line.SectorSize.{SectorSize}
use Rattle.pt_line.specs.declared.line.SectorSize.TheVariants.{Bytes512, Bytes4096}
use Rattle.clap.proofs.WalkLemmas.{first_value-rows, raw_values-rows}

pub value_is : (f : Found) (id : Text) (o : Option (Bor Text)) → option_map (λ (s : Bor Text). s.now) o ≡ first_value f id
    → option_map (λ (s : Bor Text). s.now) o ≡ first_of id (rows_of f)
value_is f id o e = e ∙ first_value-rows f id

pub some_same : (o : Option (Bor Text)) → is_some o ≡ is_some (option_map (λ (s : Bor Text). s.now) o)
some_same None = refl
some_same (Some s) = refl

pub values_are : (f : Found) (id : Text) (o : Option (Bor (List (Bor Text))))
    → option_map (λ (s : Bor (List (Bor Text))). texts s.now) o ≡ option_map raw_values (matched_of f id)
    → option_map (λ (s : Bor (List (Bor Text))). texts s.now) o ≡ all_of id (rows_of f)
values_are f id o e = e ∙ raw_values-rows f id

pub sized_by : (rows : List Row) (text : Text) → Some text ≡ first_of (codes "sector-size") rows → (z : SectorSize)
    → IsSizeNamed text z → IsSizeOrLess rows (Some z)
sized_by rows text is Bytes512 other =
    (ap is_some (sym is), λ e. other (ap (λ (o : Option Text). unwrap_or o []) (is ∙ e)))
sized_by rows text is Bytes4096 same = sym is ∙ ap (λ (t : Text). Some t) same

next_text : (d : Bor Text) (xs : List (Bor Text)) (i : ℕ) → i < length xs
    → take i (texts xs) ++ (slice_index_or xs i d).now ∷ [] ≡ take (suc i) (texts xs)
next_text d [] i lt = absurd (omega arith)
next_text d (x ∷ xs) zero lt = refl
next_text d (x ∷ xs) (suc i) lt = ap (λ (t : List Text). x.now ∷ t) (next_text d xs i (omega arith))

pub one_more : (xs : List (Bor Text)) (i : ℕ) (d : Bor Text) (ys : List Text) → i < length xs → ys ≡ take i (texts xs)
    → ys ++ (slice_index_or xs i d).now ∷ [] ≡ take (i + 1) (texts xs)
one_more xs i d ys lt is =
    let next : suc i ≡ i + 1 = omega arith in
    ap (λ (l : List Text). l ++ (slice_index_or xs i d).now ∷ []) is ∙ next_text d xs i lt ∙ ap (λ (k : ℕ). take k (texts xs)) next

-- A text is one number at most, and one path at most.
use Rattle.std.specs.Prelude.{◌≡◌, ◌+◌, ℕ, List, [], ◌∷◌, ◌++◌, Option, Some, None}
use Rattle.std.specs.Fmt.{decimal}
use Rattle.std.specs.Str.Parse.{AllDigits}
use Rattle.std.proofs.Common.{refl, sym, ap, ◌∙◌, arith}
use Rattle.std.proofs.lemmas.Fmt.{decimal_is_IsNumeral, decimal_injective}
use Rattle.std.proofs.lemmas.Str.Parse.{digit_from_value}
use Rattle.pt_path.specs.Paths.{IsNumber, IsPath, letter_text}
use Rattle.pt_path.specs.declared.path.Path.{Path}

-- a text is one number at most
pub number_is_one_lem : (text : List ℕ) (m n : ℕ) → IsNumber text m → IsNumber text n → m ≡ n
number_is_one_lem text m n p q = decimal_injective m n p.fits q.fits (sym p.digits ∙ q.digits)

-- no dot stands where a digit does
undotted : (y : ℕ) (ys us : List ℕ) (l : Option ℕ) → AllDigits 10 (y ∷ ys) → letter_text l ≡ (y ∷ ys) ++ us → ⊥
undotted y ys us None d e = absurd cc
undotted y ys us (Some a) d e =
    let same : 46 ≡ y = cc in
    omega (arith, digit_from_value y d.0, same)

-- digits, and a letter behind them, are told from the text
apart : (xs ys : List ℕ) (l m : Option ℕ) → AllDigits 10 xs → AllDigits 10 ys → xs ++ letter_text l ≡ ys ++ letter_text m
    → (xs ≡ ys) × (letter_text l ≡ letter_text m)
apart [] [] l m dx dy e = (refl, e)
apart [] (y ∷ ys) l m dx dy e = absurd (undotted y ys (letter_text m) l dy e)
apart (x ∷ xs) [] l m dx dy e = absurd (undotted x xs (letter_text l) m dx (sym e))
apart (x ∷ xs) (y ∷ ys) l m dx dy e =
    let head : x ≡ y = cc in
    let tail : xs ++ letter_text l ≡ ys ++ letter_text m = cc in
    let rest = apart xs ys l m dx.1 dy.1 tail in
    (ap (λ (z : ℕ). z ∷ xs) head ∙ ap (λ (zs : List ℕ). y ∷ zs) rest.0, rest.1)

one_letter : (l m : Option ℕ) → letter_text l ≡ letter_text m → l ≡ m
one_letter None None e = refl
one_letter None (Some b) e = absurd cc
one_letter (Some a) None e = absurd cc
one_letter (Some a) (Some b) e =
    let h : 97 + a ≡ 97 + b = cc in
    ap Some (omega (arith, h))

abbrev path_from : Option ℕ → ℕ → Path
path_from letter number = record { number = number; letter = letter }

pub same_path : (p q : Path) → p.number ≡ q.number → p.letter ≡ q.letter → p ≡ q
same_path p q number letter = ap (path_from p.letter) number ∙ ap (λ (l : Option ℕ). path_from l q.number) letter

-- a text is one path at most
pub path_is_one_lem : (text : List ℕ) (p q : Path) → IsPath text p → IsPath text q → p ≡ q
path_is_one_lem text p q a b =
    let parts = apart (decimal p.number) (decimal q.number) p.letter q.letter (decimal_is_IsNumeral p.number a.fits).0.1
    (decimal_is_IsNumeral q.number b.fits).0.1 (sym a.written ∙ b.written) in
    same_path p q (decimal_injective p.number q.number a.fits b.fits parts.0) (one_letter p.letter q.letter parts.1)

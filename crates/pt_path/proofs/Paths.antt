-- Paths at their dot.
use Rattle.std.proofs.Common.{◌≡◌, ◌≢◌, ◌<◌, ◌≤◌, ◌^◌, ◌+◌, ℕ, List, [], ◌∷◌, ◌++◌, length, get_or, Option, Some, None, refl, sym, ap}
use Rattle.std.proofs.Common.{◌∙◌, subst, arith, lit<, Bor, IfNone, length-append}
use Rattle.std.specs.Fmt.{decimal}
use Rattle.std.specs.Option.{MatchOption}
use Rattle.std.proofs.Math.Seq.{get_or-append_seam}
use Rattle.std.proofs.lemmas.List.{append-nil}
use Rattle.std.proofs.lemmas.Str.Pattern.{IsSplitOnceResult, split_after, split_parts}
use Rattle.pt_path.specs.declared.path.Path.{Path}
use Rattle.pt_path.specs.Paths.{IsNumber, IsPath, IsLetter, letter_text}
use Rattle.pt_path.specs.inner.Paths.{IsUndotted, IsLettered, IsDotted}
use Rattle.pt_path.proofs.Numbers.{lacks}

-- what the parts of a text that is cut at its first dot say of the path that it is
abbrev pub AtDot : List ℕ → Path → Option (Bor (List ℕ) × Bor (List ℕ)) → Type 0
AtDot text p r = MatchOption r (IsUndotted text p) (λ x. IsDotted x.0.now x.1.now p)

no_dot : (n i : ℕ) → n < 2 ^ 64 → i < length (decimal n) → get_or (decimal n) i 0 ≢ 46
no_dot n i fits within = lacks n 46 i fits (λ h. omega (arith, h.0, h.1)) within

parted : (text : List ℕ) (p : Path) (letter : ℕ) (r : Option (Bor (List ℕ) × Bor (List ℕ))) → 1 ≤ p.number → p.number < 2 ^ 64
    → letter < 8 → p.letter ≡ Some letter
    → MatchOption r ⊥ (λ x. (x.0.now ≡ decimal p.number) × (x.1.now ≡ (97 + letter) ∷ [])) → AtDot text p r
parted text p letter None first fits small some parts = absurd parts
parted text p letter (Some x) first fits small some parts =
    record {
      first = first;
      number = record { fits = fits; digits = parts.0 };
      letter = subst (IsLettered x.1.now) (sym some) (small, parts.1);
    }

with_letter : (text : List ℕ) (p : Path) (letter : ℕ) (r : Option (Bor (List ℕ) × Bor (List ℕ))) → IsSplitOnceResult 46 text r
    → IsPath text p → p.letter ≡ Some letter → AtDot text p r
with_letter text p letter r h is some =
    let written = is.written ∙ ap (λ (l : Option ℕ). decimal p.number ++ letter_text l) some in
    let small = subst IsLetter some is.letter in
    let parts = split_after 46 text (decimal p.number) ((97 + letter) ∷ []) r h (lit< tt) written (λ i. no_dot p.number i is.fits) in
    parted text p letter r is.first is.fits small some parts

alone : (text : List ℕ) (p : Path) (r : Option (Bor (List ℕ) × Bor (List ℕ))) → 1 ≤ p.number → IsNumber text p.number → p.letter ≡ None
    → MatchOption r ((i : ℕ) → i < length text → get_or text i 0 ≢ 46)
    (λ x. (text ≡ x.0.now ++ 46 ∷ x.1.now) × ((i : ℕ) → i < length x.0.now → get_or x.0.now i 0 ≢ 46)) → AtDot text p r
alone text p None first is none parts = record { first = first; number = is; letter = none }
alone text p (Some x) first is none parts =
    let whole = sym is.digits ∙ parts.0 in
    let within : length x.0.now < length (decimal p.number) = rw whole (simp length-append (omega arith)) in
    let at : get_or (decimal p.number) (length x.0.now) 0 ≡ 46 = rw whole (get_or-append_seam x.0.now 46 x.1.now 0) in
    absurd (no_dot p.number (length x.0.now) is.fits within at)

at_letter : (text : List ℕ) (p : Path) (r : Option (Bor (List ℕ) × Bor (List ℕ))) → IsSplitOnceResult 46 text r → IsPath text p
    → (o : Option ℕ) → p.letter ≡ o → AtDot text p r
at_letter text p r h is None none =
    let digits = is.written ∙ (ap (λ (l : Option ℕ). decimal p.number ++ letter_text l) none ∙ append-nil (decimal p.number)) in
    alone text p r is.first (record { fits = is.fits; digits = digits }) none (split_parts 46 text r h (lit< tt))
at_letter text p r h is (Some letter) some = with_letter text p letter r h is some

-- the parts of a path's text
pub at_dot : (text : List ℕ) (p : Path) (r : Option (Bor (List ℕ) × Bor (List ℕ))) → IsSplitOnceResult 46 text r → IsPath text p
    → AtDot text p r
at_dot text p r h is = at_letter text p r h is p.letter refl

lettered_path : (text digits rest : List ℕ) (p : Path) (o : Option ℕ) → p.letter ≡ o → text ≡ digits ++ 46 ∷ rest
    → IsDotted digits rest p → IsPath text p
lettered_path text digits rest p None none whole is = absurd (subst (IsLettered rest) none is.letter)
lettered_path text digits rest p (Some letter) some whole is =
    let lettered = subst (IsLettered rest) some is.letter in
    record {
      first = is.first;
      fits = is.number.fits;
      letter = subst IsLetter (sym some) lettered.0;
      written = whole ∙ (rw (is.number.digits, lettered.1) (ap (λ (l : Option ℕ). decimal p.number ++ letter_text l) (sym some)));
    }

-- and the other way round
pub path_from_parts : (text digits rest : List ℕ) (p : Path) → text ≡ digits ++ 46 ∷ rest → IsDotted digits rest p → IsPath text p
path_from_parts text digits rest p whole is = lettered_path text digits rest p p.letter refl whole is

pub path_alone : (text : List ℕ) (p : Path) → IsUndotted text p → IsPath text p
path_alone text p is = record {
  first = is.first;
  fits = is.number.fits;
  letter = subst IsLetter (sym is.letter) tt;
  written = is.number.digits ∙ (sym (append-nil (decimal p.number))
      ∙ ap (λ (l : Option ℕ). decimal p.number ++ letter_text l) (sym is.letter));
}

-- what holds of none holds where less does
pub none_weaker : {A : Type 0} (r : Option A) (P Q : Type 0) → (P → Q) → IfNone r P → IfNone r Q
none_weaker None P Q f h = f h
none_weaker (Some x) P Q f h = tt

-- what a cut at a dot says of the text
abbrev pub WholeOf : List ℕ → Option (Bor (List ℕ) × Bor (List ℕ)) → Type 0
WholeOf text r = MatchOption r (Unit {0}) (λ x. text ≡ x.0.now ++ 46 ∷ x.1.now)

whole_from : (text : List ℕ) (r : Option (Bor (List ℕ) × Bor (List ℕ)))
    → MatchOption r ((i : ℕ) → i < length text → get_or text i 0 ≢ 46)
    (λ x. (text ≡ x.0.now ++ 46 ∷ x.1.now) × ((i : ℕ) → i < length x.0.now → get_or x.0.now i 0 ≢ 46)) → WholeOf text r
whole_from text None h = tt
whole_from text (Some x) h = h.0

pub whole_of : (text : List ℕ) (r : Option (Bor (List ℕ) × Bor (List ℕ))) → IsSplitOnceResult 46 text r → WholeOf text r
whole_of text r h = whole_from text r (split_parts 46 text r h (lit< tt))

-- Texts that stand one behind the other: each of them, and one more.
use Rattle.std.proofs.Common.{◌≡◌, ◌∙◌, ◌-◌, ◌<◌, ◌≤◌, ◌∷◌, [], ◌++◌, ℕ, zero, suc, List, ap, sym, subst, refl, arith, length, take}
use Rattle.std.proofs.Common.{drop, get_or, length-append, length-drop}
use Rattle.std.specs.Prelude.{IsUtf8}
use Rattle.std.specs.List.{slice_index, slice_range}
use Rattle.std.proofs.lemmas.Grind.{get_or_default_zero}
use Rattle.std.proofs.Math.Seq.{drop-append_seam}
use Rattle.std.proofs.lemmas.List.{drop-append-le, take-append-le, take_all}
use Rattle.pt_line.specs.inner.Texts.{HasTexts, pieces}

pub counted : (start : ℕ) (ends bytes : List ℕ) → length (pieces start ends bytes) ≡ length ends
counted start [] bytes = refl
counted start (end ∷ ends) bytes = ap suc (counted end ends bytes)

within : (start : ℕ) (ends bytes : List ℕ) → HasTexts start ends bytes → start ≤ length bytes
within start [] bytes has = omega (arith, has)
within start (end ∷ ends) bytes has = omega (arith, has.0, within end ends bytes has.2)

-- a text that begins and ends here, in its place among them
pub record IsPiece (bytes : List ℕ) (from to : ℕ) (text : List ℕ) : Type 0 where
  pub order : from ≤ to
  pub inside : to ≤ length bytes
  pub utf8 : IsUtf8 (slice_range bytes from to)
  pub same : text ≡ slice_range bytes from to

pub piece_at : (start : ℕ) (ends bytes : List ℕ) (k : ℕ) → HasTexts start ends bytes → k < length ends
    → IsPiece bytes (get_or (start ∷ ends) k 0) (get_or ends k 0) (get_or (pieces start ends bytes) k [])
piece_at start [] bytes k has short = absurd (omega (arith, short))
piece_at start (end ∷ ends) bytes zero has short = record {
  order = has.0;
  inside = within end ends bytes has.2;
  utf8 = has.1;
  same = refl;
}
piece_at start (end ∷ ends) bytes (suc k) has short = piece_at end ends bytes k has.2 (omega (arith, short))

-- what stands before the end stays, whatever comes behind it
kept : (start end : ℕ) (bytes more : List ℕ) → start ≤ end → end ≤ length bytes
    → slice_range (bytes ++ more) start end ≡ slice_range bytes start end
kept start end bytes more order inside =
    let left : end - start ≤ length (drop start bytes) = rw (length-drop start bytes) (omega (arith, inside)) in
    ap (take (end - start)) (drop-append-le start bytes more (omega (arith, order, inside)))
    ∙ take-append-le (end - start) (drop start bytes) more left

added : (bytes text : List ℕ) → slice_range (bytes ++ text) (length bytes) (length (bytes ++ text)) ≡ text
added bytes text =
    ap (take (length (bytes ++ text) - length bytes)) (drop-append_seam bytes text)
    ∙ take_all _ text (rw (length-append bytes text) (omega arith))

-- one more text behind them
abbrev ended : List ℕ → List ℕ → List ℕ → List ℕ
ended ends bytes text = ends ++ length (bytes ++ text) ∷ []

-- from a place on the bytes are a text
abbrev IsTextFrom : List ℕ → ℕ → Type 0
IsTextFrom bytes at = IsUtf8 (slice_range bytes at (length bytes))

pub has_more : (start : ℕ) (ends bytes text : List ℕ) → HasTexts start ends bytes → IsUtf8 text
    → HasTexts start (ended ends bytes text) (bytes ++ text)
has_more start [] bytes text has utf8 = (
  rw (length-append bytes text) (omega (arith, has)),
  subst (IsTextFrom (bytes ++ text)) (sym has) (subst IsUtf8 (sym (added bytes text)) utf8),
  refl,
)
has_more start (end ∷ ends) bytes text has utf8 = (
  has.0,
  subst IsUtf8 (sym (kept start end bytes text has.0 (within end ends bytes has.2))) has.1,
  has_more end ends bytes text has.2 utf8,
)

pub pieces_more : (start : ℕ) (ends bytes text : List ℕ) → HasTexts start ends bytes
    → pieces start (ended ends bytes text) (bytes ++ text) ≡ pieces start ends bytes ++ text ∷ []
pieces_more start [] bytes text has =
    let whole = bytes ++ text in
    ap (λ (t : List ℕ). t ∷ []) (subst (λ (at : ℕ). slice_range whole at (length whole) ≡ text) (sym has) (added bytes text))
pieces_more start (end ∷ ends) bytes text has =
    let inside = within end ends bytes has.2 in
    ap (λ (t : List ℕ). t ∷ pieces end (ended ends bytes text) (bytes ++ text)) (kept start end bytes text has.0 inside)
    ∙ ap (λ (ts : List (List ℕ)). slice_range bytes start end ∷ ts) (pieces_more end ends bytes text has.2)

-- the same of a list that they are, by the numbers that a function has found
pub piece_by : (texts : List (List ℕ)) (ends bytes : List ℕ) (k from to : ℕ) → HasTexts 0 ends bytes → texts ≡ pieces 0 ends bytes
    → k < length texts → from ≡ slice_index (0 ∷ ends) k → to ≡ get_or ends k to → IsPiece bytes from to (get_or texts k [])
piece_by texts ends bytes k from to has are short from_is to_is =
    let within : k < length ends = subst (λ (n : ℕ). k < n) (ap (λ (ts : List (List ℕ)). length ts) are ∙ counted 0 ends bytes) short in
    let is : to ≡ get_or ends k 0 = to_is ∙ get_or_default_zero ends k to within in
    subst (λ (ts : List (List ℕ)). IsPiece bytes from to (get_or ts k [])) (sym are)
    (subst (λ (n : ℕ). IsPiece bytes n to (get_or (pieces 0 ends bytes) k [])) (sym from_is)
    (subst (λ (n : ℕ). IsPiece bytes (get_or (0 ∷ ends) k 0) n (get_or (pieces 0 ends bytes) k [])) (sym is)
    (piece_at 0 ends bytes k has within)))

-- what a list has to be, once a text came behind the others
pub record IsPushed (ends bytes text after whole : List ℕ) : Type 0 where
  pub bytes_are : whole ≡ bytes ++ text
  pub ends_are : after ≡ ends ++ length whole ∷ []

pub has_pushed : (ends bytes text after whole : List ℕ) → HasTexts 0 ends bytes → IsUtf8 text → IsPushed ends bytes text after whole
    → HasTexts 0 after whole
has_pushed ends bytes text after whole has utf8 is =
    rw (is.ends_are, is.bytes_are) (has_more 0 ends bytes text has utf8)

pub pushed : (ends bytes text after whole : List ℕ) (texts : List (List ℕ)) → HasTexts 0 ends bytes → pieces 0 ends bytes ≡ texts
    → IsPushed ends bytes text after whole → pieces 0 after whole ≡ texts ++ text ∷ []
pushed ends bytes text after whole texts has are is =
    rw (is.ends_are, is.bytes_are) (pieces_more 0 ends bytes text has) ∙ ap (λ (ts : List (List ℕ)). ts ++ text ∷ []) are

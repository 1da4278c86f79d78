-- Names unit by unit.
use Rattle.std.proofs.Common.{◌≡◌, ◌<◌, ◌-◌, ℕ, suc, List, [], ◌∷◌, ◌++◌, length, replicate, sym, ap, ◌∙◌, subst, arith, append_assoc}
use Rattle.std.proofs.Common.{length-append, ◌⊎◌, inl, inr}
use Rattle.std.proofs.Math.ListN.{set}
use Rattle.std.proofs.lemmas.List.{nil_from_length, append-nil}
use Rattle.std.proofs.Math.Seq.{set-append_seam}
use Rattle.std.specs.List.{flat_map}
use Rattle.std.specs.Char.Escape.{encode_utf16}
use Rattle.std.specs.Str.{chars, IsUtf8}
use Rattle.std.proofs.Math.Utf8.{encode}
use Rattle.std.proofs.lemmas.Str.{chars_past_char, IsUtf8-past_char}
use Rattle.pt_drafts.specs.Names.{units_of, padded}

-- with one more zero at the place where the next unit comes
padded_from : (ys : List ℕ) (y k : ℕ) → 36 - length ys ≡ suc k → set (padded ys) (length ys) y ≡ ys ++ y ∷ replicate k 0
padded_from ys y k e = rw e (set-append_seam ys 0 (replicate k 0) y)

-- a unit written behind the others
pub padded_push : (ys : List ℕ) (y : ℕ) → length ys < 36 → set (padded ys) (length ys) y ≡ padded (ys ++ y ∷ [])
padded_push ys y less =
    let k = 35 - length ys in
    let e : 36 - length ys ≡ suc k = omega arith in
    let f : 36 - length (ys ++ y ∷ []) ≡ k = simp length-append (omega arith) in
    padded_from ys y k e ∙ (sym (append_assoc ys (y ∷ []) (replicate k 0)) ∙ ap (λ n. (ys ++ y ∷ []) ++ replicate n 0) (sym f))

-- the units of a text are those of its first character and of the rest
pub units_past_char : (bs rest : List ℕ) (c : ℕ) → IsUtf8 bs → bs ≡ encode c ++ rest → units_of bs ≡ encode_utf16 c ++ units_of rest
units_past_char bs rest c utf8 e = ap (flat_map encode_utf16) (chars_past_char bs rest c utf8 e)

-- what the next unit x does: it was to come, or it is the first of the next character's
abbrev pub Comes : List ℕ → List ℕ → ℕ → List ℕ → List ℕ → Type 0
Comes pending rest x more left =
    ((pending ≡ x ∷ []) × (more ≡ []) × (left ≡ rest))
    ⊎ ((pending ≡ []) × ((c : ℕ) × (rest ≡ encode c ++ left) × (encode_utf16 c ≡ x ∷ more)))

-- the units that have come, those to come of the same character, and those of the text that is left are the text's
abbrev pub SoFar : List ℕ → List ℕ → List ℕ → List ℕ → Type 0
SoFar whole done pending rest = IsUtf8 rest × (whole ≡ done ++ (pending ++ units_of rest))

pub so_far_more : (whole done pending rest : List ℕ) (x : ℕ) (more left : List ℕ) → IsUtf8 rest
    → whole ≡ done ++ (pending ++ units_of rest) → Comes pending rest x more left → SoFar whole (done ++ x ∷ []) more left
so_far_more whole done pending rest x more left utf8 so_far (inl h) = (
  subst IsUtf8 (sym h.2) utf8,
  so_far ∙ (rw (h.0, h.1, h.2) (sym (append_assoc done (x ∷ []) (units_of rest)))),
)
so_far_more whole done pending rest x more left utf8 so_far (inr (none, (c, is, units))) = (
  IsUtf8-past_char rest left c utf8 is,
  so_far ∙ (rw (none) (ap (λ us. done ++ us) (units_past_char rest left c utf8 is ∙ ap (λ us. us ++ units_of left) units)
      ∙ sym (append_assoc done (x ∷ []) (more ++ units_of left)))),
)

-- with nothing to come and no text left, all have come
pub so_far_end : (whole done pending rest : List ℕ) → whole ≡ done ++ (pending ++ units_of rest) → pending ≡ [] → length rest ≡ 0
    → whole ≡ done
unfolding chars
so_far_end whole done pending rest so_far none empty =
    so_far ∙ (rw (none, nil_from_length rest empty) (append-nil done))

-- with 36 units so far and one more there are too many
pub so_far_long : (whole done pending rest : List ℕ) (x : ℕ) (more left : List ℕ) → SoFar whole (done ++ x ∷ []) more left
    → length done ≡ 36 → 36 < length whole
so_far_long whole done pending rest x more left h full =
    rw h.1 (simp length-append (omega arith))

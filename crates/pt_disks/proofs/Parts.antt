-- The parts of a text between its spaces.
use Rattle.std.proofs.Common.{◌≡◌, ◌≢◌, ◌<◌, ◌≤◌, ℕ, List, [], ◌∷◌, ◌++◌, length, drop, Option, Some, None, refl, sym, ◌∙◌, ap, subst}
use Rattle.std.proofs.Common.{arith, lit<, Bor, IfNone, IfSome, eqb, get_or, false, inl, inr, ◌⊎◌}
use Rattle.std.specs.Option.{MatchOption}
use Rattle.std.specs.List.{position_or_len, before_first, after_first}
use Rattle.std.proofs.lemmas.List.Splits.{slice_split_first, slice_split_none}
use Rattle.std.proofs.lemmas.Str.Pattern.{IsSplitOnceResult, split_once_first, split_parts}
use Rattle.std.proofs.lemmas.Bool.{ne_eqb}
use Rattle.std.proofs.lemmas.List.Elements.{All-from_get_or}
use Rattle.pt_disks.specs.inner.Devices.{parts, IsSecond, IsSourceIn}

one_alone : (text : List ℕ) → ((i : ℕ) → i < length text → get_or text i 0 ≢ 32) → parts text ≡ text ∷ []
one_alone text none =
    slice_split_none (λ b. eqb b 32) text (All-from_get_or (λ x. eqb x 32 ≡ false) text 0
    (λ i within. ne_eqb (get_or text i 0) 32 (none i within)))

first_cases : (text : List ℕ) (r : Option (Bor (List ℕ) × Bor (List ℕ)))
    → MatchOption r (position_or_len (λ b. eqb b 32) text ≡ length text)
    (λ x. (position_or_len (λ b. eqb b 32) text < length text) × (x.0.now ≡ before_first (λ b. eqb b 32) text)
    × (x.1.now ≡ after_first (λ b. eqb b 32) text))
    → MatchOption r ((i : ℕ) → i < length text → get_or text i 0 ≢ 32)
    (λ x. (text ≡ x.0.now ++ 32 ∷ x.1.now) × ((i : ℕ) → i < length x.0.now → get_or x.0.now i 0 ≢ 32))
    → MatchOption r (parts text ≡ text ∷ []) (λ x. parts text ≡ x.0.now ∷ parts x.1.now)
first_cases text None h none = one_alone text none
first_cases text (Some x) h both = slice_split_first (λ b. eqb b 32) text 0 h.0 ∙ (rw (h.1, h.2) refl)

-- a text that is cut at its first space
pub cut_parts : (text : List ℕ) (r : Option (Bor (List ℕ) × Bor (List ℕ))) → IsSplitOnceResult 32 text r
    → MatchOption r (parts text ≡ text ∷ []) (λ x. parts text ≡ x.0.now ∷ parts x.1.now)
cut_parts text r h = first_cases text r (split_once_first 32 text r h (lit< tt)) (split_parts 32 text r h (lit< tt))

pub at_some : {A : Type 0} (r : Option A) (P : Type 0) (Q : A → Type 0) → MatchOption r P Q → IfSome r Q
at_some None P Q h = tt
at_some (Some x) P Q h = h

pub at_none : {A : Type 0} (r : Option A) (P : Type 0) (Q : A → Type 0) → MatchOption r P Q → IfNone r P
at_none None P Q h = h
at_none (Some x) P Q h = tt

-- what is behind a part is less
pub fewer : (text part after : List ℕ) → parts text ≡ part ∷ parts after → length (parts after) < length (parts text)
fewer text part after is = rw is (omega arith)

-- the third part, and what is behind the fifth one
pub third : (ps behind : List (List ℕ)) (part : List ℕ) → drop 2 ps ≡ part ∷ behind → get_or ps 2 [] ≡ part
third [] behind part is = cc is
third (a ∷ []) behind part is = cc is
third (a ∷ b ∷ ps) behind part is = rw is refl

pub behind_fifth : (ps behind : List (List ℕ)) (c d e : List ℕ) → drop 2 ps ≡ c ∷ d ∷ e ∷ behind → drop 5 ps ≡ behind
behind_fifth [] behind c d e is = cc is
behind_fifth (a ∷ []) behind c d e is = cc is
behind_fifth (a ∷ b ∷ ps) behind c d e is = rw is refl

-- Names, unit by unit.
use Rattle.std.proofs.Common.{◌≡◌, ℕ, suc, ◌<◌, ◌≤◌, List, [], ◌∷◌, ◌++◌, length, take, ap, ◌∙◌, arith, sym, refl}
use Rattle.std.specs.Prelude.{◌≢◌, true, false, not, ◌==◌, All, flat_map, Option, Some, slice_index}
use Rattle.std.specs.Char.Utf16.{utf16_chars, lone_unit_char}
use Rattle.std.proofs.lemmas.Bool.{le-ltb, lt-leb}
use Rattle.std.proofs.lemmas.Str.{encode_ascii}
use Rattle.std.proofs.lemmas.List.Sums.{prefix_len_is}
use Rattle.pt_report.specs.Shown.{char_bytes, name_text, units_of}
use Rattle.pt_report.proofs.Utf16.{first_lone}

-- a unit that is a printed character of ASCII
pub record IsPlain (u : ℕ) : Type 0 where
  pub from : 32 ≤ u
  pub to : u ≤ 126

used : (u : ℕ) → u ≢ 0 → not (u == 0) ≡ true
used u h = grind arith

-- the units before the first zero, or all
pub units_here : (name : List ℕ) (k : ℕ) → k ≤ length name → ((j : ℕ) → j < k → slice_index name j ≢ 0)
    → (k < length name → slice_index name k ≡ 0) → take k name ≡ units_of name
units_here name k le before here =
    ap (λ n. take n name) (sym (prefix_len_is (λ (u : ℕ). not (u == 0)) name k 0 le (λ j lt. used (slice_index name j) (before j lt))
    (λ lt. ap (λ (u : ℕ). not (u == 0)) (here lt))))

differs : (u : ℕ) → u ≤ 126 → (u == 127) ≡ false
differs u h = grind arith

plain_char : (u : ℕ) → IsPlain u → char_bytes (Some u) ≡ u ∷ []
plain_char u p = rw (le-ltb u 32 p.from, differs u p.to) (encode_ascii u (omega (arith, p.to)))

-- printed characters of ASCII are shown as they are
pub plain_shown : (us : List ℕ) → All IsPlain us → name_text us ≡ us
unfolding utf16_chars
plain_shown [] all = refl
plain_shown (u ∷ us) all =
    let plain : IsPlain u = all 0 u (omega arith) in
    let lone : lone_unit_char u ≡ Some u = rw (lt-leb 0xD800 u (omega (arith, plain.to))) refl in
    ap (λ (cs : List (Option ℕ)). flat_map char_bytes cs)
    (first_lone u us (λ some pair. absurd (omega (arith, plain.to, pair.high))) ∙ ap (λ (o : Option ℕ). o ∷ utf16_chars us) lone)
    ∙ ap (λ (bs : List ℕ). bs ++ flat_map char_bytes (utf16_chars us)) (plain_char u plain)
    ∙ ap (λ (bs : List ℕ). u ∷ bs) (plain_shown us (λ k d lt. all (suc k) d (omega (arith, lt))))

-- where no units are left nothing more is shown
pub nothing_left : (us : List ℕ) → true ≡ (length us == 0) → name_text us ≡ []
unfolding utf16_chars
nothing_left [] none = refl
nothing_left (u ∷ us) none = grind arith

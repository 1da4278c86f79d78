-- Places in a row, each with what is written for it, that are written as one list.
use Rattle.std.proofs.Common.{◌≡◌, ◌≤◌, ◌∙◌, ℕ, suc, List, [], ◌∷◌, ◌++◌, map, Option, Some, None, IfSome, refl, sym, ap, ap₂, arith, subst}
use Rattle.serde_json.specs.Data.{Data}

-- a place by its key, and what is written for it
abbrev pub Slot : Type 0
Slot = ℕ × Option Data

abbrev pub taken : Option Data → List Data → List Data
taken None ds = ds
taken (Some d) ds = d ∷ ds

-- all that is written
abbrev pub datas : List Slot → List Data
datas [] = []
datas (s ∷ ss) = taken s.1 (datas ss)

taken_more : (o : Option Data) (ds es : List Data) → taken o ds ++ es ≡ taken o (ds ++ es)
taken_more None ds es = refl
taken_more (Some d) ds es = refl

pub datas_more : (ss ts : List Slot) → datas (ss ++ ts) ≡ datas ss ++ datas ts
datas_more [] ts = refl
datas_more (s ∷ ss) ts = ap (taken s.1) (datas_more ss ts) ∙ sym (taken_more s.1 (datas ss) (datas ts))

module _ (key : Data → ℕ) where
  -- the keys ascend, and what is written tells its key
  abbrev pub Keyed : ℕ → List Slot → Type 0
  Keyed low [] = Unit {0}
  Keyed low (s ∷ ss) = (low ≤ s.0) × IfSome s.1 (λ d. key d ≡ s.0) × Keyed (suc s.0) ss

  first_key : (low : ℕ) (ss : List Slot) (d : Data) (ds : List Data) → Keyed low ss → datas ss ≡ d ∷ ds → low ≤ key d
  first_key low [] d ds keyed is = absurd (cc)
  first_key low (s ∷ ss) d ds keyed is = by_slot s.1 keyed.1 (first_key (suc s.0) ss d ds keyed.2) is where
    by_slot : (o : Option Data) → IfSome o (λ d. key d ≡ s.0) → (datas ss ≡ d ∷ ds → suc s.0 ≤ key d) → taken o (datas ss) ≡ d ∷ ds
        → low ≤ key d
    by_slot None tells rest is = omega (arith, keyed.0, rest is)
    by_slot (Some e) tells rest is = let same : e ≡ d = cc in omega (arith, keyed.0, tells, ap key same)

  pub one_slots : (low : ℕ) (ss ts : List Slot) → Keyed low ss → Keyed low ts → map (λ s. s.0) ss ≡ map (λ s. s.0) ts → datas ss ≡ datas ts
      → ss ≡ ts
  one_slots low [] [] keyed others keys same = refl
  one_slots low [] (t ∷ ts) keyed others keys same = absurd (cc)
  one_slots low (s ∷ ss) [] keyed others keys same = absurd (cc)
  one_slots low (s ∷ ss) (t ∷ ts) keyed others keys same =
      let first : s.0 ≡ t.0 = cc in
      let rest : map (λ s. s.0) ss ≡ map (λ s. s.0) ts = cc in
      let tails : datas ss ≡ datas ts → ss ≡ ts =
      one_slots (suc s.0) ss ts keyed.2 (subst (λ (k : ℕ). Keyed (suc k) ts) (sym first) others.2) rest in
      let joined : s.1 ≡ t.1 → datas ss ≡ datas ts → s ∷ ss ≡ t ∷ ts = λ here there.
      ap₂ (λ (x : Slot) (xs : List Slot). x ∷ xs) (λ i. (first i, here i)) (tails there) in
      by_slots first joined s.1 refl keyed.1 t.1 refl others.1 same
    where
      by_slots : s.0 ≡ t.0 → (s.1 ≡ t.1 → datas ss ≡ datas ts → s ∷ ss ≡ t ∷ ts) → (o : Option Data) → s.1 ≡ o
          → IfSome o (λ d. key d ≡ s.0) → (q : Option Data) → t.1 ≡ q → IfSome q (λ d. key d ≡ t.0)
          → taken o (datas ss) ≡ taken q (datas ts) → s ∷ ss ≡ t ∷ ts
      by_slots first joined None is tells None so told same = joined (is ∙ sym so) same
      by_slots first joined None is tells (Some e) so told same =
          let above = first_key (suc s.0) ss e (datas ts) keyed.2 same in
          absurd (omega (arith, above, told, first))
      by_slots first joined (Some d) is tells None so told same =
          let above = first_key (suc t.0) ts d (datas ss) others.2 (sym same) in
          absurd (omega (arith, above, tells, first))
      by_slots first joined (Some d) is tells (Some e) so told same =
          let here : d ≡ e = cc in
          let there : datas ss ≡ datas ts = cc in
          joined (is ∙ ap Some here ∙ sym so) there

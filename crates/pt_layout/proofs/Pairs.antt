-- Entries with one unique GUID, by their numbers.
use Rattle.std.proofs.Common.{◌≡◌, ◌<◌, ◌≤◌, ◌+◌, ℕ, zero, suc, List, length, get_or, Option, Some, None, refl, sym, subst, arith, inl}
use Rattle.std.proofs.Common.{inr}
use Rattle.std.specs.Prelude.{◌⊎◌}
use Rattle.std.proofs.lemmas.Bool.{cases_lt}
use Rattle.std.proofs.lemmas.List.{get_or_past}
use Rattle.pt_mbr.specs.declared.record.Record.{Record}
use Rattle.pt_mbr.specs.declared.ebr.Ebr.{Ebr}
use Rattle.pt_gpt.specs.declared.entry.Entry.{Entry}
use Rattle.pt_gpt.specs.declared.table.Table.{Table}
use Rattle.pt_members.specs.declared.layout.Body.TheVariants.{Mbr, Gpt}
use Rattle.pt_layout.specs.inner.Sound.{HasSameUnique, SameAt, TwinsAre, SameGuidIs}
use Rattle.pt_layout.specs.Sound.{IsSameGuid, numbered_entry}

none_numbered : (rs : List (Option Record)) (chain : List Ebr) (i : ℕ) (e : Entry) → ¬ (numbered_entry (Mbr rs chain) i ≡ Some e)
none_numbered rs chain zero e is = cc
none_numbered rs chain (suc i) e is = cc

pub mbr_distinct : (rs : List (Option Record)) (chain : List Ebr) → SameGuidIs (Mbr rs chain) None
mbr_distinct rs chain i j is = none_numbered rs chain i is.lower is.at_lower

within : (es : List (Option Entry)) (k : ℕ) (e : Entry) → get_or es k None ≡ Some e → k < length es
within es k e is = elim (cases_lt k (length es)) as (λ _. k < length es) [
  | inl lt ↦ lt
  | inr past ↦ (let none : get_or es k None ≡ None = get_or_past es k None past in absurd cc)
]

same_of : (es : List (Option Entry)) (i k : ℕ) (e f : Entry) → get_or es i None ≡ Some e → get_or es k None ≡ Some f
    → e.unique ≡ f.unique → SameAt es i k
same_of es i k e f at_i at_k same =
    subst (λ (x : Option Entry). HasSameUnique x (get_or es k None)) (sym at_i)
    (subst (λ (x : Option Entry). HasSameUnique (Some e) x) (sym at_k) same)

-- two numbers are one past two places
record Places (t : Table) (i j : ℕ) : Type 0 where
  first : ℕ
  second : ℕ
  at_first : i ≡ first + 1
  at_second : j ≡ second + 1
  order : first < second
  below : second < length t.entries
  same : SameAt t.entries first second

places : (t : Table) (i j : ℕ) → IsSameGuid (Gpt t) i j → Places t i j
places t zero j is = absurd (let e = is.at_lower in cc)
places t (suc i) zero is = absurd (let e = is.at_higher in cc)
places t (suc i) (suc j) is = record {
  first = i;
  second = j;
  at_first = omega arith;
  at_second = omega arith;
  order = omega (arith, is.order);
  below = within t.entries j is.higher is.at_higher;
  same = same_of t.entries i j is.lower is.higher is.at_lower is.at_higher is.same;
}

pub distinct : (t : Table) → TwinsAre t.entries None → SameGuidIs (Gpt t) None
distinct t none i j is = let p = places t i j is in none p.first p.second p.order p.below p.same

found : (t : Table) (i k : ℕ) (x y : Option Entry) → get_or t.entries i None ≡ x → get_or t.entries k None ≡ y → HasSameUnique x y
    → i < k → IsSameGuid (Gpt t) (suc i) (suc k)
found t i k None y at_i at_k same lt = absurd same
found t i k (Some e) None at_i at_k same lt = absurd same
found t i k (Some e) (Some f) at_i at_k same lt =
    record { lower = e; higher = f; at_lower = at_i; at_higher = at_k; order = omega arith; same = same }

pub first_pair : (t : Table) (p : ℕ × ℕ) → TwinsAre t.entries (Some p) → SameGuidIs (Gpt t) (Some (p.0 + 1, p.1 + 1))
first_pair t p is = record {
  here = (let a : suc p.0 ≡ p.0 + 1 = omega arith in let b : suc p.1 ≡ p.1 + 1 = omega arith in
      subst (λ (k : ℕ). IsSameGuid (Gpt t) (p.0 + 1) k) b (subst (λ (i : ℕ). IsSameGuid (Gpt t) i (suc p.1)) a
      (found t p.0 p.1 (get_or t.entries p.0 None) (get_or t.entries p.1 None) refl refl is.2 is.0)));
  first = λ k l same. (let q = places t k l same in elim (is.3 q.first q.second q.order q.below q.same) as (λ _. (p.1 + 1 < l)
      ⊎ ((p.1 + 1 ≡ l) × (p.0 + 1 ≤ k))) [
        | inl lt ↦ inl (omega (arith, q.at_second))
        | inr at ↦ inr (omega (arith, q.at_second), omega (arith, q.at_first))
      ]);
}

-- Partitions put into their places, one at a time.
use Rattle.std.proofs.Common.{◌≡◌, ◌≢◌, ◌<◌, ◌≤◌, ◌+◌, ◌-◌, ℕ, zero, suc, List, [], ◌∷◌, length, get_or, drop, replicate, Option, None}
use Rattle.std.proofs.Common.{refl, sym}
use Rattle.std.proofs.Common.{ap, ◌∙◌, subst, arith, inl, inr}
use Rattle.std.specs.Prelude.{fold, zip}
use Rattle.std.proofs.Math.Seq.{drop-cons}
use Rattle.std.proofs.lemmas.List.{drop_all}
use Rattle.std.proofs.Math.ListN.{set}
use Rattle.std.proofs.lemmas.List.{get_or_default, get_or-set_same, get_or-set_other, length-set, get_or-replicate}
use Rattle.std.proofs.lemmas.Bool.{cases_lt}
use Rattle.pt_guid.specs.declared.guid.Guid.{Guid}
use Rattle.pt_gpt.specs.declared.entry.Entry.{Entry}
use Rattle.pt_edit.specs.Converted.{entry_of, put_entry, entries_of, no_guid}
use Rattle.pt_edit.specs.inner.Entries.{IsItemAt, Placeable}
use Rattle.pt_edit.specs.declared.partitions.Partition.{Partition}

drop_at : {X : Type 0} (xs : List X) (k : ℕ) (z : X) → k < length xs → drop k xs ≡ get_or xs k z ∷ drop (k + 1) xs
drop_at xs k z within =
    let e : suc k ≡ k + 1 = omega arith in drop-cons xs k z within ∙ ap (λ (m : ℕ). get_or xs k z ∷ drop m xs) e

-- the first k of the partitions are in place
pub record UpTo (guids : List Guid) (ps : List Partition) (k : ℕ) (entries : List (Option Entry)) : Type 0 where
  pub count : length entries ≡ 128
  pub each : (j : ℕ) (p : Partition) (guid : Guid) → j < k → IsItemAt ps j p → IsItemAt guids (1 + j) guid
      → get_or entries (p.number - 1) None ≡ entry_of guid p
  pub others : (number : ℕ) → 1 ≤ number → number ≤ 128 → ((j : ℕ) (p : Partition) → j < k → IsItemAt ps j p → p.number ≢ number)
      → get_or entries (number - 1) None ≡ None

pub at_one : {X : Type 0} (xs : List X) (k : ℕ) (x y : X) → IsItemAt xs k x → IsItemAt xs k y → x ≡ y
at_one xs k x y a b = sym a.1 ∙ (get_or_default xs k x y a.0 ∙ b.1)

pub at_place : {X : Type 0} (xs : List X) (k : ℕ) (z : X) → k < length xs → IsItemAt xs k (get_or xs k z)
at_place xs k z lt = (lt, get_or_default xs k (get_or xs k z) z lt)

pub none_placed : (guids : List Guid) (ps : List Partition) → UpTo guids ps 0 (replicate 128 None)
none_placed guids ps = record {
  count = refl;
  each = λ j p guid lt. absurd (omega arith);
  others = λ number low high spare. get_or-replicate 128 (number - 1) None None (omega arith);
}

pub one_placed_on : (n : ℕ) (guids : List Guid) (ps : List Partition) (k : ℕ) (entries : List (Option Entry)) (p : Partition)
    (guid : Guid) → Placeable n ps → UpTo guids ps k entries → IsItemAt ps k p → IsItemAt guids (1 + k) guid
    → UpTo guids ps (k + 1) (set entries (p.number - 1) (entry_of guid p))
one_placed_on n guids ps k entries p guid fit before at some =
    let low = fit.low k p at in
    let high = fit.high k p at in
    let place : p.number - 1 < length entries = omega (arith, before.count) in
    record {
      count = length-set entries (p.number - 1) (entry_of guid p) ∙ before.count;
      each = λ j q other lt there given. elim (cases_lt j k)
          as (λ _. get_or (set entries (p.number - 1) (entry_of guid p)) (q.number - 1) None ≡ entry_of other q) [
            | inl below ↦ (
                let less = fit.rising j k q p below there at in
                let first = fit.low j q there in
                let apart : q.number - 1 ≢ p.number - 1 = λ same. omega arith in
                get_or-set_other entries (p.number - 1) (q.number - 1) (entry_of guid p) None apart
                ∙ before.each j q other below there given
                )
            | inr past ↦ (
                let e : j ≡ k = omega arith in
                let part : p ≡ q = at_one ps k p q at (subst (λ (m : ℕ). IsItemAt ps m q) e there) in
                let unique : guid ≡ other = at_one guids (1 + k) guid other some (subst (λ (m : ℕ). IsItemAt guids
                (1 + m) other) e given) in
                ap (λ (x : Partition). get_or (set entries (p.number - 1) (entry_of guid p)) (x.number - 1) None) (sym part)
                ∙ (get_or-set_same entries (p.number - 1) (entry_of guid p) None place
                ∙ (ap (λ (x : Partition). entry_of guid x) part ∙ ap (λ (g : Guid). entry_of g q) unique))
                )
          ];
      others = λ number first last spare.
          let differs : p.number ≢ number = spare k p (omega arith) at in
          let apart : number - 1 ≢ p.number - 1 = λ same. differs (omega arith) in
          get_or-set_other entries (p.number - 1) (number - 1) (entry_of guid p) None apart
          ∙ before.others number first last (λ j q lt. spare j q (omega arith));
    }

-- ## All of them, as the list of entries has them.

pub zip_none : {K X : Type 0} (ks : List K) → zip {X = X} ks [] ≡ []
zip_none [] = refl
zip_none (k ∷ ks) = refl

module _ (n : ℕ) (guids : List Guid) (ps : List Partition) (fit : Placeable n ps) (enough : 1 + length ps ≤ length guids) where
  nobody : Partition
  nobody = record { number = 0; kind = 0; first = 0; last = 0 }

  placed_from : (m k : ℕ) (entries : List (Option Entry)) → m + k ≡ length ps → UpTo guids ps k entries
      → UpTo guids ps (length ps) (fold put_entry entries (zip (drop (1 + k) guids) (drop k ps)))
  placed_from zero k entries end done =
      let none : drop k ps ≡ [] = drop_all k ps (omega arith) in
      let at : k ≡ length ps = omega arith in
      rw (none, zip_none (drop (1 + k) guids)) (subst (λ (i : ℕ). UpTo guids ps i entries) at done)
  placed_from (suc m) k entries end done =
      let p = get_or ps k nobody in
      let guid = get_or guids (1 + k) no_guid in
      let one : drop k ps ≡ p ∷ drop (k + 1) ps = drop_at ps k nobody (omega arith) in
      let two : drop (1 + k) guids ≡ guid ∷ drop (1 + (k + 1)) guids =
      drop_at guids (1 + k) no_guid (omega arith) ∙ ap (λ (i : ℕ). guid ∷ drop i guids) (omega arith) in
      rw (one, two) (placed_from m (k + 1) (put_entry entries (guid, p)) (omega arith)
      (one_placed_on n guids ps k entries p guid fit done (at_place ps k nobody (omega arith))
      (at_place guids (1 + k) no_guid (omega arith))))

  pub all_placed : UpTo guids ps (length ps) (entries_of (drop 1 guids) ps)
  unfolding entries_of
  all_placed = placed_from (length ps) 0 (replicate 128 None) (omega arith) (none_placed guids ps)

pub below_more : (n m : ℕ) (ps : List Partition) → n ≤ m → Placeable n ps → Placeable m ps
below_more n m ps more fit = record {
  low = fit.low;
  high = fit.high;
  fits_first = λ k p at. let h = fit.fits_first k p at in omega arith;
  fits_last = λ k p at. let h = fit.fits_last k p at in omega arith;
  rising = fit.rising;
}

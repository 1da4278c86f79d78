-- Where numbers stand in a list.
use Rattle.std.proofs.Common.{◌≡◌, ◌<◌, ◌≤◌, ◌+◌, ◌++◌, ◌∙◌, ℕ, zero, suc, List, [], ◌∷◌, length, get_or, drop, cond, Bool, true, false}
use Rattle.std.proofs.Common.{Option, Some, None, sym, ap, arith, refl, drop-cons, append_assoc, length-append, eq-eqb}
use Rattle.std.specs.Prelude.{nat_eq, if◌then◌else◌, slice_get}
use Rattle.std.specs.BTreeMap.{BTreeMap, IsEmpty, Updates, get}
use Rattle.std.specs.Map.{lookup}
use Rattle.std.specs.Ordering.{nat_cmp, is_eq}
use Rattle.std.proofs.lemmas.Bool.Decides.{nat_tests}
use Rattle.std.proofs.lemmas.List.{drop_all}
use Rattle.std.proofs.lemmas.Option.{slice_get_past}
use Rattle.pt_sector.specs.Sectors.{Sectors}
use Rattle.pt_replay.specs.Wanted.{known_of, place_from}
use Rattle.pt_replay.proofs.ViewLemmas.{sector_in}

-- the map leads from each number to its first place from k on
abbrev pub LeadsFrom : ℕ → List ℕ → BTreeMap ℕ ℕ → Type 0
LeadsFrom k ns m = (s : ℕ) → get nat_cmp m s ≡ place_from k (drop k ns) s

place_cut : (ns : List ℕ) (k s z : ℕ) → k < length ns
    → place_from k (drop k ns) s ≡ (if nat_eq (get_or ns k z) s then Some k else place_from (k + 1) (drop (k + 1) ns) s)
unfolding place_from
place_cut ns k s z lt =
    let e : suc k ≡ k + 1 = omega arith in
    ap (λ (l : List ℕ). place_from k l s) (drop-cons ns k z lt)
    ∙ ap (λ (m : ℕ). if nat_eq (get_or ns k z) s then Some k else place_from (k + 1) (drop m ns) s) e

pub place_here : (ns : List ℕ) (k s z : ℕ) → k < length ns → get_or ns k z ≡ s → place_from k (drop k ns) s ≡ Some k
place_here ns k s z lt same =
    place_cut ns k s z lt
    ∙ ap (λ (c : Bool). if c then Some k else place_from (k + 1) (drop (k + 1) ns) s) (eq-eqb (get_or ns k z) s same)

other_false : (a b : ℕ) → ¬ (a ≡ b) → nat_eq a b ≡ false
other_false a b ne = grind arith

pub place_on : (ns : List ℕ) (k s z : ℕ) → k < length ns → ¬ (get_or ns k z ≡ s)
    → place_from k (drop k ns) s ≡ place_from (k + 1) (drop (k + 1) ns) s
place_on ns k s z lt other =
    place_cut ns k s z lt
    ∙ ap (λ (c : Bool). if c then Some k else place_from (k + 1) (drop (k + 1) ns) s) (other_false (get_or ns k z) s other)

pub place_end : (ns : List ℕ) (k s : ℕ) → length ns ≤ k → place_from k (drop k ns) s ≡ None
unfolding place_from
place_end ns k s past = ap (λ (l : List ℕ). place_from k l s) (drop_all k ns past)

same_test : (a b : ℕ) → is_eq (nat_cmp a b) ≡ nat_eq a b
same_test a b = grind (arith, nat_tests)

-- an empty map leads from no number, as the end of the list does
pub leads_end : (ns : List ℕ) (m : BTreeMap ℕ ℕ) → IsEmpty m → LeadsFrom (length ns) ns m
leads_end ns m empty s =
    ap (λ (es : List (ℕ × ℕ)). lookup (λ (q : ℕ). is_eq (nat_cmp s q)) es) empty ∙ sym (place_end ns (length ns) s (omega arith))

-- one place before it
pub leads_more : (ns : List ℕ) (k z : ℕ) (old new : BTreeMap ℕ ℕ) → k < length ns → LeadsFrom (k + 1) ns old
    → Updates nat_cmp old new (get_or ns k z) (Some k) → LeadsFrom k ns new
leads_more ns k z old new lt leads updates s =
    updates.0 s
    ∙ (ap (λ (c : Bool). cond c (Some k) (get nat_cmp old s)) (same_test (get_or ns k z) s)
    ∙ (ap (λ (o : Option ℕ). if nat_eq (get_or ns k z) s then Some k else o) (leads s)
    ∙ sym (place_cut ns k s z lt)))

-- what stands in the place behind others
get_behind : (front : Sectors) (k : List ℕ) (ks : Sectors) → slice_get (front ++ k ∷ ks) (length front) ≡ Some k
get_behind [] k ks = refl
get_behind (f ∷ front) k ks = get_behind front k ks

known_in : (ns : List ℕ) (ks front : Sectors) (s : ℕ) → length ns ≡ length ks
    → known_of ns ks s ≡ sector_in (front ++ ks) (place_from (length front) ns s)
unfolding known_of place_from
known_in [] ks front s same = refl
known_in (n ∷ ns) [] front s same = absurd (omega (arith, same))
known_in (n ∷ ns) (k ∷ ks) front s same = by (nat_eq n s) (known_in ns ks (front ++ k ∷ []) s (omega (arith, same))) where
  by : (c : Bool) → known_of ns ks s ≡ sector_in ((front ++ k ∷ []) ++ ks) (place_from (length (front ++ k ∷ [])) ns s)
      → (if c then Some k else known_of ns ks s) ≡ sector_in (front ++ k ∷ ks)
      (if c then Some (length front) else place_from (length front + 1) ns s)
  by true on = sym (get_behind front k ks)
  by false on =
      on ∙ (ap (λ (l : Sectors). sector_in l (place_from (length (front ++ k ∷ [])) ns s)) (append_assoc front (k ∷ []) ks)
      ∙ ap (λ (m : ℕ). sector_in (front ++ k ∷ ks) (place_from m ns s)) (length-append front (k ∷ [])))

-- what is known of a sector is what stands in the first place of its number
pub known_in_place : (ns : List ℕ) (ks : Sectors) (s : ℕ) → length ns ≡ length ks → known_of ns ks s ≡ sector_in ks (place_from 0 ns s)
known_in_place ns ks s same = known_in ns ks [] s same

pub known_none : (ns : List ℕ) (ks : Sectors) (s : ℕ) → length ns ≡ length ks → place_from 0 ns s ≡ None → known_of ns ks s ≡ None
known_none ns ks s same is = known_in_place ns ks s same ∙ ap (sector_in ks) is

within_place : (ks : Sectors) (k : ℕ) (v : List ℕ) → k < length ks → slice_get ks k ≡ Some (get_or ks k v)
within_place [] k v lt = absurd (omega (arith, lt))
within_place (x ∷ ks) zero v lt = refl
within_place (x ∷ ks) (suc k) v lt = within_place ks k v (omega (arith, lt))

pub known_some : (ns : List ℕ) (ks : Sectors) (s k : ℕ) (v : List ℕ) → length ns ≡ length ks → place_from 0 ns s ≡ Some k → k < length ks
    → known_of ns ks s ≡ Some (get_or ks k v)
known_some ns ks s k v same is lt = known_in_place ns ks s same ∙ (ap (sector_in ks) is ∙ within_place ks k v lt)

pub known_past : (ns : List ℕ) (ks : Sectors) (s k : ℕ) → length ns ≡ length ks → place_from 0 ns s ≡ Some k → length ks ≤ k
    → known_of ns ks s ≡ None
known_past ns ks s k same is past = known_in_place ns ks s same ∙ (ap (sector_in ks) is ∙ slice_get_past ks k past)

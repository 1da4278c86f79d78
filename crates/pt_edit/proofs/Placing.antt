-- What is placed, and where.
use Rattle.std.proofs.Common.{◌≡◌, ◌≤◌, ◌+◌, ◌-◌, ℕ, suc, Bool, true, false, not, List, [], ◌∷◌, Option, Some, None, refl, sym}
use Rattle.std.proofs.Common.{subst, inl, inr, arith}
use Rattle.std.specs.Prelude.{◌⊎◌, ◌&&◌, Contains, Ok, nat_eq, nat_le, nat_lt, find, fold, ok_or}
use Rattle.std.specs.List.{list_any}
use Rattle.std.proofs.lemmas.Bool.{leb-false, leb-true, ltb-false, eqb-true, both_ways, not-false, and_cases, or_cases, cases_cond}
use Rattle.std.proofs.lemmas.Bool.{false≢true}
use Rattle.std.proofs.lemmas.Option.{cond_some}
use Rattle.pt_words.specs.declared.word.End.{End}
use Rattle.pt_words.specs.declared.error.Refusal.TheVariants.{NoSpace, OutsideUsable, Overlap}
use Rattle.pt_edit.specs.declared.space.Run.{Run}
use Rattle.pt_edit.specs.Space.{Area, IsTaken, IsBlock, HasLead, IsFreeRun, holds, is_in, is_usable, blocks_of, rounded_up}
use Rattle.pt_edit.specs.Space.{lead_size, start_of}
use Rattle.pt_edit.specs.Space.{part_of, longer_of, longest, led, started_at, started, past_end, ended, placed, Placed}
use Rattle.pt_edit.proofs.Grouping.{blocks_are, find_some, runs_in}
use Rattle.pt_edit.proofs.Rounding.{rounded_above}
use Rattle.pt_edit.proofs.Steps.{bound, unless_ok, given_ok}

-- the sectors of a block from a partition's first one on, with room for what leads it
pub record IsStarted (a : Area) (part : Run) : Type 0 where
  pub block : Run
  pub is_block : IsBlock a block
  pub from : block.first ≤ part.first
  pub some : part.first ≤ part.last
  pub last_is : part.last ≡ block.last
  pub leads : HasLead a a.empties part.first

-- ## The start.

listed : (xs : List ℕ) (k : ℕ) → list_any (nat_eq k) xs ≡ true → Contains xs k
listed [] k is = absurd (false≢true is)
listed (x ∷ xs) k is = elim (or_cases (nat_eq k x) (list_any (nat_eq k) xs) is) as (λ _. Contains (x ∷ xs) k) [
  | inl here ↦ (0, omega arith, sym (eqb-true k x here))
  | inr there ↦ (let (j, lt, at) = listed xs k there in (suc j, omega arith, at))
]

led_ok : (a : Area) (empties : Option (List ℕ)) (part r : Run) → part.first ≤ a.high → led a empties part ≡ Ok r
    → (part ≡ r) × HasLead a empties part.first
led_ok a None part r high is = (cc, tt)
led_ok a (Some empties) part r high is =
    let (out, rest) = unless_ok (nat_le part.first a.low) OutsideUsable _ r is in
    let (takes, same) =
    unless_ok (is_in a.taken (part.first - 1) && not (list_any (nat_eq (part.first - 1)) empties)) Overlap (Ok part) r rest in
    let low = leb-false part.first a.low out in (
      cc,
      (
        part.first - 1,
        omega arith,
        (
          (omega arith, omega arith),
          elim (and_cases (is_in a.taken (part.first - 1)) _ takes)
              as (λ _. (¬ IsTaken a (part.first - 1)) ⊎ Contains empties (part.first - 1)) [
                | inl not_in ↦ inl (λ taken. both_ways (is_in a.taken (part.first - 1)) not_in (runs_in a.taken (part.first - 1) taken))
                | inr not_not ↦ inr (listed empties (part.first - 1) (not-false _ not_not))
              ],
        ),
      ),
    )

longer_one : (best other : Option Run) (r : Run) → longer_of best other ≡ Some r → (best ≡ Some r) ⊎ (other ≡ Some r)
longer_one None None r is = inl is
longer_one (Some b) None r is = inl is
longer_one None (Some q) r is = inr is
longer_one (Some b) (Some q) r is = elim (cases_cond (nat_lt (b.last - b.first) (q.last - q.first)) (Some q) (Some b) (Some r) (sym is))
    as (λ _. (Some b ≡ Some r) ⊎ (Some q ≡ Some r)) [
      | inl second ↦ inr (sym second)
      | inr first ↦ inl (sym first)
    ]

longest_in : (a : Area) (alignment : ℕ) (best : Option Run) (blocks : List Run) (r : Run)
    → fold (λ o b. longer_of o (part_of a alignment b)) best blocks ≡ Some r
    → (best ≡ Some r) ⊎ ((b : Run) × Contains blocks b × (part_of a alignment b ≡ Some r))
longest_in a alignment best [] r is = inl is
longest_in a alignment best (b ∷ bs) r is =
    elim (longest_in a alignment (longer_of best (part_of a alignment b)) bs r is)
    as (λ _. (best ≡ Some r) ⊎ ((c : Run) × Contains (b ∷ bs) c × (part_of a alignment c ≡ Some r))) [
      | inl one ↦ elim (longer_one best (part_of a alignment b) r one)
          as (λ _. (best ≡ Some r) ⊎ ((c : Run) × Contains (b ∷ bs) c × (part_of a alignment c ≡ Some r))) [
            | inl old ↦ inl old
            | inr here ↦ inr (b, (0, omega arith, refl), here)
          ]
      | inr (c, (k, lt, at), part) ↦ inr (c, (suc k, omega arith, at), part)
    ]

-- in a block with room a record may stand before the start
led_in_block : (a : Area) (alignment : ℕ) (b : Run) (empties : Option (List ℕ)) → IsBlock a b
    → rounded_up alignment (b.first + lead_size empties) ≤ b.last → HasLead a empties (rounded_up alignment (b.first + lead_size empties))
led_in_block a alignment b None x some = tt
led_in_block a alignment b (Some empties) x some =
    let above = rounded_above alignment (b.first + 1) in
    let first = rounded_up alignment (b.first + 1) in
    let free = x.free (first - 1) (omega arith, omega arith) in
    (first - 1, omega arith, (free.0, inl free.1))

part_started : (a : Area) (alignment : ℕ) (b r : Run) → IsBlock a b → part_of a alignment b ≡ Some r → IsStarted a r
part_started a alignment b r x is =
    let start = start_of a alignment b in
    let (up, same) = cond_some (nat_le start b.last) (record { first = start; last = b.last }) r is in
    let some = leb-true start b.last up in
    let above = rounded_above alignment (b.first + lead_size a.empties) in
    subst (λ (q : Run). IsStarted a q) same (record {
      block = b;
      is_block = x;
      from = omega arith;
      some = some;
      last_is = refl;
      leads = led_in_block a alignment b a.empties x some;
    })

given_started : (a : Area) (first : ℕ) (r : Run) → started_at a first ≡ Ok r → IsStarted a r
unfolding started_at
given_started a first r is = by_case (is_usable a first) refl where
  by_case : (t : Bool) → is_usable a first ≡ t → IsStarted a r
  by_case false not = let was = rw not at is in cc
  by_case true usable =
      let was = rw usable at is in
      let (block, found, done) = bound (ok_or (find (holds first) (blocks_of a)) Overlap) _ r was in
      let (there, held) = find_some (blocks_of a) first block (given_ok _ Overlap block found) in
      let x = (blocks_are a).each block there in
      let (same, leads) = led_ok a a.empties (record { first = first; last = block.last }) r (x.free first held).0.1 done in
      subst (λ (q : Run). IsStarted a q) same
      (record { block = block; is_block = x; from = held.0; some = held.1; last_is = refl; leads = leads })

started_is : (a : Area) (alignment start : ℕ) (r : Run) → started a alignment start ≡ Ok r → IsStarted a r
unfolding started
started_is a alignment start r is = by_case (nat_eq start 0) refl where
  by_case : (t : Bool) → nat_eq start 0 ≡ t → IsStarted a r
  by_case false not = given_started a (rounded_up alignment start) r (rw not at is)
  by_case true zero =
      let was = given_ok (longest a alignment (blocks_of a)) NoSpace r (rw zero at is) in
      elim (longest_in a alignment None (blocks_of a) r was) as (λ _. IsStarted a r) [
        | inl none ↦ cc
        | inr (b, there, part) ↦ part_started a alignment b r ((blocks_are a).each b there) part
      ]

pub started_some : (a : Area) (alignment start : ℕ) (r : Run) → started a alignment start ≡ Ok r → r.first ≤ r.last
started_some a alignment start r is = (started_is a alignment start r is).some

-- ## The end.

pub record IsPlaced (a : Area) (r : Run) : Type 0 where
  pub part : Run
  pub starts : IsStarted a part
  pub first_is : r.first ≡ part.first
  pub some : r.first ≤ r.last
  pub inside : r.last ≤ part.last

ended_ok : (high : ℕ) (part : Run) (past : ℕ) (r : Run) → ended high part past ≡ Ok r
    → (r.first ≡ part.first) × (r.first ≤ r.last) × (r.last ≤ part.last)
ended_ok high part past r is =
    let (low, one) = unless_ok (nat_le past part.first) NoSpace _ r is in
    let (usable, two) = unless_ok (nat_lt (high + 1) past) OutsideUsable _ r one in
    let (inside, same) = unless_ok (nat_lt (part.last + 1) past) Overlap (Ok (record { first = part.first; last = past - 1 })) r two in
    let above = leb-false past part.first low in
    let below = ltb-false (part.last + 1) past inside in
    let e : record { first = part.first; last = past - 1 } ≡ r = cc in
    subst (λ (q : Run). (q.first ≡ part.first) × (q.first ≤ q.last) × (q.last ≤ part.last)) e (refl, omega arith, omega arith)

pub placed_on : (a : Area) (alignment start : ℕ) (end : End) (part : Run) → started a alignment start ≡ Ok part
    → placed a alignment start end ≡ ended a.high part (past_end part end)
unfolding placed
placed_on a alignment start end part is = rw is

pub placed_is : (a : Area) (alignment start : ℕ) (end : End) (r : Run) → Placed a alignment start end r → IsPlaced a r
unfolding placed
placed_is a alignment start end r is =
    let (part, begun, done) = bound (started a alignment start) _ r is in
    let (first_is, some, inside) = ended_ok a.high part (past_end part end) r done in
    record { part = part; starts = started_is a alignment start part begun; first_is = first_is; some = some; inside = inside }

-- what is placed is free, and what leads it
pub placed_is_free_lem : (a : Area) (alignment start : ℕ) (end : End) (r : Run) → Placed a alignment start end r → IsFreeRun a r
placed_is_free_lem a alignment start end r is = let x = placed_is a alignment start end r is in record {
  some = x.some;
  free = λ k held. x.starts.is_block.free k
      (omega (arith, x.starts.from, x.first_is, held.0), omega (arith, held.1, x.inside, x.starts.last_is));
  leads = subst (λ (n : ℕ). HasLead a a.empties n) (sym x.first_is) x.starts.leads;
}

pub placed_some : (a : Area) (alignment start : ℕ) (end : End) (r : Run) → Placed a alignment start end r → r.first ≤ r.last
placed_some a alignment start end r is = (placed_is a alignment start end r is).some

-- and lies in a block
pub placed_within : (a : Area) (alignment start : ℕ) (end : End) (r : Run) → Placed a alignment start end r
    → (b : Run) × IsBlock a b × (b.first ≤ r.first) × (r.last ≤ b.last)
placed_within a alignment start end r is = let x = placed_is a alignment start end r is in (
  x.starts.block,
  x.starts.is_block,
  omega (arith, x.starts.from, x.first_is),
  omega (arith, x.inside, x.starts.last_is),
)

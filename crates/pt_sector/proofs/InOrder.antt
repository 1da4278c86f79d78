-- Writes in the order of their sectors: what a search finds, and what a new write does.
use Rattle.std.proofs.Common.{◌≡◌, ◌≢◌, ◌∙◌, ℕ, zero, suc, ◌+◌, ◌-◌, ◌<◌, ◌≤◌, ◌==◌, List, [], ◌∷◌, ◌++◌, cond, length, get_or, take}
use Rattle.std.proofs.Common.{drop, slice_set, map, refl, sym, ap, subst, arith, Result, Ok, Err, IfOk, IfErr, set-set}
use Rattle.std.specs.List.{insert}
use Rattle.std.specs.List.Sorted.{IsSearchInRange, IsBinarySearchResult, IsNonDecreasingBy}
use Rattle.std.specs.Ordering.{nat_cmp, ordering_index}
use Rattle.std.proofs.lemmas.Cmp.{ranked}
use Rattle.std.proofs.lemmas.List.{map-append, take-map, drop-map, length-map, get_or-drop, take-append-drop, set_comm, length-drop}
use Rattle.std.proofs.lemmas.List.{get_or-set_same, get_or-set_other, get_or_append_left}
use Rattle.std.proofs.lemmas.List.Sorted.{IsNonDecreasingBy-from_default}
use Rattle.std.proofs.lemmas.List.Edits.{length-insert, get_or-insert_below, get_or-insert_at, get_or-insert_above}
use Rattle.std.proofs.lemmas.Bool.Decides.{nat_tests}
use Rattle.std.proofs.lemmas.Grind.{common_steps}
use Rattle.std.proofs.Math.ListN as N
use Rattle.pt_sector.specs.Sectors.{Sectors, Writes, written, sector_at, IsAscending, IsWriteAt, Has, puts_as_writes, as_write, no_put}
use Rattle.pt_sector.specs.Sectors.{slot_at, SlotsFit, SlotsApart}
use Rattle.pt_sector.specs.inner.Sectors.{value_after, IsGapFor}
use Rattle.pt_sector.proofs.Written.{written-append}
use Rattle.pt_sector.specs.declared.own.Put.{Put}

-- no write is of sector k
abbrev pub HasNone : Writes → ℕ → Type 0
HasNone ws k = (i : ℕ) → i < length ws → sector_at ws i ≢ k

none_in_tail : (w : ℕ × List ℕ) (ws : Writes) (k : ℕ) → HasNone (w ∷ ws) k → HasNone ws k
none_in_tail w ws k none i lt = none (suc i) (omega (arith, lt))

rises_in_tail : (w : ℕ × List ℕ) (ws : Writes) → IsAscending (w ∷ ws) → IsAscending ws
rises_in_tail w ws rises i j lt in_range = rises (suc i) (suc j) (omega (arith, lt)) (omega (arith, in_range))

at_in_tail : (w : ℕ × List ℕ) (ws : Writes) (k i : ℕ) → IsWriteAt (w ∷ ws) k (suc i) → IsWriteAt ws k i
at_in_tail w ws k i is_at = record { in_range = omega (arith, is_at.in_range); has_sector = is_at.has_sector }

-- the first is the only one of its sector
none_after_first : (w : ℕ × List ℕ) (ws : Writes) → IsAscending (w ∷ ws) → HasNone ws w.0
none_after_first w ws rises i lt same = omega (arith, same, rises 0 (suc i) (omega arith) (omega (arith, lt)))

not_first : (w : ℕ × List ℕ) (ws : Writes) (k i : ℕ) → IsAscending (w ∷ ws) → IsWriteAt ws k i → w.0 ≢ k
not_first w ws k i rises is_at same = omega (arith, same, is_at.has_sector, rises 0 (suc i) (omega arith) (omega (arith, is_at.in_range)))

pub none_in_gap : (ws : Writes) (k at : ℕ) → IsGapFor ws k at → HasNone ws k
none_in_gap ws k at gap i lt same = grind (arith, gap.lower_before i, gap.higher_after i, lt, same)

-- what is read

pub value_of_none : (ws : Writes) (k : ℕ) (v : List ℕ) → HasNone ws k → value_after ws k v ≡ v
value_of_none [] k v none = refl
value_of_none (w ∷ ws) k v none =
    let other : w.0 ≢ k = none 0 (omega arith) in
    let off : cond (w.0 == k) w.1 v ≡ v = grind (arith, nat_tests) in
    ap (value_after ws k) off ∙ value_of_none ws k v (none_in_tail w ws k none)

pub value_of_one : (ws : Writes) (k i : ℕ) (v : List ℕ) → IsAscending ws → IsWriteAt ws k i → value_after ws k v ≡ (get_or ws i (0, [])).1
value_of_one [] k i v rises is_at = absurd (omega (arith, is_at.in_range))
value_of_one (w ∷ ws) k zero v rises is_at =
    let here : w.0 ≡ k = is_at.has_sector in
    let on : cond (w.0 == k) w.1 v ≡ w.1 = grind (arith, nat_tests) in
    ap (value_after ws k) on ∙ value_of_none ws k w.1 (rw here at (none_after_first w ws rises))
value_of_one (w ∷ ws) k (suc i) v rises is_at =
    value_of_one ws k i (cond (w.0 == k) w.1 v) (rises_in_tail w ws rises) (at_in_tail w ws k i is_at)

-- a sector that keeps whatever it held isn't written
pub not_own : (ws : Writes) (k : ℕ) → IsAscending ws → ((v : List ℕ) → value_after ws k v ≡ v) → Has ws k → ⊥
not_own ws k rises same (i, at) =
    let none : [] ≡ (get_or ws i (0, [])).1 = sym (same []) ∙ value_of_one ws k i [] rises at in
    let one : 0 ∷ [] ≡ (get_or ws i (0, [])).1 = sym (same (0 ∷ [])) ∙ value_of_one ws k i (0 ∷ []) rises at in
    let apart : [] ≡ 0 ∷ [] = none ∙ sym one in
    absurd cc

-- what is written

written_late : (ws : Writes) (k : ℕ) (v : List ℕ) (d : Sectors) → HasNone ws k → written ws (slice_set d k v) ≡ slice_set (written ws d) k v
written_late [] k v d none = refl
written_late (w ∷ ws) k v d none =
    let other : w.0 ≢ k = none 0 (omega arith) in
    ap (written ws) (set_comm d k w.0 v w.1 (λ same. other (sym same)))
    ∙ written_late ws k v (slice_set d w.0 w.1) (none_in_tail w ws k none)

pub written_over : (ws : Writes) (k i : ℕ) (v : List ℕ) (d : Sectors) → IsAscending ws → IsWriteAt ws k i
    → written (slice_set ws i (k, v)) d ≡ slice_set (written ws d) k v
written_over [] k i v d rises is_at = absurd (omega (arith, is_at.in_range))
written_over (w ∷ ws) k zero v d rises is_at =
    let here : w.0 ≡ k = is_at.has_sector in
    let none : HasNone ws k = rw here at (none_after_first w ws rises) in
    written_late ws k v d none ∙ rw here (rest none)
  where
    rest : HasNone ws k → slice_set (written ws d) k v ≡ slice_set (written ws (slice_set d k w.1)) k v
    rest none = sym (ap (λ (x : Sectors). slice_set x k v) (written_late ws k w.1 d none) ∙ set-set (written ws d) k w.1 v)
written_over (w ∷ ws) k (suc i) v d rises is_at =
    written_over ws k i v (slice_set d w.0 w.1) (rises_in_tail w ws rises) (at_in_tail w ws k i is_at)

none_in_rest : (ws : Writes) (k at : ℕ) → IsGapFor ws k at → HasNone (drop at ws) k
none_in_rest ws k at gap i lt same =
    let moved : sector_at (drop at ws) i ≡ sector_at ws (at + i) = ap (λ (w : ℕ × List ℕ). w.0) (get_or-drop at ws i (0, [])) in
    omega (arith, same, moved, gap.higher_after (at + i) (omega arith) (omega (arith, lt, length-drop at ws)))

pub written_between : (ws : Writes) (k at : ℕ) (v : List ℕ) (d : Sectors) → IsGapFor ws k at
    → written (insert ws at (k, v)) d ≡ slice_set (written ws d) k v
written_between ws k at v d gap =
    written-append (take at ws) ((k, v) ∷ drop at ws) d
    ∙ written_late (drop at ws) k v (written (take at ws) d) (none_in_rest ws k at gap)
    ∙ ap (λ (x : Sectors). slice_set x k v) (sym (written-append (take at ws) (drop at ws) d)
    ∙ ap (λ (x : Writes). written x d) (take-append-drop at ws))

-- the order stays

pub rises_over : (ws : Writes) (k at : ℕ) (v : List ℕ) → IsAscending ws → IsWriteAt ws k at → IsAscending (slice_set ws at (k, v))
rises_over ws k at v rises is_at i j lt in_range =
    grind (arith, common_steps, rises i j, rises i at, rises at j, is_at.in_range, is_at.has_sector)

pub rises_between : (ws : Writes) (k at : ℕ) (v : List ℕ) → IsAscending ws → IsGapFor ws k at → IsAscending (insert ws at (k, v))
rises_between ws k at v rises gap i j lt in_range =
    let new = insert ws at (k, v) in
    let number = λ (w : ℕ × List ℕ). w.0 in
    let length_new = length-insert ws at (k, v) gap.in_range in
    let below : (i : ℕ) → i < at → sector_at new i ≡ sector_at ws i =
    λ i lower. ap number (get_or-insert_below ws at (k, v) (0, []) i lower gap.in_range) in
    let here : (i : ℕ) → i ≡ at → sector_at new i ≡ k =
    λ i here. rw here (ap number (get_or-insert_at ws at (k, v) (0, []) gap.in_range)) in
    let above : (i : ℕ) → at < i → sector_at new i ≡ sector_at ws (i - 1) =
    λ i higher. subst (λ q. sector_at new q ≡ sector_at ws (i - 1)) {x = i - 1 + 1} (omega arith)
    (ap number (get_or-insert_above ws at (k, v) (0, []) (i - 1) (omega arith) gap.in_range)) in
    grind (
      arith,
      below i,
      here i,
      above i,
      below j,
      here j,
      above j,
      rises i j,
      rises i (j - 1),
      rises (i - 1) (j - 1),
      gap.lower_before i,
      gap.higher_after (j - 1),
    )

-- puts as writes

pub sector-of-put : (ps : List Put) (ss : List (List ℕ)) (i : ℕ) → sector_at (puts_as_writes ps ss) i ≡ (get_or ps i no_put).lba.0
sector-of-put [] ss zero = refl
sector-of-put [] ss (suc i) = refl
sector-of-put (p ∷ ps) ss zero = refl
sector-of-put (p ∷ ps) ss (suc i) = sector-of-put ps ss i

pub bytes-of-put : (ps : List Put) (ss : List (List ℕ)) (i : ℕ) → i < length ps
    → (get_or (puts_as_writes ps ss) i (0, [])).1 ≡ get_or ss (slot_at ps i) []
bytes-of-put [] ss i lt = absurd (omega (arith, lt))
bytes-of-put (p ∷ ps) ss zero lt = refl
bytes-of-put (p ∷ ps) ss (suc i) lt = bytes-of-put ps ss i (omega (arith, lt))

pub length-puts : (ps : List Put) (ss : List (List ℕ)) → length (puts_as_writes ps ss) ≡ length ps
length-puts ps ss = length-map ps (as_write ss)

-- the order of the sectors doesn't depend on their bytes

pub rises_with : (ps : List Put) (ss ts : List (List ℕ)) → IsAscending (puts_as_writes ps ss) → IsAscending (puts_as_writes ps ts)
rises_with ps ss ts rises i j lt in_range =
    omega (
      arith,
      rises i j lt (omega (arith, in_range, length-puts ps ss, length-puts ps ts)),
      sector-of-put ps ss i,
      sector-of-put ps ss j,
      sector-of-put ps ts i,
      sector-of-put ps ts j,
    )

pub at_with : (ps : List Put) (ss ts : List (List ℕ)) (k i : ℕ) → IsWriteAt (puts_as_writes ps ss) k i
    → IsWriteAt (puts_as_writes ps ts) k i
at_with ps ss ts k i is = record {
  in_range = omega (arith, is.in_range, length-puts ps ss, length-puts ps ts);
  has_sector = omega (arith, is.has_sector, sector-of-put ps ss i, sector-of-put ps ts i);
}

pub gap_with : (ps : List Put) (ss ts : List (List ℕ)) (k i : ℕ) → IsGapFor (puts_as_writes ps ss) k i → IsGapFor (puts_as_writes ps ts) k i
gap_with ps ss ts k i gap = record {
  in_range = omega (arith, gap.in_range, length-puts ps ss, length-puts ps ts);
  lower_before = λ j lt. omega (arith, gap.lower_before j lt, sector-of-put ps ss j, sector-of-put ps ts j);
  higher_after = λ j le lt. omega (
    arith,
    gap.higher_after j le (omega (arith, lt, length-puts ps ss, length-puts ps ts)),
    sector-of-put ps ss j,
    sector-of-put ps ts j,
  );
}

-- other bytes in a slot

store_apart : (ps : List Put) (ss : List (List ℕ)) (s : ℕ) (v : List ℕ) → ((j : ℕ) → j < length ps → slot_at ps j ≢ s)
    → puts_as_writes ps (slice_set ss s v) ≡ puts_as_writes ps ss
store_apart [] ss s v other = refl
store_apart (p ∷ ps) ss s v other =
    ap (λ (x : List ℕ). (p.lba.0, x) ∷ puts_as_writes ps (slice_set ss s v)) (get_or-set_other ss s p.slot v [] (other 0 (omega arith)))
    ∙ ap (λ (ws : Writes). (p.lba.0, get_or ss p.slot []) ∷ ws) (store_apart ps ss s v (λ j lt. other (suc j) (omega (arith, lt))))

store_over : (ps : List Put) (ss : List (List ℕ)) (i : ℕ) (v : List ℕ) → i < length ps → SlotsApart ps → slot_at ps i < length ss
    → puts_as_writes ps (slice_set ss (slot_at ps i) v) ≡ slice_set (puts_as_writes ps ss) i ((get_or ps i no_put).lba.0, v)
store_over [] ss i v lt apart fits = absurd (omega (arith, lt))
store_over (p ∷ ps) ss zero v lt apart fits =
    ap (λ (x : List ℕ). (p.lba.0, x) ∷ puts_as_writes ps (slice_set ss p.slot v)) (get_or-set_same ss p.slot v [] fits)
    ∙ ap (λ (ws : Writes). (p.lba.0, v) ∷ ws)
    (store_apart ps ss p.slot v (λ j low same. apart 0 (suc j) (omega arith) (omega (arith, low)) (sym same)))
store_over (p ∷ ps) ss (suc i) v lt apart fits =
    ap (λ (x : List ℕ). (p.lba.0, x) ∷ puts_as_writes ps (slice_set ss (slot_at ps i) v))
    (get_or-set_other ss (slot_at ps i) p.slot v [] (λ same. apart 0 (suc i) (omega arith) lt same))
    ∙ ap (λ (ws : Writes). (p.lba.0, get_or ss p.slot []) ∷ ws)
    (store_over ps ss i v (omega (arith, lt)) (λ j k low most. apart (suc j) (suc k) (omega (arith, low)) (omega (arith, most))) fits)

-- bytes in a new slot

store_more : (ps : List Put) (ss : List (List ℕ)) (v : List ℕ) → SlotsFit ps (length ss)
    → puts_as_writes ps (ss ++ v ∷ []) ≡ puts_as_writes ps ss
store_more [] ss v fit = refl
store_more (p ∷ ps) ss v fit =
    ap (λ (x : List ℕ). (p.lba.0, x) ∷ puts_as_writes ps (ss ++ v ∷ [])) (get_or_append_left ss (v ∷ []) [] p.slot (fit 0 (omega arith)))
    ∙ ap (λ (ws : Writes). (p.lba.0, get_or ss p.slot []) ∷ ws) (store_more ps ss v (λ j lt. fit (suc j) (omega (arith, lt))))

last_of : (ss : List (List ℕ)) (v : List ℕ) → get_or (ss ++ v ∷ []) (length ss) [] ≡ v
last_of [] v = refl
last_of (s ∷ ss) v = last_of ss v

puts-insert : (ps : List Put) (ss : List (List ℕ)) (i : ℕ) (p : Put)
    → puts_as_writes (insert ps i p) ss ≡ insert (puts_as_writes ps ss) i (as_write ss p)
puts-insert ps ss i p =
    map-append (as_write ss) (take i ps) (p ∷ drop i ps)
    ∙ ap (λ (x : Writes). x ++ as_write ss p ∷ map (as_write ss) (drop i ps)) (sym (take-map (as_write ss) i ps))
    ∙ ap (λ (x : Writes). take i (puts_as_writes ps ss) ++ as_write ss p ∷ x) (sym (drop-map (as_write ss) i ps))

insert_more : (ps : List Put) (ss : List (List ℕ)) (v : List ℕ) (i : ℕ) (p : Put) → SlotsFit ps (length ss) → p.slot ≡ length ss
    → puts_as_writes (insert ps i p) (ss ++ v ∷ []) ≡ insert (puts_as_writes ps ss) i (p.lba.0, v)
insert_more ps ss v i p fit last =
    puts-insert ps (ss ++ v ∷ []) i p
    ∙ ap (λ (ws : Writes). insert ws i (as_write (ss ++ v ∷ []) p)) (store_more ps ss v fit)
    ∙ ap (λ (x : List ℕ). insert (puts_as_writes ps ss) i (p.lba.0, x))
    (ap (λ (n : ℕ). get_or (ss ++ v ∷ []) n []) last ∙ last_of ss v)

module _ (ps : List Put) (at : ℕ) (p : Put) (n : ℕ) (within : at ≤ length ps) (fit : SlotsFit ps n) (last : p.slot ≡ n) where
  below : (i : ℕ) → i < at → slot_at (insert ps at p) i ≡ slot_at ps i
  below i low = ap (λ (q : Put). q.slot) (get_or-insert_below ps at p no_put i low within)

  here : (i : ℕ) → i ≡ at → slot_at (insert ps at p) i ≡ n
  here i is = subst (λ (j : ℕ). slot_at (insert ps at p) j ≡ n) (sym is) (ap (λ (q : Put). q.slot) (get_or-insert_at ps at p no_put
      within) ∙ last)

  above : (i : ℕ) → at < i → slot_at (insert ps at p) i ≡ slot_at ps (i - 1)
  above i high =
      subst (λ (j : ℕ). slot_at (insert ps at p) j ≡ slot_at ps (i - 1)) {x = i - 1 + 1} (omega arith)
      (ap (λ (q : Put). q.slot) (get_or-insert_above ps at p no_put (i - 1) (omega arith) within))

  pub fit_insert : SlotsFit (insert ps at p) (n + 1)
  fit_insert i lt =
      let long = length-insert ps at p within in
      grind (arith, below i, here i, above i, fit i, fit (i - 1))

  pub apart_insert : SlotsApart ps → SlotsApart (insert ps at p)
  apart_insert apart i j lt in_range same =
      let long = length-insert ps at p within in
      grind (
        arith,
        same,
        below i,
        here i,
        above i,
        below j,
        here j,
        above j,
        apart i j,
        apart i (j - 1),
        apart (i - 1) (j - 1),
        fit i,
        fit (i - 1),
        fit (j - 1),
        fit j,
      )

module _ (ps : List Put) (ss : List (List ℕ)) (k i : ℕ) (v : List ℕ) where
  over : IsWriteAt (puts_as_writes ps ss) k i → SlotsApart ps → SlotsFit ps (length ss)
      → puts_as_writes ps (slice_set ss (slot_at ps i) v) ≡ slice_set (puts_as_writes ps ss) i (k, v)
  over is apart fit =
      let lt : i < length ps = omega (arith, is.in_range, length-puts ps ss) in
      store_over ps ss i v lt apart (fit i lt)
      ∙ ap (λ (s : ℕ). slice_set (puts_as_writes ps ss) i (s, v)) (sym (sector-of-put ps ss i) ∙ is.has_sector)

  pub put_over : IsAscending (puts_as_writes ps ss) → IsWriteAt (puts_as_writes ps ss) k i → SlotsApart ps → SlotsFit ps (length ss)
      → (d : Sectors) → written (puts_as_writes ps (slice_set ss (slot_at ps i) v)) d ≡ slice_set (written (puts_as_writes ps ss) d) k v
  put_over rises is apart fit d =
      ap (λ (ws : Writes). written ws d) (over is apart fit) ∙ written_over (puts_as_writes ps ss) k i v d rises is

module _ (ps : List Put) (ss : List (List ℕ)) (p : Put) (i : ℕ) (v : List ℕ) (fit : SlotsFit ps (length ss)) (last : p.slot ≡ length ss)
    (gap : IsGapFor (puts_as_writes ps ss) p.lba.0 i) where
  pub put_between : (d : Sectors)
      → written (puts_as_writes (insert ps i p) (ss ++ v ∷ [])) d ≡ slice_set (written (puts_as_writes ps ss) d) p.lba.0 v
  put_between d =
      ap (λ (ws : Writes). written ws d) (insert_more ps ss v i p fit last) ∙ written_between (puts_as_writes ps ss) p.lba.0 i v d gap

  pub order_between : IsAscending (puts_as_writes ps ss) → IsAscending (puts_as_writes (insert ps i p) (ss ++ v ∷ []))
  order_between rises =
      subst IsAscending (sym (insert_more ps ss v i p fit last)) (rises_between (puts_as_writes ps ss) p.lba.0 i v rises gap)

-- a binary search ends at the sector, or at the gap for it
module _ (ps : List Put) (ss : List (List ℕ)) (rises : IsAscending (puts_as_writes ps ss)) (k : ℕ) where
  answers_rise : IsNonDecreasingBy (λ (p : Put). ordering_index (nat_cmp p.lba.0 k)) ps
  answers_rise = IsNonDecreasingBy-from_default (λ (p : Put). ordering_index (nat_cmp p.lba.0 k)) ps no_put (λ i j le in_range.
      let ordered : (get_or ps i no_put).lba.0 ≤ (get_or ps j no_put).lba.0 =
      grind (
        arith,
        rises i j,
        sector-of-put ps ss i,
        sector-of-put ps ss j,
        length-puts ps ss,
        λ (same : i ≡ j). ap
            (λ (n : ℕ). (get_or ps n no_put).lba.0) same,
      ) in
      grind (arith, nat_tests))

  pub searched : (r : Result ℕ ℕ) → IsSearchInRange r (length ps) → IsBinarySearchResult (λ (p : Put). nat_cmp p.lba.0 k) ps r
      → record { found : IfOk r (IsWriteAt (puts_as_writes ps ss) k); absent : IfErr r (IsGapFor (puts_as_writes ps ss) k) }
  searched (Ok at) in_range equal = record {
    found = record {
      in_range = omega (arith, in_range, length-puts ps ss);
      has_sector = sector-of-put ps ss at
          ∙ ranked _ k _ (sym (equal no_put));
    };
    absent = tt;
  }
  searched (Err at) in_range parted = record {
    found = tt;
    absent = record {
      in_range = omega (arith, in_range, length-puts ps ss);
      lower_before =
          λ j lt. (let low : (get_or ps j no_put).lba.0 < k = ranked _ k _
          (sym ((parted answers_rise).0 j no_put (omega arith) lt)) in omega (arith, low, sector-of-put ps ss j));
      higher_after =
          λ j le lt. (let high : k < (get_or ps j no_put).lba.0 = ranked _ k _
          (sym ((parted answers_rise).1 j no_put le (omega (arith, lt, length-puts ps ss)))) in omega (arith, high, sector-of-put ps ss j));
    };
  }

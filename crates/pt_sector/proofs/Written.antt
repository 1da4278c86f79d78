-- Lemmas on laws of written disks: their length, their sectors, and which sectors stay.
use Rattle.std.proofs.Common.{◌≡◌, ◌∙◌, ◌⊎◌, ◌<◌, ◌≤◌, ◌+◌, ◌==◌, ℕ, List, [], ◌∷◌, ◌++◌, length, cond, take, slice_set, get_or, refl}
use Rattle.std.proofs.Common.{sym, ap, inl, inr, ⊎_elim, arith, length-set, map}
use Rattle.std.proofs.lemmas.Bool.{cases_eq}
use Rattle.std.proofs.lemmas.Bool.Decides.{nat_tests}
use Rattle.std.proofs.lemmas.Grind.{common_steps}
use Rattle.std.proofs.lemmas.List.{ext_get_or, take_more, map-append}
use Rattle.pt_sector.specs.Sectors.{Sectors, sector, Agrees, Writes, written, after, Puts, Stopped}
use Rattle.pt_sector.specs.inner.Sectors.{value_after}
use Rattle.pt_sector.specs.inner.ForFields.{length-written}

-- disks with the same sectors are the same
pub same_sectors : (c d : Sectors) → length c ≡ length d → ((k : ℕ) → k < length d → sector c k ≡ sector d k) → c ≡ d
same_sectors c d count each = ext_get_or [] c d count (λ k lt. each k (omega (arith, lt, count)))

pub length-after : (ps : List Writes) (d : Sectors) → length (after ps d) ≡ length d
length-after [] d = refl
length-after (p ∷ ps) d = length-after ps (written p d) ∙ length-written p d

-- one after the other
pub written-append : (a b : Writes) (d : Sectors) → written (a ++ b) d ≡ written b (written a d)
written-append [] b d = refl
written-append (w ∷ a) b d = written-append a b (slice_set d w.0 w.1)

pub written-one_more : (ws : Writes) (w : ℕ × List ℕ) (d : Sectors) → written (ws ++ w ∷ []) d ≡ slice_set (written ws d) w.0 w.1
written-one_more ws w d = written-append ws (w ∷ []) d

pub after-append : (a b : List Writes) (d : Sectors) → after (a ++ b) d ≡ after b (after a d)
after-append [] b d = refl
after-append (p ∷ a) b d = after-append a b (written p d)

pub after-one_more : (ps : List Writes) (p : Writes) (d : Sectors) → after (ps ++ p ∷ []) d ≡ written p (after ps d)
after-one_more ps p d = after-append ps (p ∷ []) d

pub written-take_more : (ws : Writes) (i : ℕ) (w : ℕ × List ℕ) (d : Sectors) → i < length ws → w ≡ get_or ws i w
    → written (take (i + 1) ws) d ≡ slice_set (written (take i ws) d) w.0 w.1
written-take_more ws i w d lt is =
    ap (λ (l : Writes). written l d) (take_more ws i w lt ∙ ap (λ (x : ℕ × List ℕ). take i ws ++ x ∷ []) (sym is))
    ∙ written-one_more (take i ws) w d

pub after-take_more : (ps : List Writes) (i : ℕ) (p : Writes) (d : Sectors) → i < length ps → p ≡ get_or ps i p
    → after (take (i + 1) ps) d ≡ written p (after (take i ps) d)
after-take_more ps i p d lt is =
    ap (λ (l : List Writes). after l d) (take_more ps i p lt ∙ ap (λ (x : Writes). take i ps ++ x ∷ []) (sym is))
    ∙ after-one_more (take i ps) p d

-- the same for items that stand for writes, and for phases
pub written-map_take_more : {A : Type 0} (f : A → ℕ × List ℕ) (xs : List A) (i : ℕ) (x : A) (d : Sectors) → i < length xs
    → x ≡ get_or xs i x → written (map f (take (i + 1) xs)) d ≡ slice_set (written (map f (take i xs)) d) (f x).0 (f x).1
written-map_take_more f xs i x d lt is =
    ap (λ (l : List _). written (map f l) d) (take_more xs i x lt ∙ ap (λ (y : _). take i xs ++ y ∷ []) (sym is))
    ∙ ap (λ (l : Writes). written l d) (map-append f (take i xs) (x ∷ []))
    ∙ written-one_more (map f (take i xs)) (f x) d

pub after-map_take_more : {A : Type 0} (f : A → Writes) (xs : List A) (i : ℕ) (x : A) (d : Sectors) → i < length xs
    → x ≡ get_or xs i x → after (map f (take (i + 1) xs)) d ≡ written (f x) (after (map f (take i xs)) d)
after-map_take_more f xs i x d lt is =
    ap (λ (l : List _). after (map f l) d) (take_more xs i x lt ∙ ap (λ (y : _). take i xs ++ y ∷ []) (sym is))
    ∙ ap (λ (l : List Writes). after l d) (map-append f (take i xs) (x ∷ []))
    ∙ after-one_more (map f (take i xs)) (f x) d

-- sector by sector
step : (a k : ℕ) (v : List ℕ) (d : Sectors) → k < length d → sector (slice_set d a v) k ≡ cond (a == k) v (sector d k)
step a k v d lt = grind (arith, common_steps, nat_tests)

pub sector-written : (ws : Writes) (d : Sectors) (k : ℕ) → k < length d → sector (written ws d) k ≡ value_after ws k (sector d k)
sector-written [] d k lt = refl
sector-written (w ∷ ws) d k lt =
    let len : length (slice_set d w.0 w.1) ≡ length d = length-set d w.0 w.1 in
    sector-written ws (slice_set d w.0 w.1) k (omega (arith, len)) ∙ ap (value_after ws k) (step w.0 k w.1 d lt)

put_or_not : (a k : ℕ) (x v : List ℕ) → (cond (a == k) x v ≡ v) ⊎ ((a ≡ k) × (cond (a == k) x v ≡ x))
put_or_not a k x v = elim (cases_eq a k) [
  | inl is ↦ inr (is, grind (arith, nat_tests))
  | inr not_it ↦ inl (grind (arith, nat_tests))
]

pub value_after_or : (ws : Writes) (k : ℕ) (v : List ℕ) → (value_after ws k v ≡ v) ⊎ Puts ws k (value_after ws k v)
value_after_or [] k v = inl refl
value_after_or (w ∷ ws) k v =
    ⊎_elim
    (λ same. ⊎_elim (λ kept. inl (same ∙ kept)) (λ put. inr (inl (put.0, sym (same ∙ put.1)))) (put_or_not w.0 k w.1 v))
    (λ puts. inr (inr puts))
    (value_after_or ws k (cond (w.0 == k) w.1 v))

-- a disk with all of the writes done is one that a stop in them may leave
pub stopped_written : (ws : Writes) (d : Sectors) → Stopped d ws (written ws d)
stopped_written ws d = record {
  same_count = length-written ws d;
  each = λ k lt. ⊎_elim (λ same. inl (sector-written ws d k lt ∙ same)) (λ puts. inr (rw (sector-written ws d k lt) puts))
      (value_after_or ws k (sector d k));
}

-- with none of them there is one
pub stopped_none : (d c : Sectors) → Stopped d [] c → c ≡ d
stopped_none d c stop = same_sectors c d stop.same_count (λ k lt. ⊎_elim (λ same. same) (λ none. absurd none) (stop.each k lt))

-- agreement
pub agrees_same : (S : ℕ → Type 0) (d : Sectors) → Agrees S d d
agrees_same S d = record { count = refl; each = λ s in_S. refl }

pub agrees_back : (S : ℕ → Type 0) (c d : Sectors) → Agrees S c d → Agrees S d c
agrees_back S c d is = record { count = sym is.count; each = λ s in_S. sym (is.each s in_S) }

pub agrees_through : (S : ℕ → Type 0) (b c d : Sectors) → Agrees S b c → Agrees S c d → Agrees S b d
agrees_through S b c d bc cd = record { count = bc.count ∙ cd.count; each = λ s in_S. bc.each s in_S ∙ cd.each s in_S }

pub agrees_fewer : (S T : ℕ → Type 0) (c d : Sectors) → ((s : ℕ) → T s → S s) → Agrees S c d → Agrees T c d
agrees_fewer S T c d fewer is = record { count = is.count; each = λ s in_T. is.each s (fewer s in_T) }

past_end : (d : Sectors) (k : ℕ) → length d ≤ k → sector d k ≡ []
past_end d k past = grind (arith, common_steps)

-- a stop in writes that miss S leaves a disk that agrees on S
pub agrees_stopped : (S : ℕ → Type 0) (d : Sectors) (ws : Writes) (c : Sectors) → ((s : ℕ) (v : List ℕ) → S s → Puts ws s v → ⊥)
    → Stopped d ws c → Agrees S c d
agrees_stopped S d ws c misses stop = record {
  count = stop.same_count;
  each = λ s in_S. on s in_S (below_or s (length d));
}
  where
    below_or : (a b : ℕ) → (a < b) ⊎ (b ≤ a)
    below_or a b = grind arith

    on : (s : ℕ) → S s → (s < length d) ⊎ (length d ≤ s) → sector c s ≡ sector d s
    on s in_S (inl lt) = ⊎_elim (λ same. same) (λ puts. absurd (misses s (sector c s) in_S puts)) (stop.each s lt)
    on s in_S (inr past) = past_end c s (omega (arith, past, stop.same_count)) ∙ sym (past_end d s past)

-- and so does the disk with them done
pub agrees_written : (S : ℕ → Type 0) (d : Sectors) (ws : Writes) → ((s : ℕ) (v : List ℕ) → S s → Puts ws s v → ⊥)
    → Agrees S (written ws d) d
agrees_written S d ws misses = agrees_stopped S d ws (written ws d) misses (stopped_written ws d)

-- a stop within one write leaves the disk before it or after it
other_sector : (d : Sectors) (w : ℕ × List ℕ) (c : Sectors) → Stopped d (w ∷ []) c → (j : ℕ) → j < length d → (w.0 ≡ j → ⊥)
    → sector c j ≡ sector d j
other_sector d w c stop j lt other =
    ⊎_elim (λ same. same) (λ puts. ⊎_elim (λ put. absurd (other put.0)) (λ none. absurd none) puts) (stop.each j lt)

not_done : (d : Sectors) (w : ℕ × List ℕ) (c : Sectors) → Stopped d (w ∷ []) c → (w.0 < length d → sector c w.0 ≡ sector d w.0) → c ≡ d
not_done d w c stop here = same_sectors c d stop.same_count each
  where
    each : (j : ℕ) → j < length d → sector c j ≡ sector d j
    each j lt = elim (cases_eq w.0 j) [
      | inl is ↦ rw is at (here (omega (arith, lt, is)))
      | inr other ↦ other_sector d w c stop j lt other
    ]

done_one : (d : Sectors) (w : ℕ × List ℕ) (c : Sectors) → Stopped d (w ∷ []) c → w.0 < length d → sector c w.0 ≡ w.1
    → c ≡ slice_set d w.0 w.1
done_one d w c stop inside here = same_sectors c (slice_set d w.0 w.1) (stop.same_count ∙ sym (length-set d w.0 w.1)) each
  where
    each : (j : ℕ) → j < length (slice_set d w.0 w.1) → sector c j ≡ sector (slice_set d w.0 w.1) j
    each j lt =
        let lt_d : j < length d = omega (arith, lt, length-set d w.0 w.1) in
        elim (cases_eq w.0 j) [
          | inl is ↦ (let held : sector c j ≡ w.1 = rw is at here in held ∙ sym (step w.0 j w.1 d lt_d ∙ on is))
          | inr other ↦ other_sector d w c stop j lt_d other ∙ sym (step w.0 j w.1 d lt_d ∙ off other)
        ]
      where
        on : w.0 ≡ j → cond (w.0 == j) w.1 (sector d j) ≡ w.1
        on is = grind (arith, nat_tests)

        off : (w.0 ≡ j → ⊥) → cond (w.0 == j) w.1 (sector d j) ≡ sector d j
        off other = grind (arith, nat_tests)

pub stopped_one : (d : Sectors) (w : ℕ × List ℕ) (c : Sectors) → Stopped d (w ∷ []) c → (c ≡ d) ⊎ (c ≡ written (w ∷ []) d)
stopped_one d w c stop = which (below_or w.0 (length d))
  where
    below_or : (a b : ℕ) → (a < b) ⊎ (b ≤ a)
    below_or a b = grind arith

    which : (w.0 < length d) ⊎ (length d ≤ w.0) → (c ≡ d) ⊎ (c ≡ written (w ∷ []) d)
    which (inr past) = inl (not_done d w c stop (λ lt. absurd (omega (arith, lt, past))))
    which (inl inside) = ⊎_elim
        (λ same. inl (not_done d w c stop (λ lt. same)))
        (λ puts. ⊎_elim (λ put. inr (done_one d w c stop inside (sym put.1))) (λ none. absurd none) puts)
        (stop.each w.0 inside)

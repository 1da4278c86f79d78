-- Phases that the disk holds already, and lists of phases of which some are left out.
use Rattle.std.proofs.Common.{◌≡◌, ◌↔◌, ◌∙◌, ◌⊎◌, inl, inr, ⊎_elim, ℕ, zero, suc, ◌+◌, ◌<◌, ◌≤◌, List, [], ◌∷◌, ◌++◌, length, take, get_or}
use Rattle.std.proofs.Common.{refl, sym, ap, subst, arith, IsTrue, true, false, slice_index_or, Vec, drop, All}
use Rattle.std.specs.List.{insert, remove}
use Rattle.std.proofs.lemmas.List.{take_all}
use Rattle.std.proofs.lemmas.List.Elements.{All-append, All-cons, All-take, All-drop}
use Rattle.std.specs.declared.alloc.Global.{Global}
use Rattle.pt_sector.specs.Sectors.{Sectors, sector, Writes, Puts}
use Rattle.pt_sector.specs.declared.address.Lba.{Lba}
use Rattle.pt_apply.specs.Plans.{writes_of, writes_in, PhaseInRange}
use Rattle.pt_apply.proofs.Puts.{puts_split, puts_left, puts_right}
use Rattle.pt_apply.specs.inner.Plans.{phases_in}
use Rattle.pt_apply.specs.declared.plan.Write.{Write}
use Rattle.pt_cases.specs.Kept.{AllStand, stands, rewritten}
use Rattle.pt_cases.specs.Writes.{one_write}
use Rattle.pt_cases.proofs.Frames.{one_is}
use Rattle.pt_planner.proofs.Ranges.{phase_below, length_writes}
use Rattle.pt_planner.specs.inner.Kept.{IsWritten, IsTried, LeavesOut, RewritesPrimary}

-- ## The writes of a phase, one by one.

module _ {b : ℕ} where
  -- what is written by the first of them and one more
  split_put : (ws : List (Write b)) (i : ℕ) (w : Write b) (s : ℕ) (v : List ℕ) → i < length ws → w ≡ get_or ws i w
      → Puts (writes_of (take (suc i) ws)) s v → ((w.lba.0 ≡ s) × (w.bytes ≡ v)) ⊎ Puts (writes_of (take i ws)) s v
  split_put [] i w s v lt at puts = absurd (omega (arith, lt))
  split_put (x ∷ ws) zero w s v lt at (inl put) = inl (subst (λ (y : Write b). (y.lba.0 ≡ s) × (y.bytes ≡ v)) (sym at) put)
  split_put (x ∷ ws) zero w s v lt at (inr rest) = absurd rest
  split_put (x ∷ ws) (suc i) w s v lt at (inl put) = inr (inl put)
  split_put (x ∷ ws) (suc i) w s v lt at (inr rest) =
      ⊎_elim (λ here. inl here) (λ there. inr (inr there)) (split_put ws i w s v (omega (arith, lt)) at rest)

  pub put_there : (ws : List (Write b)) (i : ℕ) (w : Write b) → i < length ws → w ≡ get_or ws i w
      → Puts (writes_of ws) w.lba.0 w.bytes
  put_there [] i w lt at = absurd (omega (arith, lt))
  put_there (x ∷ ws) zero w lt at = inl (ap (λ (y : Write b). y.lba.0) (sym at), ap (λ (y : Write b). y.bytes) (sym at))
  put_there (x ∷ ws) (suc i) w lt at = inr (put_there ws i w (omega (arith, lt)) at)

  pub range_there : (n : ℕ) (ws : List (Write b)) (i : ℕ) (w : Write b) → i < length ws → w ≡ get_or ws i w → PhaseInRange n ws
      → w.lba.0 < n
  range_there n [] i w lt at each = absurd (omega (arith, lt))
  range_there n (x ∷ ws) zero w lt at each = subst (λ (y : Write b). y.lba.0 < n) (sym at) (each 0 x (omega arith))
  range_there n (x ∷ ws) (suc i) w lt at each =
      range_there n ws i w (omega (arith, lt)) at (λ k z inside. each (suc k) z (omega (arith, inside)))

  pub stand_more : (d : Sectors) (ws : List (Write b)) (i : ℕ) (w : Write b) → i < length ws → w ≡ get_or ws i w
      → AllStand d (writes_of (take i ws)) → sector d w.lba.0 ≡ w.bytes → AllStand d (writes_of (take (i + 1) ws))
  stand_more d ws i w lt at before here s v puts =
      let next : i + 1 ≡ suc i = omega arith in
      ⊎_elim
      (λ put. ap (sector d) (sym put.0) ∙ here ∙ put.1)
      (λ earlier. before s v earlier)
      (split_put ws i w s v lt at (subst (λ (k : ℕ). Puts (writes_of (take k ws)) s v) next puts))

  pub stand_all : (d : Sectors) (ws : List (Write b)) (i : ℕ) → length ws ≤ i → AllStand d (writes_of (take i ws))
      → IsTrue true ↔ AllStand d (writes_of ws)
  stand_all d ws i past all =
      ((λ it. subst (λ (l : List (Write b)). AllStand d (writes_of l)) (take_all i ws past) all), (λ it. refl))

  pub stand_not : (d : Sectors) (ws : List (Write b)) (i : ℕ) (w : Write b) → i < length ws → w ≡ get_or ws i w
      → ¬ (sector d w.lba.0 ≡ w.bytes) → IsTrue false ↔ AllStand d (writes_of ws)
  stand_not d ws i w lt at other =
      ((λ it. (let wrong : false ≡ true = it in absurd cc)), (λ all. absurd (other (all w.lba.0 w.bytes (put_there ws i w lt at)))))

  pub written_there : (ws : List (Write b)) (i : ℕ) (w : Write b) (at : Lba) → i < length ws → w ≡ get_or ws i w → at ≡ w.lba
      → IsWritten (writes_of ws) at.0
  written_there ws i w at lt is same =
      (w.bytes, subst (λ (l : Lba). Puts (writes_of ws) l.0 w.bytes) (sym same) (put_there ws i w lt is))

-- ## Lists of phases, of which one is taken out, or into which one is put.

module _ {b : ℕ} where
  -- the phase behind so many others, and the list without it, or with another one before it
  pub phase_here : (ps : List (Vec (Write b) Global)) (z : Vec (Write b) Global) (before rest : List Writes) (ws : Writes)
      → phases_in ps ≡ before ++ ws ∷ rest → writes_of (slice_index_or ps (length before) z).items ≡ ws
  phase_here [] z [] rest ws is = (let wrong : [] ≡ ws ∷ rest = is in absurd cc)
  phase_here [] z (x ∷ before) rest ws is = (let wrong : [] ≡ x ∷ (before ++ ws ∷ rest) = is in absurd cc)
  phase_here (p ∷ ps) z [] rest ws is = (let same : writes_of p.items ∷ phases_in ps ≡ ws ∷ rest = is in cc)
  phase_here (p ∷ ps) z (x ∷ before) rest ws is =
      phase_here ps z before rest ws (let same : writes_of p.items ∷ phases_in ps ≡ x ∷ (before ++ ws ∷ rest) = is in cc)

  pub phases_removed : (ps : List (Vec (Write b) Global)) (before rest : List Writes) (ws : Writes)
      → phases_in ps ≡ before ++ ws ∷ rest → phases_in (remove ps (length before)) ≡ before ++ rest
  phases_removed [] [] rest ws is = (let wrong : [] ≡ ws ∷ rest = is in absurd cc)
  phases_removed [] (x ∷ before) rest ws is = (let wrong : [] ≡ x ∷ (before ++ ws ∷ rest) = is in absurd cc)
  phases_removed (p ∷ ps) [] rest ws is = (let same : writes_of p.items ∷ phases_in ps ≡ ws ∷ rest = is in cc)
  phases_removed (p ∷ ps) (x ∷ before) rest ws is =
      let same : writes_of p.items ∷ phases_in ps ≡ x ∷ (before ++ ws ∷ rest) = is in
      let head : writes_of p.items ≡ x = cc in
      let tail : phases_in ps ≡ before ++ ws ∷ rest = cc in
      ap (λ (y : Writes). y ∷ phases_in (remove ps (length before))) head
      ∙ ap (λ (ys : List Writes). x ∷ ys) (phases_removed ps before rest ws tail)

  pub phases_put : (ps : List (Vec (Write b) Global)) (p : Vec (Write b) Global) (before rest : List Writes)
      → phases_in ps ≡ before ++ rest → phases_in (insert ps (length before) p) ≡ before ++ writes_of p.items ∷ rest
  phases_put ps p [] rest is = ap (λ (ys : List Writes). writes_of p.items ∷ ys) is
  phases_put [] p (x ∷ before) rest is = (let wrong : [] ≡ x ∷ (before ++ rest) = is in absurd cc)
  phases_put (q ∷ ps) p (x ∷ before) rest is =
      let same : writes_of q.items ∷ phases_in ps ≡ x ∷ (before ++ rest) = is in
      let head : writes_of q.items ≡ x = cc in
      let tail : phases_in ps ≡ before ++ rest = cc in
      ap (λ (y : Writes). y ∷ phases_in (insert ps (length before) p)) head
      ∙ ap (λ (ys : List Writes). x ∷ ys) (phases_put ps p before rest tail)

  -- what holds of each holds of each that is left, and of each with one more
  pub all_removed : (P : Vec (Write b) Global → Type 0) (ps : List (Vec (Write b) Global)) (i : ℕ) → All P ps → All P (remove ps i)
  all_removed P ps i all = All-append P (take i ps) (drop (suc i) ps) (All-take P i ps all) (All-drop P (suc i) ps all)

  pub all_put : (P : Vec (Write b) Global → Type 0) (ps : List (Vec (Write b) Global)) (i : ℕ) (p : Vec (Write b) Global) → P p → All P ps
      → All P (insert ps i p)
  all_put P ps i p here all =
      All-append P (take i ps) (p ∷ drop i ps) (All-take P i ps all) (All-cons P p (drop i ps) here (All-drop P i ps all))

  -- a phase that stands was left out, and another one wasn't
  pub left_out : (d : Sectors) (at : ℕ) (ps : List (Vec (Write b) Global)) (z : Vec (Write b) Global)
      → AllStand d (writes_of (slice_index_or ps at z).items) → LeavesOut d at (phases_in ps) (phases_in (remove ps at))
  left_out d at ps z all before rest ws is same =
      let here : writes_of (slice_index_or ps at z).items ≡ ws =
      ap (λ (k : ℕ). writes_of (slice_index_or ps k z).items) (sym same) ∙ phase_here ps z before rest ws is in (
        [],
        inl (subst (AllStand d) here all, refl),
        ap (λ (k : ℕ). phases_in (remove ps k)) (sym same) ∙ phases_removed ps before rest ws is,
      )

  pub left_in : (d : Sectors) (at : ℕ) (ps : List (Vec (Write b) Global)) (z : Vec (Write b) Global)
      → ¬ AllStand d (writes_of (slice_index_or ps at z).items) → LeavesOut d at (phases_in ps) (phases_in ps)
  left_in d at ps z not before rest ws is same =
      let here : writes_of (slice_index_or ps at z).items ≡ ws =
      ap (λ (k : ℕ). writes_of (slice_index_or ps k z).items) (sym same) ∙ phase_here ps z before rest ws is in
      (ws ∷ [], inr (subst (λ (v : Writes). ¬ AllStand d v) here not, refl), is)

  -- a sector that such a phase writes is one that some phase writes
  pub tried_there : (ps : List (Vec (Write b) Global)) (at : ℕ) (p : Vec (Write b) Global) (s : ℕ) → at < length ps
      → p ≡ slice_index_or ps at p → IsWritten (writes_of p.items) s → IsTried (phases_in ps) s
  tried_there [] at p s lt is wrote = absurd (omega (arith, lt))
  tried_there (q ∷ ps) zero p s lt is wrote =
      let here : IsWritten (writes_of q.items) s = subst (λ (y : Vec (Write b) Global). IsWritten (writes_of y.items) s) is wrote in
      (here.0, puts_left (writes_of q.items) (writes_in (phases_in ps)) s here.0 here.1)
  tried_there (q ∷ ps) (suc at) p s lt is wrote =
      let later = tried_there ps at p s (omega (arith, lt)) is wrote in
      (later.0, puts_right (writes_of q.items) (writes_in (phases_in ps)) s later.0 later.1)

  -- what is tried of a list without one of its phases is tried of the whole
  pub tried_removed : (ps : List (Vec (Write b) Global)) (i s : ℕ) → IsTried (phases_in (remove ps i)) s → IsTried (phases_in ps) s
  tried_removed [] zero s tried = tried
  tried_removed [] (suc i) s tried = tried
  tried_removed (p ∷ ps) zero s tried = (tried.0, puts_right (writes_of p.items) (writes_in (phases_in ps)) s tried.0 tried.1)
  tried_removed (p ∷ ps) (suc i) s tried = ⊎_elim
      (λ here. (tried.0, puts_left (writes_of p.items) (writes_in (phases_in ps)) s tried.0 here))
      (λ later. let it = tried_removed ps i s (tried.0, later) in
      (it.0, puts_right (writes_of p.items) (writes_in (phases_in ps)) s it.0 it.1))
      (puts_split (writes_of p.items) (writes_in (phases_in (remove ps i))) s tried.0 tried.1)

-- ## The phases of the primary copy, of which some are left out.

module _ {b : ℕ} (d : Sectors) (meanwhile : Writes) (at : ℕ) (ps : List (Vec (Write b) Global)) where
  abbrev array : Vec (Write b) Global → Writes
  array z = writes_of (slice_index_or (remove ps at) at z).items

  second : (z : Vec (Write b) Global) (before rest : List Writes) (c a h : Writes) → phases_in ps ≡ before ++ c ∷ a ∷ h ∷ rest
      → length before ≡ at → (phases_in (remove ps at) ≡ before ++ a ∷ h ∷ rest) × (array z ≡ a)
  second z before rest c a h is same =
      let left : phases_in (remove ps at) ≡ before ++ a ∷ h ∷ rest =
      ap (λ (k : ℕ). phases_in (remove ps k)) (sym same) ∙ phases_removed ps before (a ∷ h ∷ rest) c is in (
        left,
        ap (λ (k : ℕ). writes_of (slice_index_or (remove ps at) k z).items) (sym same)
            ∙ phase_here (remove ps at) z before (h ∷ rest) a left,
      )

  -- where the array stands, the header is left, or nothing
  pub array_stands : (z : Vec (Write b) Global) (new : List Writes) → AllStand d (array z)
      → LeavesOut d at (phases_in (remove (remove ps at) at)) new → RewritesPrimary d at meanwhile (phases_in ps) new
  array_stands z new all left before rest c a h is same =
      let two = second z before rest c a h is same in
      let one : phases_in (remove (remove ps at) at) ≡ before ++ h ∷ rest =
      ap (λ (k : ℕ). phases_in (remove (remove ps at) k)) (sym same) ∙ phases_removed (remove ps at) before (h ∷ rest) a two.0 in
      let it = left before rest h one same in
      (it.0, stands (subst (AllStand d) two.1 all) it.1, it.2)

  -- else what stands meanwhile comes before the array, or stands already
  pub array_changes : (z : Vec (Write b) Global) (opening : Vec (Write b) Global) (new : List Writes) → ¬ AllStand d (array z)
      → writes_of opening.items ≡ meanwhile → ¬ AllStand d (writes_of opening.items)
      → ((before rest : List Writes) → phases_in (remove ps at) ≡ before ++ rest → length before ≡ at
      → new ≡ before ++ writes_of opening.items ∷ rest)
      → RewritesPrimary d at meanwhile (phases_in ps) new
  array_changes z opening new not opens unmet put before rest c a h is same =
      let two = second z before rest c a h is same in (
        meanwhile ∷ a ∷ h ∷ [],
        rewritten (subst (λ (ws : Writes). ¬ AllStand d ws) two.1 not) (meanwhile ∷ [])
            (inr (subst (λ (ws : Writes). ¬ AllStand d ws) opens unmet, refl)) refl,
        put before (a ∷ h ∷ rest) two.0 same ∙ ap (λ (ws : Writes). before ++ ws ∷ a ∷ h ∷ rest) opens,
      )

  pub array_opened : (z : Vec (Write b) Global) → ¬ AllStand d (array z) → AllStand d meanwhile
      → RewritesPrimary d at meanwhile (phases_in ps) (phases_in (remove ps at))
  array_opened z not met before rest c a h is same =
      let two = second z before rest c a h is same in (
        a ∷ h ∷ [],
        rewritten (subst (λ (ws : Writes). ¬ AllStand d ws) two.1 not) [] (inl (met, refl)) refl,
        two.0,
      )

module _ {b : ℕ} (ws : List (Write b)) (v : List ℕ) (is : writes_of ws ≡ one_write 1 v) where
  pub one_in_range : (n : ℕ) → 1 < n → PhaseInRange n ws
  one_in_range n enough =
      phase_below n ws (λ s x puts. let at = one_is 1 s v x (subst (λ (y : Writes). Puts y s x) is puts) in omega (arith, at, enough))

  pub one_some : 0 < length ws
  one_some = let count = length_writes ws in let one : length (writes_of ws) ≡ 1 = ap length is in omega (arith, count, one)

-- what is tried of a list with one phase more
pub tried_put : {b : ℕ} (ps : List (Vec (Write b) Global)) (i : ℕ) (p : Vec (Write b) Global) (s : ℕ)
    → IsTried (phases_in (insert ps i p)) s → IsWritten (writes_of p.items) s ⊎ IsTried (phases_in ps) s
tried_put [] zero p s tried =
    ⊎_elim (λ here. inl (tried.0, here)) (λ none. inr (tried.0, none)) (puts_split (writes_of p.items) [] s tried.0 tried.1)
tried_put [] (suc i) p s tried =
    ⊎_elim (λ here. inl (tried.0, here)) (λ none. inr (tried.0, none)) (puts_split (writes_of p.items) [] s tried.0 tried.1)
tried_put (q ∷ ps) zero p s tried = ⊎_elim
    (λ here. inl (tried.0, here))
    (λ later. inr (tried.0, later))
    (puts_split (writes_of p.items) (writes_in (phases_in (q ∷ ps))) s tried.0 tried.1)
tried_put (q ∷ ps) (suc i) p s tried = ⊎_elim
    (λ here. inr (tried.0, puts_left (writes_of q.items) (writes_in (phases_in ps)) s tried.0 here))
    (λ later. ⊎_elim
    (λ new. inl new)
    (λ old. inr (old.0, puts_right (writes_of q.items) (writes_in (phases_in ps)) s old.0 old.1))
    (tried_put ps i p s (tried.0, later)))
    (puts_split (writes_of q.items) (writes_in (phases_in (insert ps i p))) s tried.0 tried.1)

-- of phases as one kind of error tells it
pub tried_one : (ws : Writes) (v : List ℕ) (s : ℕ) (old : ℕ → Type 0) → ws ≡ one_write 1 v → IsWritten ws s ⊎ old s → (s ≡ 1) ⊎ old s
tried_one ws v s old is (inl (x, puts)) = inl (one_is 1 s v x (subst (λ (y : Writes). Puts y s x) is puts))
tried_one ws v s old is (inr before) = inr before

-- How many writes a turn has, of which sectors, and in which phases.
use Rattle.std.proofs.Common.{◌≡◌, ◌≢◌, ◌∙◌, inl, inr, ⊎_elim, ℕ, zero, suc, ◌+◌, ◌<◌, ◌≤◌, List, [], ◌∷◌, length, map, replicate, refl}
use Rattle.std.proofs.Common.{sym, ap, subst, arith, Option, Vec, length-append}
use Rattle.std.proofs.lemmas.List.{length-replicate}
use Rattle.std.specs.Prelude.{Contains}
use Rattle.std.specs.declared.alloc.Global.{Global}
use Rattle.std.proofs.lemmas.List.Elements.{All-nil, All-cons}
use Rattle.pt_sector.specs.Sectors.{Sectors, Writes, Puts, written, IsAscending, sector_at}
use Rattle.pt_apply.specs.Plans.{writes_of, PhaseInRange, writes_in}
use Rattle.pt_apply.proofs.Items.{PhasesInRange}
use Rattle.pt_apply.specs.inner.Plans.{phases_in}
use Rattle.pt_apply.specs.declared.plan.Write.{Write}
use Rattle.pt_recover.specs.Spans.{IsIn}
use Rattle.pt_members.specs.declared.layout.Layout.{Layout}
use Rattle.pt_recover.specs.declared.trace.TracedRun.{TracedRun}
use Rattle.pt_cases.specs.Writes.{one_write}
use Rattle.pt_apply.proofs.Puts.{puts_left, puts_right}
use Rattle.pt_cases.proofs.Frames.{puts_at, rises_in_tail, put_there}
use Rattle.pt_cases.proofs.Select.{Rises}
use Rattle.pt_cases.specs.Targets.{AllBelow, targeted, TellDisk, IsSplit}
use Rattle.pt_cases.proofs.SelectedLemmas.{TargetsClimb, climbs}
use Rattle.pt_cases.proofs.SplitsLemmas.{writes_in_range}
use Rattle.pt_cases.specs.declared.targets.target.Target.{Target}
use Rattle.pt_planner.specs.inner.Phases.{IsTurn, IsLoneTurn}
use Rattle.pt_planner.proofs.MbrTurn.{phases_put}

-- the sector of one of them
abbrev pub IsAmong : {b : ℕ} → List (Target b) → ℕ → Type 0
IsAmong ts s = (t : Target _) × Contains ts t × (t.at.0 ≡ s)

-- some number is above all their sectors
none_below : {b : ℕ} (n : ℕ) → AllBelow {b = b} n []
none_below n t (k, lt, at) = absurd (omega (arith, lt))

more_below : {b : ℕ} (t : Target b) (ts : List (Target b)) (n : ℕ) → AllBelow n ts → AllBelow (t.at.0 + 1 + n) (t ∷ ts)
more_below t ts n low u (zero, lt, at) = (let here : t.at.0 ≡ u.at.0 = ap (λ (x : Target _). x.at.0) at in omega (arith, here))
more_below t ts n low u (suc k, lt, at) = (let later = low u (k, omega (arith, lt), at) in omega (arith, later))

below_some : {b : ℕ} (ts : List (Target b)) → (n : ℕ) × AllBelow n ts
below_some [] = (0, none_below 0)
below_some (t ∷ ts) = (let later = below_some ts in (t.at.0 + 1 + later.0, more_below t ts later.0 later.1))

unders : {b : ℕ} → List (Target b) → Writes
unders ts = map (λ (t : Target _). (t.at.0, t.under)) ts

unders_at : {b : ℕ} (ts : List (Target b)) (i : ℕ) → sector_at (unders ts) i ≡ sector_at (targeted ts) i
unfolding unders
unders_at [] i = refl
unders_at (t ∷ ts) zero = refl
unders_at (t ∷ ts) (suc i) = unders_at ts i

unders_count : {b : ℕ} (ts : List (Target b)) → length (unders ts) ≡ length (targeted ts)
unfolding unders
unders_count [] = refl
unders_count (t ∷ ts) = ap suc (unders_count ts)

unders_ascend : {b : ℕ} (ts : List (Target b)) → IsAscending (targeted ts) → IsAscending (unders ts)
unders_ascend ts up i j less lt =
    (let it = up i j less (omega (arith, lt, unders_count ts)) in omega (arith, it, unders_at ts i, unders_at ts j))

unders_put : {b : ℕ} (ts : List (Target b)) (t : Target b) → Contains ts t → Puts (unders ts) t.at.0 t.under
unfolding unders
unders_put [] t (k, lt, at) = absurd (omega (arith, lt))
unders_put (u ∷ ts) t (zero, lt, at) = inl (ap (λ (x : Target _). x.at.0) at, ap (λ (x : Target _). x.under) at)
unders_put (u ∷ ts) t (suc k, lt, at) = inr (unders_put ts t (k, omega (arith, lt), at))

-- there is a disk of which they tell
some_disk : {b : ℕ} (ts : List (Target b)) → IsAscending (targeted ts) → (d : Sectors) × TellDisk d ts
some_disk ts up = (
  written (unders ts) (replicate (below_some ts).0 []),
  λ t has. sym (put_there (unders ts) (replicate (below_some ts).0 []) t.at.0 t.under (unders_ascend ts up)
      (let low = (below_some ts).1 t has in omega (arith, low, length-replicate {A = List ℕ} (below_some ts).0 []))
      (unders_put ts t has)),
)

ascends_rises : (ws : Writes) → IsAscending ws → Rises ws
ascends_rises [] up = tt
ascends_rises (w ∷ ws) up = (
  λ s v puts. (let at = puts_at ws s v puts in let less = up 0 (suc at.0) (omega arith) (omega (arith, at.1)) in omega (arith, less, at.2)),
  ascends_rises ws (rises_in_tail w ws up),
)

-- the first is the lowest
lowest : {b : ℕ} (t : Target b) (ts : List (Target b)) (u : Target b) → TargetsClimb (t ∷ ts) → Contains (t ∷ ts) u → t.at.0 ≤ u.at.0
lowest t ts u climb (zero, lt, at) = (let here : t.at.0 ≡ u.at.0 = ap (λ (x : Target _). x.at.0) at in omega (arith, here))
lowest t ts u climb (suc k, lt, at) = (let less = climb.0 u (k, omega (arith, lt), at) in omega (arith, less))

behind : {b : ℕ} (t : Target b) (ts : List (Target b)) (u : Target b) → t.at.0 ≢ u.at.0 → Contains (t ∷ ts) u → Contains ts u
behind t ts u other (zero, lt, at) = absurd (other (ap (λ (x : Target _). x.at.0) at))
behind t ts u other (suc k, lt, at) = (k, omega (arith, lt), at)

-- where each write is of one of their sectors, and none but the first can be of the first one's, the rest are of the others'
rest_among : {b : ℕ} (t : Target b) (ts : List (Target b)) (w : ℕ × List ℕ) (ws : Writes) → TargetsClimb (t ∷ ts) → Rises (w ∷ ws)
    → ((s : ℕ) (v : List ℕ) → Puts (w ∷ ws) s v → IsAmong (t ∷ ts) s) → (s : ℕ) (v : List ℕ) → Puts ws s v → IsAmong ts s
rest_among t ts w ws climb rises among s v puts =
    let first = among w.0 w.1 (inl (refl, refl)) in
    let low = lowest t ts first.0 climb first.1 in
    let less = rises.0 s v puts in
    let it = among s v (inr puts) in
    (it.0, behind t ts it.0 (λ same. omega (arith, same, low, first.2, less, it.2)) it.1, it.2)

-- ascending writes of their sectors are no more than they are
no_more : {b : ℕ} (ts : List (Target b)) (ws : Writes) → TargetsClimb ts → Rises ws → ((s : ℕ) (v : List ℕ) → Puts ws s v → IsAmong ts s)
    → length ws ≤ length ts
no_more ts [] climb rises among = omega arith
no_more [] (w ∷ ws) climb rises among = (let it = among w.0 w.1 (inl (refl, refl)) in absurd (omega (arith, it.1.1)))
no_more (t ∷ ts) (w ∷ ws) climb rises among =
    (let few = no_more ts ws climb.1 rises.1 (rest_among t ts w ws climb rises among) in omega (arith, few))

-- and fewer where one of them isn't written
fewer : {b : ℕ} (ts : List (Target b)) (ws : Writes) (x : Target b) → TargetsClimb ts → Rises ws
    → ((s : ℕ) (v : List ℕ) → Puts ws s v → IsAmong ts s) → Contains ts x
    → ((v : List ℕ) → ¬ Puts ws x.at.0 v) → length ws + 1 ≤ length ts
fewer [] ws x climb rises among (k, lt, at) never = absurd (omega (arith, lt))
fewer (t ∷ ts) ws x climb rises among (zero, lt, at) never =
    let here : t.at.0 ≡ x.at.0 = ap (λ (y : Target _). y.at.0) at in
    let few = no_more ts ws climb.1 rises (λ s v puts.
    let it = among s v puts in
    (it.0, behind t ts it.0 (λ same. never v (subst (λ (k : ℕ). Puts ws k v) (sym it.2 ∙ sym same ∙ here) puts)) it.1, it.2)) in
    omega (arith, few)
fewer (t ∷ ts) [] x climb rises among (suc k, lt, at) never = omega arith
fewer (t ∷ ts) (w ∷ ws) x climb rises among (suc k, lt, at) never =
    let few =
    fewer ts ws x climb.1 rises.1 (rest_among t ts w ws climb rises among) (k, omega (arith, lt), at) (λ v puts. never v (inr puts)) in
    omega (arith, few)

module _ {b : ℕ} (o : Option Layout) (guarded : List TracedRun) (ts : List (Target b)) (phases : List Writes)
    (turn : IsTurn o guarded ts phases) where
  split : (d : Sectors) × IsSplit d guarded turn.sorted turn.quiet turn.loud
  split = (let disk = some_disk turn.sorted turn.free.order.ascending in (disk.0, turn.split disk.0 disk.1))

  -- each write of a turn is of one of the targets
  pub turn_among : (s : ℕ) (v : List ℕ) → Puts (writes_in phases) s v → IsAmong ts s
  turn_among s v puts =
      let it = split.1.each s v (phases_put turn.quiet turn.loud phases s v turn.is puts) in
      (it.0, turn.free.order.only it.0 it.1.0, it.2)

  quiet_few : length turn.quiet + 1 ≤ length ts
  quiet_few =
      let last =
      split.1.each turn.loud.0 turn.loud.1
      (puts_right turn.quiet (one_write turn.loud.0 turn.loud.1) turn.loud.0 turn.loud.1 (inl (refl, refl))) in
      let few = fewer turn.sorted turn.quiet last.0 (climbs turn.sorted turn.free.order.ascending)
      (ascends_rises turn.quiet split.1.ascending)
      (λ s v puts. (let it = split.1.each s v (puts_left turn.quiet (one_write turn.loud.0 turn.loud.1) s v puts) in (it.0, it.1.0, it.2)))
      last.1.0
      (λ v puts. split.1.unread last.0.at.0 v puts (subst (IsIn guarded) (sym last.2) split.1.read)) in
      omega (arith, few, turn.free.order.count)

  -- it writes no more sectors than there are targets
  pub turn_few : length (writes_in phases) ≤ length ts
  turn_few = ⊎_elim
      (λ one. subst (λ (ps : List Writes). length (writes_in ps) ≤ length ts) (sym one.1) (let few = quiet_few in omega (arith, few)))
      (λ two. subst (λ (ps : List Writes). length (writes_in ps) ≤ length ts) (sym two.1)
      (let few = quiet_few in omega (arith, few, length-append turn.quiet (one_write turn.loud.0 turn.loud.1))))
      turn.is

-- phases whose writes are all of sectors below n
module _ {b : ℕ} where
  pub phases_range : (n : ℕ) (ps : List (Vec (Write b) Global)) → ((s : ℕ) (v : List ℕ) → Puts (writes_in (phases_in ps)) s v → s < n)
      → PhasesInRange n ps
  phases_range n [] low = All-nil (λ (p : Vec (Write b) Global). PhaseInRange n p.items)
  phases_range n (p ∷ ps) low = All-cons (λ (q : Vec (Write b) Global). PhaseInRange n q.items) p ps
      (writes_in_range n p.items (λ s v puts. low s v (puts_left (writes_of p.items) (writes_in (phases_in ps)) s v puts)))
      (phases_range n ps (λ s v puts. low s v (puts_right (writes_of p.items) (writes_in (phases_in ps)) s v puts)))

module _ {b : ℕ} (o : Option Layout) (ts : List (Target b)) (loud : ℕ × List ℕ) (turn : IsLoneTurn o ts loud) where
  lone_target : (t : Target b) × Contains ts t × (t.at.0 ≡ loud.0)
  lone_target =
      let disk = some_disk turn.sorted turn.free.order.ascending in
      let change = turn.change disk.0 disk.1 in
      (change.target, turn.free.order.only change.target change.change.0, change.at)

  pub lone_among : (phases : List Writes) → phases ≡ one_write loud.0 loud.1 ∷ [] → (s : ℕ) (v : List ℕ) → Puts (writes_in phases) s v
      → IsAmong ts s
  lone_among phases made s v puts = by_put (subst (λ (ps : List Writes). Puts (writes_in ps) s v) made puts) where
    by_put : Puts (one_write loud.0 loud.1) s v → IsAmong ts s
    by_put (inl here) = (lone_target.0, lone_target.1, lone_target.2 ∙ here.0)
    by_put (inr none) = absurd none

  pub lone_few : (phases : List Writes) → phases ≡ one_write loud.0 loud.1 ∷ [] → length (writes_in phases) ≤ length ts
  lone_few phases made =
      subst (λ (ps : List Writes). length (writes_in ps) ≤ length ts) (sym made) (let has = lone_target.1 in omega (arith, has.1))

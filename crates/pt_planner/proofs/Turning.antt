-- From what is known where the functions return to what they promise.
use Rattle.std.proofs.Common.{◌≡◌, ◌∙◌, inr, ℕ, ◌+◌, ◌<◌, ◌≤◌, List, [], ◌∷◌, ◌++◌, length, sym, ap, subst, arith, Option, Vec, Bool, ◌≢◌}
use Rattle.std.proofs.Common.{⊎_elim, false, length-append, refl}
use Rattle.std.proofs.lemmas.List.{length-map}
use Rattle.std.specs.Prelude.{All}
use Rattle.std.specs.declared.alloc.Global.{Global}
use Rattle.std.proofs.lemmas.List.Elements.{All-append, All-contains, All-cons, All-nil}
use Rattle.pt_sector.specs.Sectors.{Sectors, Writes}
use Rattle.pt_apply.specs.Plans.{writes_of, phases_of, InRange, writes_in}
use Rattle.pt_apply.specs.inner.Plans.{phases_in}
use Rattle.pt_apply.specs.declared.plan.Plan.{Plan}
use Rattle.pt_apply.specs.declared.plan.Write.{Write}
use Rattle.pt_members.specs.declared.layout.Layout.{Layout}
use Rattle.pt_recover.specs.declared.trace.TracedRun.{TracedRun}
use Rattle.pt_cases.specs.Cases.{IsPlan, within_mbr, one_label, within_mbr_phases}
use Rattle.pt_cases.specs.Writes.{one_write}
use Rattle.pt_cases.specs.Unplanned.{HasNoTurn, StopsBy}
use Rattle.pt_cases.specs.Targets.{SplitIs}
use Rattle.pt_cases.specs.declared.targets.error.PlanError.{PlanError}
use Rattle.pt_cases.specs.declared.targets.error.PlanError.TheVariants.{NotOneSwitch}
use Rattle.pt_cases.specs.declared.targets.writes.Split.{Split}
use Rattle.pt_cases.specs.declared.targets.writes.Split.TheVariants.{NotOne, One}
use Rattle.pt_cases.specs.declared.targets.target.Target.{Target}
use Rattle.pt_planner.specs.inner.Phases.{AreFree, IsTurn, NoTurn, IsLoneTurn}
use Rattle.pt_planner.specs.Phases.{MbrStart, LabelStart}
use Rattle.pt_planner.proofs.LabelTurn.{label_planned}
use Rattle.pt_planner.proofs.MbrTurn.{mbr_planned, mbr_stops}
use Rattle.pt_planner.proofs.Shapes.{as_many}
use Rattle.pt_planner.proofs.TurnShapes.{turn_among, turn_few, lone_among, lone_few, phases_range}

-- none of these is empty
abbrev NoneEmpty : List Writes → Type 0
NoneEmpty [] = Unit {0}
NoneEmpty (p ∷ ps) = (0 < length p) × NoneEmpty ps

some_of : {b : ℕ} (ps : List (Vec (Write b) Global)) → NoneEmpty (phases_in ps)
    → All (λ (p : Vec (Write b) Global). 0 < length p.items) ps
some_of {b} [] each = All-nil (λ (p : Vec (Write b) Global). 0 < length p.items)
some_of {b} (p ∷ ps) each = All-cons (λ (q : Vec (Write b) Global). 0 < length q.items) p ps
    (subst (λ (k : ℕ). 0 < k) (length-map p.items (λ (w : Write b). (w.lba.0, w.bytes))) each.0) (some_of ps each.1)

positive : (ws : Writes) → ws ≢ [] → 0 < length ws
positive [] not = absurd (not refl)
positive (w ∷ ws) not = omega arith

-- no phase of a turn is empty, and there are at most two
module _ {b : ℕ} (o : Option Layout) (guarded : List TracedRun) (ts : List (Target b)) where
  pub turn_some : (plan : Plan b) → IsTurn o guarded ts (phases_of plan)
      → All (λ (p : Vec (Write b) Global). 0 < length p.items) plan.phases.items
  turn_some plan turn =
      some_of plan.phases.items
      (⊎_elim (λ one. subst NoneEmpty (sym one.1) (omega arith, tt))
      (λ two. subst NoneEmpty (sym two.1) (positive turn.quiet two.0, (omega arith, tt))) turn.is)

  pub turn_two : (plan : Plan b) → IsTurn o guarded ts (phases_of plan) → length plan.phases.items ≤ 2
  turn_two plan turn =
      ⊎_elim (λ one. omega (arith, as_many plan, ap length one.1)) (λ two. omega (arith, as_many plan, ap length two.1)) turn.is

module _ {b : ℕ} (o : Option Layout) (guarded : List TracedRun) (ts sorted now : List (Target b)) (free : AreFree o ts sorted)
    (same : now ≡ sorted) (s : Split b) (is : SplitIs guarded now s) where
  -- the phases of a split are a turn
  pub split_turns : (quiet : Vec (Write b) Global) (loud : Write b) (phases : List Writes) → s ≡ One quiet loud
      → within_mbr_phases (writes_of quiet.items) (loud.lba.0, loud.bytes) phases → IsTurn o guarded ts phases
  split_turns quiet loud phases one made =
      let there : SplitIs guarded sorted (One quiet loud) =
      subst (λ (l : List (Target b)). SplitIs guarded l (One quiet loud)) same (subst (SplitIs guarded now) one is) in
      record { sorted = sorted; free = free; quiet = writes_of quiet.items; loud = (loud.lba.0, loud.bytes); split = there; is = made }

  -- and where there is none, there is no turn
  pub split_stops : s ≡ NotOne → NoTurn o guarded ts NotOneSwitch
  split_stops none =
      let there : SplitIs guarded sorted NotOne =
      subst (λ (l : List (Target b)). SplitIs guarded l NotOne) same (subst (SplitIs guarded now) none is) in
      inr (sorted, free, there)

module _ {b : ℕ} (o : Option Layout) (guarded : List TracedRun) (heads places now ts : List (Target b)) (joined : ts ≡ heads ++ now)
    (same : now ≡ places) where
  parts : ts ≡ heads ++ places
  parts = joined ∙ ap (λ (l : List (Target b)). heads ++ l) same

  pub turn_is_plan : (plan : Plan b) → IsTurn o guarded ts (phases_of plan) → (d : Sectors) (p : Layout)
      → MbrStart d o p guarded heads places → IsPlan b d p (phases_of plan)
  turn_is_plan plan turn d p start =
      within_mbr o start.records start.chain (mbr_planned d o p guarded heads places start (phases_of plan)
      (subst (λ (l : List (Target b)). IsTurn o guarded l (phases_of plan)) parts turn))

  pub no_turn_stops : (e : PlanError) → NoTurn o guarded ts e → (d : Sectors) (p : Layout) → MbrStart d o p guarded heads places
      → StopsBy b d o p (HasNoTurn b d o p) e
  no_turn_stops e none d p start =
      mbr_stops d o p guarded heads places start e (subst (λ (l : List (Target b)). NoTurn o guarded l e) parts none)

  pub turn_range : (plan : Plan b) → IsTurn o guarded ts (phases_of plan) → (n : ℕ) → All (λ (t : Target b). t.at.0 < n) heads
      → All (λ (t : Target b). t.at.0 < n) places → InRange n plan
  turn_range plan turn n low_heads low_places = phases_range n plan.phases.items (λ s v puts.
      let it = turn_among o guarded ts (phases_of plan) turn s v puts in
      let all : All (λ (t : Target b). t.at.0 < n) ts =
      subst (All (λ (t : Target b). t.at.0 < n)) (sym parts)
      (All-append (λ (t : Target b). t.at.0 < n) heads places low_heads low_places) in
      let low = All-contains (λ (t : Target b). t.at.0 < n) ts it.0 all it.1 in
      omega (arith, low, it.2))

  pub turn_short : (plan : Plan b) → IsTurn o guarded ts (phases_of plan)
      → length (writes_in (phases_of plan)) ≤ length heads + length places
  turn_short plan turn =
      (let few = turn_few o guarded ts (phases_of plan) turn in let count : length ts ≡ length (heads ++ places) = ap length parts in
      omega (arith, few, count, length-append heads places))

module _ {b : ℕ} (o : Option Layout) (ts : List (Target b)) (loud : Write b) (turn : IsLoneTurn o ts (loud.lba.0, loud.bytes))
    (plan : Plan b) (made : phases_of plan ≡ one_write loud.lba.0 loud.bytes ∷ []) where
  pub lone_is_plan : (broken : Bool) → broken ≡ false → (d : Sectors) (p : Layout) → LabelStart d o p broken ts
      → IsPlan b d p (phases_of plan)
  lone_is_plan broken whole d p start =
      one_label o start.table (label_planned d o p broken ts start whole (loud.lba.0, loud.bytes) (phases_of plan) turn made)

  pub lone_range : (n : ℕ) → All (λ (t : Target b). t.at.0 < n) ts → InRange n plan
  lone_range n all = phases_range n plan.phases.items (λ s v puts.
      let it = lone_among o ts (loud.lba.0, loud.bytes) turn (phases_of plan) made s v puts in
      let low = All-contains (λ (t : Target b). t.at.0 < n) ts it.0 all it.1 in
      omega (arith, low, it.2))

  pub lone_short : length (writes_in (phases_of plan)) ≤ length ts
  lone_short = lone_few o ts (loud.lba.0, loud.bytes) turn (phases_of plan) made

  pub lone_some : All (λ (p : Vec (Write b) Global). 0 < length p.items) plan.phases.items
  lone_some = some_of plan.phases.items (subst NoneEmpty (sym made) (omega arith, tt))

  pub lone_two : length plan.phases.items ≤ 2
  lone_two = omega (arith, as_many plan, ap length made)

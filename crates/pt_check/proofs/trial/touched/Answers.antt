use Rattle.std.proofs.Common.{rules, ◌≡◌, ◌∙◌, ℕ, ◌<◌, ◌≤◌, List, length, inl, inr, sym, ap, subst, arith}
use Rattle.std.proofs.lemmas.List.{length-map}
use Rattle.pt_apply.specs.Plans.{writes_of}
use Rattle.pt_apply.specs.declared.plan.Write.{Write}
use Rattle.pt_recover.specs.Spans.{IsIn}
use Rattle.pt_check.proofs.Firsts.{first_within, pair_at}
use Rattle.pt_check.proofs.trial.touched.Goals as goal

count_of : {b : _} (ws : List (Write b)) → length ws ≡ length (writes_of ws)
count_of ws = sym (length-map ws (λ (w : Write _). (w.lba.0, w.bytes)))

pub returns-then-phase-le1 : goal.returns-then-phase-le1
returns-then-phase-le1 g c = inl (subst (λ (n : ℕ). n ≤ 1) (count_of c.args.phase.now) c.if-phase-le1.true)

pub first_in_phase-requires : goal.first_in_phase-requires
first_in_phase-requires g c = (search rules, c.requires)

pub offset_bounds-phase-k : goal.offset_bounds-phase-k
offset_bounds-phase-k g c =
    let within = first_within (λ (w : ℕ × List ℕ). IsIn c.args.trace.now w.0) c.args.phase.now c.in-Some.k
    c.in-Some.ensures.0 c.in-Some.ensures.1 in
    omega (arith, within)

pub bounds-phase-k : goal.bounds-phase-k
bounds-phase-k g c = first_within (λ (w : ℕ × List ℕ). IsIn c.args.trace.now w.0) c.args.phase.now c.in-Some.k
    c.in-Some.ensures.0 c.in-Some.ensures.1

pub bounds-phase-k-in-Some : goal.bounds-phase-k-in-Some
bounds-phase-k-in-Some g c = first_within (λ (w : ℕ × List ℕ). IsIn c.args.trace.now w.0) c.args.phase.now c.in-Some.k
    c.in-Some.ensures.0 c.in-Some.ensures.1

pub returns-in-Some : goal.returns-in-Some
returns-in-Some g c = (
  subst (λ (n : ℕ). 1 < n) (count_of c.args.phase.now) c.if-phase-le1.false,
  (
    c.in-Some.k,
    c.in-Some.ensures.0,
    ap (λ (w : Write _). w.lba.0) (sym c.index-phase-k.is)
        ∙ pair_at c.args.phase.now c.in-Some.k c.index-phase-k.result c.in-Some.ensures.0 c.index-phase-k.is c.in-Some.ensures.1.at,
    c.in-Some.ensures.1,
  ),
)

pub returns-in-None : goal.returns-in-None
returns-in-None g c = inr c.in-None.ensures

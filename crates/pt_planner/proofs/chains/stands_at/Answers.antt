use Rattle.std.proofs.Common.{refl, sym, ◌∙◌, arith, None}
use Rattle.std.proofs.lemmas.Bool.{false≢true}
use Rattle.std.proofs.lemmas.Bool.Decides.{Decides-eqb}
use Rattle.pt_mbr.specs.declared.ebr.Ebr.{Ebr}
use Rattle.pt_planner.proofs.Begun.{stands_here, stands_later, stands_nowhere}
use Rattle.pt_planner.proofs.chains.stands_at.Goals as goal

pub loop-k-init : goal.loop-k-init
loop-k-init c = λ at. at

pub returns-then-eq : goal.returns-then-eq
returns-then-eq c =
    let z : Ebr = record { at = record { 0 = 0 }; logical = None; next = None } in (
      (λ so. stands_here c.args.at.0 c.args.chain.now c.loop-k.k z c.loop-k-test.true
          (sym ((Decides-eqb _ c.args.at.0).0 (sym c.eq.ensures ∙ c.if-eq.true)))),
      (λ at. refl),
    )

pub loop-k-preserved : goal.loop-k-preserved
loop-k-preserved c =
    let z : Ebr = record { at = record { 0 = 0 }; logical = None; next = None } in
    stands_later c.args.at.0 c.args.chain.now c.loop-k.k z c.loop-k-test.true
    (λ same. false≢true (sym c.if-eq.false ∙ c.eq.ensures ∙ (Decides-eqb _ c.args.at.0).1 (sym same))) c.loop-k.invariant

pub returns : goal.returns
returns c = (
  (λ so. absurd (false≢true so)),
  (λ at. absurd (stands_nowhere c.args.at.0 c.args.chain.now c.loop-k.k (omega arith) c.loop-k.invariant at)),
)

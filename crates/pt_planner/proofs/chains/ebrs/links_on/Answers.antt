use Rattle.std.proofs.Common.{◌≡◌, refl, sym, ◌∙◌, arith, subst, Some, None, ℕ, Option, Bool, true, false, not}
use Rattle.std.specs.Prelude.{◌↔◌, IsTrue, is_some}
use Rattle.pt_sector.specs.declared.address.Lba.{Lba}
use Rattle.std.proofs.lemmas.Bool.{false≢true}
use Rattle.pt_mbr.specs.Chain.{lba}
use Rattle.pt_mbr.specs.declared.ebr.Ebr.{Ebr}
use Rattle.pt_mbr.specs.Records.{extent_of}
use Rattle.pt_planner.proofs.Linking.{goes_on, stops, ended, GoesOn}
use Rattle.pt_planner.proofs.chains.ebrs.links_on.Goals as goal

pub loop-k-init : goal.loop-k-init
loop-k-init c =
    subst
    (λ (n : ℕ). GoesOn (extent_of c.args.extended.now) c.args.sectors (Some (lba c.args.extended.now.start)) c.args.chain.now
    (Some (lba n)) 0)
    (sym c.from.ensures) ((λ h. h), (λ h. h))

pub returns-then-not-is_link : goal.returns-then-not-is_link
returns-then-not-is_link c =
    let z : Ebr = record { at = record { 0 = 0 }; logical = None; next = None } in (
      (λ so. absurd (false≢true so)),
      (λ whole. absurd (stops (extent_of c.args.extended.now) c.args.sectors
          (Some (lba c.args.extended.now.start)) c.args.chain.now c.loop-k.to c.loop-k.k z c.loop-k-test.true
          (λ next. false≢true (sym c.if-not-is_link.true ∙ c.is_link.ensures.1 next)) c.loop-k.invariant whole)),
    )

pub loop-k-preserved : goal.loop-k-preserved
loop-k-preserved c =
    let z : Ebr = record { at = record { 0 = 0 }; logical = None; next = None } in
    goes_on (extent_of c.args.extended.now) c.args.sectors
    (Some (lba c.args.extended.now.start)) c.args.chain.now c.loop-k.to c.loop-k.k z c.loop-k-test.true
    (c.is_link.ensures.0 c.if-not-is_link.false) c.loop-k.invariant

-- whether there is one
none_is : (o : Option Lba) (b : Bool) → is_some o ≡ not b → IsTrue b ↔ (o ≡ None)
none_is None true is = ((λ h. refl), (λ h. refl))
none_is None false is = absurd (false≢true is)
none_is (Some y) true is = absurd (false≢true (sym is))
none_is (Some y) false is = ((λ h. absurd (false≢true h)), (λ h. absurd (cc)))

pub returns : goal.returns
returns c =
    let is_end =
    ended (extent_of c.args.extended.now) c.args.sectors (Some (lba c.args.extended.now.start)) c.args.chain.now c.loop-k.to c.loop-k.k
    (omega arith) c.loop-k.invariant in
    let none = none_is c.loop-k.to c.is_none.result c.is_none.ensures in
    ((λ so. is_end.1 (none.0 so)), (λ whole. none.1 (is_end.0 whole)))

use Rattle.std.proofs.Common.{sym, subst, ◌∙◌}
use Rattle.pt_mbr.specs.Chain.{EbrBytes}
use Rattle.pt_mbr.proofs.One.{ebr_one}
use Rattle.pt_mbr.specs.declared.ebr.Ebr.{Ebr}
use Rattle.pt_members.proofs.Equal.{ebr_decides}
use Rattle.pt_planner.proofs.chains.ebrs.reads_as.Goals as goal

pub returns-in-Ok : goal.returns-in-Ok
returns-in-Ok g c =
    let decided = ebr_decides c.in-Ok.read c.args.ebr.now in (
      (λ so. subst (λ (e : Ebr). EbrBytes c.args.first.0 c.args.ebr.now.at e c.args.sector.now)
          (decided.0 (sym c.eq.ensures ∙ so)) c.in-Ok.ensures.ok),
      (λ is. c.eq.ensures ∙ decided.1
          (ebr_one c.args.first.0 c.args.ebr.now.at c.in-Ok.read c.args.ebr.now c.args.sector.now c.in-Ok.ensures.ok is)),
    )

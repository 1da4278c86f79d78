use Rattle.std.proofs.Common.{◌≡◌, Bool, sym, subst}
use Rattle.std.specs.Bool.{Decides}
use Rattle.pt_members.proofs.Equal.{ebr_decides}
use Rattle.pt_recover.proofs.Roles.{ebrs_ok}
use Rattle.pt_recover.proofs.alike.same_ebrs.Goals as goal

pub returns-in-Ok-Ok : goal.returns-in-Ok-Ok
returns-in-Ok-Ok g c =
    let e = c.in-Ok-Ok.e in
    let f = c.in-Ok-Ok.f in
    let decides : Decides c.eq.result (e ≡ f) = subst (λ (r : Bool). Decides r (e ≡ f)) (sym c.eq.ensures) (ebr_decides e f) in
    λ yes. ebrs_ok c.args.x.now c.args.y.now (record { 0 = 0 }) e f c.in-Ok-Ok.ensures.ok c.in-Ok-Ok.ensures'.ok (decides.0 yes)

use Rattle.std.proofs.Common.{◌≡◌, Bool, sym, subst}
use Rattle.std.specs.Bool.{Decides}
use Rattle.pt_members.proofs.Equal.{records_decide}
use Rattle.pt_recover.proofs.Roles.{heads_ok}
use Rattle.pt_recover.proofs.alike.same_heads.Goals as goal

pub returns-in-Some-Some : goal.returns-in-Some-Some
returns-in-Some-Some g c =
    let m = c.in-Some-Some.m in
    let n = c.in-Some-Some.n in
    let decides : Decides c.eq.result (m.records ≡ n.records) =
    subst (λ (r : Bool). Decides r (m.records ≡ n.records)) (sym c.eq.ensures) (records_decide m.records n.records) in
    λ yes. heads_ok c.args.x.now c.args.y.now m n c.in-Some-Some.ensures c.in-Some-Some.ensures' (decides.0 yes)

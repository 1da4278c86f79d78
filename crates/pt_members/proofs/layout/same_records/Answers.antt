use Rattle.std.proofs.Common.{sym, subst, Bool, ◌≡◌}
use Rattle.std.specs.Bool.{Decides}
use Rattle.pt_members.proofs.Equal.{records_decide}
use Rattle.pt_members.proofs.layout.same_records.Goals as goal

pub returns : goal.returns
returns c =
    subst (λ (r : Bool). Decides r (c.args.records.now ≡ c.args.others.now)) (sym c.eq.ensures)
    (records_decide c.args.records.now c.args.others.now)

use Rattle.pt_recover.proofs.Roles.{headers_ok, headers_none}
use Rattle.pt_recover.proofs.alike.same_headers.Goals as goal

pub returns-in-Ok-Ok : goal.returns-in-Ok-Ok
returns-in-Ok-Ok g c =
    λ yes. headers_ok g.row.B c.args.x.now c.args.y.now c.in-Ok-Ok.field-0-0 c.in-Ok-Ok.field-0-1 c.in-Ok-Ok.ensures.ok
    c.in-Ok-Ok.ensures'.ok (c.same_front.ensures.0 yes)

pub returns-in-Err-Err : goal.returns-in-Err-Err
returns-in-Err-Err g c =
    λ yes. headers_none g.row.B c.args.x.now c.args.y.now c.in-Err-Err.field-0-0 c.in-Err-Err.field-0-1 c.in-Err-Err.ensures.err
    c.in-Err-Err.ensures'.err

use Rattle.pt_answers.proofs.ReadSoFar.{no_text, of_bytes}
use Rattle.pt_answers.proofs.files.plan_in.Goals as goal

pub returns-in-Ok : goal.returns-in-Ok
returns-in-Ok g c =
    of_bytes g.row.B _ c.in_ok-first_bytes.field-0.items c.plan_of.result c.in_ok-first_bytes.ensures.ok c.in-Ok.ensures.short
    (rw (c.as_str.ensures.value, c.in-Ok.ensures.ok) at c.plan_of.ensures)

pub returns-in-Err : goal.returns-in-Err
returns-in-Err g c =
    no_text g.row.B _ c.in_ok-first_bytes.field-0.items c.in-Err.field-0 c.in_ok-first_bytes.ensures.ok c.in-Err.ensures.err

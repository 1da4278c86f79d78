use Rattle.pt_answers.proofs.Opened.{on_images, other_alone}
use Rattle.pt_answers.proofs.tasks.on_images.Goals as goal

pub returns-in-Err-open : goal.returns-in-Err-open
returns-in-Err-open g c =
    other_alone _ _ _ _ _ _ _ _ _ _ _ _ _ _ _ c.in-Ok.is c.open.ensures c.in-Err-open.is
    (rw (c.access.ensures) at c.open-2.ensures) c.close.ensures

pub returns : goal.returns
returns g c =
    on_images _ _ _ _ _ _ _ _ _ _ _ _ _ _ _ _ _ _ _ c.in-Ok.is c.open.ensures c.in-Ok-open.is
    (rw (c.access.ensures) at c.open-2.ensures) c.close-2.ensures c.close-3.ensures c.does-answer.ensures

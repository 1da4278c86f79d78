use Rattle.pt_answers.proofs.Opened.{on_image}
use Rattle.pt_answers.proofs.tasks.on_image.Goals as goal

pub returns : goal.returns
returns g c =
    on_image _ _ _ _ _ _ _ _ _ _ _ c.in_ok-disk.was (rw (c.access.ensures) at c.open.ensures) c.close.ensures c.does-answer.ensures

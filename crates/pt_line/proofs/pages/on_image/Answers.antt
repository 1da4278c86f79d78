use Rattle.std.proofs.lemmas.Result.{IfOk-weaker}
use Rattle.pt_line.proofs.pages.on_image.Goals as goal

pub returns : goal.returns
returns c = IfOk-weaker c.on_disk.result _ _ (λ r adds. adds _ c.image_page.ensures) c.on_disk.ensures

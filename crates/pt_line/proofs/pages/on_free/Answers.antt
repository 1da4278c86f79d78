use Rattle.std.proofs.lemmas.Result.{IfOk-weaker}
use Rattle.pt_line.proofs.pages.on_free.Goals as goal

pub returns : goal.returns
returns c =
    let one = c.image_page-page.ensures in
    let two = IfOk-weaker c.with_arg-page.result _ _ (λ r takes. takes _ _ one c.json.ensures) c.with_arg-page.ensures in
    IfOk-weaker c.on_disk.result _ _ (λ r adds. adds _ two) c.on_disk.ensures

use Rattle.std.proofs.lemmas.Result.{IfOk-weaker}
use Rattle.pt_line.proofs.pages.on_show.Goals as goal

pub returns : goal.returns
returns c =
    let one = c.image_page-page.ensures in
    let two = IfOk-weaker c.with_arg-page.result _ _ (λ r takes. takes _ _ one c.after.ensures) c.with_arg-page.ensures in
    let three = IfOk-weaker c.with_arg-page-2.result _ _ (λ r takes. takes _ _ two c.copy.ensures) c.with_arg-page-2.ensures in
    let four = IfOk-weaker c.with_arg-page-3.result _ _ (λ r takes. takes _ _ three c.json.ensures) c.with_arg-page-3.ensures in
    let five = IfOk-weaker c.with_arg-page-4.result _ _ (λ r takes. takes _ _ four c.human.ensures) c.with_arg-page-4.ensures in
    IfOk-weaker c.on_disk.result _ _ (λ r adds. adds _ five) c.on_disk.ensures

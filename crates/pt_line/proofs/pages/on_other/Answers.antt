use Rattle.std.proofs.lemmas.Result.{IfOk-weaker}
use Rattle.pt_line.proofs.pages.on_other.Goals as goal

pub returns : goal.returns
returns c =
    let one = c.image_page-page.ensures in
    let two = IfOk-weaker c.with_arg-page.result _ _ (λ r takes. takes _ _ one c.other.ensures) c.with_arg-page.ensures in
    let three = IfOk-weaker c.with_arg-page-2.result _ _ (λ r takes. takes _ _ two c.data_file.ensures) c.with_arg-page-2.ensures in
    let four = IfOk-weaker c.with_arg-page-3.result _ _ (λ r takes. takes _ _ three c.plan_only.ensures) c.with_arg-page-3.ensures in
    let five = IfOk-weaker c.with_arg-page-4.result _ _ (λ r takes. takes _ _ four c.by_table.ensures) c.with_arg-page-4.ensures in
    let six = IfOk-weaker c.with_arg-page-5.result _ _ (λ r takes. takes _ _ five c.other_device.ensures) c.with_arg-page-5.ensures in
    IfOk-weaker c.on_disk.result _ _ (λ r adds. adds _ six) c.on_disk.ensures

use Rattle.std.proofs.lemmas.Result.{IfOk-weaker}
use Rattle.pt_line.proofs.pages.on_words.Goals as goal

pub returns : goal.returns
returns c =
    let one = c.image_page-page.ensures in
    let two = IfOk-weaker c.with_arg-page.result _ _ (λ r takes. takes _ _ one c.fresh.ensures) c.with_arg-page.ensures in
    let three = IfOk-weaker c.with_arg-page-2.result _ _ (λ r takes. takes _ _ two c.keep_primary.ensures) c.with_arg-page-2.ensures in
    let four = IfOk-weaker c.on_disk-page.result _ _ (λ r adds. adds _ three) c.on_disk-page.ensures in
    IfOk-weaker c.with_arg.result _ _ (λ r takes. takes _ _ four c.words.ensures) c.with_arg.ensures

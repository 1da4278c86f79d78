use Rattle.std.proofs.lemmas.Result.{IfOk-weaker}
use Rattle.pt_line.proofs.pages.alone.Goals as goal

pub returns : goal.returns
returns c = IfOk-weaker c.with_page.result _ _ (λ r adds. adds _ _ c.top.ensures c.page_of.ensures) c.with_page.ensures

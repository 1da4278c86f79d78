use Rattle.std.proofs.lemmas.Result.{IfOk-weaker}
use Rattle.pt_line.proofs.pages.whole.Goals as goal

pub returns : goal.returns
returns c =
    let show = IfOk-weaker c.with_page-ptab.result _ _ (λ r adds. adds _ _ c.top.ensures c.page_of.ensures) c.with_page-ptab.ensures in
    let verify = IfOk-weaker c.with_page-ptab-2.result _ _ (λ r adds. adds _ _ show c.page_of-2.ensures) c.with_page-ptab-2.ensures in
    let locate = IfOk-weaker c.with_page-ptab-3.result _ _ (λ r adds. adds _ _ verify c.page_of-3.ensures) c.with_page-ptab-3.ensures in
    let free = IfOk-weaker c.with_page-ptab-4.result _ _ (λ r adds. adds _ _ locate c.page_of-4.ensures) c.with_page-ptab-4.ensures in
    let types = IfOk-weaker c.with_page-ptab-5.result _ _ (λ r adds. adds _ _ free c.page_of-5.ensures) c.with_page-ptab-5.ensures in
    let edit = IfOk-weaker c.with_page-ptab-6.result _ _ (λ r adds. adds _ _ types c.page_of-6.ensures) c.with_page-ptab-6.ensures in
    let plan = IfOk-weaker c.with_page-ptab-7.result _ _ (λ r adds. adds _ _ edit c.page_of-7.ensures) c.with_page-ptab-7.ensures in
    let check = IfOk-weaker c.with_page-ptab-8.result _ _ (λ r adds. adds _ _ plan c.page_of-8.ensures) c.with_page-ptab-8.ensures in
    let apply = IfOk-weaker c.with_page-ptab-9.result _ _ (λ r adds. adds _ _ check c.page_of-9.ensures) c.with_page-ptab-9.ensures in
    let repair = IfOk-weaker c.with_page-ptab-10.result _ _ (λ r adds. adds _ _ apply c.page_of-10.ensures) c.with_page-ptab-10.ensures in
    let adopt = IfOk-weaker c.with_page-ptab-11.result _ _ (λ r adds. adds _ _ repair c.page_of-11.ensures) c.with_page-ptab-11.ensures in
    IfOk-weaker c.with_page.result _ _ (λ r adds. adds _ _ adopt c.page_of-12.ensures) c.with_page.ensures

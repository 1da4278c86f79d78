use Rattle.std.proofs.lemmas.Result.{IfOk-weaker}
use Rattle.pt_human.proofs.page.page_text.Goals as goal

pub returns : goal.returns
returns c = λ it. IfOk-weaker it.page_with.result _ _
    (λ text is. (
      it.in_ok-blocks.blocks.items,
      it.in_ok-blocks.ensures,
      rw (
        it.as_slice-3.ensures.value,
        it.in_ok-lines.ensures,
        it.as_slice.ensures.value,
        it.in_ok-rows.ensures,
        it.as_slice-2.ensures.value,
      ) at is,
    ))
    it.page_with.ensures

use Rattle.std.proofs.Common.{◌∙◌}
use Rattle.std.proofs.lemmas.Slice.Eq.{slice_eq-Decides}
use Rattle.pt_members.proofs.Equal.{labelled_decides, shown}
use Rattle.pt_members.proofs.layout.Labels.same.Goals as goal

pub returns : goal.returns
returns c =
    shown c.eq.result c.as_slice.result.now c.as_slice-2.result.now c.args.self.now c.args.other.now
    (slice_eq-Decides labelled_decides c.as_slice.result.now c.as_slice-2.result.now c.eq.result c.eq.ensures)
    (c.as_slice.ensures.value ∙ c.self.view_is) (c.as_slice-2.ensures.value ∙ c.other.view_is)

use Rattle.pt_cases.proofs.SliceMembers.{slice_lies_lem}
use Rattle.pt_cases.proofs.laws.slices_lie.Goals as goal

pub returns : goal.returns
returns c = slice_lies_lem

use Rattle.pt_cases.proofs.SliceMembers.{slices_are_members_lem}
use Rattle.pt_cases.proofs.laws.slices_are_members.Goals as goal

pub returns : goal.returns
returns c = slices_are_members_lem

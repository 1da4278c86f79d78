use Rattle.pt_cases.proofs.NewMbr.{emptied_is_alone}
use Rattle.pt_cases.proofs.laws.emptied_reads_its_head.Goals as goal

pub returns : goal.returns
returns c = emptied_is_alone

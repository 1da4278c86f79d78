use Rattle.pt_disks.proofs.Parts.{cut_parts, at_some, at_none}
use Rattle.pt_disks.proofs.uses.cut.Goals as goal

pub returns-clause-some : goal.returns-clause-some
returns-clause-some c = at_some c.split_once.result _ _ (cut_parts c.args.text.now c.split_once.result c.split_once.ensures.cases)

pub returns-clause-none : goal.returns-clause-none
returns-clause-none c = at_none c.split_once.result _ _ (cut_parts c.args.text.now c.split_once.result c.split_once.ensures.cases)

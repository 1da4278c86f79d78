use Rattle.std.proofs.Common.{List}
use Rattle.std.proofs.lemmas.Iterator.{items_from_collect}
use Rattle.std.proofs.lemmas.Iterator.Consumers.{YieldsList-from_first}
use Rattle.pt_members.specs.declared.member.Member.{Member}
use Rattle.pt_members.specs.Rows.{members_of}
use Rattle.jawefon.proofs.listing.members.Goals as goal

pub returns : goal.returns
returns g c =
    items_from_collect _ c.collect.ensures.ran
    (YieldsList-from_first (λ (m : Member). m) (λ (left : List Member). left) (members_of g.row.B c.args.layout.now) c.members.ensures)

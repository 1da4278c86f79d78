use Rattle.std.proofs.Common.{refl}
use Rattle.pt_members.proofs.Homes.{owns_found, owns_none}
use Rattle.pt_members.proofs.owned.is_owned.Goals as goal

pub returns-in-Some : goal.returns-in-Some
returns-in-Some g c = let found = c.in-Some.ensures in (λ t. owns_found g.row.B c.args.layout.now c.args.lba _ found.0 found.1, λ o. refl)

pub returns-in-None : goal.returns-in-None
returns-in-None g c = (λ f. absurd (cc f), λ o. absurd (owns_none g.row.B c.args.layout.now c.args.lba c.in-None.ensures o))

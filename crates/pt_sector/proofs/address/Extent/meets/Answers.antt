use Rattle.std.proofs.Common.{arith}
use Rattle.std.proofs.lemmas.Bool.Decides.{nat_tests}
use Rattle.pt_sector.specs.Sectors.{span}
use Rattle.pt_sector.proofs.Spans.{share_ends, ends_share}
use Rattle.pt_sector.proofs.address.Extent.meets.Goals as goal

pub returns-then-self-other : goal.returns-then-self-other
returns-then-self-other c = (
  λ yes. share_ends (span _ _) (span _ _) c.args.self.now.ordered c.args.other.now.ordered c.if-self-other.true
      (grind (arith, nat_tests, yes)),
  λ both. (let ends = ends_share (span _ _) (span _ _) both in grind (arith, nat_tests, ends.1)),
)

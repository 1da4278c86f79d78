use Rattle.std.proofs.Common.{arith}
use Rattle.pt_mbr.proofs.Guarding.{by_bytes, has_bytes}
use Rattle.pt_mbr.proofs.protection.protects.Goals as goal

pub returns : goal.returns
returns c = (
  (λ is. by_bytes c.args.sectors c.args.bytes.now (c.has_bytes.ensures.0 is)),
  λ is. c.has_bytes.ensures.1 (has_bytes c.args.sectors c.args.bytes.now (omega arith) (λ i. omega (arith, c.type_inv.bytes i)) is),
)

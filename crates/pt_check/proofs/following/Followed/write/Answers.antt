use Rattle.std.proofs.Common.{arith}
use Rattle.pt_gpt.specs.declared.table.Side.TheVariants.{Primary, Backup}
use Rattle.pt_follow.specs.Follow.{Follows}
use Rattle.pt_check.proofs.ByCopies.{of_some, of_none}
use Rattle.pt_check.proofs.following.Followed.write.Goals as goal

pub returns-in-Some-clause-copies : goal.returns-in-Some-clause-copies
returns-in-Some-clause-copies g c = λ d count copies. record {
  primary = c.write.ensures d Primary (omega (arith, count, c.if-write-sectors.false)) copies.primary;
  backup = c.write-in-Some.ensures d Backup (omega (arith, count, c.if-write-sectors.false))
      (of_some (Follows g.row.B d Backup c.args.table.now) c.args.self.now.backup c.in-Some.backup c.in-Some.is copies.backup);
}

pub returns-in_default-clause-copies : goal.returns-in_default-clause-copies
returns-in_default-clause-copies g c = λ d count copies. record {
  primary = c.write.ensures d Primary (omega (arith, count, c.if-write-sectors.false)) copies.primary;
  backup = of_none (Follows _ _ _ _) c.args.self.now.backup c.in_default.is;
}

use Rattle.std.proofs.Common.{take}
use Rattle.pt_replay.proofs.ViewLemmas.{AreRead, IsGrowing}
use Rattle.pt_replay.proofs.NoPlan.{AreInOrder}
use Rattle.pt_replay.proofs.plan_rows.plan_of_rows.Given as goal

abbrev pub invariant-loop-k : goal.invariant-loop-k
invariant-loop-k g l =
    AreRead (take l.k l.writes) (take l.k l.sectors) l.partial × IsGrowing (take l.k l.writes) l.partial × AreInOrder l.writes l.k

use Rattle.pt_replay.proofs.Unknown.{TakenTo}
use Rattle.pt_replay.proofs.wanting.wanted_among.Given as goal

abbrev pub invariant-loop-k : goal.invariant-loop-k
invariant-loop-k g l = TakenTo l.disk.sectors l.disk.numbers.now l.disk.known.now l.slices l.k l.wanted.items

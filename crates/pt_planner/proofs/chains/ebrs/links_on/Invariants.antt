use Rattle.std.proofs.Common.{Some}
use Rattle.pt_mbr.specs.Chain.{lba}
use Rattle.pt_mbr.specs.Records.{extent_of}
use Rattle.pt_planner.proofs.Linking.{GoesOn}
use Rattle.pt_planner.proofs.chains.ebrs.links_on.Given as goal

abbrev pub invariant-loop-k : goal.invariant-loop-k
invariant-loop-k l = GoesOn (extent_of l.extended) l.sectors (Some (lba l.extended.start)) l.chain l.to l.k

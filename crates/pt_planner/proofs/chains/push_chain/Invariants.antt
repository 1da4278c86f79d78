use Rattle.std.specs.Prelude.{◌≡◌, [], ◌∷◌}
use Rattle.pt_sector.specs.Overlays.{OnlyReads}
use Rattle.pt_cases.specs.declared.targets.target.Target.{Target}
use Rattle.pt_planner.proofs.Begun.{IsBegun, Placed}
use Rattle.pt_planner.proofs.chains.push_chain.Given as goal

abbrev pub invariant-loop-k : goal.invariant-loop-k
invariant-loop-k g l = record {
  same : OnlyReads g.D.Disk l.fn.disk l.disk;
  quiet : g.D.Disk.faults l.disk ≡ g.D.Disk.faults l.fn.disk;
  placed : (head : Target g.row.B) → l.fn.targets.items ≡ head ∷ [] → Placed head.at.0 l.chain l.targets.items;
  begun : g.D.Disk.tells → (head : Target g.row.B) → l.fn.targets.items ≡ head ∷ []
      → IsBegun (g.D.Disk.told l.fn.disk).seen head l.old l.first.0 l.chain l.k l.targets.items;
}

use Rattle.std.proofs.Common.{◌≡◌, map, drop, take, length}
use Rattle.serde_json.specs.View.{view}
use Rattle.pt_drafts.specs.Values.{all_of}
use Rattle.pt_drafts.proofs.Filling.{joined}
use Rattle.pt_drafts.proofs.arrays.fill.Given as goal

abbrev pub invariant-loop-k : goal.invariant-loop-k
invariant-loop-k g l = record {
  room : length l.all ≡ length l.fn.all;
  kept : drop l.k l.all ≡ drop l.k l.fn.all;
  rest : all_of g.T.Stands.stands_for (map view l.values)
      ≡ joined (take l.k l.all) (all_of g.T.Stands.stands_for (map view (drop l.k l.values)));
}

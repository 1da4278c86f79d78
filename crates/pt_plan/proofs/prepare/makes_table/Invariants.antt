use Rattle.std.proofs.Common.{◌↔◌, drop}
use Rattle.pt_plan.specs.Batches.{MakesTable}
use Rattle.pt_plan.proofs.prepare.makes_table.Given as goal

abbrev pub invariant-loop-word : goal.invariant-loop-word
invariant-loop-word l = record {
  rest : MakesTable (drop l.word-index l.edits) ↔ MakesTable l.edits;
}

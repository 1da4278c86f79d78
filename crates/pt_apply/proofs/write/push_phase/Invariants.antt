use Rattle.std.proofs.Common.{◌≡◌, ◌++◌, take}
use Rattle.std.specs.Prelude.{All}
use Rattle.std.specs.String.{string_bytes}
use Rattle.pt_apply.specs.Plans.{writes_of}
use Rattle.pt_apply.specs.PlanTexts.{writes_text}
use Rattle.pt_apply.specs.inner.PlanTexts.{HasLine}
use Rattle.pt_apply.proofs.write.push_phase.Given as goal

abbrev pub invariant-loop-write : goal.invariant-loop-write
invariant-loop-write g l = record {
  text : string_bytes l.text ≡ string_bytes l.fn.text ++ writes_text (writes_of (take l.write-index l.phase));
  held : All (HasLine g.row.B) (writes_of (take l.write-index l.phase));
}

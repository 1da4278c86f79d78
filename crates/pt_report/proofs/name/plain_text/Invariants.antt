use Rattle.std.proofs.Common.{◌≡◌, take}
use Rattle.std.specs.Prelude.{All}
use Rattle.pt_report.proofs.Names.{IsPlain}
use Rattle.pt_report.proofs.name.plain_text.Given as goal

abbrev pub invariant-loop-unit : goal.invariant-loop-unit
invariant-loop-unit l = (l.text.items ≡ take l.unit-index l.units) × All IsPlain l.text.items

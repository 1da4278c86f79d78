-- Lemmas on the one text of a plan that has its digits in lower case.
use Rattle.std.specs.Prelude.{ℕ, List, All}
use Rattle.pt_sector.specs.Sectors.{Writes}
use Rattle.pt_apply.specs.inner.PlanTexts.{HasLine}

abbrev pub HaveLines : ℕ → List Writes → Type 0
HaveLines b phases = All (λ (p : Writes). All (HasLine b) p) phases

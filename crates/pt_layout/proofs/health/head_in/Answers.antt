use Rattle.std.proofs.Common.{◌≡◌, ◌∙◌, Bool, true, false, Option, sym, subst}
use Rattle.pt_mbr.specs.declared.mbr.Mbr.{Mbr}
use Rattle.pt_recover.specs.Denotes.{RecordsAre}
use Rattle.pt_layout.proofs.health.head_in.Goals as goal

not_true : (c : Bool) → c ≡ false → c ≡ true → ⊥
not_true c is so = let e : true ≡ false = sym so ∙ is in cc

pub returns-then-is_protective : goal.returns-then-is_protective
returns-then-is_protective g c = (
  subst (λ (o : Option Mbr). RecordsAre c.args.sector.now o) c.in-None.is c.requires.records,
  c.is_protective.ensures.0 c.if-is_protective.true,
)

pub returns-else-is_protective : goal.returns-else-is_protective
returns-else-is_protective g c = (
  subst (λ (o : Option Mbr). RecordsAre c.args.sector.now o) c.in-None.is c.requires.records,
  λ is. not_true c.is_protective.result c.if-is_protective.false (c.is_protective.ensures.1 is),
)

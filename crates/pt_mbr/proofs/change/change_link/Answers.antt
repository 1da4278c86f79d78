use Rattle.std.proofs.Common.{◌≡◌, Option, Some, None, true, refl, sym, ap, ◌∙◌, inr}
use Rattle.std.specs.Option.{option_eq}
use Rattle.std.proofs.lemmas.Bool.{false≢true}
use Rattle.std.proofs.lemmas.Bool.Decides.{Decides-eqb}
use Rattle.pt_sector.specs.declared.address.Lba.{Lba}
use Rattle.pt_sector.specs.contracts.address.LbaPartialEq.TheImpl as lba_eq
use Rattle.pt_mbr.proofs.change.change_link.Goals as goal

-- a place is the same as itself
itself : (o : Option Lba) → option_eq lba_eq.eq-value.it o o ≡ true
itself None = refl
itself (Some y) = (Decides-eqb y.0 y.0).1 refl

pub returns-else-eq : goal.returns-else-eq
returns-else-eq g c = inr (
  (λ same. false≢true (sym c.if-eq.false ∙ c.eq.ensures ∙ ap (λ (o : Option Lba). option_eq lba_eq.eq-value.it c.args.old o)
      (sym same) ∙ itself c.args.old)),
  c.put_value.ensures,
)

use Rattle.std.proofs.Common.{◌≡◌, ◌∙◌, sym, ap, rules, length, Option}
use Rattle.pt_bsd.specs.declared.label.Label.{Label}
use Rattle.pt_members.specs.inner.Members.{parts_left}
use Rattle.pt_members.proofs.RowPlaces.{parts_end}
use Rattle.pt_members.proofs.walk.Parts.next.Goals as goal

pub returns : goal.returns
returns c =
    let held = c.loop-self.self-inside.1 in
    let counted : length c.in-Some.label.entries ≡ 8 = search rules in
    let none = parts_end c.in-Some.label held.1.0 held.1.1.0 counted c.loop-self-test.false in (
      sym c.loop-self.invariant.left ∙ none,
      ap (λ (l : Option Label). parts_left l held.1.0 held.1.1.0) c.in-Some.is ∙ none,
    )

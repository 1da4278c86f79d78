use Rattle.std.proofs.Common.{◌≡◌, ◌<◌, ◌^◌, List, Option, ap, length, subst}
use Rattle.std.specs.Iterator.{YieldsFirst}
use Rattle.std.specs.Prelude.{IfOk, IfSome}
use Rattle.std.proofs.lemmas.Iterator.{items_from_collect}
use Rattle.std.proofs.lemmas.Iterator.Consumers.{YieldsList-from_shown}
use Rattle.pt_members.specs.declared.member.Member.{Member}
use Rattle.pt_layout.proofs.sound.groups.members.Goals as goal

-- a step of the walk
abbrev steps : List Member → Option Member → List Member → Type 0
steps old member new = YieldsFirst (λ left. left) old member new × IfSome member (λ m. m.first < 2 ^ 66)

pub returns : goal.returns
returns g c =
    subst (λ (ms : List Member). IfOk c.collect.result (λ v. v.items ≡ ms)) c.members.ensures
    (items_from_collect _ c.collect.ensures.ran
    (YieldsList-from_shown steps (λ m. m) (λ left. left) (λ s t k. ap length k.0.0) (λ s x t k. k.0) c.members.result))

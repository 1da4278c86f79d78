use Rattle.std.proofs.Common.{rules, nat_lt}
use Rattle.std.proofs.lemmas.Fn.{filter_same}
use Rattle.pt_members.specs.declared.layout.Labelled.{Labelled}
use Rattle.pt_edit.proofs.labels.lists.above.Goals as goal

pub returns : goal.returns
returns c = filter_same _ (λ (x : Labelled). nat_lt c.args.number x.number) _ (λ x b f' k. search rules) _ _ c.retain.ensures.filtered

use Rattle.std.proofs.Common.{rules, if◌then◌else◌, nat_eq, true, false}
use Rattle.std.proofs.lemmas.Fn.{filter_same}
use Rattle.pt_members.specs.declared.layout.Labelled.{Labelled}
use Rattle.pt_edit.proofs.labels.lists.without.Goals as goal

pub returns : goal.returns
returns c =
    filter_same _ (λ (x : Labelled). if nat_eq x.number c.args.number then false else true) _ (λ x b f' k. search rules) _ _
    c.retain.ensures.filtered

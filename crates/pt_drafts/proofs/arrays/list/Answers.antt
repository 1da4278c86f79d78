use Rattle.std.proofs.Common.{◌∙◌, ap, sym, map, Some}
use Rattle.std.specs.Option.{option_map}
use Rattle.serde_json.specs.View.{view}
use Rattle.pt_drafts.specs.Values.{list_of}
use Rattle.pt_drafts.proofs.Filling.{items_listed}
use Rattle.pt_drafts.proofs.arrays.list.Goals as goal

pub returns-in-Some : goal.returns-in-Some
returns-in-Some c =
    ap (λ vs. Some (map view vs)) c.as_slice.ensures.value
    ∙ ap Some (sym (items_listed (map view c.in-Some.values.now.items)))
    ∙ ap (option_map list_of) c.in-Some.ensures

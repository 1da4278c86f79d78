use Rattle.std.proofs.Common.{List, ℕ, ap, ◌∙◌}
use Rattle.std.specs.Option.{option_map}
use Rattle.pt_types.specs.Tables.{EntryRow}
use Rattle.pt_types.specs.Types.{entry_of}
use Rattle.pt_types.proofs.texts.entry_type_name.Goals as goal

pub returns-in-Some : goal.returns-in-Some
returns-in-Some c =
    ap (option_map (λ (r : EntryRow). r.name)) c.in-Some.ensures
    ∙ ap (λ (t : List ℕ). option_map (λ (r : EntryRow). r.name) (entry_of t)) c.to_text.ensures.text

pub returns-in-None : goal.returns-in-None
returns-in-None c =
    ap (option_map (λ (r : EntryRow). r.name)) c.in-None.ensures
    ∙ ap (λ (t : List ℕ). option_map (λ (r : EntryRow). r.name) (entry_of t)) c.to_text.ensures.text

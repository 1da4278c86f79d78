use Rattle.std.proofs.Common.{◌≡◌, ◌∙◌, ap, sym, true}
use Rattle.std.specs.Prelude.{codes, is_none}
use Rattle.std.proofs.lemmas.Result.{on_ok_weaker}
use Rattle.serde_json.specs.Data.{Data, put}
use Rattle.pt_tables.specs.Entries.{is_no_text}
use Rattle.pt_tables.specs.inner.Objects.{members_in}
use Rattle.pt_tables.proofs.names.put_units.Goals as goal

pub returns-in_ok-value-in-None : goal.returns-in_ok-value-in-None
returns-in_ok-value-in-None c =
    let none : is_no_text c.args.units.now ≡ true = sym c.in_ok-text.ensures.none ∙ ap is_none c.in-None.is in
    rw (none, sym c.if-is_empty.ensures) (on_ok_weaker c.put-in-None.result
    (λ same. same ∙ ap (λ (v : Data). put (codes "name_units") v (members_in c.args.object.now)) c.in_ok-value-in-None.ensures)
    c.put-in-None.ensures)

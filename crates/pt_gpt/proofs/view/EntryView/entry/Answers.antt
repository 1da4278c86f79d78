use Rattle.std.proofs.Common.{refl, sym}
use Rattle.pt_gpt.proofs.view.EntryView.entry.Goals as goal

pub returns : goal.returns
returns c = record {
  used = c.if-not-is_used.ensures.0 refl;
  fields = record {
    kind = sym c.kind.ensures;
    unique = sym c.unique.ensures;
    first = sym c.first.ensures;
    last = sym c.last.ensures;
    attributes = sym c.attributes.ensures;
    name = c.name.ensures;
  };
}

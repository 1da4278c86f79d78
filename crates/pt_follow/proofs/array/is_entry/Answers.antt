use Rattle.std.proofs.Common.{◌+◌, ◌*◌, ◌∙◌, sym, subst, Option}
use Rattle.std.specs.Prelude.{slice_range}
use Rattle.pt_gpt.specs.Entries.{EntryIs}
use Rattle.pt_gpt.specs.declared.entry.Entry.{Entry}
use Rattle.pt_gpt.proofs.Same.{options_decide, entries_decide}
use Rattle.pt_gpt.proofs.Terms.{entry_same}
use Rattle.pt_follow.proofs.array.is_entry.Goals as goal

pub returns : goal.returns
returns c =
    let i = c.args.i in
    let bytes = slice_range c.args.bytes.now (i * 128) (i * 128 + 128) in
    let is : EntryIs c.entry.result bytes = rw (← c.in_part.ensures) c.entry.ensures in
    let same = options_decide entries_decide c.entry.result c.args.entry.now in (
      λ equal. subst (λ (o : Option Entry). EntryIs o bytes) (same.0 (sym c.eq.ensures ∙ equal)) is,
      λ other. c.eq.ensures ∙ same.1 (entry_same c.entry.result c.args.entry.now bytes is other),
    )

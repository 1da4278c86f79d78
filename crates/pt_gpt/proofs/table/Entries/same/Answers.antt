use Rattle.std.proofs.lemmas.Slice.Eq.{slice_eq-Decides}
use Rattle.pt_gpt.proofs.Same.{options_decide, entries_decide}
use Rattle.pt_gpt.proofs.table.Entries.same.Goals as goal

pub returns : goal.returns
returns c =
    rw (← c.self.view_is, ← c.other.view_is, ← c.as_slice.ensures.value, ← c.as_slice-2.ensures.value)
    (slice_eq-Decides (options_decide entries_decide) _ _ _ c.eq.ensures)

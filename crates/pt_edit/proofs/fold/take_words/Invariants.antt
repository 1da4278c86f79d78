-- What the words that are left make of the state is what all of them make.
use Rattle.std.proofs.Common.{◌≡◌, ◌≤◌, drop, length}
use Rattle.pt_edit.specs.Edited.{edited_from}
use Rattle.pt_edit.specs.inner.Edited.{state_of}
use Rattle.pt_edit.proofs.fold.take_words.Given as goal

abbrev pub invariant-loop-word : goal.invariant-loop-word
invariant-loop-word g l = record {
  taken : l.state.taken ≤ length l.guids;
  so_far : edited_from g.row.B l.sectors (drop l.word-index l.edits) (state_of l.guids l.state)
      ≡ edited_from g.row.B l.sectors l.edits (state_of l.guids l.fn.first);
}

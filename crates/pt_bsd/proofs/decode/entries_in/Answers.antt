use Rattle.std.proofs.Common.{◌≡◌, ◌<◌, ◌+◌, ℕ, List, Option, Some, None, slice_set, arith, ◌∙◌, inl, inr}
use Rattle.std.proofs.lemmas.List.{get_or-set_same, get_or-set_other, length-set}
use Rattle.std.proofs.lemmas.Bool.{cases_lt}
use Rattle.pt_bsd.specs.Labels.{counted_in, place_of, HasEntry}
use Rattle.pt_bsd.proofs.ReadingLemmas.{ReadSoFar}
use Rattle.pt_bsd.specs.declared.label.LabelEntry.{LabelEntry}
use Rattle.pt_bsd.proofs.decode.entries_in.Goals as goal

read_more : (entries : List (Option LabelEntry)) (i : ℕ) (bytes : List ℕ) (e : LabelEntry) → ReadSoFar entries i bytes → i < 8
    → i < counted_in bytes → HasEntry e (place_of i) bytes
    → ReadSoFar (slice_set entries i (Some e)) (i + 1) bytes
read_more entries i bytes e before room counts here = record {
  places = length-set entries i (Some e) ∙ before.places;
  done = λ k lt. elim (cases_lt k i) [
    | inl less ↦ rw (get_or-set_other entries i k (Some e) None (omega arith)) (before.done k less)
    | inr ge ↦ let at : k ≡ i = omega arith in
        let same = get_or-set_same entries i (Some e) None (omega (arith, before.places)) in
        rw (at, same) (counts, here)
  ];
  open_yet = λ k le lt. get_or-set_other entries i k (Some e) None (omega arith) ∙ before.open_yet k (omega arith) lt;
}

pub loop-k-preserved : goal.loop-k-preserved
loop-k-preserved c =
    read_more c.loop-k.entries c.loop-k.k c.args.bytes.now c.entry_at.result c.loop-k.invariant
    (omega (arith, c.loop-k-test.true, c.counted-k-end.ensures, c.requires.count.most))
    (omega (arith, c.loop-k-test.true, c.counted-k-end.ensures)) c.entry_at.ensures

-- What the partitions that are left make of what is made is what all of them make.
use Rattle.std.proofs.Common.{◌<◌, ◌^◌, drop, length, Result}
use Rattle.pt_drafts.specs.declared.fault.TextFault.{TextFault}
use Rattle.pt_set.specs.Entries.{State}
use Rattle.pt_set.specs.Tables.{AreMade}
use Rattle.pt_set.specs.inner.Made.{frame_in, state_of}
use Rattle.pt_set.proofs.gpt.add_parts.Given as goal

abbrev pub invariant-loop-k : goal.invariant-loop-k
invariant-loop-k g l = record {
  count : length l.made.entries < 2 ^ 63;
  so_far : (r : Result State TextFault) → AreMade (frame_in g.row.B l.basis) l.k (drop l.k l.basis.parts.now) (state_of l.made) r
      → AreMade (frame_in g.row.B l.basis) 0 l.basis.parts.now (state_of l.fn.first) r;
}

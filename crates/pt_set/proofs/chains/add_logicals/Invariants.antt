-- What the logical partitions that are left make of what is made is what all of them make.
use Rattle.std.proofs.Common.{drop, Result}
use Rattle.pt_drafts.specs.declared.fault.TextFault.{TextFault}
use Rattle.pt_set.specs.Chains.{AreEntered, Row}
use Rattle.pt_set.specs.inner.Staged.{mbr_frame, row_of}
use Rattle.pt_set.proofs.chains.add_logicals.Given as goal

abbrev pub invariant-loop-j : goal.invariant-loop-j
invariant-loop-j g l = (r : Result Row TextFault)
    → AreEntered (mbr_frame g.row.B l.basis) l.extended l.j (drop l.j l.later) (row_of l.entering) r
    → AreEntered (mbr_frame g.row.B l.basis) l.extended 0 l.later (row_of l.fn.first) r

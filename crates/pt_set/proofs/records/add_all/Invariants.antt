-- What the partitions that are left make of what is made is what all of them make.
use Rattle.std.proofs.Common.{drop, Result}
use Rattle.pt_drafts.specs.declared.fault.TextFault.{TextFault}
use Rattle.pt_set.specs.Records.{AreStaged, Stage}
use Rattle.pt_set.specs.inner.Staged.{mbr_frame, stage_of}
use Rattle.pt_set.proofs.records.add_all.Given as goal

abbrev pub invariant-loop-k : goal.invariant-loop-k
invariant-loop-k g l = (r : Result Stage TextFault)
    → AreStaged (mbr_frame g.row.B l.basis) l.k (drop l.k l.basis.parts.now) (stage_of l.staged) r
    → AreStaged (mbr_frame g.row.B l.basis) 0 l.basis.parts.now (stage_of l.fn.first) r

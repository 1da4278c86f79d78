use Rattle.std.proofs.Common.{sym, subst, IfOk}
use Rattle.pt_recover.specs.declared.error.NoTable.{NoTable}
use Rattle.pt_replay.specs.inner.Wanted.{IsAlone}
use Rattle.pt_replay.proofs.Unknown.{if_told}
use Rattle.pt_replay.proofs.wanting.wanted_by.Goals as goal

pub returns-in-Device-clause-ok : goal.returns-in-Device-clause-ok
returns-in-Device-clause-ok c =
    subst (λ (why : NoTable). IfOk c.told.result (λ wanted. IsAlone why wanted.items)) (sym c.in-Device.is)
    (if_told _ _ c.alone.result c.told.result c.told.ensures c.alone.ensures)

use Rattle.std.proofs.Common.{sym, subst}
use Rattle.pt_sector.specs.Device.{Told}
use Rattle.pt_carry.specs.inner.Copying.{CopiedAll, CopiedPart}
use Rattle.pt_carry.proofs.Moving.{on_any, part_copied, part_unflushed, part_flushed, all_flushed}
use Rattle.pt_carry.proofs.copy.carry_data.Goals as goal

pub returns-in_err-copy_runs-clause-part : goal.returns-in_err-copy_runs-clause-part
returns-in_err-copy_runs-clause-part g c = λ tells other.
    part_copied c.args.runs.now _ _ _ _ (c.in_ok-flush.ensures.done tells) (c.in_err-copy_runs.ensures.took tells other)
    (g.met.D.Disk.may_be_seen c.args.disk.now tells)

pub returns-in_err-flush-2-clause-part : goal.returns-in_err-flush-2-clause-part
returns-in_err-flush-2-clause-part g c = λ tells other.
    part_unflushed c.args.runs.now _ _ _ _ (c.in_ok-flush.ensures.done tells) (c.in_ok-copy_runs.ensures.took tells other)
    (g.met.D.Disk.may_be_seen c.args.disk.now tells) _ (c.in_err-flush-2.ensures.failed tells)

pub returns-clause-part : goal.returns-clause-part
returns-clause-part g c = λ tells other.
    subst (λ (t : Told). CopiedPart c.args.runs.now (g.E.Disk.told c.args.other.now).seen (g.D.Disk.told c.args.disk.now) t)
    (sym (c.compare_runs.ensures.same.same tells))
    (part_flushed c.args.runs.now _ _ _ _ (c.in_ok-flush.ensures.done tells) (c.in_ok-copy_runs.ensures.took tells other)
    (g.met.D.Disk.may_be_seen c.args.disk.now tells) _ (g.met.D.Disk.may_be_seen c.copy_runs.new.disk tells)
    (c.in_ok-flush-2.ensures.done tells))

pub returns-clause-all : goal.returns-clause-all
returns-clause-all g c = λ tells other. on_any c.compare_runs.result _
    (subst (λ (t : Told). CopiedAll c.args.runs.now (g.E.Disk.told c.args.other.now).seen (g.D.Disk.told c.args.disk.now) t)
    (sym (c.compare_runs.ensures.same.same tells))
    (all_flushed c.args.runs.now _ _ _ _ (c.in_ok-flush.ensures.done tells) (c.in_ok-copy_runs.ensures.took tells other)
    (g.met.D.Disk.may_be_seen c.args.disk.now tells) _ (g.met.D.Disk.may_be_seen c.copy_runs.new.disk tells)
    (c.in_ok-flush-2.ensures.done tells) (c.in_ok-copy_runs.ensures.done tells other)))

use Rattle.pt_carry.proofs.Copies.{took_wrote, took_failed}
use Rattle.pt_carry.proofs.copy.copy_sector.Goals as goal

pub returns-in_err-write-clause-took : goal.returns-in_err-write-clause-took
returns-in_err-write-clause-took g c = λ tells other.
    took_failed _ _ _ c.args.lba.0 _ (c.in_ok-read_sector.ensures.bytes other) (c.in_err-write.ensures.failed tells)

pub returns-clause-took : goal.returns-clause-took
returns-clause-took g c = λ tells other.
    took_wrote _ _ _ c.args.lba.0 _ (c.in_ok-read_sector.ensures.bytes other) (c.in_ok-write.ensures.done tells)

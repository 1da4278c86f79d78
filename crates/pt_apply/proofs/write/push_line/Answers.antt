use Rattle.std.proofs.Common.{refl}
use Rattle.pt_apply.proofs.Texts.{has_line}
use Rattle.pt_apply.proofs.write.push_line.Goals as goal

pub returns-clause-held : goal.returns-clause-held
returns-clause-held c = has_line _ c.args.lba c.args.bytes.now c.ranges.lba.fits refl (λ i. (c.type_inv.bytes i).fits)

pub returns-in_err-digits-clause-held : goal.returns-in_err-digits-clause-held
returns-in_err-digits-clause-held c = has_line _ c.args.lba c.args.bytes.now c.ranges.lba.fits refl (λ i. (c.type_inv.bytes i).fits)

pub returns-in_err-line-clause-held : goal.returns-in_err-line-clause-held
returns-in_err-line-clause-held c = has_line _ c.args.lba c.args.bytes.now c.ranges.lba.fits refl (λ i. (c.type_inv.bytes i).fits)

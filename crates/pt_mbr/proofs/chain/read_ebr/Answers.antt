use Rattle.std.proofs.Common.{subst, List, ℕ}
use Rattle.std.proofs.lemmas.Result.{err_from_is_err_and}
use Rattle.pt_sector.specs.declared.address.Lba.{Lba}
use Rattle.pt_mbr.specs.Chain.{EbrBytes, IsEbrFault, span_of}
use Rattle.pt_mbr.specs.declared.ebr.EbrFault.{EbrFault}
use Rattle.pt_mbr.specs.declared.ebr.EbrFault.TheVariants as ebr
use Rattle.pt_mbr.proofs.Walks.{no_signature, bad_record, device}
use Rattle.pt_mbr.proofs.Same.{inside_same}
use Rattle.pt_mbr.proofs.chain.read_ebr.Goals as goal

pub returns-in_err-read_sector-clause-err : goal.returns-in_err-read_sector-clause-err
returns-in_err-read_sector-clause-err g c tells =
    let p = err_from_is_err_and c.from_residual.result c.from_residual.ensures.1 in
    rw (p.1, p.2) (λ list few walk.
    device (g.D.Disk.told c.args.disk.now).seen (span_of c.args.extent.now) list c.args.at _ c.in_err-read_sector.ensures.fault walk few
    (inside_same _ _ _ c.args.at (g.met.D.Disk.sized c.args.disk.now tells) c.requires.inside))

pub returns-in-Err-NoSignature-clause-err : goal.returns-in-Err-NoSignature-clause-err
returns-in-Err-NoSignature-clause-err g c tells list few walk =
    no_signature (g.D.Disk.told c.args.disk.now).seen (span_of c.args.extent.now) list c.args.at walk few
    (inside_same _ _ _ c.args.at (g.met.D.Disk.sized c.args.disk.now tells) c.requires.inside)
    (subst (λ (b : List ℕ). IsEbrFault ebr.NoSignature b) (c.in_ok-read_sector.ensures.bytes tells)
    (subst (λ (f : EbrFault). IsEbrFault f c.read_sector.new.into) c.in-Err-NoSignature.field-0-is c.in-Err-NoSignature.ensures.err))

pub returns-in-Err-BadRecord-clause-err : goal.returns-in-Err-BadRecord-clause-err
returns-in-Err-BadRecord-clause-err g c tells list few walk =
    bad_record (g.D.Disk.told c.args.disk.now).seen (span_of c.args.extent.now) list c.args.at walk few
    (inside_same _ _ _ c.args.at (g.met.D.Disk.sized c.args.disk.now tells) c.requires.inside)
    (subst (λ (b : List ℕ). IsEbrFault ebr.BadRecord b) (c.in_ok-read_sector.ensures.bytes tells)
    (subst (λ (f : EbrFault). IsEbrFault f c.read_sector.new.into) c.in-Err-BadRecord.field-0-is c.in-Err-BadRecord.ensures.err))

pub returns-in_err-read_sector-clause-same : goal.returns-in_err-read_sector-clause-same
returns-in_err-read_sector-clause-same g c = c.in_err-read_sector.ensures.same

pub returns-in_err-read_sector-clause-blames : goal.returns-in_err-read_sector-clause-blames
returns-in_err-read_sector-clause-blames g c =
    let p = err_from_is_err_and c.from_residual.result c.from_residual.ensures.1 in rw (p.1, p.2) c.in_err-read_sector.ensures.blames

pub returns-in-Err-NoSignature-clause-same : goal.returns-in-Err-NoSignature-clause-same
returns-in-Err-NoSignature-clause-same g c = c.in_ok-read_sector.ensures.same

pub returns-in-Err-NoSignature-clause-blames : goal.returns-in-Err-NoSignature-clause-blames
returns-in-Err-NoSignature-clause-blames g c = c.in_ok-read_sector.ensures.blames

pub returns-in-Err-BadRecord-clause-same : goal.returns-in-Err-BadRecord-clause-same
returns-in-Err-BadRecord-clause-same g c = c.in_ok-read_sector.ensures.same

pub returns-in-Err-BadRecord-clause-blames : goal.returns-in-Err-BadRecord-clause-blames
returns-in-Err-BadRecord-clause-blames g c = c.in_ok-read_sector.ensures.blames

pub returns-in-Ok-clause-same : goal.returns-in-Ok-clause-same
returns-in-Ok-clause-same g c = c.in_ok-read_sector.ensures.same

pub returns-in-Ok-clause-blames : goal.returns-in-Ok-clause-blames
returns-in-Ok-clause-blames g c = c.in_ok-read_sector.ensures.blames

pub returns-in-Ok-clause-ok : goal.returns-in-Ok-clause-ok
returns-in-Ok-clause-ok g c tells = record {
  inside = inside_same _ _ _ c.args.at (g.met.D.Disk.sized c.args.disk.now tells) c.requires.inside;
  bytes = subst (λ (b : List ℕ). EbrBytes (span_of c.args.extent.now).first c.args.at c.in-Ok.ebr b) (c.in_ok-read_sector.ensures.bytes
      tells)
      (subst (λ (y : Lba). EbrBytes y.0 c.args.at c.in-Ok.ebr c.read_sector.new.into) c.first_of.ensures.start c.in-Ok.ensures.ok);
}

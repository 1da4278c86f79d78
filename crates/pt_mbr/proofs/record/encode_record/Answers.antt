use Rattle.pt_mbr.proofs.Encoding.{laid_out}
use Rattle.pt_mbr.proofs.record.encode_record.Goals as goal

pub returns-clause-bytes : goal.returns-clause-bytes
returns-clause-bytes c =
    let value = c.args.value.now in
    rw (c.put_u32-2.ensures.put, c.put_u32.ensures.put, c.put_chs-2.ensures.put, c.put_chs.ensures.put)
    (laid_out value c.put_chs.ensures.fits c.put_chs-2.ensures.fits)

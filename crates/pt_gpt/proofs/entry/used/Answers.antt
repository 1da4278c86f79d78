use Rattle.pt_gpt.specs.Entries.{EntryFits}
use Rattle.pt_gpt.proofs.EntryEncoding.{put_used}
use Rattle.pt_gpt.proofs.entry.used.Goals as goal

pub returns-clause-bytes : goal.returns-clause-bytes
returns-clause-bytes c =
    let e = c.args.entry.now in
    let fits : EntryFits e = record {
      kind = c.put_guid.ensures.fits;
      unique = c.put_guid-2.ensures.fits;
      first = c.put_u64.ensures.fits;
      last = c.put_u64-2.ensures.fits;
      attributes = c.put_u64-3.ensures.fits;
      name = c.put_units.ensures.fits;
      units = c.put_units.ensures.small;
    } in
    rw (
      c.put_units.ensures.put,
      c.put_u64-3.ensures.put,
      c.put_u64-2.ensures.put,
      c.put_u64.ensures.put,
      c.put_guid-2.ensures.put,
      c.put_guid.ensures.put,
    ) (put_used e fits)

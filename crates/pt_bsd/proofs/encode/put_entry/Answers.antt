use Rattle.std.proofs.Common.{arith}
use Rattle.pt_bsd.proofs.Entries.{entry_put}
use Rattle.pt_bsd.proofs.Parts.{put_changes}
use Rattle.pt_bsd.proofs.encode.put_entry.Goals as goal

pub returns-clause-here : goal.returns-clause-here
returns-clause-here c =
    let told = c.entry_bytes.ensures in
    rw (c.put.ensures, told.bytes) (entry_put c.args.entry.now c.args.at c.args.bytes.now (omega (arith, c.requires)) told.fits)

pub returns-clause-only : goal.returns-clause-only
returns-clause-only c =
    rw c.put.ensures (put_changes c.args.at _ c.entry_bytes.result c.args.bytes.now (omega arith) (omega (arith, c.requires)))

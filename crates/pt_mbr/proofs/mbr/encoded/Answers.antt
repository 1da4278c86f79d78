use Rattle.pt_mbr.proofs.Encoding.{none_bytes}
use Rattle.pt_mbr.proofs.mbr.encoded.Goals as goal

pub returns-in-None-clause-bytes : goal.returns-in-None-clause-bytes
returns-in-None-clause-bytes c = rw c.in-None.is none_bytes

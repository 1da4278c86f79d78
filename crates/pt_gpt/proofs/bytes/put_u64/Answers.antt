use Rattle.std.proofs.Common.{refl}
use Rattle.byteorder.specs.Endian.{little_bytes}
use Rattle.pt_gpt.proofs.Puts.{put_front}
use Rattle.pt_gpt.proofs.bytes.put_u64.Goals as goal

pub returns-clause-put : goal.returns-clause-put
returns-clause-put c = put_front c.args.at 8 c.args.bytes.now _ (little_bytes 8 c.args.number) c.requires c.write_u64.ensures refl

use Rattle.std.proofs.Common.{refl}
use Rattle.byteorder.specs.Endian.{little_bytes}
use Rattle.pt_gpt.proofs.Puts.{put_front}
use Rattle.pt_gpt.proofs.bytes.put_u32.Goals as goal

pub returns-clause-put : goal.returns-clause-put
returns-clause-put c = put_front c.args.at 4 c.args.bytes.now _ (little_bytes 4 c.args.number) c.requires c.write_u32.ensures refl

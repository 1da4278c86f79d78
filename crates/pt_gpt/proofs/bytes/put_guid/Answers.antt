use Rattle.std.proofs.Common.{arith}
use Rattle.pt_gpt.proofs.Puts.{part_long, put_part}
use Rattle.pt_gpt.proofs.bytes.put_guid.Goals as goal

pub copy_from_slice-requires : goal.copy_from_slice-requires
copy_from_slice-requires c = omega (arith, part_long c.args.at 16 c.args.bytes.now c.requires)

pub returns-clause-put : goal.returns-clause-put
returns-clause-put c = put_part c.args.at 16 c.args.bytes.now _ _ c.copy_from_slice.ensures.after (omega arith)

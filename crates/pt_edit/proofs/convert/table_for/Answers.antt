use Rattle.std.proofs.Common.{◌^◌, arith}
use Rattle.pt_edit.proofs.EntryPlaces.{below_more}
use Rattle.pt_edit.proofs.convert.table_for.Goals as goal

pub entries_for-requires-clause-placeable : goal.entries_for-requires-clause-placeable
entries_for-requires-clause-placeable g c = below_more c.args.sectors (2 ^ 64) c.args.partitions.now (omega arith) c.requires.placeable

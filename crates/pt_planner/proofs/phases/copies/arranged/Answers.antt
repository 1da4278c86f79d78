use Rattle.std.proofs.Common.{rules}
use Rattle.pt_apply.specs.Plans.{writes_of}
use Rattle.pt_planner.proofs.Shapes.{backup_first_short, primary_first_short, from_mbr_short}
use Rattle.pt_planner.proofs.phases.copies.arranged.Goals as goal

pub returns-in-BackupFirst-clause-short : goal.returns-in-BackupFirst-clause-short
returns-in-BackupFirst-clause-short g c =
    backup_first_short c.args.sectors c.args.table.now
    (writes_of c.args.labels.items) c.last_sector-last.result c.backup_first.result c.backup_first.ensures.phases

pub returns-in-PrimaryFirst-clause-short : goal.returns-in-PrimaryFirst-clause-short
returns-in-PrimaryFirst-clause-short g c =
    primary_first_short c.args.sectors c.args.table.now
    (writes_of c.args.labels.items) c.last_sector-last-in-PrimaryFirst.result c.primary_first.result c.primary_first.ensures.phases

pub returns-in-FromMbr-clause-short : goal.returns-in-FromMbr-clause-short
returns-in-FromMbr-clause-short g c =
    from_mbr_short c.args.sectors c.args.table.now
    (writes_of c.args.labels.items) c.protected_head-head.result c.from_mbr.result c.from_mbr.ensures.phases

pub backup_first-requires : goal.backup_first-requires
backup_first-requires g c = (
  search rules,
  (search rules, (search rules, (c.requires.size, (c.requires.room, (c.requires.few, c.requires.labels_in_range))))),
)

pub primary_first-requires : goal.primary_first-requires
primary_first-requires g c = (
  search rules,
  (search rules, (search rules, (c.requires.size, (c.requires.room, (c.requires.few, c.requires.labels_in_range))))),
)

pub from_mbr-requires : goal.from_mbr-requires
from_mbr-requires g c = (
  search rules,
  (search rules, (search rules, (c.requires.size, (c.requires.room, (c.requires.few, c.requires.labels_in_range))))),
)

-- What no case of a plan allows, no plan allows.
use Rattle.std.proofs.Common.{ℕ, List, Option, subst}
use Rattle.pt_sector.specs.Sectors.{Sectors, Writes}
use Rattle.pt_gpt.specs.declared.table.Table.{Table}
use Rattle.pt_mbr.specs.declared.ebr.Ebr.{Ebr}
use Rattle.pt_mbr.specs.declared.record.Record.{Record}
use Rattle.pt_recover.specs.Denotes.{Denotes}
use Rattle.pt_recover.proofs.Terms.{denotes_one_lem}
use Rattle.pt_members.specs.declared.layout.Layout.{Layout}
use Rattle.pt_layout.specs.Healthy.{IsHealthy}
use Rattle.pt_cases.specs.Cases.{IsPlan, idle, backup_first, primary_first, from_mbr, one_label, within_mbr, IsBackupFirst}
use Rattle.pt_cases.specs.Cases.{IsPrimaryFirst, IsFromMbr, IsOneLabel, IsWithinMbr}

module _ (b : ℕ) (d : Sectors) (o : Option Layout) (p : Layout) (phases : List Writes) (from : Denotes b d o)
    (C : Option Layout → Type 0) where
  -- a disk denotes one layout, so what holds of o holds of the plan's own
  moved : (q : Option Layout) → Denotes b d q → C o → C q
  moved q there why = subst C (denotes_one_lem b d o q from there) why

  pub no_plan_has : ¬ IsHealthy b d p
      → ((q : Option Layout) (t : Table) → IsBackupFirst b d q p t phases → ¬ C q)
      → ((q : Option Layout) (t : Table) → IsPrimaryFirst b d q p t phases → ¬ C q)
      → ((q : Option Layout) (t : Table) → IsFromMbr b d q p t phases → ¬ C q)
      → ((q : Option Layout) (t : Table) → IsOneLabel b d q p t phases → ¬ C q)
      → ((q : Option Layout) (records : List (Option Record)) (chain : List Ebr) → IsWithinMbr b d q p records chain phases → ¬ C q)
      → IsPlan b d p phases → ¬ C o
  no_plan_has not_done first second third fourth fifth (idle healthy none) why = not_done healthy
  no_plan_has not_done first second third fourth fifth (backup_first q t is) why = first q t is (moved q is.common.from why)
  no_plan_has not_done first second third fourth fifth (primary_first q t is) why = second q t is (moved q is.common.from why)
  no_plan_has not_done first second third fourth fifth (from_mbr q t is) why = third q t is (moved q is.common.from why)
  no_plan_has not_done first second third fourth fifth (one_label q t is) why = fourth q t is (moved q is.common.from why)
  no_plan_has not_done first second third fourth fifth (within_mbr q records chain is) why =
      fifth q records chain is (moved q is.common.from why)

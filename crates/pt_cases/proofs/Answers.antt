-- The planner's errors about a layout that words make of what a disk denotes.
use Rattle.std.proofs.Common.{◌≡◌, ◌⊎◌, ℕ, List, length, Option}
use Rattle.pt_sector.specs.Sectors.{Sectors, IsSectorSize, Writes}
use Rattle.pt_recover.specs.Denotes.{Denotes}
use Rattle.pt_members.specs.declared.layout.Layout.{Layout}
use Rattle.pt_layout.specs.Sound.{Sound}
use Rattle.pt_layout.specs.declared.sound.finding.Finding.{Finding}
use Rattle.pt_cases.proofs.Ascending.{fits_four}
use Rattle.pt_cases.specs.Keeps.{Keeps}
use Rattle.pt_cases.specs.Cases.{IsPlan}
use Rattle.pt_cases.specs.Unplanned.{IsReused, IsFailure, NoSwitch, Unplanned}
use Rattle.pt_cases.specs.declared.targets.error.PlanError.{PlanError}
use Rattle.pt_cases.specs.declared.targets.error.PlanError.TheVariants.{NeedsRepair, NotOneSwitch, Unsound}
use Rattle.pt_cases.proofs.Fits.{edit_may_be, edit_labels_fit, edit_readable}
use Rattle.pt_cases.proofs.FitsApart.{edit_apart}
use Rattle.pt_cases.proofs.FitsMade.{edit_made}
use Rattle.pt_cases.proofs.Order.{shaped_eight, unsound_first_lem, reused_first_lem, switch_first_lem, error_once}
use Rattle.pt_cases.proofs.SameTargets.{Fitting}
use Rattle.pt_cases.proofs.Turns.{planned_no_error_lem}

-- such a layout, where it is sound, fits its disk
edit_fits : (b : ℕ) (d : Sectors) (o : Option Layout) (p : Layout) → IsSectorSize b → Denotes b d o → Keeps b (length d) o p
    → Sound b p → Fitting b d o p
edit_fits b d o p size from keeps sound = record {
  four = fits_four b p.sectors p.body keeps.shaped.body;
  may = edit_may_be b d o p size from keeps sound;
  labels = edit_labels_fit b d o p size from keeps sound;
  readable = edit_readable b d o p size from keeps sound;
  made = λ records chain body was. edit_made b d o p records chain size from keeps sound body was;
  apart = edit_apart b d o p size from keeps sound;
}

-- where it has a plan, the planner may tell a failure alone
pub planned_has_no_error : (b : ℕ) (d : Sectors) (o : Option Layout) (p : Layout) (phases : List Writes) (e : PlanError)
    → IsSectorSize b → Denotes b d o → Keeps b (length d) o p → IsPlan b d p phases → Unplanned b d p e → IsFailure e
planned_has_no_error b d o p phases e size from keeps plan is =
    planned_no_error_lem b d o p phases e from (edit_fits b d o p size from keeps) plan is

-- what is unsound, or a foreign label, is reported first
pub unsound_comes_first : (b : ℕ) (d : Sectors) (o : Option Layout) (p : Layout) (f : Finding) (e : PlanError)
    → IsSectorSize b → Denotes b d o → Keeps b (length d) o p → Unplanned b d p (Unsound f) → Unplanned b d p e → ¬ IsFailure e
    → e ≡ Unsound f
unsound_comes_first b d o p f e size from keeps first is real =
    unsound_first_lem b d o p f e (shaped_eight b p keeps.shaped) from (edit_fits b d o p size from keeps) first is real

-- then a sector in use
pub reused_comes_next : (b : ℕ) (d : Sectors) (o : Option Layout) (p : Layout) → IsSectorSize b → Denotes b d o
    → Keeps b (length d) o p → Unplanned b d p NotOneSwitch ⊎ Unplanned b d p NeedsRepair → ¬ IsReused b d o p
reused_comes_next b d o p size from keeps is = reused_first_lem b d o p from (edit_fits b d o p size from keeps) is

-- then that there isn't one switch, before that a repair has to come
pub switch_comes_next : (b : ℕ) (d : Sectors) (o : Option Layout) (p : Layout) → IsSectorSize b → Denotes b d o
    → Keeps b (length d) o p → Unplanned b d p NeedsRepair → ¬ NoSwitch b d o p
switch_comes_next b d o p size from keeps is = switch_first_lem b d o p from (edit_fits b d o p size from keeps) is

-- so two errors are one, but for failures
pub error_is_one : (b : ℕ) (d : Sectors) (o : Option Layout) (p : Layout) (e f : PlanError) → IsSectorSize b → Denotes b d o
    → Keeps b (length d) o p → Unplanned b d p e → Unplanned b d p f → ¬ IsFailure e → ¬ IsFailure f → e ≡ f
error_is_one b d o p e f size from keeps x y first second =
    error_once b d o p (shaped_eight b p keeps.shaped) from (edit_fits b d o p size from keeps) e f x y first second

-- What is printed where there is no plan.
use Rattle.std.specs.Prelude.{ℕ, List, ◌++◌, codes}
use Rattle.pt_sector.specs.Sentences.{fault_sentence, no_memory}
use Rattle.pt_layout.specs.Sentences.{finding_sentence}
use Rattle.pt_cases.specs.declared.targets.error.PlanError.{PlanError}
use Rattle.pt_cases.specs.declared.targets.error.PlanError.TheVariants as plan

abbrev pub plan_error_sentence : PlanError → List ℕ
plan_error_sentence plan.NotOneSwitch = codes "no order of writes has one moment of change"
plan_error_sentence plan.ReusedInOneBatch = codes "a sector that a partition of the old layout owns would be written"
plan_error_sentence plan.NeedsRepair = codes "only a label changes, and the GPT needs mending"
plan_error_sentence (plan.Unsound finding) = codes "the new layout isn't sound: " ++ finding_sentence finding
plan_error_sentence (plan.Device fault) = fault_sentence fault
plan_error_sentence plan.Memory = no_memory

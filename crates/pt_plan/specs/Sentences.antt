-- What is printed where a commit or a repair isn't done.
use Rattle.std.specs.Prelude.{ℕ, List, ◌++◌, codes}
use Rattle.pt_sector.specs.Sentences.{fault_sentence, no_memory}
use Rattle.pt_recover.specs.Sentences.{no_table_sentence}
use Rattle.pt_layout.specs.Sentences.{finding_sentence}
use Rattle.pt_words.specs.Sentences.{refusal_sentence}
use Rattle.pt_cases.specs.Sentences.{plan_error_sentence}
use Rattle.pt_check.specs.Sentences.{why_sentence}
use Rattle.pt_plan.specs.declared.error.CommitError.{CommitError}
use Rattle.pt_plan.specs.declared.error.CommitError.TheVariants as commit
use Rattle.pt_plan.specs.declared.repair_error.RepairError.{RepairError}
use Rattle.pt_plan.specs.declared.repair_error.RepairError.TheVariants as repair
use Rattle.pt_plan.specs.declared.like_error.LikeError.{LikeError}
use Rattle.pt_plan.specs.declared.like_error.LikeError.TheVariants as like

abbrev pub commit_error_sentence : CommitError → List ℕ
commit_error_sentence (commit.NoTable why) = codes "there is no table: " ++ no_table_sentence why
commit_error_sentence (commit.Edit refusal) = refusal_sentence refusal
commit_error_sentence (commit.Plan error) = plan_error_sentence error
commit_error_sentence (commit.Check why) = codes "the plan is refused: " ++ why_sentence why
commit_error_sentence (commit.Device fault) = fault_sentence fault
commit_error_sentence commit.Memory = no_memory

abbrev pub repair_error_sentence : RepairError → List ℕ
repair_error_sentence (repair.NoTable why) = codes "there is no table: " ++ no_table_sentence why
repair_error_sentence (repair.Unsound finding) = codes "a repair leaves it to you: " ++ finding_sentence finding
repair_error_sentence (repair.Device fault) = fault_sentence fault
repair_error_sentence repair.Memory = no_memory
repair_error_sentence (repair.Plan error) = plan_error_sentence error
repair_error_sentence (repair.Check why) = codes "the plan is refused: " ++ why_sentence why

abbrev pub like_error_sentence : LikeError → List ℕ
like_error_sentence like.OtherSize = codes "the other disk has another number of sectors"
like_error_sentence (like.Other why) = codes "the other disk: " ++ no_table_sentence why
like_error_sentence (like.Disk error) = commit_error_sentence error

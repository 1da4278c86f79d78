-- What is printed of a text that is no plan's.
use Rattle.std.specs.Prelude.{ℕ, List, ◌++◌, codes, decimal}
use Rattle.pt_sector.specs.Sentences.{no_memory}
use Rattle.pt_apply.specs.declared.error.PlanTextError.{PlanTextError}
use Rattle.pt_apply.specs.declared.error.PlanTextError.TheVariants.{BadLine, NoFinalFlush, Memory}

abbrev pub plan_text_error_sentence : PlanTextError → List ℕ
plan_text_error_sentence (BadLine line) = codes "line " ++ decimal line ++ codes " is not a plan's"
plan_text_error_sentence NoFinalFlush = codes "the text ends without the F of its last phase"
plan_text_error_sentence Memory = no_memory

use Rattle.pt_kept.proofs.Recovered.{edit_of_disk_keeps_lem}
use Rattle.pt_cases.proofs.Answers.{planned_has_no_error, error_is_one}
use Rattle.pt_kept.proofs.laws.words_have_one_answer.Goals as goal

pub returns : goal.returns
returns c = record {
  planned = λ b d old words guids p phases e size few from numbers edited plan is.
      planned_has_no_error b d old p phases e size from (edit_of_disk_keeps_lem b d old words guids p size few from numbers edited) plan is;
  refused = λ b d old words guids p e f size few from numbers edited first second real also.
      error_is_one b d old p e f size from
      (edit_of_disk_keeps_lem b d old words guids p size few from numbers edited) first second real also;
}

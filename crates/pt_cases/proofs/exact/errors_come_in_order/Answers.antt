use Rattle.pt_cases.proofs.Answers.{unsound_comes_first, reused_comes_next, switch_comes_next}
use Rattle.pt_cases.proofs.exact.errors_come_in_order.Goals as goal

pub returns : goal.returns
returns c = record {
  unsound = unsound_comes_first;
  reused = reused_comes_next;
  switch = switch_comes_next;
}

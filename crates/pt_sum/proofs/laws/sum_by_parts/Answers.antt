use Rattle.pt_sum.proofs.Terms.{after_bytes-append}
use Rattle.pt_sum.proofs.laws.sum_by_parts.Goals as goal

pub returns : goal.returns
returns c = after_bytes-append

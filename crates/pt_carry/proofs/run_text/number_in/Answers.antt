use Rattle.pt_carry.proofs.RunLines.{number_told}
use Rattle.pt_carry.proofs.run_text.number_in.Goals as goal

pub returns : goal.returns
returns c = number_told c.args.text.now c.parse_number.result c.parse_number.ensures.some c.parse_number.ensures.none

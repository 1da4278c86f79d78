use Rattle.std.proofs.Common.{◌∙◌, ap, List, ℕ, Some}
use Rattle.clap.specs.Words.{found_of}
use Rattle.pt_line.proofs.Values.{value_is}
use Rattle.pt_line.proofs.jobs.value_of.Goals as goal

pub returns-in_ok-from_str-in-Some : goal.returns-in_ok-from_str-in-Some
returns-in_ok-from_str-in-Some c =
    let v = rw c.in-Some.is at (value_is (found_of c.args.matches.now) c.args.id.now c.get_str.result c.get_str.ensures) in
    ap (λ (t : List ℕ). Some t) c.in_ok-from_str-in-Some.ensures.ok ∙ v

pub returns-in-None : goal.returns-in-None
returns-in-None c = rw c.in-None.is at (value_is (found_of c.args.matches.now) c.args.id.now c.get_str.result c.get_str.ensures)

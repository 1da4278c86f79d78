use Rattle.std.proofs.Common.{◌∙◌, ap, List, ℕ, Option, []}
use Rattle.std.specs.Prelude.{unwrap_or}
use Rattle.std.proofs.lemmas.Result.{IfOk-weaker}
use Rattle.clap.specs.Words.{found_of}
use Rattle.pt_line.proofs.Values.{value_is}
use Rattle.pt_line.proofs.jobs.text_of.Goals as goal

pub returns-in-Some : goal.returns-in-Some
returns-in-Some c =
    let v = rw c.in-Some.is at (value_is (found_of c.args.matches.now) c.args.id.now c.get_str.result c.get_str.ensures) in
    IfOk-weaker c.from_str.result _ _ (λ t e. e ∙ ap (λ (o : Option (List ℕ)). unwrap_or o []) v) c.from_str.ensures.ok

pub returns-in-None : goal.returns-in-None
returns-in-None c =
    let v = rw c.in-None.is at (value_is (found_of c.args.matches.now) c.args.id.now c.get_str.result c.get_str.ensures) in
    c.new.ensures.bytes ∙ ap (λ (o : Option (List ℕ)). unwrap_or o []) v

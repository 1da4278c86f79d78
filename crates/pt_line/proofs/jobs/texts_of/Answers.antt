use Rattle.std.proofs.Common.{◌∙◌, ap, List, ℕ, Option, []}
use Rattle.std.specs.Prelude.{unwrap_or}
use Rattle.std.proofs.lemmas.Result.{IfOk-weaker}
use Rattle.clap.specs.Words.{found_of}
use Rattle.pt_line.proofs.Values.{values_are}
use Rattle.pt_line.proofs.jobs.texts_of.Goals as goal

pub returns-in-Some : goal.returns-in-Some
returns-in-Some c =
    let v = rw c.in-Some.is at (values_are (found_of c.args.matches.now) c.args.id.now c.get_strs.result c.get_strs.ensures) in
    IfOk-weaker c.copied.result _ _ (λ t e. e ∙ ap (λ (o : Option (List (List ℕ))). unwrap_or o []) v) c.copied.ensures

pub returns-in-None : goal.returns-in-None
returns-in-None c =
    let v = rw c.in-None.is at (values_are (found_of c.args.matches.now) c.args.id.now c.get_strs.result c.get_strs.ensures) in
    c.new.ensures ∙ ap (λ (o : Option (List (List ℕ))). unwrap_or o []) v

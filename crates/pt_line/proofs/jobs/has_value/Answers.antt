use Rattle.std.proofs.Common.{◌∙◌, ap, sym}
use Rattle.std.specs.Prelude.{is_some}
use Rattle.clap.specs.Words.{found_of}
use Rattle.pt_line.proofs.Values.{some_same, value_is}
use Rattle.pt_line.proofs.jobs.has_value.Goals as goal

pub returns : goal.returns
returns c =
    let same =
    some_same c.get_str.result ∙ ap is_some (value_is (found_of c.args.matches.now) c.args.id.now c.get_str.result c.get_str.ensures) in
    (λ is. sym same ∙ (sym c.is_some.ensures ∙ is), λ some. c.is_some.ensures ∙ (same ∙ some))

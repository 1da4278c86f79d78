use Rattle.std.proofs.Common.{ℕ, List, subst, sym}
use Rattle.std.specs.Prelude.{OnOk}
use Rattle.std.specs.Io.KnownBytes.{Appends}
use Rattle.pt_answers.proofs.Texts.{bad_line}
use Rattle.pt_answers.proofs.sentences.explain_bad_line.Goals as goal

pub returns : goal.returns
returns g c =
    subst (λ (t : List ℕ). OnOk c.writeln.result (Appends (g.E.Write.contents c.args.err.now) (g.E.Write.contents c.writeln.new.self) t))
    (sym (bad_line c.args.line)) c.writeln.ensures.bytes

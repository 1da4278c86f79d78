use Rattle.std.proofs.Common.{◌∙◌, ◌∷◌, [], ap, sym, subst, List, ℕ}
use Rattle.std.specs.Prelude.{codes, decimal, OnOk}
use Rattle.std.specs.Io.KnownBytes.{Appends}
use Rattle.pt_gpt.specs.Copies.{error_number}
use Rattle.pt_report.specs.Shown.{line}
use Rattle.pt_report.specs.Replies.{no_table_text}
use Rattle.pt_report.proofs.no_table.print_no_table.Goals as goal

pub returns-in-NoCopy : goal.returns-in-NoCopy
returns-in-NoCopy g c =
    let first = error_number c.in-NoCopy.primary in
    subst (λ (t : List ℕ). OnOk c.print_pair.result (Appends (g.E.Write.contents c.args.err.now)
    (g.E.Write.contents c.print_pair.new.err) t))
    (ap (λ (k : ℕ). line (codes "no table: copies" ∷ decimal k ∷ decimal c.from.result ∷ [])) c.number.ensures
    ∙ ap (λ (k : ℕ). line (codes "no table: copies" ∷ decimal first ∷ decimal k ∷ [])) (c.from.ensures ∙ c.number-in-NoCopy.ensures)
    ∙ ap no_table_text (sym c.in-NoCopy.is))
    c.print_pair.ensures

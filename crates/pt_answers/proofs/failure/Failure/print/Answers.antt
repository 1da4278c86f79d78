use Rattle.std.proofs.Common.{◌∙◌, ap, sym, subst, List, ℕ, IfSome, Option, Some}
use Rattle.std.specs.Prelude.{OnOk, codes}
use Rattle.std.specs.Io.KnownBytes.{Appends}
use Rattle.pt_answers.specs.Failures.{failure_text, refusal_line}
use Rattle.pt_answers.proofs.failure.Failure.print.Goals as goal

pub returns-in-Plan : goal.returns-in-Plan
returns-in-Plan g c =
    subst (λ (t : Option (List ℕ)). OnOk c.print_refusal-in-Plan.result (IfSome t (Appends (g.E.Write.contents c.args.err.now)
    (g.E.Write.contents c.print_refusal-in-Plan.new.err))))
    (ap (λ (n : ℕ). Some (refusal_line (codes "plan") n)) (c.from-in-Plan.ensures ∙ c.number-in-Plan.ensures)
    ∙ ap failure_text (sym c.in-Plan.is)) c.print_refusal-in-Plan.ensures

pub returns-in-Check : goal.returns-in-Check
returns-in-Check g c =
    subst (λ (t : Option (List ℕ)). OnOk c.print_refusal-in-Check.result (IfSome t (Appends (g.E.Write.contents c.args.err.now)
    (g.E.Write.contents c.print_refusal-in-Check.new.err))))
    (ap (λ (n : ℕ). Some (refusal_line (codes "check") n)) (c.from-in-Check.ensures ∙ c.number-in-Check.ensures)
    ∙ ap failure_text (sym c.in-Check.is)) c.print_refusal-in-Check.ensures

pub returns-in-PlanText : goal.returns-in-PlanText
returns-in-PlanText g c =
    subst (λ (t : Option (List ℕ)). OnOk c.print_refusal-in-PlanText.result (IfSome t (Appends (g.E.Write.contents c.args.err.now)
    (g.E.Write.contents c.print_refusal-in-PlanText.new.err))))
    (ap failure_text (sym c.in-PlanText.is)) c.print_refusal-in-PlanText.ensures

pub returns-in-OtherSize : goal.returns-in-OtherSize
returns-in-OtherSize g c =
    subst (λ (t : Option (List ℕ)). OnOk c.write_all-in-OtherSize.result (IfSome t (Appends (g.E.Write.contents c.args.err.now)
    (g.E.Write.contents c.write_all-in-OtherSize.new.self))))
    (ap failure_text (sym c.in-OtherSize.is)) c.write_all-in-OtherSize.ensures.bytes

use Rattle.std.proofs.Common.{◌≡◌, ◌∙◌, ◌-◌, suc, sym, arith, drop, length, length-drop}
use Rattle.std.proofs.lemmas.List.{take_all}
use Rattle.pt_drafts.specs.Digits.{digits_at_end}
use Rattle.pt_drafts.proofs.Decimals.{behind, whole}
use Rattle.pt_drafts.proofs.digits.digits_at_end.Goals.{then-loop-start-test+else-is_ascii_digit, else-loop-start-test}
use Rattle.pt_drafts.proofs.digits.digits_at_end.Goals as goal

pub returns : goal.returns
returns c =
    let text = c.args.text.now in
    let n = c.loop-start.start in
    let same : drop n text ≡ digits_at_end text = elim c.loop-start-test.branch [
      | then-loop-start-test+else-is_ascii_digit w ↦
          let one : n ≡ suc (n - 1) = omega (arith, w.loop-start-test.true) in
          sym (behind text n (n - 1) one c.loop-start.invariant.within (sym w.if-is_ascii_digit.ensures.value)
          c.loop-start.invariant.digits)
      | else-loop-start-test w ↦
          let none : n ≡ 0 = omega (arith, w.loop-start-test.false) in
          rw none (sym (whole text (rw none at c.loop-start.invariant.digits)))
    ] in
    take_all (length text - n) (drop n text) (simp length-drop (omega arith)) ∙ same

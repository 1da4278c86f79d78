use Rattle.std.proofs.Common.{◌≡◌, ◌+◌, arith, sym, ◌∙◌}
use Rattle.std.specs.Option.{is_some}
use Rattle.std.proofs.lemmas.List.Sums.{count_by_more_yes, count_by_more_no}
use Rattle.pt_mbr.specs.declared.ebr.Ebr.{Ebr}
use Rattle.pt_members.specs.Members.{used_before, no_ebr}
use Rattle.pt_members.proofs.slots.logical_number.Goals.{then-is_some, else-is_some}
use Rattle.pt_members.proofs.slots.logical_number.Goals as goal

pub loop-i-preserved : goal.loop-i-preserved
loop-i-preserved c =
    let so_far : c.loop-i.number ≡ 5 + used_before c.loop-i.i c.args.chain.now = c.loop-i.invariant in
    elim c.if-is_some.branch as (λ _. c.if-is_some.number ≡ 5 + used_before (c.loop-i.i + 1) c.args.chain.now) [
      | then-is_some w ↦ omega (
        arith,
        so_far,
        w.number-is,
        count_by_more_yes (λ (e : Ebr). is_some e.logical) c.args.chain.now c.loop-i.i
            no_ebr (omega (arith, c.loop-i-test.true, c.requires)) (sym c.is_some.ensures ∙ w.if-is_some.true),
      )
      | else-is_some w ↦ omega (
        arith,
        so_far,
        w.number-is,
        count_by_more_no (λ (e : Ebr). is_some e.logical) c.args.chain.now c.loop-i.i
            no_ebr (omega (arith, c.loop-i-test.true, c.requires)) (sym c.is_some.ensures ∙ w.if-is_some.false),
      )
    ]

use Rattle.std.proofs.Common.{◌≡◌, ◌∙◌, ℕ, ◌-◌, ◌+◌, ap, arith}
use Rattle.std.specs.Prelude.{fold, string_bytes}
use Rattle.pt_tables.specs.Entries.{from_on, with_own}
use Rattle.pt_tables.proofs.Listed.{next_bit, no_bit}
use Rattle.pt_tables.proofs.attributes.own.Goals as goal

pub loop-bit-preserved : goal.loop-bit-preserved
loop-bit-preserved c =
    let left : 64 - c.loop-bit.bit - 1 ≡ 64 - (c.loop-bit.bit + 1) = omega arith in
    next_bit _ _ (64 - c.loop-bit.bit) _ _ _ (omega (arith, c.loop-bit-test.true)) c.loop-bit.invariant c.in_ok-add_own.ensures
    ∙ ap (λ (n : ℕ). fold (with_own c.args.attributes) (string_bytes c.add_own.new.text) (from_on (c.loop-bit.bit + 1) n)) left

pub returns : goal.returns
returns c = no_bit _ _ (64 - c.loop-bit.bit) _ _ (omega (arith, c.loop-bit-test.false)) c.loop-bit.invariant

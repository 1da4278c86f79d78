use Rattle.std.proofs.Common.{◌≡◌, ◌<◌, ◌≤◌, ◌+◌, ◌-◌, ◌∙◌, ℕ, Bool, true, false, not, length, Option, ap, subst, sym, arith}
use Rattle.std.specs.Prelude.{is_none}
use Rattle.pt_gpt.specs.declared.entry.Entry.{Entry}
use Rattle.pt_edit.specs.Entries.{is_unused}
use Rattle.pt_edit.proofs.Ranges.{found_in_range, none_in_range}
use Rattle.pt_edit.proofs.new_entry.lowest_unused.Goals as goal

from_one : (p : ℕ → Bool) (k j : ℕ) → ((i : ℕ) → i < k → p (i + 1) ≡ false) → 1 ≤ j → j < k + 1 → p j ≡ false
from_one p k j below low high =
    let e : j - 1 + 1 ≡ j = omega arith in subst (λ (m : ℕ). p m ≡ false) e (below (j - 1) (omega arith))

pub returns-then-is_none-clause-value : goal.returns-then-is_none-clause-value
returns-then-is_none-clause-value c =
    let p = is_unused c.args.table.now.entries in
    let i = c.loop-index.index in
    let back : i + 1 - 1 ≡ i = omega arith in
    let here : p (i + 1) ≡ true =
    rw back (ap (λ (o : Option Entry). is_none o) (sym c.get.ensures) ∙ ap not c.if-is_none.ensures) in
    sym (found_in_range p 1 (length c.args.table.now.entries) (c.loop-index.index + 1) (omega arith) (omega arith)
    (λ j low high. from_one p c.loop-index.index j c.loop-index.invariant low high) here)

pub returns-clause-value : goal.returns-clause-value
returns-clause-value c =
    let p = is_unused c.args.table.now.entries in
    sym (none_in_range p 1 (length c.args.table.now.entries)
    (λ j low high. from_one p c.loop-index.index j c.loop-index.invariant low (omega arith)))

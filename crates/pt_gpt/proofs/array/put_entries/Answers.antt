use Rattle.std.proofs.Common.{◌∙◌, ◌+◌, ◌*◌, ◌++◌, List, ℕ, take, sym, ap, refl, arith}
use Rattle.std.specs.Prelude.{Option}
use Rattle.pt_gpt.specs.Entries.{entry_bytes}
use Rattle.pt_gpt.specs.Copies.{entries_bytes}
use Rattle.pt_gpt.specs.declared.entry.Entry.{Entry}
use Rattle.pt_gpt.proofs.ArraySteps.{no_entries, next_entry, put_next}
use Rattle.pt_gpt.proofs.array.put_entries.Goals as goal

pub loop-k-init : goal.loop-k-init
loop-k-init c = record { long = refl; done = sym (no_entries c.args.entries.now c.args.first) }

pub loop-k-preserved : goal.loop-k-preserved
loop-k-preserved c =
    let before = c.loop-k.invariant in
    let k = c.loop-k.k in
    let es = c.args.entries.now in
    let put = c.put_entry.ensures in
    let x = c.loop-k.bytes in
    let new = entry_bytes c.entry_or_none.result in
    let same = ap (λ (o : Option Entry). entry_bytes o) c.entry_or_none.ensures in
    record {
      long = omega (arith, before.long);
      done = ap (take ((k + 1) * 128)) put.put ∙ put_next k new x put.long (omega arith) ∙ ap (λ (t : List ℕ). t ++ new) before.done
          ∙ ap (λ (t : List ℕ). entries_bytes es c.args.first k ++ t) same ∙ sym (next_entry es c.args.first k);
    }

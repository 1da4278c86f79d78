use Rattle.std.proofs.Common.{◌≡◌, ◌∙◌, ◌+◌, ◌++◌, List, ℕ, sym, ap, arith, zero-add}
use Rattle.std.specs.Prelude.{slice_index_or, None}
use Rattle.pt_sum.specs.Sums.{after_bytes}
use Rattle.pt_sum.proofs.Terms.{after_bytes-append}
use Rattle.pt_gpt.specs.Entries.{entry_bytes}
use Rattle.pt_gpt.specs.Copies.{entries_bytes}
use Rattle.pt_gpt.proofs.ArraySteps.{no_entries, next_entry, fits_next}
use Rattle.pt_gpt.proofs.array.array_crc.Goals as goal

pub loop-entry-init : goal.loop-entry-init
loop-entry-init c =
    record {
      sum = c.new-sum.ensures ∙ ap (after_bytes 0xFFFFFFFF) (sym (no_entries c.args.entries.now 0));
      fits = λ j lt. absurd (omega arith);
    }

pub loop-entry-preserved : goal.loop-entry-preserved
loop-entry-preserved c =
    let before = c.loop-entry.invariant in
    let n = c.loop-entry.entry-index in
    let es = c.args.entries.now in
    let one = c.bytes_of.ensures in
    let here = entry_bytes (slice_index_or es n None) in
    let next : entries_bytes es 0 (n + 1) ≡ entries_bytes es 0 n ++ here =
    next_entry es 0 n ∙ ap (λ (i : ℕ). entries_bytes es 0 n ++ entry_bytes (slice_index_or es i None)) (zero-add n) in
    record {
      sum = rw (next, after_bytes-append 0xFFFFFFFF (entries_bytes es 0 n) here)
          (c.update.ensures ∙ ap (λ (bytes : List ℕ). after_bytes c.loop-entry.sum bytes) one.bytes
          ∙ ap (λ (r : ℕ). after_bytes r here) before.sum);
      fits = fits_next es n before.fits one.fits;
    }

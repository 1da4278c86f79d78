use Rattle.std.proofs.Common.{◌≡◌, ◌∙◌, ◌*◌, ◌<◌, ◌++◌, length, sym, ap, subst, arith, List, ℕ, None}
use Rattle.std.specs.Prelude.{slice_index_or, vec_len, IfSome}
use Rattle.pt_sum.specs.Sums.{crc_of}
use Rattle.pt_gpt.specs.Entries.{EntryFits}
use Rattle.pt_gpt.specs.Copies.{entries_bytes, array_bytes}
use Rattle.pt_gpt.proofs.ArraySteps.{no_entries, first_next, long_next, fits_next, whole_array, whole_long}
use Rattle.pt_gpt.proofs.array.encode_array.Goals as goal

pub loop-entry-init : goal.loop-entry-init
loop-entry-init c = record {
  items = c.in_ok-bytes.ensures.items ∙ sym (no_entries c.args.entries.now 0);
  len = omega (arith, c.in_ok-bytes.ensures.len);
  long = ap (λ (t : List ℕ). length t) (no_entries c.args.entries.now 0);
  fits = λ j lt. absurd (omega (arith, lt));
}

pub loop-entry-preserved : goal.loop-entry-preserved
loop-entry-preserved c =
    let es = c.args.entries.now in
    let n = c.loop-entry.entry-index in
    let before = c.loop-entry.invariant in
    let one = c.bytes_of.ensures in
    let pushed = c.in_ok-extend_from_slice.ensures in
    record {
      items = pushed.items
          ∙ ap (λ (t : List ℕ). t ++ c.bytes_of.result) before.items
          ∙ ap (λ (t : List ℕ). entries_bytes es 0 n ++ t) one.bytes
          ∙ sym (first_next es n);
      len = omega (arith, pushed.len, before.len);
      long = long_next es n before.long one.long;
      fits = fits_next es n before.fits one.fits;
    }

pub returns : goal.returns
returns c =
    let es = c.args.entries.now in
    let before = c.loop-entry.invariant in
    let x = c.loop-entry.bytes.items in
    let y = c.resize.new.self.items in
    let all : c.loop-entry.entry-index ≡ length es = omega arith in
    let is : x ≡ array_bytes es = subst (λ (n : ℕ). x ≡ entries_bytes es 0 n) all before.items in
    let long : length (array_bytes es) ≡ length es * 128 = subst (λ (n : ℕ). length (entries_bytes es 0 n) ≡ n * 128) all before.long in
    let len : vec_len c.loop-entry.bytes ≡ length es * 128 = omega (arith, before.len, all) in
    record {
      bytes = whole_array es (vec_len c.loop-entry.bytes) x y c.requires len is long c.in_ok-resize.ensures.items;
      long = whole_long es (vec_len c.loop-entry.bytes) x y c.requires len is long c.in_ok-resize.ensures.items;
      crc = c.crc32-crc.ensures ∙ ap (λ (t : List ℕ). crc_of t) (c.deref.ensures.value ∙ is);
      fit = subst (λ (n : ℕ). (j : ℕ) → j < n → IfSome (slice_index_or es j None) EntryFits) all before.fits;
    }

use Rattle.std.proofs.Common.{◌≡◌, ◌∙◌, ◌<◌, ◌/◌, ◌++◌, ℕ, List, length, ap, refl, subst, arith}
use Rattle.pt_apply.specs.Plans.{writes_of}
use Rattle.pt_gpt.specs.Copies.{array_len}
use Rattle.pt_cases.specs.Writes.{array_writes}
use Rattle.pt_planner.proofs.Assembling.{array_begins, array_on}
use Rattle.pt_planner.proofs.ArraySectors.{sector_is}
use Rattle.pt_planner.proofs.copies.parts.push_array.Goals as goal

pub loop-k-init : goal.loop-k-init
loop-k-init g c = record {
  so_far = λ es encoded.
      ap writes_of c.in_ok-reserve.ensures.items ∙ array_begins g.row.B es c.args.at (writes_of c.args.writes.now.items);
  room = omega (arith, c.in_ok-reserve.ensures.ok);
}

pub loop-k-preserved : goal.loop-k-preserved
loop-k-preserved g c =
    let b = g.row.B in
    let bytes = c.deref.result.now in
    let long : length bytes ≡ 16384 = ap (λ (t : List ℕ). length t) c.deref.ensures.value ∙ c.requires.long in
    let many : length c.as_chunks.result.0.now ≡ array_len b =
    c.as_chunks.ensures.front_len ∙ ap (λ (n : ℕ). n / b) long in
    let within : c.loop-k.k < array_len b = omega (arith, c.loop-k-test.true, many) in
    record {
      so_far = λ es encoded.
          ap writes_of c.push_reserved.ensures.items
          ∙ array_on b es c.args.at c.loop-k.k (writes_of c.args.writes.now.items) c.loop-k.writes.items _
          (c.loop-k.invariant.so_far es encoded) refl
          (c.index-sectors-k.is ∙ sector_is b es c.args.array.now bytes c.as_chunks.result.0.now c.loop-k.k _ c.requires.size encoded
          c.deref.ensures.value c.as_chunks.ensures.front within);
      room = omega (arith, c.loop-k.invariant.room, c.push_reserved.ensures.len, c.push_reserved.ensures.capacity);
    }

pub returns : goal.returns
returns g c = λ es encoded.
    let b = g.row.B in
    let long : length c.deref.result.now ≡ 16384 = ap (λ (t : List ℕ). length t) c.deref.ensures.value ∙ c.requires.long in
    let many : length c.as_chunks.result.0.now ≡ array_len b =
    c.as_chunks.ensures.front_len ∙ ap (λ (n : ℕ). n / b) long in
    let all : c.loop-k.k ≡ length c.as_chunks.result.0.now = omega arith in
    subst (λ (k : ℕ). writes_of c.loop-k.writes.items ≡ writes_of c.args.writes.now.items ++ array_writes b es c.args.at k)
    (all ∙ many) (c.loop-k.invariant.so_far es encoded)

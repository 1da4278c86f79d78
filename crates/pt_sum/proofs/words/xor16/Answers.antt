use Rattle.std.proofs.Common.{◌≡◌, ℕ, ◌+◌, ◌*◌, ◌<◌, List, length, get_or, drop, fold, arith}
use Rattle.std.specs.Prelude.{bit_xor}
use Rattle.std.proofs.lemmas.List.{drop_more, drop_all}
use Rattle.pt_sum.specs.Sums.{words, xor_of}
use Rattle.pt_sum.proofs.words.xor16.Goals as goal

words_more : (xs : List ℕ) (i sum total : ℕ) → 2 * i + 1 < length xs → fold bit_xor sum (words (drop (2 * i) xs)) ≡ total
    → fold bit_xor (bit_xor sum (get_or xs (2 * i) 0 + 256 * get_or xs (2 * i + 1) 0)) (words (drop (2 * (i + 1)) xs)) ≡ total
unfolding words
words_more xs i sum total within before =
    let first = drop_more xs (2 * i) 0 (omega arith) in
    let second = drop_more xs (2 * i + 1) 0 within in
    let at : 2 * (i + 1) ≡ 2 * i + 1 + 1 = omega arith in
    let both = rw (first, second) at before in
    rw at both

pub loop-i-preserved : goal.loop-i-preserved
loop-i-preserved c =
    let b = c.args.bytes.now in
    let i = c.loop-i.i in
    let e : c.from_le_bytes-sum.result ≡ get_or b (2 * i) 0 + 256 * get_or b (2 * i + 1) 0 = omega arith in
    rw e (words_more b i c.loop-i.sum (xor_of b) (omega arith) c.loop-i.invariant)

pub returns : goal.returns
unfolding words
returns c =
    let none = drop_all (2 * c.loop-i.i) c.args.bytes.now (omega arith) in
    rw none at c.loop-i.invariant

use Rattle.std.proofs.Common.{◌∙◌, ap, inl, lit≤, arith}
use Rattle.byteorder.specs.Endian.{little_number}
use Rattle.pt_bsd.specs.Labels.{place_of}
use Rattle.pt_bsd.proofs.Parts.{range_kept, changes_wider, changes_both}
use Rattle.pt_bsd.proofs.Written.{written}
use Rattle.pt_bsd.proofs.encode.write_label.Goals as goal

pub put_sum-requires-clause-none_yet : goal.put_sum-requires-clause-none_yet
put_sum-requires-clause-none_yet c =
    ap (little_number 2) (range_kept 148
    (place_of c.count_in-count.result) 136 138 c.put_front.new.bytes c.put_entries.new.bytes c.put_entries.ensures.only (lit≤ tt)
    (inl (lit≤ tt)))
    ∙ c.put_front.ensures.front.sum

pub returns-clause-label : goal.returns-clause-label
returns-clause-label c = λ counted first len fits.
    written c.args.label.now c.count_in-count.result first len c.put_front.new.bytes c.put_entries.new.bytes c.put_sum.new.bytes
    c.count_in-count.ensures.count c.count_in-count.ensures.most
    c.put_front.ensures.front c.put_entries.ensures c.put_sum.ensures.only c.put_sum.ensures.sum counted fits

pub returns-clause-rest : goal.returns-clause-rest
returns-clause-rest c =
    let n = c.count_in-count.result in
    let old = c.args.bytes.now in
    let a = c.put_front.new.bytes in
    let b = c.put_entries.new.bytes in
    let new = c.put_sum.new.bytes in
    let one = changes_wider 0 148 0 (place_of n) old a (omega arith) (omega arith) c.put_front.ensures.only in
    let two = changes_wider 148 (place_of n) 0 (place_of n) a b (omega arith) (omega arith) c.put_entries.ensures.only in
    let three = changes_wider 136 138 0 (place_of n) b new (omega arith) (omega arith) c.put_sum.ensures.only in
    let all = changes_both 0 (place_of n) old b new (changes_both 0 (place_of n) old a b one two) three in
    rw c.count_in-count.ensures.count at all.behind

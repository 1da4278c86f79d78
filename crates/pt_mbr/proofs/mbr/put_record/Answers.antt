use Rattle.std.proofs.Common.{arith, sym, ap, ◌∙◌, ◌+◌, ℕ, List, length, drop}
use Rattle.std.specs.Prelude.{slice_index}
use Rattle.pt_mbr.specs.Records.{place_of}
use Rattle.pt_mbr.proofs.Encoding.{put_here, put_other, range_put, fields_put, record_put, places_apart}
use Rattle.pt_mbr.proofs.Kept.{record_kept}
use Rattle.pt_mbr.proofs.mbr.put_record.Goals as goal

pub returns-clause-other : goal.returns-clause-other
returns-clause-other g c i away =
    ap (λ (s : List ℕ). slice_index s i) c.put_part.ensures.put
    ∙ put_other (place_of c.args.k) i 16 c.encoded.result c.args.sector.now (omega arith) (omega (arith, c.encoded.type_inv)) away

pub returns-clause-bytes : goal.returns-clause-bytes
returns-clause-bytes g c =
    let at = place_of c.args.k in
    let here = ap (λ (s : List ℕ). drop at s) c.put_part.ensures.put ∙ put_here at c.encoded.result c.args.sector.now (omega arith) in
    range_put at c.encoded.result c.put_part.result (drop (at + length c.encoded.result) c.args.sector.now)
    (omega (arith, c.encoded.type_inv)) here ∙ c.encoded.ensures.bytes

pub returns-clause-fields : goal.returns-clause-fields
returns-clause-fields g c =
    let at = place_of c.args.k in
    let here = ap (λ (s : List ℕ). drop at s) c.put_part.ensures.put ∙ put_here at c.encoded.result c.args.sector.now (omega arith) in
    fields_put c.args.value at c.put_part.result (drop (at + length c.encoded.result) c.args.sector.now)
    (rw (sym c.encoded.ensures.bytes) here) c.encoded.ensures.fits

pub returns-clause-read : goal.returns-clause-read
returns-clause-read g c = record_put c.args.value (place_of c.args.k) c.put_part.result (returns-clause-fields g c)

pub returns-clause-kept : goal.returns-clause-kept
returns-clause-kept g c j p few other is =
    record_kept p (place_of j) c.args.sector.now c.put_part.result (omega arith) (omega arith)
    (λ i low high. returns-clause-other g c i (places_apart j c.args.k i other low high)) is

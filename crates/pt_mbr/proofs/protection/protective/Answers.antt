use Rattle.std.proofs.Common.{arith, ap, sym, ◌∙◌, ◌+◌, ℕ, List, length, drop}
use Rattle.std.specs.Prelude.{slice_index}
use Rattle.pt_mbr.specs.Records.{put_at}
use Rattle.pt_mbr.proofs.Encoding.{put_here, put_other}
use Rattle.pt_mbr.proofs.Guarding.{protects, is_those, stays}
use Rattle.pt_mbr.proofs.protection.protective.Goals as goal

pub returns-clause-protective : goal.returns-clause-protective
returns-clause-protective g c =
    let here = ap (λ (s : List ℕ). drop 446 s) c.put_part.ensures.put ∙ put_here 446 c.bytes_for.result c.args.sector.now (omega arith) in
    protects c.args.sectors c.put_part.result (drop (446 + length c.bytes_for.result) c.args.sector.now) (rw (sym c.bytes_for.ensures) here)

pub returns-clause-same : goal.returns-clause-same
returns-clause-same g c is =
    let count = ap (λ (l : List ℕ). length l) (sym c.bytes_for.ensures) in
    c.put_part.ensures.put ∙ ap (λ (l : List ℕ). put_at 446 l c.args.sector.now) c.bytes_for.ensures
    ∙ stays c.args.sectors c.args.sector.now (omega (arith, count, c.bytes_for.type_inv))
    (is_those c.args.sectors c.args.sector.now (omega arith) (λ i. c.put_part.ensures.fits i) is)

pub returns-clause-other : goal.returns-clause-other
returns-clause-other g c i away =
    ap (λ (s : List ℕ). slice_index s i) c.put_part.ensures.put
    ∙ put_other 446 i 66 c.bytes_for.result c.args.sector.now (omega arith) (omega (arith, c.bytes_for.type_inv)) away

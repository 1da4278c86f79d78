use Rattle.std.proofs.Common.{rules, None, arith}
use Rattle.pt_mbr.specs.Records.{IsExtendedKind}
use Rattle.pt_mbr.proofs.Lone.{one_here, other_here}
use Rattle.pt_mbr.proofs.extended.extended_at.Goals as goal

pub returns-then-is_extended_kind : goal.returns-then-is_extended_kind
returns-then-is_extended_kind c =
    let kind : IsExtendedKind c.in-Some.r.kind = search rules in
    one_here c.args.records.now c.args.k None c.in-Some.r (omega (arith, c.told-records)) c.in-Some.is kind

pub returns-else-is_extended_kind : goal.returns-else-is_extended_kind
returns-else-is_extended_kind c =
    let kind : ¬ IsExtendedKind c.in-Some.r.kind = search rules in
    other_here c.args.records.now c.args.k None c.in-Some.r (omega (arith, c.told-records)) c.in-Some.is kind

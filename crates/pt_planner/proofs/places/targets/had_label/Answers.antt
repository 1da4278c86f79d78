use Rattle.std.proofs.Common.{◌∙◌, ◌<◌, List, length, get_or, ltb, ap, subst, rules, arith}
use Rattle.std.proofs.lemmas.List.{get_or_default}
use Rattle.std.proofs.lemmas.List.Elements.{Contains-get_or}
use Rattle.std.proofs.lemmas.List.Sorted.{IsPartitionPoint-from_clause, IsPartitionedBy-ltb}
use Rattle.pt_members.specs.declared.layout.Slice.{Slice}
use Rattle.pt_planner.proofs.Pieces.{NotHad, none_had}
use Rattle.pt_planner.proofs.ByFirst.{IsPoint, no_slice, none_below, none_next, none_above}
use Rattle.pt_planner.proofs.places.targets.had_label.Goals as goal

pub loop-k-init : goal.loop-k-init
loop-k-init g c =
    let ss : List Slice = c.args.old.now in
    let f = c.args.slice.first in
    let i = c.partition_point-begin.result in
    let point : IsPoint ss f i =
    IsPartitionPoint-from_clause (λ y. ltb y.first f) ss i c.partition_point-begin.ensures.partitioned
    (IsPartitionedBy-ltb (λ y. y.first) ss f c.requires.ascend) (λ a r q k. search rules) in
    none_below ss f i c.args.bytes.now point

pub loop-k-preserved : goal.loop-k-preserved
loop-k-preserved g c =
    let lt : c.loop-k.k < length c.args.old.now = omega arith in
    none_next c.args.old.now c.args.slice.first c.loop-k.k c.args.bytes.now
    (λ d. subst (λ (s : Slice). NotHad c.args.slice.first c.args.bytes.now s) (get_or_default c.args.old.now c.loop-k.k no_slice d lt)
    c.in-None.ensures) c.loop-k.invariant

pub returns-then-old-k : goal.returns-then-old-k
returns-then-old-k g c =
    let ss : List Slice = c.args.old.now in
    let f = c.args.slice.first in
    let i = c.partition_point-begin.result in
    let lt : c.loop-k.k < length ss = omega arith in
    let point : IsPoint ss f i =
    IsPartitionPoint-from_clause (λ y. ltb y.first f) ss i c.partition_point-begin.ensures.partitioned
    (IsPartitionedBy-ltb (λ y. y.first) ss f c.requires.ascend) (λ a r q k. search rules) in
    none_had ss f c.args.bytes.now
    (none_above ss f i c.loop-k.k c.args.bytes.now c.requires.ascend point (omega arith) lt
    (λ d same. c.if-old-k.true (ap (λ (s : Slice). s.first) (get_or_default ss c.loop-k.k no_slice d lt) ∙ same)) c.loop-k.invariant)

pub returns : goal.returns
returns g c =
    none_had c.args.old.now c.args.slice.first c.args.bytes.now
    (λ k d lt. c.loop-k.invariant k d (omega arith) (omega (arith, lt)))

pub returns-in-Some : goal.returns-in-Some
returns-in-Some g c = record {
  slice = get_or c.args.old.now c.loop-k.k no_slice;
  stands = Contains-get_or c.args.old.now c.loop-k.k no_slice (omega arith);
  start = c.in-Some.ensures.0;
  label = c.in-Some.ensures.1;
}

use Rattle.std.proofs.Common.{List, ltb, rules}
use Rattle.std.proofs.lemmas.List.Sorted.{IsPartitionPoint-from_clause, IsPartitionedBy-ltb}
use Rattle.pt_members.specs.declared.layout.Labelled.{Labelled}
use Rattle.pt_members.proofs.Ascending.{IsPoint, among_here, among_other, among_none}
use Rattle.pt_members.proofs.slots.label_among.Goals as goal

pub returns-then-it-number : goal.returns-then-it-number
returns-then-it-number c =
    let ls : List Labelled = c.args.labels.now in
    let point : IsPoint ls c.args.number c.partition_point-at.result =
    IsPartitionPoint-from_clause (λ y. ltb y.number c.args.number) ls c.partition_point-at.result c.partition_point-at.ensures.partitioned
    (IsPartitionedBy-ltb (λ y. y.number) ls c.args.number c.requires) (λ a r q k. search rules) in
    among_here ls c.args.number c.partition_point-at.result c.in-Some.it.now point c.in-Some.ensures.lookup.3.0
    c.in-Some.ensures.lookup.3.1 c.if-it-number.true

pub returns-else-it-number : goal.returns-else-it-number
returns-else-it-number c =
    let ls : List Labelled = c.args.labels.now in
    let point : IsPoint ls c.args.number c.partition_point-at.result =
    IsPartitionPoint-from_clause (λ y. ltb y.number c.args.number) ls c.partition_point-at.result c.partition_point-at.ensures.partitioned
    (IsPartitionedBy-ltb (λ y. y.number) ls c.args.number c.requires) (λ a r q k. search rules) in
    among_other ls c.args.number c.partition_point-at.result c.in-Some.it.now c.requires point c.in-Some.ensures.lookup.3.0
    c.in-Some.ensures.lookup.3.1 c.if-it-number.false

pub returns-in-None : goal.returns-in-None
returns-in-None c =
    let ls : List Labelled = c.args.labels.now in
    let point : IsPoint ls c.args.number c.partition_point-at.result =
    IsPartitionPoint-from_clause (λ y. ltb y.number c.args.number) ls c.partition_point-at.result c.partition_point-at.ensures.partitioned
    (IsPartitionedBy-ltb (λ y. y.number) ls c.args.number c.requires) (λ a r q k. search rules) in
    among_none ls c.args.number c.partition_point-at.result point c.in-None.ensures.lookup.3

use Rattle.std.proofs.Common.{List, ℕ, ltb, rules}
use Rattle.std.proofs.lemmas.List.Sorted.{IsPartitionPoint-from_clause, IsPartitionedBy-ltb}
use Rattle.pt_members.proofs.Listed.{IsPoint, next_some, next_none}
use Rattle.pt_members.proofs.alone.next_among.Goals as goal

pub returns-in-Some : goal.returns-in-Some
returns-in-Some c =
    let xs : List ℕ = c.args.sectors.now in
    let point : IsPoint xs c.args.from c.partition_point-at.result =
    IsPartitionPoint-from_clause (λ y. ltb y c.args.from) xs c.partition_point-at.result c.partition_point-at.ensures.partitioned
    (IsPartitionedBy-ltb (λ y. y) xs c.args.from c.requires) (λ a r q k. search rules) in
    next_some xs c.partition_point-at.result c.args.from c.in-Some.lba.now c.requires point c.in-Some.ensures.lookup.3.0
    c.in-Some.ensures.lookup.3.1

pub returns-in-None : goal.returns-in-None
returns-in-None c =
    let xs : List ℕ = c.args.sectors.now in
    let point : IsPoint xs c.args.from c.partition_point-at.result =
    IsPartitionPoint-from_clause (λ y. ltb y c.args.from) xs c.partition_point-at.result c.partition_point-at.ensures.partitioned
    (IsPartitionedBy-ltb (λ y. y) xs c.args.from c.requires) (λ a r q k. search rules) in
    next_none xs c.partition_point-at.result c.args.from point c.in-None.ensures.lookup.3

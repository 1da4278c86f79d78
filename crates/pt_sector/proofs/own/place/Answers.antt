use Rattle.std.proofs.Common.{rules, []}
use Rattle.std.proofs.lemmas.List.Sorted.{answers_always}
use Rattle.pt_sector.proofs.InOrder.{searched}
use Rattle.pt_sector.proofs.own.place.Goals as goal

pub returns-clause-found : goal.returns-clause-found
returns-clause-found c =
    let facts = c.binary_search_by_key.ensures in
    let by_sector = facts.position (λ put. put.lba.0) (answers_always _ _ _ (λ f a r q called. search rules)) in
    (searched c.args.puts.now [] c.requires.sorted c.args.lba.0 _ facts.bound by_sector).found

pub returns-clause-absent : goal.returns-clause-absent
returns-clause-absent c =
    let facts = c.binary_search_by_key.ensures in
    let by_sector = facts.position (λ put. put.lba.0) (answers_always _ _ _ (λ f a r q called. search rules)) in
    (searched c.args.puts.now [] c.requires.sorted c.args.lba.0 _ facts.bound by_sector).absent

use Rattle.std.proofs.Common.{◌≡◌, ◌-◌, ℕ, List, ltb, sym, subst, arith, rules}
use Rattle.std.proofs.lemmas.Bool.{ltb-true}
use Rattle.std.proofs.lemmas.List.Sorted.{IsPartitionPoint-from_clause, IsPartitionedBy-ltb}
use Rattle.pt_recover.specs.inner.Spans.{joined, StandsBefore}
use Rattle.pt_recover.specs.declared.trace.TracedRun.{TracedRun}
use Rattle.pt_recover.proofs.Joined.{stands_searched}
use Rattle.pt_recover.proofs.Searched.{lasts_rise, IsPoint}
use Rattle.pt_recover.proofs.trace.place_below.Goals as goal

pub returns-clause-stands : goal.returns-clause-stands
returns-clause-stands c =
    let rs : List TracedRun = c.args.runs.now in
    let i = c.partition_point-ended.result in
    let point : IsPoint rs c.args.new.now.first i =
    IsPartitionPoint-from_clause (λ r. ltb r.last c.args.new.now.first) rs i c.partition_point-ended.ensures.partitioned
    (IsPartitionedBy-ltb (λ r. r.last) rs c.args.new.now.first (lasts_rise rs c.requires)) (λ a r q k. search rules) in
    let before : c.saturating_sub.result ≡ i - 1 = search rules in
    subst (λ (n : ℕ). StandsBefore (joined c.args.new.now rs) rs n c.args.new.now) (sym before)
    (stands_searched c.args.new.now rs i c.requires c.partition_point-ended.ensures.bound
    (λ k d lt. ltb-true _ c.args.new.now.first (point.0 k d (omega arith) lt)))

use Rattle.std.proofs.Common.{◌≡◌, ◌∙◌, sym, subst, List, ltb, leb, rules}
use Rattle.std.specs.Bool.{Decides}
use Rattle.std.proofs.lemmas.List.Sorted.{IsPartitionPoint-from_clause, IsPartitionedBy-ltb}
use Rattle.pt_recover.specs.Spans.{IsIn, Apart}
use Rattle.pt_recover.specs.declared.trace.TracedRun.{TracedRun}
use Rattle.pt_recover.proofs.Searched.{lasts_rise, IsPoint, search_some, search_none}
use Rattle.pt_recover.proofs.trace.Trace.contains.Goals as goal

pub returns-in-Some : goal.returns-in-Some
returns-in-Some c =
    let rs : List TracedRun = c.deref.result.now in
    let apart : Apart rs = subst (λ (l : List TracedRun). Apart l) (sym c.deref.ensures.value) c.self.invariant in
    let point : IsPoint rs c.args.lba.0 c.partition_point-at.result =
    IsPartitionPoint-from_clause
    (λ r. ltb r.last c.args.lba.0) rs c.partition_point-at.result c.partition_point-at.ensures.partitioned
    (IsPartitionedBy-ltb (λ r. r.last) rs c.args.lba.0 (lasts_rise rs apart)) (λ a r q k. search rules) in
    let there : c.deref-2.result.now ≡ c.self.inside.runs.items = c.deref-2.ensures.value in
    let found = search_some c.deref-2.result.now c.partition_point-at.result c.args.lba.0 c.in-Some.run'.now
    (subst (λ (l : List TracedRun). Apart l) (sym there) c.self.invariant)
    (subst (λ (l : List TracedRun). IsPoint l c.args.lba.0 c.partition_point-at.result) (c.deref.ensures.value ∙ sym there) point)
    c.in-Some.ensures.lookup.3.0 c.in-Some.ensures.lookup.3.1 in
    subst (λ (l : List TracedRun). Decides (leb c.in-Some.run'.now.first c.args.lba.0) (IsIn l c.args.lba.0)) (there ∙ c.self.view_is) found

pub returns-in-None : goal.returns-in-None
returns-in-None c =
    let rs : List TracedRun = c.deref.result.now in
    let apart : Apart rs = subst (λ (l : List TracedRun). Apart l) (sym c.deref.ensures.value) c.self.invariant in
    let point : IsPoint rs c.args.lba.0 c.partition_point-at.result =
    IsPartitionPoint-from_clause
    (λ r. ltb r.last c.args.lba.0) rs c.partition_point-at.result c.partition_point-at.ensures.partitioned
    (IsPartitionedBy-ltb (λ r. r.last) rs c.args.lba.0 (lasts_rise rs apart)) (λ a r q k. search rules) in
    let there : c.deref-2.result.now ≡ c.self.inside.runs.items = c.deref-2.ensures.value in
    let none =
    search_none c.deref-2.result.now c.partition_point-at.result c.args.lba.0
    (subst (λ (l : List TracedRun). IsPoint l c.args.lba.0 c.partition_point-at.result)
    (c.deref.ensures.value ∙ sym there) point) c.in-None.ensures.lookup.3 in
    (λ f. absurd cc, λ is. absurd (none (subst (λ (l : List TracedRun). IsIn l c.args.lba.0) (sym (there ∙ c.self.view_is)) is)))

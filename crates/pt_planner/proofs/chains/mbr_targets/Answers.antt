use Rattle.std.proofs.Common.{◌≡◌, ◌<◌, ◌⊎◌, ◌∙◌, sym, ap, subst, ℕ, List, [], ◌∷◌, ◌++◌, length, get_or, arith, rules, inl, inr}
use Rattle.std.proofs.lemmas.Result.{err_from_is_err_and}
use Rattle.pt_sector.specs.Device.{with_fault, Told}
use Rattle.pt_sector.specs.Overlays.{fault_of}
use Rattle.pt_sector.proofs.ReadsLemmas.{failed_more}
use Rattle.pt_sector.specs.Sectors.{Sectors}
use Rattle.pt_sector.specs.declared.disk.Fault.{Fault}
use Rattle.pt_mbr.specs.Chain.{StandsAt}
use Rattle.pt_mbr.specs.declared.ebr.Ebr.{Ebr}
use Rattle.pt_mbr.specs.Records.{extended_of}
use Rattle.pt_cases.specs.declared.targets.target.Target.{Target}
use Rattle.pt_planner.specs.inner.Places.{AreChainTargets}
use Rattle.pt_planner.specs.Places.{IsHeadOrEbr}
use Rattle.pt_cases.specs.Unplanned.{HasUnmadeEbr}
use Rattle.pt_planner.proofs.Linking.{all_on_disk, stands_on_disk}
use Rattle.pt_planner.proofs.Whole.{are_targets, has_unmade}
use Rattle.pt_planner.proofs.chains.mbr_targets.Goals as goal

below : (s n at : ℕ) (chain list : List Ebr) → list ≡ chain → at ≡ 0 → 0 < n
    → ((k : ℕ) (z : Ebr) → k < length chain → (get_or chain k z).at.0 < n) → (s ≡ at) ⊎ StandsAt s list → s < n
below s n at chain list same zero_at some each (inl here) = omega (arith, here, zero_at, some)
below s n at chain list same zero_at some each (inr stands) =
    stands_on_disk n chain s each (subst (λ (l : List Ebr). StandsAt s l) same stands)

pub push_chain-requires : goal.push_chain-requires
push_chain-requires g c =
    let all : (k : ℕ) (z : Ebr) → k < length c.args.chain.now → (get_or c.args.chain.now k z).at.0 < g.D.Disk.count c.args.disk.now =
    all_on_disk (g.D.Disk.count c.args.disk.now) (extended_of c.args.records.now) c.args.chain.now c.requires.linked in
    let there : (k : ℕ) (z : Ebr) → k < length c.as_slice-2.result.now
    → (get_or c.as_slice-2.result.now k z).at.0 < g.D.Disk.count c.args.disk.now =
    subst (λ (l : List Ebr). (k : ℕ) (z : Ebr) → k < length l → (get_or l k z).at.0 < g.D.Disk.count c.args.disk.now)
    (sym c.as_slice-2.ensures) all in (
      search rules,
      (
        c.requires.size,
        (
          c.extended_first.ensures.small,
          (λ k z lt. subst (λ (n : ℕ). (get_or c.as_slice-2.result.now k z).at.0 < n) (sym c.in_ok-push_head.ensures.same.same_count)
              (there k z lt)),
        ),
      ),
    )

pub returns-in_err-push_head : goal.returns-in_err-push_head
returns-in_err-push_head g c =
    let p = err_from_is_err_and c.from_residual.result c.from_residual.ensures.1 in
    record {
      same = c.in_err-push_head.ensures.same;
      blames = rw (p.1, p.2) c.in_err-push_head.ensures.blames;
      failed = rw (p.1, p.2) (failed_more (λ s. s ≡ 0) (IsHeadOrEbr c.args.chain.now) c.in_err-push_head.field-0.0 (λ s is. inl is)
          c.in_err-push_head.ensures.failed);
      in_range = rw p.1 tt;
      some = λ tells. rw p.1 tt;
      none = λ tells. rw p.1 tt;
    }

pub returns-then-not-branch : goal.returns-then-not-branch
returns-then-not-branch g c = record {
  same = c.in_ok-push_head.ensures.same;
  blames = c.in_ok-push_head.ensures.blames;
  failed = tt;
  in_range = tt;
  some = λ tells. tt;
  none = λ tells. inl (c.in_ok-push_head.ensures.none tells c.if-not-branch.true);
}

pub returns-in_err-push_chain : goal.returns-in_err-push_chain
returns-in_err-push_chain g c =
    let p = err_from_is_err_and c.from_residual-in_err-push_chain.result c.from_residual-in_err-push_chain.ensures.1 in
    record {
      same = g.met.D.Disk.reads_on c.args.disk.now c.push_head.new.disk c.push_chain.new.disk c.in_ok-push_head.ensures.same
          c.in_err-push_chain.ensures.same;
      blames = rw (p.1, p.2) (subst
          (λ (l : List Fault). g.D.Disk.faults c.push_chain.new.disk ≡ with_fault l (fault_of c.in_err-push_chain.field-0.0))
          c.in_ok-push_head.ensures.blames c.in_err-push_chain.ensures.blames);
      failed = rw (p.1, p.2) (failed_more (λ s. StandsAt s c.as_slice-2.result.now) (IsHeadOrEbr c.args.chain.now)
          c.in_err-push_chain.field-0.0 (λ s at. inr (subst (λ (l : List Ebr). StandsAt s l) c.as_slice-2.ensures at))
          c.in_err-push_chain.ensures.failed);
      in_range = rw p.1 tt;
      some = λ tells. rw p.1 tt;
      none = λ tells. rw p.1 tt;
    }

pub returns-then-not-branch-2 : goal.returns-then-not-branch-2
returns-then-not-branch-2 g c = record {
  same = g.met.D.Disk.reads_on c.args.disk.now c.push_head.new.disk c.push_chain.new.disk c.in_ok-push_head.ensures.same
      c.in_ok-push_chain.ensures.same;
  blames = c.in_ok-push_chain.ensures.blames ∙ c.in_ok-push_head.ensures.blames;
  failed = tt;
  in_range = tt;
  some = λ tells. tt;
  none = λ tells.
      let d : Sectors = (g.D.Disk.told c.args.disk.now).seen in
      let first : ℕ = c.extended_first.result.0 in
      inr (has_unmade g.row.B (g.D.Disk.count c.args.disk.now) d c.args.old_chain.now
      (extended_of c.args.records.now) first c.args.chain.now c.extended_first.ensures.first c.requires.linked
      (subst (λ (l : List Ebr). HasUnmadeEbr g.row.B d l first c.args.chain.now) c.as_slice.ensures
      (subst (λ (l : List Ebr). HasUnmadeEbr g.row.B d c.as_slice.result.now first l) c.as_slice-2.ensures
      (subst (λ (t : Told). HasUnmadeEbr g.row.B t.seen c.as_slice.result.now first c.as_slice-2.result.now)
      (c.in_ok-push_head.ensures.same.same tells) (c.in_ok-push_chain.ensures.none tells c.if-not-branch-2.true)))));
}

pub returns : goal.returns
returns g c =
    let d : Sectors = (g.D.Disk.told c.args.disk.now).seen in
    let n : ℕ = g.D.Disk.count c.args.disk.now in
    let first : ℕ = c.extended_first.result.0 in
    let new : List (Target g.row.B) = c.push_chain.new.targets.items in
    let added = c.in_ok-push_head.ensures.added c.if-not-branch.false in
    let one : c.push_head.new.targets.items ≡ added.target ∷ [] =
    added.pushed ∙ ap (λ (l : List (Target g.row.B)). l ++ added.target ∷ []) c.new-targets.ensures.items in
    record {
      same = g.met.D.Disk.reads_on c.args.disk.now c.push_head.new.disk c.push_chain.new.disk c.in_ok-push_head.ensures.same
          c.in_ok-push_chain.ensures.same;
      blames = c.in_ok-push_chain.ensures.blames ∙ c.in_ok-push_head.ensures.blames;
      failed = tt;
      in_range = λ t at. below t.at.0 n added.target.at.0 c.args.chain.now c.as_slice-2.result.now c.as_slice-2.ensures added.is.0
          c.requires.some (all_on_disk n (extended_of c.args.records.now) c.args.chain.now c.requires.linked)
          (c.in_ok-push_chain.ensures.place c.if-not-branch-2.false added.target one t at);
      some = λ tells. are_targets g.row.B n d c.args.old_records.now c.args.records.now c.args.old_chain.now c.args.chain.now
          added.target first new (added.is.1 tells) c.extended_first.ensures.first c.requires.linked
          (subst (λ (l : List Ebr). AreChainTargets d added.target l first c.args.chain.now new) c.as_slice.ensures
          (subst (λ (l : List Ebr). AreChainTargets d added.target c.as_slice.result.now first l new) c.as_slice-2.ensures
          (subst (λ (t : Told). AreChainTargets t.seen added.target c.as_slice.result.now first c.as_slice-2.result.now new)
          (c.in_ok-push_head.ensures.same.same tells)
          (c.in_ok-push_chain.ensures.some tells c.if-not-branch-2.false added.target one))));
      none = λ tells. tt;
    }

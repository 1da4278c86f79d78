use Rattle.std.proofs.Common.{◌≡◌, ◌<◌, ℕ, List, Option, inl, inr}
use Rattle.std.specs.Prelude.{Contains}
use Rattle.std.proofs.lemmas.Result.{err_from_is_err_and}
use Rattle.pt_mbr.specs.declared.ebr.Ebr.{Ebr}
use Rattle.pt_mbr.specs.declared.record.Record.{Record}
use Rattle.pt_members.specs.declared.layout.Body.TheVariants.{Mbr}
use Rattle.pt_members.specs.declared.layout.Layout.{Layout}
use Rattle.pt_sector.proofs.CallsLemmas.{blames_none}
use Rattle.pt_cases.specs.Unplanned.{fault_in, HasUnmade, unmade}
use Rattle.pt_cases.specs.Targets.{AreMbrTargets}
use Rattle.pt_cases.specs.declared.targets.target.Target.{Target}
use Rattle.pt_planner.specs.Places.{IsHeadOrEbr}
use Rattle.pt_planner.specs.PlanReads.{PlanReads, head, ebr}
use Rattle.pt_planner.proofs.Failing.{failed_planned, faultless_nowhere, failure_blames, failure_hindered}
use Rattle.pt_planner.proofs.Making.{ok_so, err_so, all_of, turn_hinders, had_mbr, mbr_start}
use Rattle.pt_planner.proofs.plans.to_mbr.Goals as goal

head_or_ebr : (b n : ℕ) (p : Layout) (records : List (Option Record)) (chain : List Ebr) (s : ℕ) → p.body ≡ Mbr records chain
    → IsHeadOrEbr chain s → PlanReads b n p s
head_or_ebr b n p records chain s body (inl here) = head here
head_or_ebr b n p records chain s body (inr at) = ebr records chain body at

pub returns-in_err-targets : goal.returns-in_err-targets
returns-in_err-targets g c =
    let p = err_from_is_err_and c.from_residual.result c.from_residual.ensures.1 in
    let change = c.args.change.now in
    record {
      same = c.in_err-targets.ensures.same;
      blames = rw (p.1, p.2) (failure_blames _ _ c.in_err-targets.field-0.0 c.in_err-targets.ensures.blames);
      place = rw (p.1, p.2) (failed_planned (IsHeadOrEbr change.chain.now) _ c.in_err-targets.field-0.0
          (λ s at. head_or_ebr g.row.B (g.D.Disk.count c.args.disk.now) c.args.wanted.now change.records.now change.chain.now s
          c.requires.body
          at) c.in_err-targets.ensures.failed);
      in_range = rw p.1 tt;
      some = rw p.1 tt;
      plan = λ tells. rw p.1 tt;
      err = λ tells.
          rw (p.1, p.2) (failure_hindered g.row.B (g.D.Disk.told c.args.disk.now).seen c.args.survey.now.layout c.args.wanted.now
          c.in_err-targets.field-0.0);
    }

pub returns-in-None : goal.returns-in-None
returns-in-None g c = record {
  same = c.in_ok-targets.ensures.same;
  blames = c.in_ok-targets.ensures.blames;
  place = tt;
  in_range = tt;
  some = tt;
  plan = λ tells. tt;
  err = λ tells.
      let d = (g.D.Disk.told c.args.disk.now).seen in
      let change = c.args.change.now in
      let there : HasUnmade g.row.B d change.old_records.now change.old_chain.now change.records.now change.chain.now =
      rw c.in-None.is at (c.in_ok-targets.ensures.none tells) in
      unmade change.records.now change.chain.now c.requires.body (had_mbr _ _ change c.requires.change) there;
}

pub returns-in-Some : goal.returns-in-Some
returns-in-Some g c =
    let n = g.D.Disk.count c.args.disk.now in
    let result = c.within_mbr.result in
    let change = c.args.change.now in
    let start = λ (tells : g.D.Disk.tells).
    (let d = (g.D.Disk.told c.args.disk.now).seen in
    let heads : AreMbrTargets {b = g.row.B} d change.old_records.now change.old_chain.now change.records.now change.chain.now
    c.in-Some.heads.items =
    rw c.in-Some.is at (c.in_ok-targets.ensures.some tells) in
    mbr_start d n c.args.survey.now c.args.wanted.now change c.in-Some.heads.items c.args.places.items
    (g.met.D.Disk.sized c.args.disk.now tells) (c.requires.survey tells) (c.requires.start tells) c.requires.change c.requires.body
    c.requires.change.four heads (c.requires.places tells)) in
    record {
      same = c.in_ok-targets.ensures.same;
      blames = blames_none fault_in result _ _ c.within_mbr.ensures.faultless c.in_ok-targets.ensures.blames;
      place = faultless_nowhere _ result c.within_mbr.ensures.faultless;
      in_range =
          let heads : (t : Target g.row.B) → Contains c.in-Some.heads.items t → t.at.0 < n =
          rw c.in-Some.is at c.in_ok-targets.ensures.in_range in
          ok_so result _ _
          (λ plan each. each n (all_of
          (λ (t : Target g.row.B). t.at.0 < n) c.in-Some.heads.items heads) c.requires.in_range) c.within_mbr.ensures.in_range;
      some = c.within_mbr.ensures.some;
      plan = λ tells. ok_so result _ _ (λ plan each. each (g.D.Disk.told c.args.disk.now).seen c.args.wanted.now (start tells))
          c.within_mbr.ensures.plan;
      err = λ tells. err_so result _ _
          (λ e each. turn_hinders g.row.B (g.D.Disk.told c.args.disk.now).seen c.args.survey.now.layout c.args.wanted.now e
          (each (g.D.Disk.told c.args.disk.now).seen c.args.wanted.now (start tells)))
          c.within_mbr.ensures.err;
    }

use Rattle.std.proofs.Common.{◌<◌, inl, inr, refl, subst}
use Rattle.std.proofs.lemmas.Result.{err_from_is_err_and}
use Rattle.pt_members.specs.Members.{places_of, IsPlace}
use Rattle.pt_planner.specs.PlanReads.{label}
use Rattle.pt_planner.specs.Places.{PlacesAnswer, AreWithin}
use Rattle.pt_cases.specs.declared.targets.target.Target.{Target}
use Rattle.pt_planner.proofs.Failing.{failed_planned, failure_blames, failure_stops}
use Rattle.pt_planner.proofs.Making.{all_of}
use Rattle.pt_planner.proofs.plans.places_of.Goals as goal

pub returns-in_err-answer : goal.returns-in_err-answer
returns-in_err-answer g c =
    let p = err_from_is_err_and c.from_residual.result c.from_residual.ensures.1 in
    record {
      same = c.in_err-answer.ensures.same;
      blames = rw (p.1, p.2) (failure_blames _ _ c.in_err-answer.field-0.0 c.in_err-answer.ensures.blames);
      place = rw (p.1, p.2) (failed_planned (IsPlace (places_of g.row.B (g.D.Disk.count c.args.disk.now) c.args.wanted.now.body)) _
          c.in_err-answer.field-0.0 (λ s at. label at) c.in_err-answer.ensures.failed);
      in_range = rw p.1 tt;
      ok = λ tells. rw p.1 tt;
      none_left = λ tells. rw p.1 tt;
      err = λ tells.
          rw (p.1, p.2)
          (failure_stops g.row.B (g.D.Disk.told c.args.disk.now).seen c.args.old.now c.args.wanted.now c.in_err-answer.field-0.0);
    }

pub returns-in-Targets : goal.returns-in-Targets
returns-in-Targets g c =
    let answer = λ (tells : g.D.Disk.tells).
    (subst (PlacesAnswer (g.D.Disk.told c.args.disk.now).seen c.args.old.now c.args.wanted.now) c.in-Targets.is
    (c.in_ok-answer.ensures.answer tells)) in
    record {
      same = c.in_ok-answer.ensures.same;
      blames = c.in_ok-answer.ensures.blames;
      place = tt;
      in_range =
          all_of (λ (t : Target _). t.at.0 < g.D.Disk.count c.args.disk.now) c.in-Targets.targets.items
          (subst (AreWithin (g.D.Disk.count c.args.disk.now)) c.in-Targets.is c.in_ok-answer.ensures.in_range);
      ok = λ tells. (answer tells).2;
      none_left = λ tells. (answer tells).1;
      err = λ tells. tt;
    }

pub returns-in-Foreign : goal.returns-in-Foreign
returns-in-Foreign g c = record {
  same = c.in_ok-answer.ensures.same;
  blames = c.in_ok-answer.ensures.blames;
  place = tt;
  in_range = tt;
  ok = λ tells. tt;
  none_left = λ tells. tt;
  err = λ tells.
      let answer = subst (PlacesAnswer (g.D.Disk.told c.args.disk.now).seen c.args.old.now c.args.wanted.now) c.in-Foreign.is
      (c.in_ok-answer.ensures.answer tells) in
      (c.in-Foreign.number, answer.1, refl);
}

pub returns-in-Misplaced : goal.returns-in-Misplaced
returns-in-Misplaced g c = record {
  same = c.in_ok-answer.ensures.same;
  blames = c.in_ok-answer.ensures.blames;
  place = tt;
  in_range = tt;
  ok = λ tells. tt;
  none_left = λ tells. tt;
  err = λ tells.
      let answer = c.in_ok-answer.ensures.answer tells in
      let d = (g.D.Disk.told c.args.disk.now).seen in elim c.in-Misplaced.is [
        | inl is ↦ inl (subst (PlacesAnswer d c.args.old.now c.args.wanted.now) is answer)
        | inr is ↦
            (let unreadable = subst (PlacesAnswer d c.args.old.now c.args.wanted.now) is answer in inr (unreadable.1, unreadable.2))
      ];
}

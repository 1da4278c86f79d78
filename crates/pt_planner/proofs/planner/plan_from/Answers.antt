use Rattle.std.proofs.Common.{◌∙◌, ℕ, length, ap, refl, sym, subst, arith}
use Rattle.std.specs.Prelude.{IfOk, IfErr}
use Rattle.std.proofs.lemmas.Result.{err_from_is_err_and}
use Rattle.pt_sector.proofs.CallsLemmas.{blames_after}
use Rattle.pt_sector.specs.Device.{Told}
use Rattle.pt_apply.specs.Plans.{phases_of, InRange}
use Rattle.pt_apply.specs.inner.Plans.{phases_in}
use Rattle.pt_cases.specs.Cases.{IsPlan, idle}
use Rattle.pt_cases.specs.Writes.{FitsTable}
use Rattle.pt_cases.specs.Unplanned.{fault_in}
use Rattle.pt_planner.specs.PlanReads.{FailedInPlan, PlanReads}
use Rattle.pt_planner.specs.inner.PlanReads.{IsChangeTo, IsMbrChange}
use Rattle.pt_planner.specs.declared.state.Change.TheVariants.{Mbr, Gpt}
use Rattle.pt_planner.proofs.Beginning.{starts}
use Rattle.pt_planner.proofs.Failing.{unsound_blames, unsound_nowhere, unsound_unplanned}
use Rattle.pt_planner.proofs.Making.{err_so, isnt, hindered, no_places, none_of_disk}
use Rattle.pt_planner.proofs.planner.plan_from.Goals as goal

pub returns-in_err-be_sound : goal.returns-in_err-be_sound
returns-in_err-be_sound g c =
    let p = err_from_is_err_and c.from_residual.result c.from_residual.ensures.1 in
    record {
      same = g.met.D.Disk.reads_same c.args.disk.now;
      blames = rw (p.1, p.2) (unsound_blames g.row.B c.args.wanted.now _ c.in_err-be_sound.field-0.0 c.in_err-be_sound.ensures.err);
      place = rw (p.1, p.2) (unsound_nowhere g.row.B c.args.wanted.now _ c.in_err-be_sound.field-0.0 c.in_err-be_sound.ensures.err);
      in_range = rw p.1 tt;
      some = rw p.1 tt;
      plan = λ tells. rw p.1 tt;
      err = λ tells.
          rw (p.1, p.2) (unsound_unplanned g.row.B (g.D.Disk.told c.args.disk.now).seen c.args.wanted.now c.in_err-be_sound.field-0.0
          c.in_err-be_sound.ensures.err);
    }

pub returns-then-is_done : goal.returns-then-is_done
returns-then-is_done g c =
    let none = ap length c.new.ensures.items in
    record {
      same = g.met.D.Disk.reads_same c.args.disk.now;
      blames = refl;
      place = tt;
      in_range = λ k z lt. absurd (omega (arith, none, lt));
      some = λ k z lt. absurd (omega (arith, none, lt));
      plan = λ tells.
          idle ((c.is_done.ensures.done (g.D.Disk.told c.args.disk.now).seen (c.requires.survey tells)).0 c.if-is_done.true)
          (ap phases_in c.new.ensures.items);
      err = λ tells. tt;
    }

pub returns-in-None : goal.returns-in-None
returns-in-None g c = record {
  same = g.met.D.Disk.reads_same c.args.disk.now;
  blames = refl;
  place = tt;
  in_range = tt;
  some = tt;
  plan = λ tells. tt;
  err = λ tells.
      let d = (g.D.Disk.told c.args.disk.now).seen in
      let survey = c.requires.survey tells in
      none_of_disk g.row.B d c.args.survey.now.layout c.args.wanted.now survey.layout c.in_ok-be_sound.ensures.ok
      (isnt c.is_done.result c.if-is_done.false (c.is_done.ensures.done d survey))
      (c.in-None.ensures.none d (g.met.D.Disk.sized c.args.disk.now tells ∙ sym c.sectors.ensures) survey.layout);
}

pub returns-in_err-places : goal.returns-in_err-places
returns-in_err-places g c =
    let p = err_from_is_err_and c.from_residual-in_err-places.result c.from_residual-in_err-places.ensures.1 in
    record {
      same = c.in_err-places.ensures.same;
      blames = rw (p.1, p.2) c.in_err-places.ensures.blames;
      place = rw (p.1, p.2) c.in_err-places.ensures.place;
      in_range = rw p.1 tt;
      some = rw p.1 tt;
      plan = λ tells. rw p.1 tt;
      err = λ tells.
          let d = (g.D.Disk.told c.args.disk.now).seen in
          let survey = c.requires.survey tells in
          rw (p.1, p.2) (no_places g.row.B d c.args.survey.now.layout c.args.wanted.now survey.layout c.in_ok-be_sound.ensures.ok
          (isnt c.is_done.result c.if-is_done.false (c.is_done.ensures.done d survey)) c.in_err-places.field-0.0
          (c.in_err-places.ensures.err tells));
    }

pub places_of-requires : goal.places_of-requires
places_of-requires g c = (
  omega arith,
  (c.requires.size, (c.in-Some.ensures.sectors ∙ c.sectors.ensures, λ tells. (c.requires.survey tells).layout)),
)

pub to_mbr-requires : goal.to_mbr-requires
to_mbr-requires g c =
    let is : IsChangeTo g.row.B c.sectors.result c.args.survey.now.layout c.args.wanted.now (Mbr c.in-Mbr.change) =
    subst (IsChangeTo g.row.B c.sectors.result c.args.survey.now.layout c.args.wanted.now) c.in-Mbr.is c.in-Some.ensures.some in
    let count = c.sectors.ensures ∙ sym c.in_ok-places.ensures.same.same_count in (
      omega arith,
      (
        omega arith,
        (
          c.requires.size,
          (
            is.0,
            (
              subst (λ (n : ℕ). IsMbrChange n c.args.survey.now.layout c.in-Mbr.change) count is.1,
              (
                rw c.in_ok-places.ensures.same.same_count c.in_ok-places.ensures.in_range,
                (
                  λ tells. rw (c.in_ok-places.ensures.same.same tells) (c.requires.survey tells),
                  (
                    λ tells. rw (c.in_ok-places.ensures.same.same tells)
                        (starts g.row.B (g.D.Disk.told c.args.disk.now).seen c.args.survey.now c.args.wanted.now
                        (c.requires.survey tells) c.in_ok-be_sound.ensures.ok
                        (c.in-Some.ensures.sectors ∙ c.sectors.ensures ∙ sym (g.met.D.Disk.sized c.args.disk.now tells))
                        c.is_done.ensures.stays
                        (isnt c.is_done.result c.if-is_done.false
                        (c.is_done.ensures.done (g.D.Disk.told c.args.disk.now).seen (c.requires.survey tells)))),
                    λ tells. rw (c.in_ok-places.ensures.same.same tells) (c.in_ok-places.ensures.ok tells),
                  ),
                ),
              ),
            ),
          ),
        ),
      ),
    )

pub to_gpt-requires : goal.to_gpt-requires
to_gpt-requires g c =
    let is : IsChangeTo g.row.B c.sectors.result c.args.survey.now.layout c.args.wanted.now (Gpt c.in-Gpt.table) =
    subst (IsChangeTo g.row.B c.sectors.result c.args.survey.now.layout c.args.wanted.now) c.in-Gpt.is c.in-Some.ensures.some in
    let count = c.sectors.ensures ∙ sym c.in_ok-places.ensures.same.same_count in (
      omega arith,
      (
        omega arith,
        (
          c.requires.size,
          (
            is.0,
            (
              subst (λ (n : ℕ). FitsTable g.row.B n c.in-Gpt.table.now) count is.1,
              (
                rw c.in_ok-places.ensures.same.same_count c.in_ok-places.ensures.in_range,
                (
                  λ tells. rw (c.in_ok-places.ensures.same.same tells) (c.requires.survey tells),
                  (
                    λ tells. rw (c.in_ok-places.ensures.same.same tells)
                        (starts g.row.B (g.D.Disk.told c.args.disk.now).seen c.args.survey.now c.args.wanted.now
                        (c.requires.survey tells) c.in_ok-be_sound.ensures.ok
                        (c.in-Some.ensures.sectors ∙ c.sectors.ensures ∙ sym (g.met.D.Disk.sized c.args.disk.now tells))
                        c.is_done.ensures.stays
                        (isnt c.is_done.result c.if-is_done.false
                        (c.is_done.ensures.done (g.D.Disk.told c.args.disk.now).seen (c.requires.survey tells)))),
                    λ tells. rw (c.in_ok-places.ensures.same.same tells) (c.in_ok-places.ensures.ok tells),
                  ),
                ),
              ),
            ),
          ),
        ),
      ),
    )

pub returns-in-Mbr : goal.returns-in-Mbr
returns-in-Mbr g c = record {
  same =
      g.met.D.Disk.reads_on c.args.disk.now c.places_of.new.disk c.to_mbr.new.disk c.in_ok-places.ensures.same c.to_mbr.ensures.same;
  blames =
      blames_after fault_in c.to_mbr.result _ _ _ c.in_ok-places.ensures.blames c.to_mbr.ensures.blames;
  place =
      subst (λ (n : ℕ). IfErr c.to_mbr.result (FailedInPlan (PlanReads g.row.B n c.args.wanted.now)))
      c.in_ok-places.ensures.same.same_count c.to_mbr.ensures.place;
  in_range =
      subst (λ (n : ℕ). IfOk c.to_mbr.result (InRange n)) c.in_ok-places.ensures.same.same_count c.to_mbr.ensures.in_range;
  some =
      c.to_mbr.ensures.some;
  plan =
      λ tells.
      subst (λ (t : Told). IfOk c.to_mbr.result (λ plan. IsPlan g.row.B t.seen c.args.wanted.now (phases_of plan)))
      (c.in_ok-places.ensures.same.same tells) (c.to_mbr.ensures.plan tells);
  err =
      λ tells.
      let d = (g.D.Disk.told c.args.disk.now).seen in
      let survey = c.requires.survey tells in
      err_so c.to_mbr.result _ _ (hindered g.row.B d c.args.survey.now.layout c.args.wanted.now survey.layout c.in_ok-be_sound.ensures.ok
      (isnt c.is_done.result c.if-is_done.false (c.is_done.ensures.done d survey)) (c.in_ok-places.ensures.none_left tells))
      (rw (c.in_ok-places.ensures.same.same tells) at (c.to_mbr.ensures.err tells));
}

pub returns-in-Gpt : goal.returns-in-Gpt
returns-in-Gpt g c = record {
  same =
      g.met.D.Disk.reads_on c.args.disk.now c.places_of.new.disk c.to_gpt.new.disk c.in_ok-places.ensures.same c.to_gpt.ensures.same;
  blames =
      blames_after fault_in c.to_gpt.result _ _ _ c.in_ok-places.ensures.blames c.to_gpt.ensures.blames;
  place =
      subst (λ (n : ℕ). IfErr c.to_gpt.result (FailedInPlan (PlanReads g.row.B n c.args.wanted.now)))
      c.in_ok-places.ensures.same.same_count c.to_gpt.ensures.place;
  in_range =
      subst (λ (n : ℕ). IfOk c.to_gpt.result (InRange n)) c.in_ok-places.ensures.same.same_count c.to_gpt.ensures.in_range;
  some =
      c.to_gpt.ensures.some;
  plan =
      λ tells.
      subst (λ (t : Told). IfOk c.to_gpt.result (λ plan. IsPlan g.row.B t.seen c.args.wanted.now (phases_of plan)))
      (c.in_ok-places.ensures.same.same tells) (c.to_gpt.ensures.plan tells);
  err =
      λ tells.
      let d = (g.D.Disk.told c.args.disk.now).seen in
      let survey = c.requires.survey tells in
      err_so c.to_gpt.result _ _ (hindered g.row.B d c.args.survey.now.layout c.args.wanted.now survey.layout c.in_ok-be_sound.ensures.ok
      (isnt c.is_done.result c.if-is_done.false (c.is_done.ensures.done d survey)) (c.in_ok-places.ensures.none_left tells))
      (rw (c.in_ok-places.ensures.same.same tells) at (c.to_gpt.ensures.err tells));
}

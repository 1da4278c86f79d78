use Rattle.std.proofs.Common.{rules, ◌∙◌, ◌<◌, ℕ, refl, sym, subst}
use Rattle.std.specs.Prelude.{All, IfOk}
use Rattle.std.proofs.lemmas.Result.{err_from_is_err_and}
use Rattle.pt_sector.proofs.CallsLemmas.{blames_none}
use Rattle.pt_apply.specs.Plans.{InRange}
use Rattle.pt_cases.specs.Writes.{FitsTable}
use Rattle.pt_cases.specs.Unplanned.{fault_in}
use Rattle.pt_cases.specs.declared.targets.target.Target.{Target}
use Rattle.pt_planner.specs.PlanReads.{head}
use Rattle.pt_planner.proofs.Failing.{faultless_nowhere}
use Rattle.pt_planner.proofs.Making.{ok_so, err_so, turn_hinders, copies_hinder, label_start, copies_start, isnt}
use Rattle.pt_planner.proofs.plans.to_gpt.Goals as goal

pub returns-then-changes_labels : goal.returns-then-changes_labels
returns-then-changes_labels g c =
    let start = λ (tells : g.D.Disk.tells).
    (label_start (g.D.Disk.told c.args.disk.now).seen c.args.survey.now c.args.wanted.now c.args.table.now c.is_broken.result
    c.args.places.items (c.requires.survey tells) (c.requires.start tells) c.requires.body
    (c.changes_labels.ensures.0 c.if-changes_labels.true) c.is_broken.ensures (c.requires.places tells)) in
    record {
      same = g.met.D.Disk.reads_same c.args.disk.now;
      blames = blames_none fault_in c.one_label.result _ _ c.one_label.ensures.faultless refl;
      place = faultless_nowhere _ c.one_label.result c.one_label.ensures.faultless;
      in_range =
          ok_so c.one_label.result _ _ (λ plan each. each (g.D.Disk.count c.args.disk.now) c.requires.in_range)
          c.one_label.ensures.in_range;
      some = c.one_label.ensures.some;
      plan = λ tells.
          ok_so c.one_label.result _ _ (λ plan each. each (g.D.Disk.told c.args.disk.now).seen c.args.wanted.now (start tells))
          c.one_label.ensures.plan;
      err = λ tells.
          err_so c.one_label.result _ _ (λ e each.
          turn_hinders g.row.B (g.D.Disk.told c.args.disk.now).seen c.args.survey.now.layout c.args.wanted.now e
          (each (g.D.Disk.told c.args.disk.now).seen c.args.wanted.now (start tells)))
          c.one_label.ensures.err;
    }

pub returns-in_err-order : goal.returns-in_err-order
returns-in_err-order g c =
    let p = err_from_is_err_and c.from_residual.result c.from_residual.ensures.1 in
    record {
      same = c.in_err-order.ensures.same;
      blames = rw (p.1, p.2) c.in_err-order.ensures.blames;
      place = rw (p.1, p.2) (head c.in_err-order.ensures.place);
      in_range = rw p.1 tt;
      some = rw p.1 tt;
      plan = λ tells. rw p.1 tt;
      err = λ tells. rw (p.1, p.2) tt;
    }

pub returns : goal.returns
returns g c =
    let same = c.sectors.ensures ∙ c.in_ok-order.ensures.same.same_count in
    let start = λ (tells : g.D.Disk.tells).
    (copies_start (g.D.Disk.told c.args.disk.now).seen c.args.survey.now c.args.wanted.now c.args.table.now c.in_ok-order.order
    c.args.places.items (c.requires.survey tells) (c.requires.start tells) c.requires.body
    (subst (λ n. FitsTable g.row.B n c.args.table.now) (sym (g.met.D.Disk.sized c.args.disk.now tells)) c.requires.fits)
    (isnt c.changes_labels.result c.if-changes_labels.false c.changes_labels.ensures) (c.in_ok-order.ensures.order tells)
    (c.requires.places tells)) in
    record {
      same = c.in_ok-order.ensures.same;
      blames = blames_none fault_in c.both_copies.result _ _ c.both_copies.ensures.faultless c.in_ok-order.ensures.blames;
      place = faultless_nowhere _ c.both_copies.result c.both_copies.ensures.faultless;
      in_range = subst (λ (n : ℕ). IfOk c.both_copies.result (InRange n)) same c.both_copies.ensures.in_range;
      some = c.both_copies.ensures.some;
      plan = λ tells.
          ok_so c.both_copies.result _ _
          (λ plan each. each (g.D.Disk.told c.args.disk.now).seen c.args.wanted.now
          (g.met.D.Disk.sized c.args.disk.now tells ∙ sym same) (start tells))
          c.both_copies.ensures.plan;
      err = λ tells.
          err_so c.both_copies.result _ _
          (λ e each. copies_hinder g.row.B (g.D.Disk.told c.args.disk.now).seen c.args.survey.now.layout c.args.wanted.now e
          (each (g.D.Disk.told c.args.disk.now).seen c.args.wanted.now
          (g.met.D.Disk.sized c.args.disk.now tells ∙ sym same) (start tells)))
          c.both_copies.ensures.err;
    }

pub both_copies-requires : goal.both_copies-requires
both_copies-requires g c =
    let count = sym (c.sectors.ensures ∙ c.in_ok-order.ensures.same.same_count) in
    let fits = subst (λ (n : ℕ). FitsTable g.row.B n c.args.table.now) count c.requires.fits in (
      search rules,
      (
        search rules,
        (
          search rules,
          (
            c.requires.size,
            (
              fits.room,
              (
                fits.most,
                subst (λ (n : ℕ). All (λ (t : Target g.row.B). t.at.0 < n) c.args.places.items) count c.requires.in_range,
              ),
            ),
          ),
        ),
      ),
    )

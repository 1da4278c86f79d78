use Rattle.std.proofs.Common.{refl}
use Rattle.std.proofs.lemmas.Result.{err_from_is_err_and}
use Rattle.pt_planner.proofs.LabelTurn.{label_stops, label_unmended}
use Rattle.pt_planner.proofs.Refusing.{lone_faultless}
use Rattle.pt_planner.proofs.Turning.{lone_is_plan, lone_range, lone_short, lone_some, lone_two}
use Rattle.pt_planner.proofs.phases.turns.one_label.Goals as goal

pub returns-in_err-loud : goal.returns-in_err-loud
returns-in_err-loud g c =
    let p = err_from_is_err_and c.from_residual.result c.from_residual.ensures.1 in
    record {
      plan = rw p.1 tt;
      err = rw (p.1, p.2) (λ d p start. label_stops d c.args.old.now p c.args.broken c.args.places.items start c.in_err-loud.field-0.0
          c.in_err-loud.ensures.err);
      in_range = rw p.1 tt;
      some = rw p.1 tt;
      faultless = rw (p.1, p.2) (lone_faultless c.args.old.now c.args.places.items c.in_err-loud.field-0.0 c.in_err-loud.ensures.err);
      two = rw p.1 tt;
      few = rw p.1 tt;
    }

pub returns-then-broken : goal.returns-then-broken
returns-then-broken g c = record {
  plan = tt;
  err = λ d p start. label_unmended d c.args.old.now p c.args.broken c.args.places.items start c.if-broken.true
      (c.in_ok-loud.loud.lba.0, c.in_ok-loud.loud.bytes) c.in_ok-loud.ensures.ok;
  in_range = tt;
  some = tt;
  faultless = refl;
  two = tt;
  few = tt;
}

pub returns-in_err-one_phase : goal.returns-in_err-one_phase
returns-in_err-one_phase g c =
    let p = err_from_is_err_and c.from_residual-in_err-one_phase.result c.from_residual-in_err-one_phase.ensures.1 in
    record {
      plan = rw p.1 tt;
      err = rw (p.1, p.2) (λ d p start. tt);
      in_range = rw p.1 tt;
      some = rw p.1 tt;
      faultless = rw (p.1, p.2) refl;
      two = rw p.1 tt;
      few = rw p.1 tt;
    }

pub returns : goal.returns
returns g c =
    let old = c.args.old.now in
    let places = c.args.places.items in
    let loud = c.in_ok-loud.loud in
    let turn = c.in_ok-loud.ensures.ok in
    let plan = c.in_ok-one_phase.field-0 in
    let is = c.in_ok-one_phase.ensures in
    record {
      plan = lone_is_plan old places loud turn plan is c.args.broken c.if-broken.false;
      err = tt;
      in_range = lone_range old places loud turn plan is;
      some = lone_some old places loud turn plan is;
      faultless = tt;
      two = lone_two old places loud turn plan is;
      few = lone_short old places loud turn plan is;
    }

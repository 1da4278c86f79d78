use Rattle.std.proofs.Common.{rules, ◌≡◌, ◌∙◌, ℕ, ◌+◌, ◌<◌, Bool, sym, ap, subst, arith, length, Option, Some, None, Ok, Err}
use Rattle.std.proofs.lemmas.Result.{err_from_is_err_and}
use Rattle.pt_sector.specs.Sectors.{Writes, Sectors, written}
use Rattle.pt_sector.specs.Device.{with_fault, Told}
use Rattle.pt_sector.specs.Overlays.{OnlyReads, read_of, room_left, shown, own_writes}
use Rattle.pt_sector.specs.declared.own.Own.{Own}
use Rattle.pt_sector.proofs.ReadsLemmas.{blames_below, failed_outside}
use Rattle.pt_apply.specs.Plans.{phases_of, writes_of}
use Rattle.pt_members.specs.declared.layout.Layout.{Layout}
use Rattle.pt_recover.specs.Denotes.{Denotes, Reads}
use Rattle.pt_recover.proofs.Terms.{denotes_one_lem}
use Rattle.pt_recover.specs.Spans.{IsIn}
use Rattle.pt_check.specs.Answers.{Course, disk_after, fault_in}
use Rattle.pt_check.specs.inner.Answers.{TouchedIs, KeepsRead, StepIs}
use Rattle.pt_check.specs.declared.trial.Step.{Step}
use Rattle.pt_check.specs.declared.trial.Stepped.{Stepped}
use Rattle.pt_check.proofs.Firsts.{length-phases, count_on, lent_phase, index_within, seen_on, count_within}
use Rattle.pt_check.specs.inner.Answers.{current_of}
use Rattle.pt_check.specs.inner.Following.{StillIs, AreFollowed}
use Rattle.pt_check.proofs.ByCopies.{stepped_at, goes_followed, of_some, followed_next, followed_there, denoted_before, still_there}
use Rattle.pt_check.proofs.Trying.{course_none, refused_read, refused_neither, course_on}
use Rattle.pt_check.proofs.Quiet.{course_now, reading_kept, passed_kept, passed_still}
use Rattle.pt_check.proofs.Settled.{settled_trial}
use Rattle.pt_check.proofs.Reading.{phase_failed, sector_failed}
use Rattle.pt_check.proofs.trial.try_phases.Goals as goal

pub loop-i-init : goal.loop-i-init
loop-i-init g c = record {
  same_reference = search rules;
  same = rw c.new-over.ensures.disk (g.met.D.Disk.reads_same c.args.disk.now);
  quiet = search rules;
  room = omega (arith, c.new-over.ensures.room, c.in_ok-room.ensures, c.requires.room);
  seen = λ tells. c.new-over.ensures.seen;
  own = c.new-over.ensures.own;
  trace = λ tells. record { same = (c.requires.old tells).reads };
  course = λ tells. course_none (Denotes g.row.B) (Reads g.row.B) (phases_of c.args.plan.now)
      (g.D.Disk.told c.args.disk.now).seen c.args.layouts.now.old c.args.layouts.now.new ((c.requires.old tells).denotes);
  few = omega arith;
  followed = λ tells. tt;
}

pub returns-in-Some-clause-tried : goal.returns-in-Some-clause-tried
returns-in-Some-clause-tried g c =
    λ tells. refused_read (Denotes g.row.B) (Reads g.row.B) (phases_of c.args.plan.now)
    (g.D.Disk.told c.args.disk.now).seen c.args.layouts.now.old c.args.layouts.now.new
    c.loop-i.i (index_within c.args.plan.now.phases.items c.loop-i.i
    (omega (arith, c.loop-i-test.true, c.len-i-end.ensures, c.args.plan.now.phases.ok))) c.loop-i.before
    (c.loop-i.invariant.trace tells) c.loop-i.switch (c.loop-i.invariant.course tells) c.in-Some.lba
    (subst (λ (w : Writes). TouchedIs (IsIn c.loop-i.before) w (Some c.in-Some.lba))
    (lent_phase c.args.plan.now.phases.items c.loop-i.i c.index-phase.result.now
    (omega (
      arith,
      c.loop-i-test.true,
      c.len-i-end.ensures,
      c.args.plan.now.phases.ok,
    )) c.index-phase.ensures c.deref.result.now c.deref.ensures.value) c.in-Some.ensures)

pub keeps_read-requires : goal.keeps_read-requires
keeps_read-requires g c =
    let phases = phases_of c.args.plan.now in
    let d = (g.D.Disk.told c.args.disk.now).seen in
    let denoted = λ (tells : g.D.Disk.tells).
    subst (λ (x : Sectors). Denotes g.row.B x c.current.result.now) (sym (c.loop-i.invariant.seen tells))
    (subst (λ (o : Option Layout). Denotes g.row.B (disk_after phases d c.loop-i.i) o) (sym c.current.ensures)
    (course_now (Denotes g.row.B) (Reads g.row.B) phases d c.args.layouts.now.old c.args.layouts.now.new c.loop-i.i c.loop-i.switch
    (c.loop-i.invariant.course tells))) in
    search (rules, denoted)

pub put_phase-requires : goal.put_phase-requires
put_phase-requires g c = (
  search rules,
  (
    search rules,
    (
      search rules,
      (
        search rules,
        omega (
          arith,
          c.loop-i.invariant.room,
          ap room_left c.in_ok-keeps.ensures.same.through.1,
          count_within c.args.plan.now.phases.items c.loop-i.i c.index-phase.result.now
              (omega (arith, c.loop-i-test.true, c.len-i-end.ensures, c.args.plan.now.phases.ok)) c.index-phase.ensures,
          ap length c.deref-in-loop-i-2.ensures.value,
        ),
      ),
    ),
  ),
)

pub returns-in-Neither-clause-tried : goal.returns-in-Neither-clause-tried
returns-in-Neither-clause-tried g c = λ tells.
    let phases = phases_of c.args.plan.now in
    let d = (g.D.Disk.told c.args.disk.now).seen in
    let lt : c.loop-i.i < length c.args.plan.now.phases.items =
    omega (arith, c.loop-i-test.true, c.len-i-end.ensures, c.args.plan.now.phases.ok) in
    let below = index_within c.args.plan.now.phases.items c.loop-i.i lt in
    let lent = lent_phase c.args.plan.now.phases.items c.loop-i.i c.index-phase.result.now lt c.index-phase.ensures in
    let seen = seen_on phases d c.loop-i.i (writes_of c.deref-in-loop-i-2.result.now) _ _ below
    (lent c.deref-in-loop-i-2.result.now c.deref-in-loop-i-2.ensures.value)
    (ap (λ (t : Told). t.seen) (c.in_ok-keeps.ensures.same.same tells) ∙ c.loop-i.invariant.seen tells) c.put_phase.ensures.seen in
    let after = stepped_at g.row.B _ _ c.args.layouts.now.old c.args.layouts.now.new c.loop-i.switch (c.loop-i.i + 1) c.in_ok-after.after
    seen (c.in_ok-after.ensures.stepped tells) in
    refused_neither (Denotes g.row.B) (Reads g.row.B) phases d c.args.layouts.now.old c.args.layouts.now.new
    c.loop-i.i below c.loop-i.before (c.loop-i.invariant.trace tells) c.loop-i.switch (c.loop-i.invariant.course tells)
    (subst (λ (w : Writes). TouchedIs (IsIn c.loop-i.before) w None) (lent c.deref.result.now c.deref.ensures.value) c.in_default.ensures)
    after.found after.denotes (denotes_one_lem g.row.B)
    (subst (λ (s : Step). StepIs after.found c.args.layouts.now.old c.args.layouts.now.new c.loop-i.switch (c.loop-i.i + 1) s)
    c.in-Neither.is after.step)

pub loop-i-preserved : goal.loop-i-preserved
loop-i-preserved g c =
    let phases = phases_of c.args.plan.now in
    let d = (g.D.Disk.told c.args.disk.now).seen in
    let lt : c.loop-i.i < length c.args.plan.now.phases.items =
    omega (arith, c.loop-i-test.true, c.len-i-end.ensures, c.args.plan.now.phases.ok) in
    let below = index_within c.args.plan.now.phases.items c.loop-i.i lt in
    let lent = lent_phase c.args.plan.now.phases.items c.loop-i.i c.index-phase.result.now lt c.index-phase.ensures in
    let seen = λ (tells : g.D.Disk.tells). seen_on phases d c.loop-i.i (writes_of c.deref-in-loop-i-2.result.now) _ _ below
    (lent c.deref-in-loop-i-2.result.now c.deref-in-loop-i-2.ensures.value)
    (ap (λ (t : Told). t.seen) (c.in_ok-keeps.ensures.same.same tells) ∙ c.loop-i.invariant.seen tells) c.put_phase.ensures.seen in
    let after = λ (tells : g.D.Disk.tells). stepped_at g.row.B _ _ c.args.layouts.now.old c.args.layouts.now.new c.loop-i.switch
    (c.loop-i.i + 1) c.in_ok-after.after (seen tells) (c.in_ok-after.ensures.stepped tells) in
    let same_here : OnlyReads g.D.Disk c.args.disk.now c.keeps_read.new.disk.disk.now =
    g.met.D.Disk.reads_on _ _ _ c.loop-i.invariant.same c.in_ok-keeps.ensures.same.through.0.below in
    let quiet_here : g.D.Disk.faults c.keeps_read.new.disk.disk.now ≡ g.D.Disk.faults c.args.disk.now =
    blames_below g.D.Disk read_of (Ok c.in_ok-keeps.keeps) _ _ _ _ c.in_ok-keeps.ensures.same.through.0 c.in_ok-keeps.ensures.blames
    ∙ c.loop-i.invariant.quiet in
    record {
      same_reference = search rules;
      same = g.met.D.Disk.reads_on _ _ _ same_here
          (rw c.put_phase.ensures.disk at c.in_ok-after.ensures.same.through.0.below);
      quiet = blames_below g.D.Disk fault_in (Ok c.in_ok-after.after) _ _ _ _ c.in_ok-after.ensures.same.through.0
          c.in_ok-after.ensures.blames ∙ ap g.D.Disk.faults c.put_phase.ensures.disk ∙ quiet_here;
      room = omega (
        arith,
        c.loop-i.invariant.room,
        ap room_left c.in_ok-keeps.ensures.same.through.1,
        c.put_phase.ensures.room,
        ap room_left c.in_ok-after.ensures.same.through.1,
        count_on c.args.plan.now.phases.items c.loop-i.i c.index-phase.result.now lt c.index-phase.ensures,
        ap length c.deref-in-loop-i-2.ensures.value,
      );
      seen = λ tells. ap (λ (t : Told). t.seen) (c.in_ok-after.ensures.same.same tells) ∙ seen tells;
      own = λ d. ap (λ (o : Own _). shown d o) c.in_ok-after.ensures.same.through.1
          ∙ seen_on phases d c.loop-i.i (writes_of c.deref-in-loop-i-2.result.now) _ _ below
          (lent c.deref-in-loop-i-2.result.now c.deref-in-loop-i-2.ensures.value)
          (ap (λ (o : Own _). shown d o) c.in_ok-keeps.ensures.same.through.1 ∙ c.loop-i.invariant.own d) (c.put_phase.ensures.own d);
      trace = λ tells. record { same = (after tells).reads };
      course = λ tells. course_on (Denotes g.row.B) (Reads g.row.B) phases d c.args.layouts.now.old c.args.layouts.now.new
          c.loop-i.i below c.loop-i.before (c.loop-i.invariant.trace tells) c.loop-i.switch (c.loop-i.invariant.course tells)
          (subst (λ (w : Writes). TouchedIs (IsIn c.loop-i.before) w None) (lent c.deref.result.now c.deref.ensures.value)
          c.in_default.ensures) (after tells).found (after tells).denotes c.in-Goes.switch
          (subst (λ (s : Step). StepIs (after tells).found c.args.layouts.now.old c.args.layouts.now.new c.loop-i.switch (c.loop-i.i + 1) s)
          c.in-Goes.is (after tells).step);
      few = omega (arith, c.loop-i.invariant.few);
      followed = λ tells. goes_followed g.row.B _ _ c.args.layouts.now.old c.args.layouts.now.new c.in_ok-after.after.step c.in-Goes.switch
          c.step_on.new.followed c.in-Goes.is (seen tells) (c.in_ok-after.ensures.followed tells);
    }

pub returns-in_err-after-clause-blames : goal.returns-in_err-after-clause-blames
returns-in_err-after-clause-blames g c =
    let p = err_from_is_err_and c.from_residual-in_err-after.result c.from_residual-in_err-after.ensures.1 in
    let quiet_here : g.D.Disk.faults c.keeps_read.new.disk.disk.now ≡ g.D.Disk.faults c.args.disk.now =
    blames_below g.D.Disk read_of (Ok c.in_ok-keeps.keeps) _ _ _ _ c.in_ok-keeps.ensures.same.through.0 c.in_ok-keeps.ensures.blames
    ∙ c.loop-i.invariant.quiet in
    let quiet : g.D.Disk.faults c.put_phase.new.over.disk.now ≡ g.D.Disk.faults c.args.disk.now =
    ap g.D.Disk.faults c.put_phase.ensures.disk ∙ quiet_here in
    let e = c.in_err-after.field-0.0 in
    let below : g.D.Disk.faults c.step_on.new.disk.disk.now ≡ with_fault (g.D.Disk.faults c.put_phase.new.over.disk.now) (fault_in e) =
    blames_below g.D.Disk {T = Stepped} fault_in (Err e) _ _ _ _ c.in_err-after.ensures.same.through.0 c.in_err-after.ensures.blames in
    let blames : g.D.Disk.faults c.step_on.new.disk.disk.now ≡ with_fault (g.D.Disk.faults c.args.disk.now) (fault_in e) =
    rw quiet at below in
    rw (p.1, p.2) (search (rules, blames))

pub returns-in-Neither-clause-same : goal.returns-in-Neither-clause-same
returns-in-Neither-clause-same g c =
    let same_here : OnlyReads g.D.Disk c.args.disk.now c.keeps_read.new.disk.disk.now =
    g.met.D.Disk.reads_on _ _ _ c.loop-i.invariant.same c.in_ok-keeps.ensures.same.through.0.below in
    let same : OnlyReads g.D.Disk c.args.disk.now c.step_on.new.disk.disk.now =
    g.met.D.Disk.reads_on _ _ _ same_here (rw c.put_phase.ensures.disk at c.in_ok-after.ensures.same.through.0.below) in
    search (rules, same)

pub returns-in-Neither-clause-blames : goal.returns-in-Neither-clause-blames
returns-in-Neither-clause-blames g c =
    let quiet_here : g.D.Disk.faults c.keeps_read.new.disk.disk.now ≡ g.D.Disk.faults c.args.disk.now =
    blames_below g.D.Disk read_of (Ok c.in_ok-keeps.keeps) _ _ _ _ c.in_ok-keeps.ensures.same.through.0 c.in_ok-keeps.ensures.blames
    ∙ c.loop-i.invariant.quiet in
    let quiet : g.D.Disk.faults c.step_on.new.disk.disk.now ≡ g.D.Disk.faults c.args.disk.now =
    blames_below g.D.Disk fault_in (Ok c.in_ok-after.after) _ _ _ _ c.in_ok-after.ensures.same.through.0 c.in_ok-after.ensures.blames
    ∙ ap g.D.Disk.faults c.put_phase.ensures.disk ∙ quiet_here in
    search (rules, quiet)

pub returns-clause-tried : goal.returns-clause-tried
returns-clause-tried g c = λ tells.
    let all : c.loop-i.i ≡ length (phases_of c.args.plan.now) =
    omega (
      arith,
      c.loop-i-test.false,
      c.loop-i.auto.i-end,
      c.len-i-end.ensures,
      c.args.plan.now.phases.ok,
      length-phases c.args.plan.now.phases.items,
    ) in
    subst (λ (n : ℕ). Course (Denotes g.row.B) (Reads g.row.B) (phases_of c.args.plan.now)
    (g.D.Disk.told c.args.disk.now).seen c.args.layouts.now.old c.args.layouts.now.new n c.loop-i.switch) all
    (c.loop-i.invariant.course tells)

pub returns-in_err-room-clause-same : goal.returns-in_err-room-clause-same
returns-in_err-room-clause-same g c = g.met.D.Disk.reads_same c.args.disk.now

pub returns-in-Some-clause-same : goal.returns-in-Some-clause-same
returns-in-Some-clause-same g c = search (rules, c.loop-i.invariant.same)

pub returns-in-Some-clause-blames : goal.returns-in-Some-clause-blames
returns-in-Some-clause-blames g c = search (rules, c.loop-i.invariant.quiet)

pub returns-in_err-after-clause-same : goal.returns-in_err-after-clause-same
returns-in_err-after-clause-same g c =
    let same_here : OnlyReads g.D.Disk c.args.disk.now c.keeps_read.new.disk.disk.now =
    g.met.D.Disk.reads_on _ _ _ c.loop-i.invariant.same c.in_ok-keeps.ensures.same.through.0.below in
    let same : OnlyReads g.D.Disk c.args.disk.now c.step_on.new.disk.disk.now =
    g.met.D.Disk.reads_on _ _ _ same_here (rw c.put_phase.ensures.disk at c.in_err-after.ensures.same.through.0.below) in
    search (rules, same)

pub returns-clause-same : goal.returns-clause-same
returns-clause-same g c = search (rules, c.loop-i.invariant.same)

pub returns-clause-blames : goal.returns-clause-blames
returns-clause-blames g c = search (rules, c.loop-i.invariant.quiet)

pub returns-in_err-after-clause-place : goal.returns-in_err-after-clause-place
returns-in_err-after-clause-place g c = λ tells.
    let p = err_from_is_err_and c.from_residual-in_err-after.result c.from_residual-in_err-after.ensures.1 in
    let phases = phases_of c.args.plan.now in
    let d = (g.D.Disk.told c.args.disk.now).seen in
    let lt : c.loop-i.i < length c.args.plan.now.phases.items =
    omega (arith, c.loop-i-test.true, c.len-i-end.ensures, c.args.plan.now.phases.ok) in
    let below = index_within c.args.plan.now.phases.items c.loop-i.i lt in
    let lent = lent_phase c.args.plan.now.phases.items c.loop-i.i c.index-phase.result.now lt c.index-phase.ensures in
    let seen = seen_on phases d c.loop-i.i (writes_of c.deref-in-loop-i-2.result.now) _ _ below
    (lent c.deref-in-loop-i-2.result.now c.deref-in-loop-i-2.ensures.value)
    (ap (λ (t : Told). t.seen) (c.in_ok-keeps.ensures.same.same tells) ∙ c.loop-i.invariant.seen tells) c.put_phase.ensures.seen in
    let own = λ (x : Sectors). seen_on phases x c.loop-i.i (writes_of c.deref-in-loop-i-2.result.now) _ _ below
    (lent c.deref-in-loop-i-2.result.now c.deref-in-loop-i-2.ensures.value)
    (ap (λ (o : Own _). shown x o) c.in_ok-keeps.ensures.same.through.1 ∙ c.loop-i.invariant.own x) (c.put_phase.ensures.own x) in
    let e = c.in_err-after.field-0.0 in
    rw (p.1, p.2) (phase_failed g.row.B d _ phases (own_writes c.put_phase.new.over.own) (c.loop-i.i + 1) e (omega (arith, below)) own seen
    (c.in_err-after.ensures.place tells)
    (failed_outside {T = Stepped} fault_in (Err e) _ _ _ c.in_err-after.ensures.same.through.2 c.in_err-after.ensures.blames))

pub returns-then-i-settles-clause-tried : goal.returns-then-i-settles-clause-tried
returns-then-i-settles-clause-tried g c = λ tells.
    let phases = phases_of c.args.plan.now in
    let lt : c.loop-i.i < length c.args.plan.now.phases.items =
    omega (arith, c.loop-i-test.true, c.len-i-end.ensures, c.args.plan.now.phases.ok) in
    let below = index_within c.args.plan.now.phases.items c.loop-i.i lt in
    let lent = lent_phase c.args.plan.now.phases.items c.loop-i.i c.index-phase.result.now lt c.index-phase.ensures in
    settled_trial g.row.B phases (g.D.Disk.told c.args.disk.now).seen c.args.layouts.now.new c.args.end.now (c.requires.new tells)
    (denotes_one_lem g.row.B) c.args.layouts.now.old c.loop-i.i below c.loop-i.before (c.loop-i.invariant.trace tells) c.loop-i.switch
    (c.loop-i.invariant.course tells)
    (subst (λ (w : Writes). TouchedIs (IsIn c.loop-i.before) w None) (lent c.deref.result.now c.deref.ensures.value) c.in_default.ensures)
    (λ j ge less. c.settled-settles.ensures j (omega (arith, ge, c.if-i-settles.true)) less) c.last_step.result c.last_step.ensures

pub loop-i-preserved-then-keeps : goal.loop-i-preserved-then-keeps
loop-i-preserved-then-keeps g c =
    let phases = phases_of c.args.plan.now in
    let d = (g.D.Disk.told c.args.disk.now).seen in
    let lt : c.loop-i.i < length c.args.plan.now.phases.items =
    omega (arith, c.loop-i-test.true, c.len-i-end.ensures, c.args.plan.now.phases.ok) in
    let below = index_within c.args.plan.now.phases.items c.loop-i.i lt in
    let lent = lent_phase c.args.plan.now.phases.items c.loop-i.i c.index-phase.result.now lt c.index-phase.ensures in
    let kept = λ (tells : g.D.Disk.tells).
    subst (λ (ws : Writes). KeepsRead g.row.B (IsIn c.loop-i.before) (disk_after phases d c.loop-i.i) ws)
    (lent c.deref-in-loop-i.result.now c.deref-in-loop-i.ensures.value)
    (subst (λ (x : Sectors). KeepsRead g.row.B (IsIn c.loop-i.before) x (writes_of c.deref-in-loop-i.result.now))
    (c.loop-i.invariant.seen tells) (c.in_ok-keeps.ensures.kept tells c.if-keeps.true)) in
    let same_here : OnlyReads g.D.Disk c.args.disk.now c.keeps_read.new.disk.disk.now =
    g.met.D.Disk.reads_on _ _ _ c.loop-i.invariant.same c.in_ok-keeps.ensures.same.through.0.below in
    let quiet_here : g.D.Disk.faults c.keeps_read.new.disk.disk.now ≡ g.D.Disk.faults c.args.disk.now =
    blames_below g.D.Disk read_of (Ok c.in_ok-keeps.keeps) _ _ _ _ c.in_ok-keeps.ensures.same.through.0 c.in_ok-keeps.ensures.blames
    ∙ c.loop-i.invariant.quiet in
    record {
      same_reference = search rules;
      same = subst (λ (x : _). OnlyReads g.D.Disk c.args.disk.now x) (sym c.put_phase.ensures.disk) same_here;
      quiet = ap g.D.Disk.faults c.put_phase.ensures.disk ∙ quiet_here;
      room = omega (
        arith,
        c.loop-i.invariant.room,
        ap room_left c.in_ok-keeps.ensures.same.through.1,
        c.put_phase.ensures.room,
        count_on c.args.plan.now.phases.items c.loop-i.i c.index-phase.result.now lt c.index-phase.ensures,
        ap length c.deref-in-loop-i-2.ensures.value,
      );
      seen = λ tells. seen_on phases d c.loop-i.i (writes_of c.deref-in-loop-i-2.result.now) _ _ below
          (lent c.deref-in-loop-i-2.result.now c.deref-in-loop-i-2.ensures.value)
          (ap (λ (t : Told). t.seen) (c.in_ok-keeps.ensures.same.same tells) ∙ c.loop-i.invariant.seen tells) c.put_phase.ensures.seen;
      own = λ d. seen_on phases d c.loop-i.i (writes_of c.deref-in-loop-i-2.result.now) _ _ below
          (lent c.deref-in-loop-i-2.result.now c.deref-in-loop-i-2.ensures.value)
          (ap (λ (o : Own _). shown d o) c.in_ok-keeps.ensures.same.through.1 ∙ c.loop-i.invariant.own d) (c.put_phase.ensures.own d);
      trace = λ tells. reading_kept g.row.B phases d c.loop-i.i below c.loop-i.before (c.loop-i.invariant.trace tells) (kept tells);
      course = λ tells. passed_kept g.row.B phases d c.loop-i.i below c.loop-i.before (c.loop-i.invariant.trace tells) (kept tells)
          (subst (λ (w : Writes). TouchedIs (IsIn c.loop-i.before) w None) (lent c.deref.result.now c.deref.ensures.value)
          c.in_default.ensures) c.args.layouts.now.old c.args.layouts.now.new c.loop-i.switch (c.loop-i.invariant.course tells);
      few = omega (arith, c.loop-i.invariant.few);
      followed = λ tells. followed_next g.row.B phases d c.loop-i.i below (writes_of c.deref-in-loop-i-3.result.now)
          (lent c.deref-in-loop-i-3.result.now c.deref-in-loop-i-3.ensures.value) _ c.current-in-loop-i.result.now
          c.current-in-loop-i.ensures c.loop-i.followed c.follow_writes.new.followed (c.loop-i.invariant.followed tells)
          c.follow_writes.ensures;
    }

pub loop-i-preserved-in-Some-2 : goal.loop-i-preserved-in-Some-2
loop-i-preserved-in-Some-2 g c =
    let phases = phases_of c.args.plan.now in
    let d = (g.D.Disk.told c.args.disk.now).seen in
    let lt : c.loop-i.i < length c.args.plan.now.phases.items =
    omega (arith, c.loop-i-test.true, c.len-i-end.ensures, c.args.plan.now.phases.ok) in
    let below = index_within c.args.plan.now.phases.items c.loop-i.i lt in
    let lent = lent_phase c.args.plan.now.phases.items c.loop-i.i c.index-phase.result.now lt c.index-phase.ensures in
    let lent_3 = lent c.deref-in-loop-i-3.result.now c.deref-in-loop-i-3.ensures.value in
    let lent_4 = lent c.deref-in-loop-i-4.result.now c.deref-in-loop-i-4.ensures.value in
    let ws = writes_of c.deref-in-loop-i-4.result.now in
    let o = current_of c.args.layouts.now.old c.args.layouts.now.new c.loop-i.switch in
    let p = c.current-denoted.result.now in
    let next = λ (tells : g.D.Disk.tells). followed_next g.row.B phases d c.loop-i.i below (writes_of c.deref-in-loop-i-3.result.now) lent_3
    o c.current-in-loop-i.result.now c.current-in-loop-i.ensures c.loop-i.followed c.follow_writes.new.followed
    (c.loop-i.invariant.followed tells) c.follow_writes.ensures in
    let still = λ (tells : g.D.Disk.tells). still_there g.row.B phases d c.loop-i.i below ws lent_4 o p c.current-denoted.ensures
    c.in-Some-2.decided (of_some (StillIs g.row.B (written ws (disk_after phases d c.loop-i.i)) p) c.in_ok-decided.field-0
    c.in-Some-2.decided c.in-Some-2.is (c.in_ok-decided.ensures.same (disk_after phases d c.loop-i.i)
    (denoted_before g.row.B phases d c.loop-i.i below ws lent_4 o p c.current-denoted.ensures (course_now (Denotes g.row.B) (Reads g.row.B)
    phases d c.args.layouts.now.old c.args.layouts.now.new c.loop-i.i c.loop-i.switch (c.loop-i.invariant.course tells)))
    (followed_there g.row.B phases d c.loop-i.i below ws lent_4 o p c.current-denoted.ensures c.follow_writes.new.followed
    (next tells)))) in
    let same_here : OnlyReads g.D.Disk c.args.disk.now c.keeps_read.new.disk.disk.now =
    g.met.D.Disk.reads_on _ _ _ c.loop-i.invariant.same c.in_ok-keeps.ensures.same.through.0.below in
    let quiet_here : g.D.Disk.faults c.keeps_read.new.disk.disk.now ≡ g.D.Disk.faults c.args.disk.now =
    blames_below g.D.Disk read_of (Ok c.in_ok-keeps.keeps) _ _ _ _ c.in_ok-keeps.ensures.same.through.0 c.in_ok-keeps.ensures.blames
    ∙ c.loop-i.invariant.quiet in
    record {
      same_reference = search rules;
      same = subst (λ (x : _). OnlyReads g.D.Disk c.args.disk.now x) (sym c.put_phase.ensures.disk) same_here;
      quiet = ap g.D.Disk.faults c.put_phase.ensures.disk ∙ quiet_here;
      room = omega (
        arith,
        c.loop-i.invariant.room,
        ap room_left c.in_ok-keeps.ensures.same.through.1,
        c.put_phase.ensures.room,
        count_on c.args.plan.now.phases.items c.loop-i.i c.index-phase.result.now lt c.index-phase.ensures,
        ap length c.deref-in-loop-i-2.ensures.value,
      );
      seen = λ tells. seen_on phases d c.loop-i.i (writes_of c.deref-in-loop-i-2.result.now) _ _ below
          (lent c.deref-in-loop-i-2.result.now c.deref-in-loop-i-2.ensures.value)
          (ap (λ (t : Told). t.seen) (c.in_ok-keeps.ensures.same.same tells) ∙ c.loop-i.invariant.seen tells) c.put_phase.ensures.seen;
      own = λ d. seen_on phases d c.loop-i.i (writes_of c.deref-in-loop-i-2.result.now) _ _ below
          (lent c.deref-in-loop-i-2.result.now c.deref-in-loop-i-2.ensures.value)
          (ap (λ (o : Own _). shown d o) c.in_ok-keeps.ensures.same.through.1 ∙ c.loop-i.invariant.own d) (c.put_phase.ensures.own d);
      trace = λ tells. record { same = (still tells).reads };
      course = λ tells. passed_still g.row.B phases d c.loop-i.i c.loop-i.before (c.loop-i.invariant.trace tells)
          (subst (λ (w : Writes). TouchedIs (IsIn c.loop-i.before) w None) (lent c.deref.result.now c.deref.ensures.value)
          c.in_default.ensures) c.args.layouts.now.old c.args.layouts.now.new c.loop-i.switch (c.loop-i.invariant.course tells)
          (still tells).denotes;
      few = omega (arith, c.loop-i.invariant.few);
      followed = λ tells. subst
          (λ (q : Option Layout). AreFollowed g.row.B (disk_after phases d (c.loop-i.i + 1)) q c.still_decided.new.followed)
          c.current-denoted.ensures (c.in_ok-decided.ensures.followed (disk_after phases d (c.loop-i.i + 1))
          (subst (λ (q : Option Layout). AreFollowed g.row.B (disk_after phases d (c.loop-i.i + 1)) q c.follow_writes.new.followed)
          (sym c.current-denoted.ensures) (next tells)));
    }

pub returns-in_err-keeps-clause-same : goal.returns-in_err-keeps-clause-same
returns-in_err-keeps-clause-same g c =
    let same : OnlyReads g.D.Disk c.args.disk.now c.keeps_read.new.disk.disk.now =
    g.met.D.Disk.reads_on _ _ _ c.loop-i.invariant.same c.in_err-keeps.ensures.same.through.0.below in
    search (rules, same)

pub returns-in_err-keeps-clause-blames : goal.returns-in_err-keeps-clause-blames
returns-in_err-keeps-clause-blames g c =
    let p = err_from_is_err_and c.from_residual-in_err-keeps.result c.from_residual-in_err-keeps.ensures.1 in
    let e = c.in_err-keeps.field-0.0 in
    let below : g.D.Disk.faults c.keeps_read.new.disk.disk.now ≡ with_fault (g.D.Disk.faults c.loop-i.over.disk.now) (read_of e) =
    blames_below g.D.Disk {T = Bool} read_of (Err e) _ _ _ _ c.in_err-keeps.ensures.same.through.0 c.in_err-keeps.ensures.blames in
    let blames : g.D.Disk.faults c.keeps_read.new.disk.disk.now ≡ with_fault (g.D.Disk.faults c.args.disk.now) (read_of e) =
    rw c.loop-i.invariant.quiet at below in
    rw (p.1, p.2) (search (rules, blames))

pub returns-in_err-keeps-clause-place : goal.returns-in_err-keeps-clause-place
returns-in_err-keeps-clause-place g c = λ tells.
    let p = err_from_is_err_and c.from_residual-in_err-keeps.result c.from_residual-in_err-keeps.ensures.1 in
    let lt : c.loop-i.i < length c.args.plan.now.phases.items =
    omega (arith, c.loop-i-test.true, c.len-i-end.ensures, c.args.plan.now.phases.ok) in
    let below = index_within c.args.plan.now.phases.items c.loop-i.i lt in
    let e = c.in_err-keeps.field-0.0 in
    rw (p.1, p.2) (sector_failed g.row.B (g.D.Disk.told c.args.disk.now).seen (phases_of c.args.plan.now)
    (own_writes c.loop-i.over.own) c.loop-i.i e.0.0 (omega (arith, below)) c.loop-i.invariant.own
    (((c.loop-i.invariant.trace tells).same e.0.0).0 c.in_err-keeps.ensures.place)
    (failed_outside {T = Bool} read_of (Err e) _ _ _ c.in_err-keeps.ensures.same.through.2 c.in_err-keeps.ensures.blames))

pub step_on-requires-clause-followed : goal.step_on-requires-clause-followed
step_on-requires-clause-followed g c = λ tells.
    let phases = phases_of c.args.plan.now in
    let d = (g.D.Disk.told c.args.disk.now).seen in
    let lt : c.loop-i.i < length c.args.plan.now.phases.items =
    omega (arith, c.loop-i-test.true, c.len-i-end.ensures, c.args.plan.now.phases.ok) in
    let below = index_within c.args.plan.now.phases.items c.loop-i.i lt in
    let lent = lent_phase c.args.plan.now.phases.items c.loop-i.i c.index-phase.result.now lt c.index-phase.ensures in
    let seen = seen_on phases d c.loop-i.i (writes_of c.deref-in-loop-i-2.result.now) _ _ below
    (lent c.deref-in-loop-i-2.result.now c.deref-in-loop-i-2.ensures.value)
    (ap (λ (t : Told). t.seen) (c.in_ok-keeps.ensures.same.same tells) ∙ c.loop-i.invariant.seen tells) c.put_phase.ensures.seen in
    let o = current_of c.args.layouts.now.old c.args.layouts.now.new c.loop-i.switch in
    let next = followed_next g.row.B phases d c.loop-i.i below (writes_of c.deref-in-loop-i-3.result.now)
    (lent c.deref-in-loop-i-3.result.now c.deref-in-loop-i-3.ensures.value) o c.current-in-loop-i.result.now c.current-in-loop-i.ensures
    c.loop-i.followed c.follow_writes.new.followed (c.loop-i.invariant.followed tells) c.follow_writes.ensures in
    let now = subst (λ (q : Option Layout). AreFollowed g.row.B (disk_after phases d (c.loop-i.i + 1)) q c.still_decided.new.followed)
    c.current-denoted.ensures (c.in_ok-decided.ensures.followed (disk_after phases d (c.loop-i.i + 1))
    (subst (λ (q : Option Layout). AreFollowed g.row.B (disk_after phases d (c.loop-i.i + 1)) q c.follow_writes.new.followed)
    (sym c.current-denoted.ensures) next)) in
    subst (λ (x : Sectors). AreFollowed g.row.B x o c.still_decided.new.followed) (sym seen) now

pub returns-in_err-decided-clause-same : goal.returns-in_err-decided-clause-same
returns-in_err-decided-clause-same g c =
    let same_here : OnlyReads g.D.Disk c.args.disk.now c.keeps_read.new.disk.disk.now =
    g.met.D.Disk.reads_on _ _ _ c.loop-i.invariant.same c.in_ok-keeps.ensures.same.through.0.below in
    let same : OnlyReads g.D.Disk c.args.disk.now c.put_phase.new.over.disk.now =
    subst (λ (x : _). OnlyReads g.D.Disk c.args.disk.now x) (sym c.put_phase.ensures.disk) same_here in
    search (rules, same)

pub returns-in_err-decided-clause-blames : goal.returns-in_err-decided-clause-blames
returns-in_err-decided-clause-blames g c =
    let quiet_here : g.D.Disk.faults c.keeps_read.new.disk.disk.now ≡ g.D.Disk.faults c.args.disk.now =
    blames_below g.D.Disk read_of (Ok c.in_ok-keeps.keeps) _ _ _ _ c.in_ok-keeps.ensures.same.through.0 c.in_ok-keeps.ensures.blames
    ∙ c.loop-i.invariant.quiet in
    let quiet : g.D.Disk.faults c.put_phase.new.over.disk.now ≡ g.D.Disk.faults c.args.disk.now =
    ap g.D.Disk.faults c.put_phase.ensures.disk ∙ quiet_here in
    search (rules, quiet)

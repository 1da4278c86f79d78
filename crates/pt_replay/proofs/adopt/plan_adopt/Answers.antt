use Rattle.std.proofs.Common.{◌∙◌, inr, sym, ap, Err}
use Rattle.pt_replay.specs.Wanted.{disk_of}
use Rattle.pt_replay.proofs.Walk.{asked_of}
use Rattle.pt_replay.proofs.SayingLike.{says_unlike, equal}
use Rattle.pt_replay.proofs.adopt.plan_adopt.Goals as goal

pub returns-in-Ok-clause-ok : goal.returns-in-Ok-clause-ok
returns-in-Ok-clause-ok g c =
    rw c.in-Some-new.ensures.seen at (rw c.in-Some.ensures.seen at (rw c.primary_or-primary.ensures at (c.in-Ok.ensures.ready tt tt)))

pub returns-in-Ok-clause-count : goal.returns-in-Ok-clause-count
returns-in-Ok-clause-count g c =
    sym c.in-Some-new.ensures.view.count_is
    ∙ (equal c.in-Some-new.model.sectors c.in-Some.disk.sectors (λ not. let no = c.in-Ok.ensures.other_size.1 not in cc)
    ∙ c.in-Some.ensures.view.count_is)

pub returns-clause-err : goal.returns-clause-err
returns-clause-err g c = rw c.unlike.ensures (inr (
  c.in-Some.ensures.is_view,
  inr (
    c.in-Some-new.ensures.is_view,
    says_unlike g.row.B c.args.view.now c.args.other.now (disk_of g.row.B c.args.view.now c.args.elsewhere.items)
        (disk_of g.row.B c.args.other.now c.args.beyond.items) c.in-Err.error
        (rw c.in-Some-new.ensures.seen at (rw c.in-Some.ensures.seen at
        (rw c.primary_or-primary.ensures at (c.in-Err.ensures.refused tt tt))))
        (λ is same. c.in-Err.ensures.other_size.0 (ap Err is)
        (c.in-Some-new.ensures.view.count_is ∙ (same ∙ sym c.in-Some.ensures.view.count_is)))
        (λ not. let is = c.in-Err.ensures.other_size.1
        (λ same. not (sym c.in-Some-new.ensures.view.count_is ∙ (same ∙ c.in-Some.ensures.view.count_is))) in cc)
        (asked_of g.row.B c.args.view.now _ _ _ _ _ _ _ _ c.in-Some.ensures.view c.checked_plan_like_by.ensures.same.through.1
        c.in-Err.ensures.blames)
        (asked_of g.row.B c.args.other.now _ _ _ _ _ _ _ _ c.in-Some-new.ensures.view c.checked_plan_like_by.ensures.same_other.through.1
        c.in-Err.ensures.blames_other)
        (rw c.in-Some-new.ensures.seen at (rw c.in-Some.ensures.seen at
        (rw c.primary_or-primary.ensures at (c.in-Err.ensures.place tt tt))))
        (rw c.in-Some-new.ensures.seen at (c.in-Err.ensures.place_other tt)),
  ),
))

use Rattle.std.proofs.Common.{◌≡◌, ◌∙◌, ℕ, List, length, refl, sym, ap, subst, arith, Option, Some}
use Rattle.std.specs.Prelude.{IfSome, slice_set}
use Rattle.std.proofs.lemmas.Result.{IfOk-weaker}
use Rattle.pt_sector.specs.Sectors.{Sectors, written}
use Rattle.pt_sector.specs.inner.ForFields.{length-written}
use Rattle.pt_apply.specs.Plans.{writes_of}
use Rattle.pt_apply.specs.declared.plan.Write.{Write}
use Rattle.pt_members.specs.Tables.{IsGptTable}
use Rattle.pt_members.specs.declared.layout.Layout.{Layout}
use Rattle.pt_recover.specs.Denotes.{Denotes}
use Rattle.pt_recover.specs.declared.trace.Trace.{Trace}
use Rattle.pt_recover.specs.declared.trace.TracedRun.{TracedRun}
use Rattle.pt_check.specs.inner.Following.{IsDecided, StillIs, AreApart}
use Rattle.pt_check.proofs.ByCopies.{followed_of, one_write, still, some_as}
use Rattle.pt_check.proofs.following.still_decided.Goals as goal

pub returns-in-Some-followed-clause-same : goal.returns-in-Some-followed-clause-same
returns-in-Some-followed-clause-same g c = λ d denotes are.
    let ws = writes_of c.args.phase.now in
    let x = written ws d in
    let l = c.in-Some.layout in
    let t = c.in-Gpt.table in
    let here = followed_of g.row.B x c.args.layout.now c.args.followed.now l t c.in-Some-followed.copies
    c.in-Some.is c.in-Gpt.is c.in-Some-followed.is are in
    let w = c.index-phase-0.result in
    let one : length c.args.phase.now ≡ 1 = omega (arith, c.if-phase-ne1.false) in
    let set : x ≡ slice_set d w.lba.0 w.bytes = one_write c.args.phase.now w _ d one c.index-phase-0.is in
    let count : l.sectors ≡ length d = here.sectors ∙ length-written ws d in
    let before = subst (λ (o : Option Layout). Denotes g.row.B d o) c.in-Some.is denotes in
    let at_end = subst (λ (n : ℕ). IsGptTable g.row.B n w.lba.0) count
    (subst (λ (y : Write g.row.B). IsGptTable g.row.B l.sectors y.lba.0) (sym c.index-phase-0.is) (c.if-not-is_at_end.ensures.0 refl)) in
    let apart = subst (λ (n : ℕ). AreApart g.row.B n l.body) (length-written ws d) here.apart in
    let here_lba = ap (λ (y : Write g.row.B). y.lba.0) c.index-phase-0.is in
    let zeroth : ¬ (w.lba.0 ≡ 0) = λ is. omega (arith, is, c.if-lba-eq0.false, here_lba) in
    let now = λ (runs : List TracedRun) (is : IsDecided g.row.B x l t runs).
    subst (λ (y : Sectors). StillIs g.row.B y (Some l) runs) (sym set)
    (still g.row.B d l t w.lba.0 w.bytes before c.in-Gpt.is zeroth at_end apart runs
    (subst (λ (y : Sectors). IsDecided g.row.B y l t runs) set is)) in
    IfOk-weaker c.decided.result (λ (r : Option Trace). IfSome r (IsDecided g.row.B x l t))
    (λ (r : Option Trace). IfSome r (StillIs g.row.B x c.args.layout.now))
    (λ r is. subst (λ (o : Option Layout). IfSome r (StillIs g.row.B x o)) (sym c.in-Some.is)
    (some_as (IsDecided g.row.B x l t) (StillIs g.row.B x (Some l)) r now is))
    (c.decided.ensures.decided x here)

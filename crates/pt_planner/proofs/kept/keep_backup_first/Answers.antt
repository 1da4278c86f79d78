use Rattle.std.proofs.Common.{◌≡◌, ◌∙◌, [], ◌∷◌, ◌++◌, ap, sym, arith, refl}
use Rattle.std.proofs.lemmas.Result.{err_from_is_err_and}
use Rattle.pt_apply.specs.Plans.{writes_of}
use Rattle.pt_cases.specs.Writes.{one_write}
use Rattle.pt_planner.proofs.Standing.{phase_here}
use Rattle.pt_planner.proofs.kept.keep_backup_first.Goals as goal

pub leave_out-requires : goal.leave_out-requires
leave_out-requires g c = (
  omega arith,
  (
    let len = c.in_ok-keep_open.ensures.len in let within = c.requires.within in omega (arith, len, within),
    rw c.in_ok-keep_open.ensures.same.same_count c.in_ok-keep_open.ensures.range,
  ),
)

pub returns-in_err-leave_out-clause-place : goal.returns-in_err-leave_out-clause-place
returns-in_err-leave_out-clause-place g c =
    let p = err_from_is_err_and c.from_residual-in_err-leave_out.result c.from_residual-in_err-leave_out.ensures.1 in
    rw (p.1, p.2) (c.in_ok-keep_open.ensures.tried c.in_err-leave_out.field-0.0.0.0 c.in_err-leave_out.ensures.place)

pub returns-clause-kept : goal.returns-clause-kept
returns-clause-kept g c = λ tells first at backup zeros array header last h is stands.
    let d = (g.D.Disk.told c.args.disk.now).seen in
    let p1 = first ++ one_write at backup in
    let wide = c.in_ok-keep_open.ensures.kept tells (p1 ∷ []) last zeros array header is refl in
    let left = c.in_ok-leave_out.ensures.kept tells [] (wide.0 ++ last) p1 wide.2 refl in
    let here : writes_of c.deref.result.now ≡ p1 =
    ap writes_of (c.deref.ensures.value ∙ ap (λ v. v.items) c.index.ensures)
    ∙ phase_here c.args.phases.now.items c.index.result.now [] (zeros ∷ array ∷ header ∷ last) p1 is in
    let same : c.last_bytes.result ≡ backup = c.last_bytes.ensures first at backup here in
    let count = c.sectors-sectors.ensures ∙ sym (g.met.D.Disk.sized c.args.disk.now tells) in (
      c.bridge-meanwhile.result,
      left.0,
      wide.0,
      rw (same, count) at (c.bridge-meanwhile.ensures h (rw same stands)),
      rw (c.in_ok-keep_open.ensures.same.same tells) at left.1,
      wide.1,
      left.2,
    )

use Rattle.std.proofs.lemmas.Result.{err_from_is_err_and}
use Rattle.std.proofs.Common.{◌≡◌, ◌+◌, ◌∙◌, ℕ, Option, length, get_or, sym, subst, arith}
use Rattle.pt_sector.specs.Sectors.{Sectors}
use Rattle.pt_sector.specs.Device.{Told}
use Rattle.pt_members.specs.Tables.{NextSectorIs}
use Rattle.pt_layout.specs.inner.Surveys.{ForeignOf, no_slice}
use Rattle.pt_members.proofs.Lowest.{Under, next_more}
use Rattle.pt_layout.proofs.Failing.{place_failed}
use Rattle.pt_layout.proofs.foreign.lowest_foreign.Goals as goal

pub loop-k-preserved : goal.loop-k-preserved
loop-k-preserved g c = record {
  same = g.met.D.Disk.reads_on c.args.disk.now c.loop-k.disk c.foreign_number.new.disk c.loop-k.invariant.same c.in_ok-number.ensures.same;
  quiet = c.in_ok-number.ensures.blames ∙ c.loop-k.invariant.quiet;
  lowest = λ tells.
      (let d : Sectors = (g.D.Disk.told c.args.disk.now).seen in
      let here : NextSectorIs (ForeignOf d (get_or c.args.slices.now c.loop-k.k no_slice)) 0 c.in_ok-number.number =
      subst (λ (t : Told). NextSectorIs (ForeignOf t.seen (get_or c.args.slices.now c.loop-k.k no_slice)) 0 c.in_ok-number.number)
      (c.loop-k.invariant.same.same tells) (c.in_ok-number.ensures.ok tells) in
      subst (λ (r : Option ℕ). NextSectorIs (Under (λ j. ForeignOf d (get_or c.args.slices.now j no_slice)) (c.loop-k.k + 1)) 0 r)
      (sym c.least-lowest.ensures)
      (next_more (λ j. ForeignOf d (get_or c.args.slices.now j no_slice)) c.loop-k.k 0 c.loop-k.lowest c.in_ok-number.number
      (c.loop-k.invariant.lowest tells) here));
}

pub returns-clause-ok : goal.returns-clause-ok
returns-clause-ok g c = λ tells.
    let d : Sectors = (g.D.Disk.told c.args.disk.now).seen in
    let all : c.loop-k.k ≡ length c.args.slices.now = omega arith in
    subst (λ (k : ℕ). NextSectorIs (Under (λ j. ForeignOf d (get_or c.args.slices.now j no_slice)) k) 0 c.loop-k.lowest) all
    (c.loop-k.invariant.lowest tells)

pub returns-in_err-number-clause-place : goal.returns-in_err-number-clause-place
returns-in_err-number-clause-place g c =
    let p = err_from_is_err_and c.from_residual.result c.from_residual.ensures.1 in
    rw (p.1, p.2) (place_failed c.args.slices.now c.loop-k.k (record {
      number = 0;
      first = 0;
      len = 0;
    }) c.in_err-number.field-0.0.0.0 (omega arith) c.in_err-number.ensures.place)

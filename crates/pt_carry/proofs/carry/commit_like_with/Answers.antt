use Rattle.std.proofs.Common.{◌∙◌, Ok, Err, sym}
use Rattle.std.proofs.lemmas.Result.{err_from_is_err_and}
use Rattle.pt_carry.proofs.Carrying.{first_refused, failed_carries, failed_stops, commit_carries, commit_leaves, commit_done, not_of_size}
use Rattle.pt_carry.proofs.carry.commit_like_with.Goals as goal

pub returns-in-Some-clause-carries : goal.returns-in-Some-clause-carries
returns-in-Some-clause-carries g c = λ tells other. (
  first_refused g.row.B c.sectors.result c.args.data.now _ _ c.in_ok-known.known (c.in_ok-known.ensures.ok tells other)
      (c.sectors.ensures ∙ c.in_ok-known.ensures.same.same_count ∙ sym (g.met.D.Disk.sized c.args.disk.now tells))
      c.in-Some.at.0 c.in-Some.why c.in-Some.ensures.some,
  c.in_ok-known.ensures.same.same tells,
)

pub returns-in_err-carry_data-clause-carries : goal.returns-in_err-carry_data-clause-carries
returns-in_err-carry_data-clause-carries g c = λ tells other.
    let p = err_from_is_err_and c.from_residual-in_err-carry_data.result c.from_residual-in_err-carry_data.ensures.1 in
    rw (p.1, p.2) (failed_carries g.row.B c.sectors.result c.args.data.now _ _ _ _ c.in_ok-known.known
    (c.in_ok-known.ensures.ok tells other)
    (c.sectors.ensures ∙ c.in_ok-known.ensures.same.same_count ∙ sym (g.met.D.Disk.sized c.args.disk.now tells))
    c.in_default.ensures.none (c.in_ok-known.ensures.same_other.same other) (c.in_ok-known.ensures.same.same tells)
    c.args.primary _ c.in_err-carry_data.field-0.0 (c.in_err-carry_data.ensures.cause tells other)
    (c.in_err-carry_data.ensures.part tells other))

pub returns-in_err-carry_data-clause-stops : goal.returns-in_err-carry_data-clause-stops
returns-in_err-carry_data-clause-stops g c = λ tells other.
    failed_stops g.row.B c.sectors.result c.args.data.now _ _ _ _ c.in_ok-known.known (c.in_ok-known.ensures.ok tells other)
    (c.sectors.ensures ∙ c.in_ok-known.ensures.same.same_count ∙ sym (g.met.D.Disk.sized c.args.disk.now tells))
    c.in_default.ensures.none (c.in_ok-known.ensures.same_other.same other) (c.in_ok-known.ensures.same.same tells)
    _ (c.in_err-carry_data.ensures.part tells other)

pub returns-in-Ok-clause-carries : goal.returns-in-Ok-clause-carries
returns-in-Ok-clause-carries g c = λ tells other.
    commit_carries g.row.B c.sectors.result c.args.data.now _ _ _ _ c.in_ok-known.known (c.in_ok-known.ensures.ok tells other)
    (c.sectors.ensures ∙ c.in_ok-known.ensures.same.same_count ∙ sym (g.met.D.Disk.sized c.args.disk.now tells))
    c.in_default.ensures.none (c.in_ok-known.ensures.same_other.same other) (c.in_ok-known.ensures.same.same tells)
    c.args.primary _ _ _ (c.in_ok-carry_data.ensures.all tells other) (c.in_ok-carry_data.ensures.same_other.same other)
    (Ok tt) (c.in-Ok.ensures.becomes tells other)

pub returns-in-Ok-clause-stops : goal.returns-in-Ok-clause-stops
returns-in-Ok-clause-stops g c = λ tells other.
    commit_leaves g.row.B c.sectors.result c.args.data.now _ _ _ _ c.in_ok-known.known (c.in_ok-known.ensures.ok tells other)
    (c.sectors.ensures ∙ c.in_ok-known.ensures.same.same_count ∙ sym (g.met.D.Disk.sized c.args.disk.now tells))
    c.in_default.ensures.none (c.in_ok-known.ensures.same_other.same other) (c.in_ok-known.ensures.same.same tells)
    c.args.primary _ _ _ (c.in_ok-carry_data.ensures.all tells other) (c.in_ok-carry_data.ensures.same_other.same other)
    (Ok tt) (c.in-Ok.ensures.becomes tells other)

pub returns-in-Ok-clause-done : goal.returns-in-Ok-clause-done
returns-in-Ok-clause-done g c = λ tells other.
    commit_done g.row.B c.sectors.result c.args.data.now _ _ _ _ c.in_ok-known.known (c.in_ok-known.ensures.ok tells other)
    (c.sectors.ensures ∙ c.in_ok-known.ensures.same.same_count ∙ sym (g.met.D.Disk.sized c.args.disk.now tells))
    c.in_default.ensures.none (c.in_ok-known.ensures.same_other.same other) (c.in_ok-known.ensures.same.same tells)
    c.args.primary _ _ _ (c.in_ok-carry_data.ensures.all tells other) (c.in_ok-carry_data.ensures.same_other.same other)
    (g.met.D.Disk.may_be_seen c.commit_like_by.new.disk tells) (c.in-Ok.ensures.becomes tells other)

pub returns-clause-carries : goal.returns-clause-carries
returns-clause-carries g c = λ tells other.
    commit_carries g.row.B c.sectors.result c.args.data.now _ _ _ _ c.in_ok-known.known (c.in_ok-known.ensures.ok tells other)
    (c.sectors.ensures ∙ c.in_ok-known.ensures.same.same_count ∙ sym (g.met.D.Disk.sized c.args.disk.now tells))
    c.in_default.ensures.none (c.in_ok-known.ensures.same_other.same other) (c.in_ok-known.ensures.same.same tells)
    c.args.primary _ _ _ (c.in_ok-carry_data.ensures.all tells other) (c.in_ok-carry_data.ensures.same_other.same other)
    (Err c.in-Err.error) (c.in-Err.ensures.becomes tells other)

pub returns-clause-stops : goal.returns-clause-stops
returns-clause-stops g c = λ tells other.
    commit_leaves g.row.B c.sectors.result c.args.data.now _ _ _ _ c.in_ok-known.known (c.in_ok-known.ensures.ok tells other)
    (c.sectors.ensures ∙ c.in_ok-known.ensures.same.same_count ∙ sym (g.met.D.Disk.sized c.args.disk.now tells))
    c.in_default.ensures.none (c.in_ok-known.ensures.same_other.same other) (c.in_ok-known.ensures.same.same tells)
    c.args.primary _ _ _ (c.in_ok-carry_data.ensures.all tells other) (c.in_ok-carry_data.ensures.same_other.same other)
    (Err c.in-Err.error) (c.in-Err.ensures.becomes tells other)

pub returns-in_err-carry_data-clause-other_size : goal.returns-in_err-carry_data-clause-other_size
returns-in_err-carry_data-clause-other_size g c =
    let p = err_from_is_err_and c.from_residual-in_err-carry_data.result c.from_residual-in_err-carry_data.ensures.1 in
    rw (p.1, p.2) (not_of_size c.in_err-carry_data.field-0.0 _ _ c.in_err-carry_data.ensures.own c.in_ok-known.ensures.sized)

use Rattle.std.proofs.Common.{◌≡◌, ℕ, List, Result, length, ap, subst, inl, refl, sym, inr}
use Rattle.std.specs.Prelude.{◌⊎◌, ◌<◌, OnOk, IfOk, IfErr, Option, Some, None}
use Rattle.std.proofs.lemmas.Result.{on_ok_weaker, IfErr-weaker, err_from_is_err_and}
use Rattle.pt_sector.proofs.CallsLemmas.{blames_after}
use Rattle.pt_sector.specs.Sectors.{Sectors, sector}
use Rattle.pt_sector.specs.Device.{Told}
use Rattle.pt_recover.specs.Denotes.{IsOutsideDisk, TellsNothing, fault_in, FailedInDisk, BodyIs, BodyReads, head, RecordsAre, IsMbr}
use Rattle.pt_recover.specs.Denotes.{IsMbrDisk}
use Rattle.pt_recover.specs.inner.Denotes.{RestReads}
use Rattle.pt_recover.specs.Spans.{Adds}
use Rattle.pt_recover.specs.declared.error.NoTable.{NoTable}
use Rattle.pt_recover.specs.declared.trace.TracedRun.{TracedRun}
use Rattle.pt_recover.proofs.Bodies.{some_sector, body_read, body_read_or, no_sector, no_sector_read}
use Rattle.pt_recover.proofs.Failed.{body_failed}
use Rattle.pt_mbr.specs.declared.mbr.Mbr.{Mbr}
use Rattle.pt_recover.proofs.body.body_after.Goals as goal

-- what the rest of a disk gives after sector 0, with another disk's value for what was seen
traced_rest : {A E : Type 0} (b : ℕ) (d : Sectors) (t : Told) (old mid new : List TracedRun) (r : Result A E) → 0 < length d → t.seen ≡ d
    → Adds old mid (λ s. s ≡ 0)
    → OnOk r (Adds mid new (RestReads b t.seen)) → OnOk r (Adds old new (BodyReads b d))
traced_rest b d t old mid new r some same first =
    on_ok_weaker r (λ adds. body_read b d old mid new some first (subst (λ (e : Sectors). Adds mid new (RestReads b e)) same adds))

traced_err_rest : {A : Type 0} (b : ℕ) (d : Sectors) (t : Told) (old mid new : List TracedRun) (r : Result A NoTable) → 0 < length d
    → t.seen ≡ d → Adds old mid (λ s. s ≡ 0)
    → IfErr r (λ e. IsOutsideDisk e ⊎ Adds mid new (RestReads b t.seen)) → IfErr r (λ e. IsOutsideDisk e ⊎ Adds old new (BodyReads b d))
traced_err_rest b d t old mid new r some same first =
    IfErr-weaker r (λ e. IsOutsideDisk e ⊎ Adds mid new (RestReads b t.seen)) (λ e. IsOutsideDisk e ⊎ Adds old new (BodyReads b d))
    (λ e adds. body_read_or (IsOutsideDisk e) b d old mid new some first
    (subst (λ (f : Sectors). IsOutsideDisk e ⊎ Adds mid new (RestReads b f)) same adds))

failed_rest : {A : Type 0} (b : ℕ) (d : Sectors) (t : Told) (r : Result A NoTable) → t.seen ≡ d
    → IfErr r (FailedInDisk (RestReads b t.seen)) → IfErr r (FailedInDisk (BodyReads b d))
failed_rest b d t r same =
    IfErr-weaker r (FailedInDisk (RestReads b t.seen)) (FailedInDisk (BodyReads b d))
    (λ e failed. body_failed b d e (subst (λ (f : Sectors). FailedInDisk (RestReads b f) e) same failed))

pub returns-in-Some-clause-traced : goal.returns-in-Some-clause-traced
returns-in-Some-clause-traced g c = λ tells.
    let d : Sectors = (g.D.Disk.told c.args.disk.now).seen in
    let some : 0 < length d =
    some_sector c.sectors.result (g.D.Disk.count c.args.disk.now) (length d) c.if-sectors-eq0.false c.sectors.ensures
    (g.met.D.Disk.sized c.args.disk.now tells) in
    traced_rest g.row.B d
    (g.D.Disk.told c.read_records.new.disk) c.args.trace.now c.add_one.new.self c.read_mbr.new.trace c.read_mbr.result some
    (ap (λ (t : Told). t.seen) (c.in_ok-mbr.ensures.same.same tells)) c.in_ok-add_one.ensures (c.read_mbr.ensures.traced tells)

pub returns-in-Some-clause-traced_err : goal.returns-in-Some-clause-traced_err
returns-in-Some-clause-traced_err g c = λ tells.
    let d : Sectors = (g.D.Disk.told c.args.disk.now).seen in
    let some : 0 < length d =
    some_sector c.sectors.result (g.D.Disk.count c.args.disk.now) (length d) c.if-sectors-eq0.false c.sectors.ensures
    (g.met.D.Disk.sized c.args.disk.now tells) in
    traced_err_rest g.row.B d
    (g.D.Disk.told c.read_records.new.disk) c.args.trace.now c.add_one.new.self c.read_mbr.new.trace c.read_mbr.result some
    (ap (λ (t : Told). t.seen) (c.in_ok-mbr.ensures.same.same tells)) c.in_ok-add_one.ensures (c.read_mbr.ensures.traced_err tells)

pub returns-in-Some-clause-place : goal.returns-in-Some-clause-place
returns-in-Some-clause-place g c = λ tells.
    failed_rest g.row.B (g.D.Disk.told c.args.disk.now).seen (g.D.Disk.told c.read_records.new.disk) c.read_mbr.result
    (ap (λ (t : Told). t.seen) (c.in_ok-mbr.ensures.same.same tells)) (c.read_mbr.ensures.place tells)

pub returns-in-None-clause-traced : goal.returns-in-None-clause-traced
returns-in-None-clause-traced g c = λ tells.
    let d : Sectors = (g.D.Disk.told c.args.disk.now).seen in
    let some : 0 < length d =
    some_sector c.sectors.result (g.D.Disk.count c.args.disk.now) (length d) c.if-sectors-eq0.false c.sectors.ensures
    (g.met.D.Disk.sized c.args.disk.now tells) in
    traced_rest g.row.B d
    (g.D.Disk.told c.read_records.new.disk) c.args.trace.now c.add_one.new.self c.read_gpt.new.trace c.read_gpt.result some
    (ap (λ (t : Told). t.seen) (c.in_ok-mbr.ensures.same.same tells)) c.in_ok-add_one.ensures (c.read_gpt.ensures.traced tells)

pub returns-in-None-clause-traced_err : goal.returns-in-None-clause-traced_err
returns-in-None-clause-traced_err g c = λ tells.
    let d : Sectors = (g.D.Disk.told c.args.disk.now).seen in
    let some : 0 < length d =
    some_sector c.sectors.result (g.D.Disk.count c.args.disk.now) (length d) c.if-sectors-eq0.false c.sectors.ensures
    (g.met.D.Disk.sized c.args.disk.now tells) in
    traced_err_rest g.row.B d
    (g.D.Disk.told c.read_records.new.disk) c.args.trace.now c.add_one.new.self c.read_gpt.new.trace c.read_gpt.result some
    (ap (λ (t : Told). t.seen) (c.in_ok-mbr.ensures.same.same tells)) c.in_ok-add_one.ensures (c.read_gpt.ensures.traced_err tells)

pub returns-in-None-clause-place : goal.returns-in-None-clause-place
returns-in-None-clause-place g c = λ tells.
    failed_rest g.row.B (g.D.Disk.told c.args.disk.now).seen (g.D.Disk.told c.read_records.new.disk) c.read_gpt.result
    (ap (λ (t : Told). t.seen) (c.in_ok-mbr.ensures.same.same tells)) (c.read_gpt.ensures.place tells)

pub returns-in-Some-clause-same : goal.returns-in-Some-clause-same
returns-in-Some-clause-same g c =
    g.met.D.Disk.reads_on c.args.disk.now c.read_records.new.disk c.read_mbr.new.disk c.in_ok-mbr.ensures.same c.read_mbr.ensures.same

pub returns-in-Some-clause-blames : goal.returns-in-Some-clause-blames
returns-in-Some-clause-blames g c =
    blames_after fault_in c.read_mbr.result (g.D.Disk.faults c.args.disk.now) (g.D.Disk.faults c.read_records.new.disk)
    (g.D.Disk.faults c.read_mbr.new.disk) c.in_ok-mbr.ensures.blames c.read_mbr.ensures.blames

pub returns-in-Some-clause-ok : goal.returns-in-Some-clause-ok
returns-in-Some-clause-ok g c = λ tells.
    subst (λ (t : Told). IfOk c.read_mbr.result (λ y. BodyIs g.row.B t.seen y)) (c.in_ok-mbr.ensures.same.same tells)
    (c.read_mbr.ensures.ok tells)

pub returns-in-Some-clause-err : goal.returns-in-Some-clause-err
returns-in-Some-clause-err g c = λ tells.
    subst (λ (t : Told). IfErr c.read_mbr.result (λ e. TellsNothing g.row.B t.seen e)) (c.in_ok-mbr.ensures.same.same tells)
    (c.read_mbr.ensures.err tells)

pub returns-in-None-clause-same : goal.returns-in-None-clause-same
returns-in-None-clause-same g c =
    g.met.D.Disk.reads_on c.args.disk.now c.read_records.new.disk c.read_gpt.new.disk c.in_ok-mbr.ensures.same c.read_gpt.ensures.same

pub returns-in-None-clause-blames : goal.returns-in-None-clause-blames
returns-in-None-clause-blames g c =
    blames_after fault_in c.read_gpt.result (g.D.Disk.faults c.args.disk.now) (g.D.Disk.faults c.read_records.new.disk)
    (g.D.Disk.faults c.read_gpt.new.disk) c.in_ok-mbr.ensures.blames c.read_gpt.ensures.blames

pub returns-in-None-clause-ok : goal.returns-in-None-clause-ok
returns-in-None-clause-ok g c = λ tells.
    subst (λ (t : Told). IfOk c.read_gpt.result (λ y. BodyIs g.row.B t.seen y)) (c.in_ok-mbr.ensures.same.same tells)
    (c.read_gpt.ensures.ok tells)

pub returns-in-None-clause-err : goal.returns-in-None-clause-err
returns-in-None-clause-err g c = λ tells.
    subst (λ (t : Told). IfErr c.read_gpt.result (λ e. TellsNothing g.row.B t.seen e)) (c.in_ok-mbr.ensures.same.same tells)
    (c.read_gpt.ensures.err tells)

pub returns-in_err-mbr-clause-same : goal.returns-in_err-mbr-clause-same
returns-in_err-mbr-clause-same g c = c.in_err-mbr.ensures.same

pub returns-in_err-mbr-clause-blames : goal.returns-in_err-mbr-clause-blames
returns-in_err-mbr-clause-blames g c =
    let p = err_from_is_err_and c.from_residual-in_err-mbr.result c.from_residual-in_err-mbr.ensures.1 in
    rw (p.1, p.2) c.in_err-mbr.ensures.blames

pub returns-in_err-mbr-clause-place : goal.returns-in_err-mbr-clause-place
returns-in_err-mbr-clause-place g c = λ tells.
    let p = err_from_is_err_and c.from_residual-in_err-mbr.result c.from_residual-in_err-mbr.ensures.1 in
    rw (p.1, p.2) (head (some_sector c.sectors.result (g.D.Disk.count c.args.disk.now)
    (length (g.D.Disk.told c.args.disk.now).seen) c.if-sectors-eq0.false c.sectors.ensures
    (g.met.D.Disk.sized c.args.disk.now tells)) c.in_err-mbr.ensures.place)

pub returns-in_err-mbr-clause-err : goal.returns-in_err-mbr-clause-err
returns-in_err-mbr-clause-err g c = λ tells.
    let p = err_from_is_err_and c.from_residual-in_err-mbr.result c.from_residual-in_err-mbr.ensures.1 in
    rw (p.1, p.2) (inl tt)

pub returns-in_err-mbr-clause-traced_err : goal.returns-in_err-mbr-clause-traced_err
returns-in_err-mbr-clause-traced_err g c = λ tells.
    let p = err_from_is_err_and c.from_residual-in_err-mbr.result c.from_residual-in_err-mbr.ensures.1 in
    rw (p.1, p.2) (inl tt)

pub returns-in_err-add_one-clause-place : goal.returns-in_err-add_one-clause-place
returns-in_err-add_one-clause-place g c = λ tells.
    let p = err_from_is_err_and c.from_residual.result c.from_residual.ensures.1 in
    rw (p.1, p.2) tt

pub returns-in_err-add_one-clause-err : goal.returns-in_err-add_one-clause-err
returns-in_err-add_one-clause-err g c = λ tells.
    let p = err_from_is_err_and c.from_residual.result c.from_residual.ensures.1 in
    rw (p.1, p.2) (inl tt)

pub returns-in_err-add_one-clause-traced_err : goal.returns-in_err-add_one-clause-traced_err
returns-in_err-add_one-clause-traced_err g c = λ tells.
    let p = err_from_is_err_and c.from_residual.result c.from_residual.ensures.1 in
    rw (p.1, p.2) (inl tt)

pub returns-then-sectors-eq0-clause-err : goal.returns-then-sectors-eq0-clause-err
returns-then-sectors-eq0-clause-err g c = λ tells.
    no_sector g.row.B (g.D.Disk.told c.args.disk.now).seen c.sectors.result (g.D.Disk.count c.args.disk.now)
    c.if-sectors-eq0.true c.sectors.ensures
    (g.met.D.Disk.sized c.args.disk.now tells)

pub returns-then-sectors-eq0-clause-same : goal.returns-then-sectors-eq0-clause-same
returns-then-sectors-eq0-clause-same g c = g.met.D.Disk.reads_same c.args.disk.now

pub returns-then-sectors-eq0-clause-blames : goal.returns-then-sectors-eq0-clause-blames
returns-then-sectors-eq0-clause-blames g c = refl

pub returns-then-sectors-eq0-clause-traced_err : goal.returns-then-sectors-eq0-clause-traced_err
returns-then-sectors-eq0-clause-traced_err g c = λ tells.
    inr (no_sector_read g.row.B (g.D.Disk.told c.args.disk.now).seen c.sectors.result (g.D.Disk.count c.args.disk.now) c.args.trace.now
    c.if-sectors-eq0.true c.sectors.ensures (g.met.D.Disk.sized c.args.disk.now tells))

pub returns-in_err-add_one-clause-same : goal.returns-in_err-add_one-clause-same
returns-in_err-add_one-clause-same g c = g.met.D.Disk.reads_same c.args.disk.now

pub returns-in_err-add_one-clause-blames : goal.returns-in_err-add_one-clause-blames
returns-in_err-add_one-clause-blames g c =
    let p = err_from_is_err_and c.from_residual.result c.from_residual.ensures.1 in
    rw (p.1, p.2) refl

pub read_mbr-requires-clause-is_mbr : goal.read_mbr-requires-clause-is_mbr
read_mbr-requires-clause-is_mbr g c = λ tells.
    let d : Sectors = (g.D.Disk.told c.args.disk.now).seen in
    let is : RecordsAre (sector d 0) (Some c.in-Some.mbr) =
    subst (λ (o : Option Mbr). RecordsAre (sector d 0) o) c.in-Some.is (c.in_ok-mbr.ensures.ok tells) in
    let some : 0 < length d =
    some_sector c.sectors.result (g.D.Disk.count c.args.disk.now) (length d) c.if-sectors-eq0.false c.sectors.ensures
    (g.met.D.Disk.sized c.args.disk.now tells) in
    subst (λ (t : Told). IsMbr t.seen c.in-Some.mbr.records) (sym (c.in_ok-mbr.ensures.same.same tells)) ((some, is.0), is.1)

pub read_gpt-requires-clause-no_mbr : goal.read_gpt-requires-clause-no_mbr
read_gpt-requires-clause-no_mbr g c = λ tells.
    let d : Sectors = (g.D.Disk.told c.args.disk.now).seen in
    let is : RecordsAre (sector d 0) None =
    subst (λ (o : Option Mbr). RecordsAre (sector d 0) o) c.in-None.is (c.in_ok-mbr.ensures.ok tells) in
    subst (λ (t : Told). ¬ IsMbrDisk t.seen) (sym (c.in_ok-mbr.ensures.same.same tells)) (λ disk. is disk.1)

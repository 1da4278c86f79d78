use Rattle.std.proofs.lemmas.Result.{err_from_is_err_and}
use Rattle.std.proofs.Common.{ℕ, List, ap, subst}
use Rattle.pt_sector.specs.Sectors.{sector}
use Rattle.pt_sector.specs.declared.address.Lba.{Lba}
use Rattle.pt_recover.specs.Denotes.{RecordsAre}
use Rattle.pt_layout.specs.inner.Surveys.{HeadIs}
use Rattle.pt_layout.proofs.health.read_first.Goals as goal

pub returns-in_err-read_sector-clause-same : goal.returns-in_err-read_sector-clause-same
returns-in_err-read_sector-clause-same g c = c.in_err-read_sector.ensures.same

pub returns-in_err-read_sector-clause-blames : goal.returns-in_err-read_sector-clause-blames
returns-in_err-read_sector-clause-blames g c =
    let p = err_from_is_err_and c.from_residual.result c.from_residual.ensures.1 in
    rw (p.1, p.2) c.in_err-read_sector.ensures.blames

pub returns-in_err-read_sector-clause-place : goal.returns-in_err-read_sector-clause-place
returns-in_err-read_sector-clause-place g c =
    let p = err_from_is_err_and c.from_residual.result c.from_residual.ensures.1 in
    rw (p.1, p.2) (ap (λ (l : Lba). l.0) c.in_err-read_sector.ensures.fault)

pub returns-clause-same : goal.returns-clause-same
returns-clause-same g c = c.in_ok-read_sector.ensures.same

pub returns-clause-blames : goal.returns-clause-blames
returns-clause-blames g c = c.in_ok-read_sector.ensures.blames

pub returns-clause-head : goal.returns-clause-head
returns-clause-head g c = λ tells.
    subst (λ (n : ℕ). HeadIs n (sector (g.D.Disk.told c.args.disk.now).seen 0) c.head_in-head.result) c.sectors-sectors.ensures
    (subst (λ (bytes : List ℕ). HeadIs c.sectors-sectors.result bytes c.head_in-head.result) (c.in_ok-read_sector.ensures.bytes tells)
    c.head_in-head.ensures)

pub returns-clause-records : goal.returns-clause-records
returns-clause-records g c = λ tells.
    subst (λ (bytes : List ℕ). RecordsAre bytes c.records_of-records.result) (c.in_ok-read_sector.ensures.bytes tells)
    c.records_of-records.ensures

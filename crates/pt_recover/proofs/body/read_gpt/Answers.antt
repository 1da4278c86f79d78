use Rattle.std.proofs.lemmas.Result.{err_from_is_err_and}
use Rattle.std.proofs.Common.{ℕ, length, refl, subst, ◌∙◌, sym, inr}
use Rattle.std.specs.Prelude.{Result, Ok, Err}
use Rattle.pt_sector.specs.Sectors.{Sectors}
use Rattle.pt_gpt.specs.Copies.{HasRoom}
use Rattle.pt_gpt.specs.declared.error.CopyError.{CopyError}
use Rattle.pt_recover.specs.Denotes.{EitherIs}
use Rattle.pt_recover.specs.declared.tables.FoundCopy.{FoundCopy}
use Rattle.pt_recover.proofs.Bodies.{enough, rest_gpt, no_copies, too_small, no_rest, found_table}
use Rattle.pt_recover.proofs.Failed.{rest_of_table}
use Rattle.pt_recover.proofs.body.read_gpt.Goals as goal

pub returns-in-Ok-clause-ok : goal.returns-in-Ok-clause-ok
returns-in-Ok-clause-ok g c = λ tells.
    let d : Sectors = (g.D.Disk.told c.args.disk.now).seen in
    let room : HasRoom g.row.B (length d) =
    enough g.row.B c.sectors-sectors.result (g.D.Disk.count c.args.disk.now) (length d) (c.if-not-has_room.ensures.0 refl)
    c.sectors-sectors.ensures (g.met.D.Disk.sized c.args.disk.now tells) in
    let found : EitherIs g.row.B d (Ok c.in-Ok.found) =
    subst (λ (r : Result FoundCopy (CopyError × CopyError)). EitherIs g.row.B d r) c.in-Ok.is (c.in_ok-found.ensures.ok tells) in
    let f = c.in-Ok.found in (c.requires.no_mbr tells, room, found_table g.row.B d f.no_primary f.header f.table room found)

pub returns-in-Ok-clause-traced : goal.returns-in-Ok-clause-traced
returns-in-Ok-clause-traced g c = λ tells.
    let d : Sectors = (g.D.Disk.told c.args.disk.now).seen in
    rest_gpt g.row.B d c.args.trace.now c.read_either.new.trace (c.requires.no_mbr tells)
    (enough g.row.B c.sectors-sectors.result (g.D.Disk.count c.args.disk.now) (length d) (c.if-not-has_room.ensures.0 refl)
    c.sectors-sectors.ensures (g.met.D.Disk.sized c.args.disk.now tells)) (c.in_ok-found.ensures.traced tells)

pub returns-in-Err-clause-err : goal.returns-in-Err-clause-err
returns-in-Err-clause-err g c = λ tells.
    let d : Sectors = (g.D.Disk.told c.args.disk.now).seen in
    let faults : EitherIs g.row.B d (Err (c.in-Err.primary, c.in-Err.backup)) =
    subst (λ (r : Result FoundCopy (CopyError × CopyError)). EitherIs g.row.B d r) c.in-Err.is (c.in_ok-found.ensures.ok tells) in
    no_copies g.row.B d c.in-Err.primary c.in-Err.backup (c.requires.no_mbr tells)
    (enough g.row.B c.sectors-sectors.result (g.D.Disk.count c.args.disk.now) (length d) (c.if-not-has_room.ensures.0 refl)
    c.sectors-sectors.ensures (g.met.D.Disk.sized c.args.disk.now tells)) faults.0 faults.1

pub returns-in-Err-clause-traced_err : goal.returns-in-Err-clause-traced_err
returns-in-Err-clause-traced_err g c = λ tells.
    let d : Sectors = (g.D.Disk.told c.args.disk.now).seen in
    inr (rest_gpt g.row.B d c.args.trace.now c.read_either.new.trace (c.requires.no_mbr tells)
    (enough g.row.B c.sectors-sectors.result (g.D.Disk.count c.args.disk.now) (length d) (c.if-not-has_room.ensures.0 refl)
    c.sectors-sectors.ensures (g.met.D.Disk.sized c.args.disk.now tells)) (c.in_ok-found.ensures.traced tells))

pub returns-in_err-found-clause-place : goal.returns-in_err-found-clause-place
returns-in_err-found-clause-place g c = λ tells.
    let d : Sectors = (g.D.Disk.told c.args.disk.now).seen in
    let p = err_from_is_err_and c.from_residual.result c.from_residual.ensures.1 in
    rw (p.1, p.2) (rest_of_table g.row.B d c.in_err-found.field-0.0 (c.requires.no_mbr tells)
    (enough g.row.B c.sectors-sectors.result (g.D.Disk.count c.args.disk.now) (length d) (c.if-not-has_room.ensures.0 refl)
    c.sectors-sectors.ensures (g.met.D.Disk.sized c.args.disk.now tells)) (c.in_err-found.ensures.place tells))

pub read_either-requires-clause-room : goal.read_either-requires-clause-room
read_either-requires-clause-room g c = subst (λ (n : ℕ). HasRoom g.row.B n) c.sectors-sectors.ensures (c.if-not-has_room.ensures.0 refl)

pub returns-then-not-has_room-clause-err : goal.returns-then-not-has_room-clause-err
returns-then-not-has_room-clause-err g c = λ tells.
    too_small g.row.B (g.D.Disk.told c.args.disk.now).seen (c.requires.no_mbr tells) (λ room.
    let has : HasRoom g.row.B c.sectors-sectors.result =
    subst (λ (n : ℕ). HasRoom g.row.B n) (g.met.D.Disk.sized c.args.disk.now tells ∙ sym c.sectors-sectors.ensures) room in
    let wrong = c.if-not-has_room.ensures.1 has in absurd cc)

pub returns-then-not-has_room-clause-same : goal.returns-then-not-has_room-clause-same
returns-then-not-has_room-clause-same g c = g.met.D.Disk.reads_same c.args.disk.now

pub returns-then-not-has_room-clause-blames : goal.returns-then-not-has_room-clause-blames
returns-then-not-has_room-clause-blames g c = refl

pub returns-then-not-has_room-clause-traced_err : goal.returns-then-not-has_room-clause-traced_err
returns-then-not-has_room-clause-traced_err g c = λ tells.
    inr (no_rest g.row.B (g.D.Disk.told c.args.disk.now).seen c.args.trace.now (c.requires.no_mbr tells) (λ room.
    let has : HasRoom g.row.B c.sectors-sectors.result =
    subst (λ (n : ℕ). HasRoom g.row.B n) (g.met.D.Disk.sized c.args.disk.now tells ∙ sym c.sectors-sectors.ensures) room in
    let wrong = c.if-not-has_room.ensures.1 has in absurd cc))

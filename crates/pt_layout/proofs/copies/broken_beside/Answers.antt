use Rattle.std.proofs.Common.{◌≡◌, ◌∙◌, ℕ, length, sym, subst}
use Rattle.pt_sector.specs.Sectors.{Sectors}
use Rattle.pt_gpt.specs.Copies.{HasRoom, SideReads}
use Rattle.pt_gpt.specs.declared.table.Side.TheVariants.{Backup}
use Rattle.pt_recover.proofs.Failed.{told_failed, inside_of}
use Rattle.pt_recover.proofs.Sides.{inside_fault}
use Rattle.pt_layout.specs.inner.Surveys.{PairIs}
use Rattle.pt_layout.proofs.Verdicts.{pair_broken}
use Rattle.pt_layout.proofs.copies.broken_beside.Goals as goal

pub returns-in-Ok-clause-ok : goal.returns-in-Ok-clause-ok
returns-in-Ok-clause-ok g c = λ tells.
    let d : Sectors = (g.D.Disk.told c.args.disk.now).seen in
    let found = c.args.primary.now in
    let sized : length d ≡ g.D.Disk.count c.args.disk.now = g.met.D.Disk.sized c.args.disk.now tells in
    pair_broken g.row.B d c.args.head found.header found.table c.in-Ok.backup c.broken_pair.result (c.requires.plain tells)
    (c.requires.head tells) (subst (λ (n : ℕ). HasRoom g.row.B n) (sym sized) c.requires.room) (c.requires.primary tells)
    (c.in-Ok.ensures.ok tells) (subst (λ (n : ℕ). PairIs n c.args.head found.header c.in-Ok.backup c.broken_pair.result)
    (c.sectors-sectors.ensures ∙ sym sized) c.broken_pair.ensures)

pub returns-in-Some-clause-place : goal.returns-in-Some-clause-place
returns-in-Some-clause-place g c = λ tells.
    told_failed (SideReads g.row.B (g.D.Disk.told c.args.disk.now).seen Backup) c.in-Err.e c.in-Some.failure
    (sym c.failure.ensures ∙ c.in-Some.is) (c.in-Err.ensures.place tells)

pub returns-in-None-clause-ok : goal.returns-in-None-clause-ok
returns-in-None-clause-ok g c = λ tells.
    let d : Sectors = (g.D.Disk.told c.args.disk.now).seen in
    let found = c.args.primary.now in (
      (
        found.table,
        record {
          room = subst (λ (n : ℕ). HasRoom g.row.B n) (sym (g.met.D.Disk.sized c.args.disk.now tells)) c.requires.room;
          head = found.header;
          stands = c.requires.primary tells;
        },
      ),
      inside_fault g.row.B d Backup c.in-Err.e (c.in-Err.ensures.err tells) (inside_of c.in-Err.e (sym c.failure.ensures ∙ c.in-None.is)),
    )

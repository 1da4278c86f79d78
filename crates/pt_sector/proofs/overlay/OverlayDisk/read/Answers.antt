use Rattle.std.proofs.Common.{◌≡◌, ◌∙◌, [], ◌∷◌, refl, sym, ap, subst, length, arith}
use Rattle.std.proofs.lemmas.List.{append-nil}
use Rattle.pt_sector.specs.Device.{Told, IsReadIn}
use Rattle.pt_sector.specs.inner.ForFields.{no_faults, through_same, outside_same}
use Rattle.pt_sector.proofs.CallsLemmas.{one_fault}
use Rattle.pt_sector.specs.Sectors.{sector, Has}
use Rattle.pt_sector.proofs.InOrder.{not_own}
use Rattle.pt_sector.proofs.Written.{sector-written}
use Rattle.pt_sector.specs.Overlays.{own_writes, shown, overlay_told}
use Rattle.pt_sector.proofs.overlay.OverlayDisk.read.Goals as goal

pub returns-then-get-clause-bytes : goal.returns-then-get-clause-bytes
returns-then-get-clause-bytes g c = λ tells.
    let seen = (g.D.Disk.told c.args.self.now.disk.now).seen in
    let sized : length seen ≡ g.D.Disk.count c.args.self.now.disk.now = g.met.D.Disk.sized c.args.self.now.disk.now tells in
    sym (sector-written (own_writes c.args.self.now.own) seen c.args.lba.0 (omega (arith, sized, c.requires))
    ∙ c.if-get.ensures (sector seen c.args.lba.0))

pub returns-in-Ok-clause-bytes : goal.returns-in-Ok-clause-bytes
returns-in-Ok-clause-bytes g c = λ tells.
    let seen = (g.D.Disk.told c.args.self.now.disk.now).seen in
    let sized : length seen ≡ g.D.Disk.count c.args.self.now.disk.now = g.met.D.Disk.sized c.args.self.now.disk.now tells in
    let same : sector (shown seen c.args.self.now.own) c.args.lba.0 ≡ sector seen c.args.lba.0 =
    sector-written (own_writes c.args.self.now.own) seen c.args.lba.0 (omega (arith, sized, c.requires))
    ∙ c.if-get.ensures (sector seen c.args.lba.0) in
    rw same (c.in-Ok.ensures.bytes tells)

pub returns-then-get-clause-same : goal.returns-then-get-clause-same
returns-then-get-clause-same g c = record {
  same_count = refl;
  same_name = refl;
  through = (through_same _ g.met.D.Disk.reads_same c.args.self.now.disk.now c.args.self.now.failed.items, refl, outside_same _ _);
  same = λ tells. refl;
  came = no_faults _ _ refl;
}

pub returns-in-Ok-clause-same : goal.returns-in-Ok-clause-same
returns-in-Ok-clause-same g c =
    let below = c.in-Ok.ensures in
    record {
      same_count = below.same.same_count;
      same_name = refl;
      through = (
        record { below = below.same; more = []; come_above = sym (append-nil _); come_below = below.blames ∙ sym (append-nil _) },
        refl,
        outside_same _ _,
      );
      same = λ tells. ap (λ (t : Told). overlay_told t.seen c.args.self.now.own c.args.self.now.past.items) (below.same.same tells);
      came = no_faults _ _ refl;
    }

pub returns-in-Err-clause-same : goal.returns-in-Err-clause-same
returns-in-Err-clause-same g c =
    let below = c.in-Err.ensures in
    record {
      same_count = below.same.same_count;
      same_name = refl;
      through = (
        record { below = below.same; more = c.in-Err.fault ∷ []; come_above = c.and-self.ensures; come_below = below.blames },
        refl,
        record {
          more = c.in-Err.fault ∷ [];
          come = c.and-self.ensures;
          outside = (
            subst (IsReadIn (λ s. ¬ Has (own_writes c.args.self.now.own) s)) (sym below.fault)
                (not_own (own_writes c.args.self.now.own) c.args.lba.0 c.args.self.now.own.sorted c.if-get.ensures),
            tt,
          );
        },
      );
      same = λ tells. ap (λ (t : Told). overlay_told t.seen c.args.self.now.own c.args.self.now.past.items) (below.same.same tells);
      came = one_fault _ _ c.in-Err.fault c.args.lba below.fault c.and-self.ensures;
    }

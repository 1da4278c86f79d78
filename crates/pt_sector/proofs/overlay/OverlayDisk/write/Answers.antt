use Rattle.pt_sector.specs.declared.own.Own.{Own}
use Rattle.pt_sector.specs.Overlays.{shown}
use Rattle.pt_sector.proofs.OverlaysLemmas.{elapses_overlay}
use Rattle.std.proofs.Common.{◌≡◌, slice_set, refl, ap, inl, arith}
use Rattle.pt_sector.proofs.overlay.OverlayDisk.write.Goals as goal

pub returns-clause-failed : goal.returns-clause-failed
returns-clause-failed g c =
    let seen = (g.D.Disk.told c.args.self.now.disk.now).seen in
    let same : shown seen c.put.new.self ≡ shown seen c.args.self.now.own = ap (λ (o : Own _). shown seen o) (c.if-put.ensures.kept refl) in
    record {
      durable = same;
      kept = inl (same, refl);
      time = elapses_overlay seen c.args.self.now.own c.put.new.self c.args.self.now.past.items c.and-self.result.items c.and-self.ensures;
    }

pub returns-clause-refused : goal.returns-clause-refused
returns-clause-refused g c =
    (λ err. let r = c.if-put.ensures.refused.0 refl in (omega (arith, r.0), r.1), λ none. refl)

pub returns-then-put-clause-refused : goal.returns-then-put-clause-refused
returns-then-put-clause-refused g c =
    (λ err. absurd cc, λ none. let r = c.if-put.ensures.refused.1 (omega (arith, none.0), none.1) in absurd cc)

pub returns-then-put-clause-done : goal.returns-then-put-clause-done
returns-then-put-clause-done g c =
    let seen = (g.D.Disk.told c.args.self.now.disk.now).seen in
    let is : shown seen c.put.new.self ≡ slice_set (shown seen c.args.self.now.own) c.args.lba.0 c.args.bytes.now =
    c.if-put.ensures.put refl seen in
    record {
      seen = is;
      takes = inl (is, refl);
      time = elapses_overlay seen c.args.self.now.own c.put.new.self c.args.self.now.past.items c.and-self.result.items c.and-self.ensures;
    }

pub returns-then-put-clause-room : goal.returns-then-put-clause-room
returns-then-put-clause-room g c = omega (arith, c.if-put.ensures.room, c.if-put.ensures.grows)

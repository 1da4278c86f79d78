use Rattle.pt_sector.specs.inner.ForFields.{no_faults}
use Rattle.std.proofs.Common.{◌≡◌, ◌∙◌, ℕ, Bool, true, false, List, [], length, slice_set, sym, ap, arith, refl}
use Rattle.std.specs.Prelude.{IsTrue, IsFalse}
use Rattle.std.proofs.lemmas.List.{set-get_or}
use Rattle.pt_sector.specs.Sectors.{Sectors, sector, written}
use Rattle.pt_sector.proofs.Written.{sector-written}
use Rattle.pt_sector.specs.Overlays.{own_writes, shown}
use Rattle.pt_sector.specs.declared.own.Own.{Own}
use Rattle.pt_sector.proofs.read_cache.ReadCacheDisk.read.Goals as goal

pub returns-then-get-clause-bytes : goal.returns-then-get-clause-bytes
returns-then-get-clause-bytes g c = λ tells.
    let below = c.args.self.now.disk.now in
    let seen = (g.D.Disk.told below).seen in
    let sized : length seen ≡ g.D.Disk.count below = g.met.D.Disk.sized below tells in
    let kept : sector seen c.args.lba.0 ≡ c.get.new.into =
    ap (λ (s : Sectors). sector s c.args.lba.0) (sym (c.args.self.now.same tells))
    ∙ sector-written (own_writes c.args.self.now.kept) seen c.args.lba.0 (omega (arith, sized, c.requires))
    ∙ c.if-get.ensures (sector seen c.args.lba.0) in
    sym kept

pub returns-then-get-clause-same : goal.returns-then-get-clause-same
returns-then-get-clause-same g c = record {
  same_count = refl;
  same_name = refl;
  through = g.met.D.Disk.reads_same c.args.self.now.disk.now;
  same = λ tells. refl;
  came = no_faults _ _ refl;
}

pub returns-in-Ok-clause-same : goal.returns-in-Ok-clause-same
returns-in-Ok-clause-same g c =
    let below = c.in-Ok.ensures in
    record {
      same_count = below.same.same_count;
      same_name = refl;
      through = below.same;
      same = λ tells. below.same.same tells;
      came = below.same.came;
    }

pub returns-in-Err-clause-same : goal.returns-in-Err-clause-same
returns-in-Err-clause-same g c =
    let below = c.in-Err.ensures in
    record {
      same_count = below.same.same_count;
      same_name = refl;
      through = below.same;
      same = λ tells. below.same.same tells;
      came = below.same.came;
    }

-- a disk shows the same once a sector is put that holds what was put, or nothing is put
shows_on : {b : _} (put : Bool) (old new : Own b) (seen : Sectors) (k : ℕ) (bytes : List ℕ)
    → (IsTrue put → (d : Sectors) → written (own_writes new) d ≡ slice_set (written (own_writes old) d) k bytes)
    → (IsFalse put → new ≡ old) → shown seen old ≡ seen → bytes ≡ sector seen k → shown seen new ≡ seen
shows_on true old new seen k bytes is_put kept same holds =
    is_put refl seen ∙ ap (λ (d : Sectors). slice_set d k bytes) same ∙ ap (slice_set seen k) holds ∙ set-get_or seen k []
shows_on false old new seen k bytes is_put kept same holds = ap (λ (own : Own _). shown seen own) (kept refl) ∙ same

pub invariant_of-self : goal.invariant_of-self
invariant_of-self g c = record {
  same = λ tells.
      rw (c.in-Ok.ensures.same.same tells) (shows_on c.put.result c.args.self.now.kept c.put.new.self
      (g.D.Disk.told c.args.self.now.disk.now).seen c.args.lba.0 c.read.new.into c.put.ensures.put c.put.ensures.kept
      (c.args.self.now.same tells) (c.in-Ok.ensures.bytes tells));
}

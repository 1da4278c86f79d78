use Rattle.std.proofs.Common.{◌≡◌, ℕ, refl, inl, inr, arith}
use Rattle.pt_sector.specs.Sectors.{Sectors, IsSectorSize}
use Rattle.pt_replay.specs.Tables.{FreeFor}
use Rattle.pt_replay.proofs.Saying.{says_it, says_no_size}
use Rattle.pt_c.proofs.ptab_free.Goals as goal

pub returns-in-512 : goal.returns-in-512
returns-in-512 g c =
    let v = c.args.view.now in
    let old = c.args.rows.now in
    let new = c.free_listed.new.rows in
    record {
      says = says_it (λ (b : ℕ) (d : Sectors). FreeFor b v d old new) (new ≡ old)
          v g.disk 512 _ _ _ _ _ c.in-512.is (inl refl) c.any.ensures
          c.give.ensures.code c.give.ensures.reply c.free_listed.ensures.says;
    }

pub returns-in-4096 : goal.returns-in-4096
returns-in-4096 g c =
    let v = c.args.view.now in
    let old = c.args.rows.now in
    let new = c.free_listed-in-4096.new.rows in
    record {
      says = says_it (λ (b : ℕ) (d : Sectors). FreeFor b v d old new) (new ≡ old)
          v g.disk 4096 _ _ _ _ _ c.in-4096.is (inr refl) c.any-in-4096.ensures
          c.give-in-4096.ensures.code c.give-in-4096.ensures.reply c.free_listed-in-4096.ensures.says;
    }

pub returns-in_default : goal.returns-in_default
returns-in_default g c =
    let v = c.args.view.now in
    let old = c.args.rows.now in
    let other : ¬ IsSectorSize v.sector_size = grind arith in
    record {
      says = λ part. says_no_size (FreeFor v.sector_size v g.disk old old) (old ≡ old)
          v _ c.bad_argument.result _ other
          c.bad_argument.ensures.told refl c.give-in_default.ensures.code c.give-in_default.ensures.reply;
    }

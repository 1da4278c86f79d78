use Rattle.std.proofs.Common.{◌≡◌, ℕ, refl, inl, inr, arith}
use Rattle.pt_sector.specs.Sectors.{Sectors, IsSectorSize}
use Rattle.pt_replay.specs.Tables.{TextFor}
use Rattle.pt_replay.proofs.Saying.{says_it, says_no_size}
use Rattle.pt_c.proofs.ptab_table_text.Goals as goal

pub returns-in-512 : goal.returns-in-512
returns-in-512 g c =
    let v = c.args.view.now in
    let old = c.args.text.now in
    let new = c.table_written.new.text in
    record {
      says = says_it (λ (b : ℕ) (d : Sectors). TextFor b v d c.args.device.now old new) (new ≡ old)
          v g.disk 512 _ _ _ _ _ c.in-512.is (inl refl) c.any.ensures
          c.give.ensures.code c.give.ensures.reply c.table_written.ensures.says;
    }

pub returns-in-4096 : goal.returns-in-4096
returns-in-4096 g c =
    let v = c.args.view.now in
    let old = c.args.text.now in
    let new = c.table_written-in-4096.new.text in
    record {
      says = says_it (λ (b : ℕ) (d : Sectors). TextFor b v d c.args.device.now old new) (new ≡ old)
          v g.disk 4096 _ _ _ _ _ c.in-4096.is (inr refl) c.any-in-4096.ensures
          c.give-in-4096.ensures.code c.give-in-4096.ensures.reply c.table_written-in-4096.ensures.says;
    }

pub returns-in_default : goal.returns-in_default
returns-in_default g c =
    let v = c.args.view.now in
    let old = c.args.text.now in
    let other : ¬ IsSectorSize v.sector_size = grind arith in
    record {
      says = λ part. says_no_size (TextFor v.sector_size v g.disk c.args.device.now old old) (old ≡ old)
          v _ c.bad_argument.result _ other
          c.bad_argument.ensures.told refl c.give-in_default.ensures.code c.give-in_default.ensures.reply;
    }

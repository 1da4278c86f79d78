use Rattle.std.proofs.Common.{◌≡◌, ℕ, refl, inl, inr, arith}
use Rattle.pt_sector.specs.Sectors.{Sectors, IsSectorSize}
use Rattle.pt_replay.specs.Given.{buffers}
use Rattle.pt_replay.specs.Wanted.{OfView}
use Rattle.pt_replay.specs.Claims.{Adopted, AdoptedFor, OfOther, OfOtherCount}
use Rattle.pt_replay.proofs.Saying.{says_no_size}
use Rattle.pt_replay.proofs.SayingLike.{says_of_both}
use Rattle.pt_c.proofs.ptab_adopt_plan.Goals as goal

pub returns-in-512 : goal.returns-in-512
returns-in-512 g c =
    let v = c.args.view.now in
    let o = c.args.other.now in
    let old = buffers c.args.writes.now c.args.bytes.now in
    let new = buffers c.adopt_planned.new.writes c.adopt_planned.new.bytes in
    record {
      says = says_of_both (λ (b : ℕ) (d e : Sectors). OfView b v (new ≡ old) (OfOther b o (new ≡ old)
          (OfOtherCount v o (new ≡ old) (Adopted b v o d e old new))))
          (new ≡ old) v o g.disks.disk g.disks.other 512 _ _ _ _ _ _ c.in-512.is (inl refl) c.any.ensures c.beyond.ensures
          c.give.ensures.code c.give.ensures.reply c.adopt_planned.ensures.says;
    }

pub returns-in-4096 : goal.returns-in-4096
returns-in-4096 g c =
    let v = c.args.view.now in
    let o = c.args.other.now in
    let old = buffers c.args.writes.now c.args.bytes.now in
    let new = buffers c.adopt_planned-in-4096.new.writes c.adopt_planned-in-4096.new.bytes in
    record {
      says = says_of_both (λ (b : ℕ) (d e : Sectors). OfView b v (new ≡ old) (OfOther b o (new ≡ old)
          (OfOtherCount v o (new ≡ old) (Adopted b v o d e old new))))
          (new ≡ old) v o g.disks.disk g.disks.other 4096 _ _ _ _ _ _ c.in-4096.is (inr refl) c.any-in-4096.ensures
          c.beyond-in-4096.ensures
          c.give-in-4096.ensures.code c.give-in-4096.ensures.reply c.adopt_planned-in-4096.ensures.says;
    }

pub returns-in_default : goal.returns-in_default
returns-in_default g c =
    let v = c.args.view.now in
    let o = c.args.other.now in
    let old = buffers c.args.writes.now c.args.bytes.now in
    let other : ¬ IsSectorSize v.sector_size = grind arith in
    record {
      says = λ part also. says_no_size (AdoptedFor v.sector_size v o g.disks.disk g.disks.other old old) (old ≡ old)
          v _ c.bad_argument.result _ other
          c.bad_argument.ensures.told refl c.give-in_default.ensures.code c.give-in_default.ensures.reply;
    }

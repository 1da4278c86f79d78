use Rattle.std.proofs.Common.{◌≡◌, ◌+◌, ◌-◌, ℕ, refl, ap, subst, arith, rules}
use Rattle.std.specs.List.{AllAdjacentBelow}
use Rattle.pt_layout.specs.Sound.{Meets, member_at}
use Rattle.pt_layout.proofs.sound.overlap.first_meeting.Goals as goal

pub returns-then-meets : goal.returns-then-meets
returns-then-meets c =
    let xs = c.args.members.now in
    let back : c.loop-k.k ≡ c.loop-k.k - 1 + 1 = omega arith in
    let meet : Meets (member_at xs (c.loop-k.k - 1)) (member_at xs c.loop-k.k) = search rules in
    record {
      k = c.loop-k.k - 1;
      below = omega arith;
      meets = subst (λ (n : ℕ). Meets (member_at xs (c.loop-k.k - 1)) (member_at xs n)) back meet;
      none_before = subst (λ (n : ℕ). AllAdjacentBelow (λ x y. ¬ Meets x y) xs n) back c.loop-k.invariant;
      before = refl;
      it = ap (λ (n : ℕ). (member_at xs n).path) back;
    }

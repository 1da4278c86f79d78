use Rattle.std.proofs.Common.{◌≡◌, ℕ, length, subst, arith}
use Rattle.pt_replay.proofs.Unknown.{TakenTo, none_taken, one_taken, all_taken}
use Rattle.pt_replay.proofs.wanting.wanted_among.Goals as goal

pub loop-k-init : goal.loop-k-init
loop-k-init g c = rw c.new-wanted.ensures.items
    (none_taken c.args.disk.now.sectors c.args.disk.now.numbers.now c.args.disk.now.known.now c.args.slices.now)

pub loop-k-preserved : goal.loop-k-preserved
loop-k-preserved g c =
    one_taken c.args.disk.now.sectors c.args.disk.now.numbers.now c.args.disk.now.known.now c.args.slices.now c.loop-k.k _ _
    c.loop-k-test.true c.requires.within c.loop-k.invariant _ c.in_ok-take_up.ensures

pub returns : goal.returns
returns g c =
    let same : c.loop-k.k ≡ length c.args.slices.now = omega arith in
    all_taken c.args.disk.now.sectors c.args.disk.now.numbers.now c.args.disk.now.known.now c.args.slices.now _
    (subst (λ (k : ℕ). TakenTo c.args.disk.now.sectors c.args.disk.now.numbers.now c.args.disk.now.known.now c.args.slices.now k
    c.loop-k.wanted.items) same c.loop-k.invariant)

use Rattle.std.proofs.Common.{◌≡◌, ◌≤◌, ℕ, List, length, get_or, ap, subst, arith}
use Rattle.pt_members.specs.declared.member.Member.{Member}
use Rattle.pt_layout.specs.Sound.{nobody}
use Rattle.pt_layout.specs.inner.Sound.{LeastIs, HasFault, FaultAtMember}
use Rattle.pt_layout.proofs.First.{Below, below_more}
use Rattle.pt_layout.proofs.sound.faults.fault_in.Goals as goal

pub loop-i-preserved : goal.loop-i-preserved
loop-i-preserved g c =
    let group = c.args.group.now in
    let here : LeastIs (FaultAtMember g.row.B c.args.layout.now c.args.fault group c.loop-i.i) c.fault_of.result =
    subst (λ (l : List Member). LeastIs (HasFault g.row.B c.args.layout.now c.args.fault group
    (get_or l c.loop-i.i nobody)) c.fault_of.result) c.as_slice-members.ensures c.fault_of.ensures in
    below_more
    (FaultAtMember g.row.B c.args.layout.now c.args.fault group) c.loop-i.i c.loop-i.first c.fault_of.result c.first_of-first.result
    c.loop-i.invariant here c.first_of-first.ensures

pub returns : goal.returns
returns g c =
    let group = c.args.group.now in
    let past : length c.as_slice-members.result.now ≤ c.loop-i.i = omega arith in
    let all : c.loop-i.i ≡ length group.members = omega (arith, ap length c.as_slice-members.ensures) in
    subst (λ (k : ℕ). LeastIs (Below (FaultAtMember g.row.B c.args.layout.now c.args.fault group) k) c.loop-i.first) all c.loop-i.invariant

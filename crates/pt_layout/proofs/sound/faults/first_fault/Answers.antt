use Rattle.std.proofs.Common.{◌≡◌, ◌∙◌, ℕ, length, get_or, subst, arith}
use Rattle.std.proofs.lemmas.List.{get_or_default}
use Rattle.pt_members.specs.Members.{Group}
use Rattle.pt_layout.specs.inner.Sound.{LeastIs, FaultIn, FaultOfGroup, no_group}
use Rattle.pt_layout.proofs.First.{Below, below_more}
use Rattle.pt_layout.proofs.sound.faults.first_fault.Goals as goal

pub loop-j-preserved : goal.loop-j-preserved
loop-j-preserved g c =
    let same : c.index-groups-j.result ≡ get_or c.args.groups.now c.loop-j.j no_group =
    c.index-groups-j.is ∙ get_or_default c.args.groups.now c.loop-j.j c.index-groups-j.result no_group (omega arith) in
    let here : LeastIs (FaultOfGroup g.row.B c.args.layout.now c.args.fault c.args.groups.now c.loop-j.j) c.fault_in.result =
    subst (λ (x : Group). LeastIs (FaultIn g.row.B c.args.layout.now c.args.fault x) c.fault_in.result) same c.fault_in.ensures in
    below_more
    (FaultOfGroup g.row.B c.args.layout.now c.args.fault c.args.groups.now) c.loop-j.j c.loop-j.first c.fault_in.result
    c.first_of-first.result c.loop-j.invariant here c.first_of-first.ensures

pub returns : goal.returns
returns g c =
    let all : c.loop-j.j ≡ length c.args.groups.now = omega arith in
    subst (λ (k : ℕ). LeastIs
    (Below (FaultOfGroup g.row.B c.args.layout.now c.args.fault c.args.groups.now) k) c.loop-j.first) all c.loop-j.invariant

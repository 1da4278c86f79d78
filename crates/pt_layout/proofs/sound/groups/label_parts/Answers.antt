use Rattle.std.proofs.Common.{◌++◌, ◌∙◌, List, ap, arith}
use Rattle.std.specs.Prelude.{option_to_list}
use Rattle.pt_members.specs.declared.member.Member.{Member}
use Rattle.pt_layout.proofs.Presence.{part_more, part_end}
use Rattle.pt_layout.proofs.sound.groups.label_parts.Goals as goal

pub loop-k-preserved : goal.loop-k-preserved
loop-k-preserved c =
    let part = option_to_list c.part_slot.result in
    c.in_ok-push_member.ensures ∙ ap (λ (l : List Member). l ++ part) c.loop-k.invariant
    ∙ rw c.part_slot.ensures (part_more c.args.label.now c.args.slice.now c.loop-k.k c.loop-k-test.true c.requires.counted)

pub returns : goal.returns
returns c = c.loop-k.invariant ∙ part_end c.args.label.now c.args.slice.now c.loop-k.k (omega arith) c.requires.counted

use Rattle.std.proofs.Common.{List, subst, rules}
use Rattle.std.proofs.lemmas.List.Sorted.{IsNonDecreasingBy-from_sort_by_key, answers_always}
use Rattle.pt_layout.specs.inner.Sound.{FirstMeetingIs}
use Rattle.pt_members.specs.declared.member.Member.{Member}
use Rattle.pt_layout.proofs.Apart.{found_apart}
use Rattle.pt_layout.proofs.sound.overlap.first_overlap.Goals as goal

pub returns : goal.returns
returns c =
    let xs = c.args.members.items in
    let ys = c.sort_by_key.new.self.items in
    let up = IsNonDecreasingBy-from_sort_by_key (λ (m : Member). m.first) ys c.in_ok-sort_by_key.ensures.sorted (λ a r q k. search rules) in
    let stable = c.sort_by_key.ensures.stable (λ (m : Member). m.first) (answers_always _ _ _ (λ f a r q k. search rules)) in
    let is : FirstMeetingIs ys c.first_meeting.result =
    subst (λ (l : List Member). FirstMeetingIs l c.first_meeting.result) c.deref.ensures.value c.first_meeting.ensures in
    record { found = found_apart xs ys c.sort_by_key.ensures.permutation up stable c.requires.ordered c.first_meeting.result is }

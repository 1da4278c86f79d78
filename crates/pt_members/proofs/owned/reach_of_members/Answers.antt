use Rattle.std.proofs.Common.{◌∷◌, [], ◌++◌, ◌∙◌, ℕ, List, ap, append-nil, append_assoc, refl, subst, sym}
use Rattle.pt_members.specs.declared.member.Member.{Member}
use Rattle.pt_members.specs.Tables.{IsWithin}
use Rattle.pt_members.proofs.ByRows.{HasLeafAmong, owns_among}
use Rattle.pt_members.proofs.Widening.{within_none, within_more}
use Rattle.pt_members.proofs.owned.reach_of_members.Goals as goal

pub loop-member-init : goal.loop-member-init
loop-member-init g c = record {
  can_next = tt;
  is_finite = tt;
  left = rw (c.into_iter-member-iterator.ensures.into_iter_gives, c.members-member-items.ensures) refl;
  within = within_none _;
}

pub loop-member-preserved : goal.loop-member-preserved
loop-member-preserved g c =
    let before = c.loop-member.yielded in
    let member = c.in-Some.member in
    record {
      can_next = tt;
      is_finite = tt;
      left = append_assoc before (member ∷ []) c.next.new.self
          ∙ ap (λ (ms : List Member). before ++ ms) (sym c.in-Some.ensures.steps) ∙ c.loop-member.invariant.left;
      within = within_more before member c.loop-member.reach c.with_leaf-reach.result c.loop-member.invariant.within
          c.with_leaf-reach.ensures;
    }

pub returns : goal.returns
returns g c = λ s owned.
    let given = c.loop-member.yielded in
    let all = sym (append-nil given)
    ∙ ap (λ (ms : List Member). given ++ ms) (sym c.in-None.ensures.steps.0) ∙ c.loop-member.invariant.left in
    c.loop-member.invariant.within s (subst (λ (ms : List Member). HasLeafAmong ms s) (sym all)
    (owns_among g.row.B c.args.layout.now s owned))

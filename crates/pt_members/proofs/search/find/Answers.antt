use Rattle.std.proofs.Common.{◌∷◌, [], ◌++◌, ◌∙◌, List, ap, append-nil, append_assoc, map, refl, subst, sym, rules}
use Rattle.std.specs.Prelude.{Contains}
use Rattle.pt_members.specs.declared.member.Member.{Member}
use Rattle.pt_members.specs.Rows.{member_of}
use Rattle.pt_members.proofs.Searched.{first_of_members, none_more, none_yet}
use Rattle.pt_members.proofs.search.find.Goals as goal

pub loop-member-init : goal.loop-member-init
loop-member-init g c = record {
  can_next = tt;
  is_finite = tt;
  left = rw (c.into_iter-member-iterator.ensures.into_iter_gives, c.members-member-items.ensures) refl;
  none = none_yet c.args.wanted.now;
}

pub loop-member-preserved : goal.loop-member-preserved
loop-member-preserved g c =
    let before = c.loop-member.yielded in
    let member = c.in-Some.member in
    record {
      can_next = tt;
      is_finite = tt;
      left = append_assoc before (member ∷ []) c.next.new.self
          ∙ ap (λ (ms : List Member). before ++ ms) (sym c.in-Some.ensures.steps) ∙ c.loop-member.invariant.left;
      none = none_more c.args.wanted.now before member c.loop-member.invariant.none (λ is. search rules);
    }

pub returns-then-answers : goal.returns-then-answers
returns-then-answers g c =
    first_of_members g.row.B c.args.layout.now c.args.wanted.now c.loop-member.yielded c.in-Some.member c.next.new.self
    c.count_slots-four.ensures.four
    (ap (λ (ms : List Member). c.loop-member.yielded ++ ms) (sym c.in-Some.ensures.steps) ∙ c.loop-member.invariant.left)
    (search rules) c.loop-member.invariant.none (c.answers.ensures.0 c.if-answers.true)

pub returns : goal.returns
returns g c = λ x at.
    let given = c.loop-member.yielded in
    let all = sym (append-nil given)
    ∙ ap (λ (ms : List Member). given ++ ms) (sym c.in-None.ensures.steps.0) ∙ c.loop-member.invariant.left in
    c.loop-member.invariant.none x (subst (λ (ms : List Member). Contains ms x) (sym all) at)

use Rattle.std.proofs.Common.{◌∷◌, [], ◌++◌, ◌∙◌, List, ap, append-nil, append_assoc, refl, sym}
use Rattle.std.specs.Prelude.{option_to_list}
use Rattle.pt_members.specs.declared.layout.Slice.{Slice}
use Rattle.pt_members.specs.declared.member.Member.{Member}
use Rattle.pt_members.proofs.LabelPlaces.{among_all, among_more, gpt_places, placed_among}
use Rattle.pt_members.proofs.slices.label_places.Goals as goal

pub loop-member-init : goal.loop-member-init
loop-member-init g c = record {
  can_next = tt;
  is_finite = tt;
  left = rw (c.into_iter-member-iterator.ensures.into_iter_gives, c.members-member-items.ensures) refl;
  places = c.new-places.ensures.items;
}

pub loop-member-preserved : goal.loop-member-preserved
loop-member-preserved g c =
    let before = c.loop-member.yielded in
    let member = c.in-Some.member in
    record {
      can_next = tt;
      is_finite = tt;
      left = append_assoc before (member ∷ []) c.next.new.self
          ∙ ap (λ (ms : List Member). before ++ ms) (sym c.in-Some.ensures.steps.0) ∙ c.loop-member.invariant.left;
      places = c.in_ok-push_place.ensures ∙ ap (λ (l : List Slice). l ++ option_to_list c.placed.result) c.loop-member.invariant.places
          ∙ ap (λ (l : List Slice). placed_among c.args.sectors before ++ l) c.placed.ensures.value
          ∙ sym (among_more c.args.sectors before member);
    }

pub returns-clause-value : goal.returns-clause-value
returns-clause-value g c =
    let given = c.loop-member.yielded in
    let all = sym (append-nil given)
    ∙ ap (λ (ms : List Member). given ++ ms) (sym c.in-None.ensures.steps.0.0) ∙ c.loop-member.invariant.left in
    c.loop-member.invariant.places ∙ ap (placed_among c.args.sectors) all ∙ among_all g.row.B c.args.sectors c.args.body.now

pub returns-in-Gpt-clause-value : goal.returns-in-Gpt-clause-value
returns-in-Gpt-clause-value g c =
    rw (← gpt_places g.row.B c.args.sectors c.args.body.now c.in-Gpt.table c.as_slice.result.now c.in-Gpt.is c.as_slice.ensures)
    c.entry_places.ensures

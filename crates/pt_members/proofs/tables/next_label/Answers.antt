use Rattle.std.proofs.Common.{◌∷◌, [], ◌++◌, ◌∙◌, ℕ, List, Option, ap, append-nil, append_assoc, refl, sym, subst}
use Rattle.pt_members.specs.declared.layout.Slice.{Slice}
use Rattle.pt_members.specs.declared.member.Member.{Member}
use Rattle.pt_members.specs.Members.{IsPlace}
use Rattle.pt_members.specs.Tables.{NextSectorIs}
use Rattle.pt_members.proofs.LabelPlaces.{among_all, gpt_places, lowest_among, placed_among}
use Rattle.pt_members.proofs.tables.next_label.Goals as goal

pub loop-member-init : goal.loop-member-init
loop-member-init g c = record {
  can_next = tt;
  is_finite = tt;
  left = rw (c.into_iter-member-iterator.ensures.into_iter_gives, c.members-member-items.ensures) refl;
  next = λ u low at. at;
}

pub loop-member-preserved : goal.loop-member-preserved
loop-member-preserved g c =
    let before = c.loop-member.yielded in
    let member = c.in-Some.member in
    record {
      can_next = tt;
      is_finite = tt;
      left = append_assoc before (member ∷ []) c.next.new.self
          ∙ ap (λ (ms : List Member). before ++ ms) (sym c.in-Some.ensures.steps.0) ∙ c.loop-member.invariant.left;
      next = subst (λ (r : Option ℕ). NextSectorIs (IsPlace (placed_among c.args.sectors (before ++ member ∷ []))) c.args.from r)
          (sym c.least-next.ensures)
          (lowest_among c.args.sectors c.args.from before member c.loop-member.next c.place_from.result c.loop-member.invariant.next
          (subst (λ (l : List Slice). NextSectorIs (IsPlace l) c.args.from c.place_from.result) c.placed.ensures.value
          c.place_from.ensures));
    }

pub returns : goal.returns
returns g c =
    let given = c.loop-member.yielded in
    let all = sym (append-nil given)
    ∙ ap (λ (ms : List Member). given ++ ms) (sym c.in-None.ensures.steps.0.0) ∙ c.loop-member.invariant.left in
    subst (λ (l : List Slice). NextSectorIs (IsPlace l) c.args.from c.loop-member.next)
    (ap (placed_among c.args.sectors) all ∙ among_all g.row.B c.args.sectors c.args.body.now) c.loop-member.invariant.next

pub returns-in-Gpt : goal.returns-in-Gpt
returns-in-Gpt g c =
    subst (λ (l : List Slice). NextSectorIs (IsPlace l) c.args.from c.next_of_entries.result)
    (gpt_places g.row.B c.args.sectors c.args.body.now c.in-Gpt.table c.as_slice.result.now c.in-Gpt.is c.as_slice.ensures)
    c.next_of_entries.ensures

use Rattle.pt_members.proofs.ByPlace.{entries_len, entry_at}
use Rattle.pt_members.proofs.LabelPlaces.{placed_before, placed_more, all_placed}
use Rattle.pt_members.specs.declared.layout.Slice.{Slice}
use Rattle.pt_members.specs.declared.member.Member.{Member}
use Rattle.pt_members.specs.Members.{entries_as}
use Rattle.pt_members.specs.inner.Members.{placed_in}
use Rattle.std.specs.Prelude.{option_to_list}
use Rattle.std.proofs.Common.{◌∙◌, ◌++◌, List, Option, ap, arith, sym}
use Rattle.pt_members.proofs.slices.entry_places.Goals as goal

pub loop-k-preserved : goal.loop-k-preserved
loop-k-preserved g c =
    let os : List (Option Member) = entries_as g.row.B 1 c.args.entries.now in
    placed_more c.args.sectors c.loop-k.k os c.push_place.new.places.items
    (omega (arith, entries_len g.row.B 1 c.args.entries.now))
    (c.in_ok-push_place.ensures ∙ ap (λ (l : List Slice). l ++ option_to_list c.placed_entry.result) c.loop-k.invariant
    ∙ ap (λ (l : List Slice). placed_before c.args.sectors os c.loop-k.k ++ l) (c.placed_entry.ensures.value
    ∙ ap (placed_in c.args.sectors) (sym (entry_at g.row.B 1 c.loop-k.k c.args.entries.now (omega arith)))))

pub returns : goal.returns
returns g c =
    c.loop-k.invariant
    ∙ all_placed c.args.sectors c.loop-k.k (entries_as g.row.B 1 c.args.entries.now)
    (omega (arith, entries_len g.row.B 1 c.args.entries.now))

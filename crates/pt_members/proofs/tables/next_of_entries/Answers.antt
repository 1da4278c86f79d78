use Rattle.std.proofs.Common.{◌+◌, ◌∙◌, ℕ, List, Option, ap, sym, subst, arith}
use Rattle.pt_members.specs.declared.layout.Slice.{Slice}
use Rattle.pt_members.specs.Members.{entries_as, IsPlace}
use Rattle.pt_members.specs.Tables.{NextSectorIs}
use Rattle.pt_members.specs.inner.Members.{placed_in}
use Rattle.pt_members.proofs.ByPlace.{entries_len, entry_at}
use Rattle.pt_members.proofs.LabelPlaces.{all_placed, lowest_more, placed_before}
use Rattle.pt_members.proofs.tables.next_of_entries.Goals as goal

pub loop-k-preserved : goal.loop-k-preserved
loop-k-preserved g c =
    let os = entries_as g.row.B 1 c.args.entries.now in
    subst (λ (r : Option ℕ). NextSectorIs (IsPlace (placed_before c.args.sectors os (c.loop-k.k + 1))) c.args.from r)
    (sym c.least-next.ensures)
    (lowest_more c.args.sectors c.loop-k.k c.args.from os c.loop-k.next c.place_from.result
    (omega (arith, entries_len g.row.B 1 c.args.entries.now)) c.loop-k.invariant
    (subst (λ (l : List Slice). NextSectorIs (IsPlace l) c.args.from c.place_from.result)
    (c.placed_entry-slice.ensures.value
    ∙ ap (placed_in c.args.sectors) (sym (entry_at g.row.B 1 c.loop-k.k c.args.entries.now (omega arith))))
    c.place_from.ensures))

pub returns : goal.returns
returns g c =
    subst (λ (l : List Slice). NextSectorIs (IsPlace l) c.args.from c.loop-k.next)
    (all_placed c.args.sectors c.loop-k.k (entries_as g.row.B 1 c.args.entries.now)
    (omega (arith, entries_len g.row.B 1 c.args.entries.now))) c.loop-k.invariant

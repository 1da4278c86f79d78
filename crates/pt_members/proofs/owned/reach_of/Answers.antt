use Rattle.std.proofs.Common.{rules, ◌≡◌, List, length, Option, subst}
use Rattle.pt_gpt.specs.declared.entry.Entry.{Entry}
use Rattle.pt_members.specs.inner.Tables.{AllSpanned}
use Rattle.pt_members.proofs.Reaching.{reached}
use Rattle.pt_members.proofs.owned.reach_of.Goals as goal

pub returns-in-Gpt : goal.returns-in-Gpt
returns-in-Gpt g c = λ s owned.
    let empty : length c.args.layout.now.labels ≡ 0 = search rules in
    reached g.row.B c.args.layout.now c.in-Gpt.table c.reach_of_entries.result s empty c.in-Gpt.is
    (subst (λ (es : List (Option Entry)). AllSpanned c.reach_of_entries.result es) c.as_slice-in-Gpt.ensures c.reach_of_entries.ensures)
    owned

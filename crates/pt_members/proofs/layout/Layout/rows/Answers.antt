use Rattle.std.proofs.Common.{List, Some, ap, ◌++◌, ◌∙◌}
use Rattle.std.specs.Prelude.{flat_map}
use Rattle.pt_members.specs.declared.row.Row.{Row}
use Rattle.pt_members.specs.Members.{rows}
use Rattle.pt_members.specs.Rows.{rows_at}
use Rattle.pt_members.proofs.RowPlaces.{placed_rows}
use Rattle.pt_members.proofs.layout.Layout.rows.Goals as goal

pub returns : goal.returns
returns g c =
    let o = c.args.self.now in
    let places = rows g.row.B o.body in
    ap (λ (l : List Row). l ++ flat_map (λ (r : Row). rows_at o (Some r)) c.rows.result) c.of.ensures
    ∙ ap (flat_map (λ (r : Row). rows_at o (Some r))) c.rows.ensures ∙ placed_rows o places

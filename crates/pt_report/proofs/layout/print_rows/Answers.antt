use Rattle.std.proofs.Common.{ℕ, List, [], ◌∷◌, ◌++◌, ◌∙◌, ap, append-nil, append_assoc, subst, sym}
use Rattle.std.specs.Prelude.{flat_map}
use Rattle.std.specs.Io.KnownBytes.{Appends}
use Rattle.std.proofs.KnownBytes.{Appends-trans}
use Rattle.std.proofs.lemmas.List.Concat.{flat_map-append}
use Rattle.pt_members.specs.declared.row.Row.{Row}
use Rattle.pt_report.specs.Shown.{row_line}
use Rattle.pt_report.proofs.layout.print_rows.Goals as goal

pub loop-row-preserved : goal.loop-row-preserved
loop-row-preserved g c =
    let before = c.loop-row.yielded in
    let row = c.in-Some.row in
    let more = flat_map-append row_line before (row ∷ [])
    ∙ ap (λ (t : List ℕ). flat_map row_line before ++ t) (append-nil (row_line row)) in
    record {
      can_next = tt;
      is_finite = tt;
      left = append_assoc before (row ∷ []) c.next.new.self
          ∙ ap (λ (rows : List Row). before ++ rows) (sym c.in-Some.ensures.steps) ∙ c.loop-row.invariant.left;
      printed = subst (λ (t : List ℕ). Appends (g.O.Write.contents c.args.out.now) (g.O.Write.contents c.print_row.new.out) t) (sym more)
          (Appends-trans _ _ _ _ _ c.loop-row.invariant.printed c.in_ok-print_row.ensures);
    }

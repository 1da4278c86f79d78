use Rattle.std.specs.Prelude.{◌≡◌, ◌≢◌, ℕ, List, Some, get_or}
use Rattle.std.proofs.Common.{sym, ap, ◌∙◌}
use Rattle.std.specs.Str.{bytes_eq}
use Rattle.std.proofs.lemmas.Bool.{true≢false}
use Rattle.std.proofs.lemmas.Slice.Eq.{bytes_eq-Decides}
use Rattle.pt_guid.specs.Codes.{rows}
use Rattle.pt_guid.proofs.Rows.{row_holds, rows_apart}
use Rattle.pt_guid.proofs.Table.{no_row, type_past}
use Rattle.pt_guid.proofs.codes.code_of_type.Goals as goal

pub loop-code-preserved : goal.loop-code-preserved
loop-code-preserved c =
    let known = (get_or rows c.loop-code.code-index no_row).1.0 in
    let test : c.eq.result ≡ bytes_eq known c.args.guid.now.0 = c.eq.ensures in
    let other : known ≢ c.args.guid.now.0 =
    λ same. true≢false (sym ((bytes_eq-Decides known c.args.guid.now.0).1 same) ∙ sym test ∙ c.if-eq.false) in
    λ code is. type_past rows c.loop-code.code-index code no_row c.args.guid.now.0 c.loop-code-test.true other
    (c.loop-code.invariant code is)

pub returns-then-eq-clause-some : goal.returns-then-eq-clause-some
returns-then-eq-clause-some c =
    let known = (get_or rows c.loop-code.code-index no_row).1.0 in
    let test : c.eq.result ≡ bytes_eq known c.args.guid.now.0 = c.eq.ensures in
    row_holds rows rows_apart c.loop-code.code-index no_row c.loop-code-test.true
    ∙ ap (λ (l : List ℕ). Some l) ((bytes_eq-Decides known c.args.guid.now.0).0 (sym test ∙ c.if-eq.true))

use Rattle.std.proofs.Common.{◌≡◌, ◌∙◌, ap, codes, refl, rules, [], ◌∷◌}
use Rattle.std.proofs.lemmas.Result.{err_from_is_err_and}
use Rattle.clap.specs.Walk.{texts}
use Rattle.pt_line.proofs.Asked.{by_result, found_by, has_job, some_sizes}
use Rattle.pt_line.proofs.line.read_line.Goals as goal

pub returns-in_err-line : goal.returns-in_err-line
returns-in_err-line c =
    let p = err_from_is_err_and c.from_residual.result c.from_residual.ensures.1 in
    rw (p.1, p.2) (record { means = (some_sizes, refl, tt) })

pub answer-requires : goal.answer-requires
answer-requires c =
    let are : texts c.as_slice.result.now ≡ codes "512" ∷ codes "4096" ∷ [] = search rules in
    let words_are : texts c.as_slice-2.result.now ≡ codes "ptab" ∷ texts c.args.words.now =
    ap texts c.as_slice-2.ensures.value ∙ c.in_ok-line.ensures in
    let read = found_by c.as_slice.result _ c.in_ok-command.command c.in_ok-command.ensures _ words_are c.try_get_matches_from.result
    c.try_get_matches_from.ensures.kinds c.try_get_matches_from.ensures.matches in
    has_job c.as_slice.result are (codes "ptab" ∷ texts c.args.words.now) c.try_get_matches_from.result read.0 read.1

pub returns : goal.returns
returns c =
    let are : texts c.as_slice.result.now ≡ codes "512" ∷ codes "4096" ∷ [] = search rules in
    let words_are : texts c.as_slice-2.result.now ≡ codes "ptab" ∷ texts c.args.words.now =
    ap texts c.as_slice-2.ensures.value ∙ c.in_ok-line.ensures in
    let read = found_by c.as_slice.result _ c.in_ok-command.command c.in_ok-command.ensures _ words_are c.try_get_matches_from.result
    c.try_get_matches_from.ensures.kinds c.try_get_matches_from.ensures.matches in
    record {
      means = (
        c.as_slice.result,
        are,
        by_result c.as_slice.result are
            (codes "ptab" ∷ texts c.args.words.now) c.try_get_matches_from.result c.answer.result read.0 read.1 c.answer.ensures,
      );
    }

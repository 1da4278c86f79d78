use Rattle.std.proofs.Common.{◌≡◌, [], ◌∷◌, Some, lit<, rules}
use Rattle.std.proofs.lemmas.Str.Pattern.{split_parts}
use Rattle.pt_apply.proofs.Cuts.{fields_found, fields_missing}
use Rattle.pt_apply.proofs.read.fields.Goals as goal

pub returns-then-eq-clause-some : goal.returns-then-eq-clause-some
returns-then-eq-clause-some c =
    let text = c.args.line.now in
    let first = split_parts 32 text (Some (c.in_ok-letter.letter, c.in_ok-letter.rest)) c.in_ok-letter.ensures.cases (lit< tt) in
    let is : c.in_ok-letter.letter.now ≡ 87 ∷ [] = search rules in
    fields_found text c.in_ok-letter.letter.now c.in_ok-letter.rest.now c.split_once-then-eq.result first.0 is
    (split_parts 32 c.in_ok-letter.rest.now c.split_once-then-eq.result c.split_once-then-eq.ensures.cases (lit< tt))

pub returns-then-eq-clause-none : goal.returns-then-eq-clause-none
returns-then-eq-clause-none c =
    let text = c.args.line.now in
    let first = split_parts 32 text (Some (c.in_ok-letter.letter, c.in_ok-letter.rest)) c.in_ok-letter.ensures.cases (lit< tt) in
    let is : c.in_ok-letter.letter.now ≡ 87 ∷ [] = search rules in
    fields_missing text c.in_ok-letter.letter.now c.in_ok-letter.rest.now c.split_once-then-eq.result first.0 is
    (split_parts 32 c.in_ok-letter.rest.now c.split_once-then-eq.result c.split_once-then-eq.ensures.cases (lit< tt))

-- A path's text has a dot before its letter and no other.
use Rattle.std.proofs.Common.{subst}
use Rattle.std.proofs.lemmas.Option.{IfSome_then}
use Rattle.pt_path.proofs.Paths.{AtDot, WholeOf, at_dot, whole_of, path_from_parts, path_alone, none_weaker}
use Rattle.pt_path.proofs.number.parse_path.Goals as goal

pub returns-in-Some-clause-some : goal.returns-in-Some-clause-some
returns-in-Some-clause-some c =
    let text = c.args.text.now in
    let whole = subst (WholeOf text) c.in-Some.is (whole_of text c.split_once.result c.split_once.ensures.cases) in
    IfSome_then c.dotted.result c.dotted.ensures.some (λ p is. path_from_parts text c.in-Some.digits.now c.in-Some.letter.now p whole is)

pub returns-in-Some-clause-none : goal.returns-in-Some-clause-none
returns-in-Some-clause-none c =
    let text = c.args.text.now in
    none_weaker c.dotted.result _ _ (λ none p is.
    none p (subst (AtDot text p) c.in-Some.is (at_dot text p c.split_once.result c.split_once.ensures.cases is))) c.dotted.ensures.none

pub returns-in-None-clause-some : goal.returns-in-None-clause-some
returns-in-None-clause-some c =
    IfSome_then c.undotted.result c.undotted.ensures.some (λ p is. path_alone c.args.text.now p is)

pub returns-in-None-clause-none : goal.returns-in-None-clause-none
returns-in-None-clause-none c =
    let text = c.args.text.now in
    none_weaker c.undotted.result _ _ (λ none p is.
    none p (subst (AtDot text p) c.in-None.is (at_dot text p c.split_once.result c.split_once.ensures.cases is)))
    c.undotted.ensures.none

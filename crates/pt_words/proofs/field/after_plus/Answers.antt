use Rattle.std.proofs.Common.{lit<}
use Rattle.std.proofs.lemmas.Str.Pattern.{strip_prefix_char}
use Rattle.pt_words.proofs.Cuts.{at_some, at_none}
use Rattle.pt_words.proofs.field.after_plus.Goals as goal

pub returns-clause-some : goal.returns-clause-some
returns-clause-some c =
    at_some c.strip_prefix.result _ _ (strip_prefix_char 43 c.args.text.now c.strip_prefix.result c.strip_prefix.ensures.cases (lit< tt))

pub returns-clause-none : goal.returns-clause-none
returns-clause-none c =
    at_none c.strip_prefix.result _ _ (strip_prefix_char 43 c.args.text.now c.strip_prefix.result c.strip_prefix.ensures.cases (lit< tt))

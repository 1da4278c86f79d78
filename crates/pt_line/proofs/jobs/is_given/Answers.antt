use Rattle.std.proofs.Common.{◌∙◌, ap, codes, sym, true≢false, List, ℕ, Option, [], Some}
use Rattle.std.specs.Prelude.{unwrap_or}
use Rattle.std.proofs.lemmas.Slice.Eq.{bytes_eq-Decides}
use Rattle.clap.specs.Words.{found_of}
use Rattle.pt_line.proofs.Values.{value_is}
use Rattle.pt_line.proofs.jobs.is_given.Goals as goal

pub returns-in_default : goal.returns-in_default
returns-in_default c =
    let v = rw c.in_default.is at (value_is (found_of c.args.matches.now) c.args.id.now c.get_str.result c.get_str.ensures) in
    (λ is. absurd (true≢false (sym is)), λ e. let bad = v ∙ e in absurd cc)

pub returns : goal.returns
returns c =
    let v = rw c.in-Some.is at (value_is (found_of c.args.matches.now) c.args.id.now c.get_str.result c.get_str.ensures) in (
      λ is. sym v ∙ ap (λ (t : List ℕ). Some t) ((bytes_eq-Decides c.in-Some.flag.now (codes "true")).0 (sym c.eq.ensures ∙ is)),
      λ e. c.eq.ensures ∙ (bytes_eq-Decides c.in-Some.flag.now (codes "true")).1 (ap (λ (o : Option (List ℕ)). unwrap_or o []) (v ∙ e)),
    )

use Rattle.std.proofs.Common.{◌≡◌, ℕ, List, length, Option, Some, None, true, false, refl, ap, sym, ◌∙◌}
use Rattle.std.specs.Option.{option_map}
use Rattle.std.proofs.lemmas.Bool.{false≢true}
use Rattle.uuid.specs.Text.{parsed, parsed_hyphenated}
use Rattle.pt_guid.specs.Guids.{mixed}
use Rattle.pt_guid.proofs.guid.parse.Goals as goal

is_none : (o : Option (List ℕ)) → ((x : List ℕ) × (o ≡ Some x) → false ≡ true) → o ≡ None
is_none None h = refl
is_none (Some x) h = absurd (false≢true (h (x, refl)))

at_36 : (s : List ℕ) → length s ≡ 36 → parsed s ≡ parsed_hyphenated s
at_36 s len = rw len refl

pub returns-in-Err-clause-err : goal.returns-in-Err-clause-err
returns-in-Err-clause-err c =
    let none = is_none (parsed c.args.text.now) c.in-Err.ensures.ok.1 in
    let e : parsed_hyphenated c.args.text.now ≡ None = sym (at_36 c.args.text.now c.if-text-ne36.false) ∙ none in
    ap (option_map mixed) e

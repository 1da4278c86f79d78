use Rattle.std.proofs.Common.{◌≡◌, ◌∙◌, ◌+◌, ◌<◌, ℕ, suc, List, ◌∷◌, Option, Some, None, true, false, length, drop, get_or, sym, ap, refl}
use Rattle.std.proofs.Common.{rules, arith}
use Rattle.std.specs.Option.{is_some}
use Rattle.std.proofs.lemmas.List.{drop_more, drop_all}
use Rattle.pt_bsd.specs.Labels.{count_of}
use Rattle.pt_bsd.specs.declared.label.LabelEntry.{LabelEntry}
use Rattle.pt_bsd.proofs.encode.count_in.Goals as goal

step_there : (o : Option LabelEntry) (rest : List (Option LabelEntry)) → is_some o ≡ true → count_of (o ∷ rest) ≡ suc (count_of rest)
step_there None rest there = absurd (search rules)
step_there (Some e) rest there = refl

step_none : (o : Option LabelEntry) (rest : List (Option LabelEntry)) → is_some o ≡ false → count_of (o ∷ rest) ≡ 0
step_none None rest none = refl
step_none (Some e) rest none = absurd (search rules)

at_front : (entries : List (Option LabelEntry)) (i : ℕ) → i < length entries
    → count_of (drop i entries) ≡ count_of (get_or entries i None ∷ drop (i + 1) entries)
at_front entries i lt = ap count_of (drop_more entries i None lt)

pub loop-count-preserved : goal.loop-count-preserved
loop-count-preserved c =
    let entries = c.args.entries.now in
    let i = c.loop-count.count in
    let step =
    at_front entries i (omega arith)
    ∙ step_there (get_or entries i None) (drop (i + 1) entries) (sym c.is_some.ensures ∙ c.if-is_some.true) in
    (omega arith, omega (arith, step, c.loop-count.invariant.1))

pub returns-else-is_some-clause-count : goal.returns-else-is_some-clause-count
returns-else-is_some-clause-count c =
    let entries = c.args.entries.now in
    let i = c.loop-count.count in
    let step =
    at_front entries i (omega arith)
    ∙ step_none (get_or entries i None) (drop (i + 1) entries) (sym c.is_some.ensures ∙ c.if-is_some.false) in
    omega (arith, step, c.loop-count.invariant.1)

pub returns-after-loop-count-clause-count : goal.returns-after-loop-count-clause-count
returns-after-loop-count-clause-count c =
    let none = ap count_of (drop_all c.loop-count.count c.args.entries.now (omega arith)) in
    omega (arith, none, c.loop-count.invariant.1)

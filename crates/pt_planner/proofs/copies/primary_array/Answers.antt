use Rattle.std.proofs.Common.{◌∙◌, ◌++◌, ap, arith, rules}
use Rattle.pt_sector.specs.Sectors.{Writes}
use Rattle.pt_apply.specs.Plans.{writes_of}
use Rattle.pt_gpt.specs.Copies.{array_len}
use Rattle.pt_cases.specs.Writes.{array_writes}
use Rattle.pt_planner.proofs.ArraySectors.{array_few}
use Rattle.pt_planner.proofs.copies.primary_array.Goals as goal

pub push_array-requires : goal.push_array-requires
push_array-requires g c =
    let few = array_few g.row.B c.requires.size in
    (search rules, (c.requires.size, (omega (arith, few), c.requires.long)))

pub returns : goal.returns
returns g c = λ n t encoded.
    c.in_ok-push_array.ensures t.entries encoded
    ∙ ap (λ (ws : Writes). ws ++ array_writes g.row.B t.entries 2 (array_len g.row.B)) (ap writes_of c.new-writes.ensures.items)

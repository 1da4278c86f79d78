use Rattle.std.proofs.Common.{◌≡◌, ℕ, ◌<◌, ◌%◌, length, rules, ap, ◌∙◌, None}
use Rattle.pt_mbr.specs.declared.ebr.Ebr.{Ebr}
use Rattle.pt_planner.proofs.Links.{link_low, link_leads, none_leads}
use Rattle.pt_planner.proofs.chains.ebrs.link_for.Goals as goal

pub returns-then-is_empty-clause-leads : goal.returns-then-is_empty-clause-leads
returns-then-is_empty-clause-leads c next on =
    let none : length c.args.rest.now ≡ 0 = search rules in
    none_leads c.args.first.0 c.args.rest.now none next on

pub returns-clause-bytes : goal.returns-clause-bytes
returns-clause-bytes c =
    let z : Ebr = record { at = record { 0 = 0 }; logical = None; next = None } in
    let some : 0 < length c.args.rest.now = search rules in
    link_low c.args.first.0 c.args.rest.now z c.low_bits.result c.low_bits-2.result some
    (c.low_bits.ensures ∙ ap (λ (n : ℕ). n % 4294967296) c.saturating_sub.ensures)
    (c.low_bits-2.ensures ∙ ap (λ (n : ℕ). n % 4294967296) c.reach.ensures)

pub returns-clause-leads : goal.returns-clause-leads
returns-clause-leads c next on =
    let z : Ebr = record { at = record { 0 = 0 }; logical = None; next = None } in
    let some : 0 < length c.args.rest.now = search rules in
    link_leads c.args.first.0 c.args.rest.now z c.low_bits.result c.low_bits-2.result some
    (c.low_bits.ensures ∙ ap (λ (n : ℕ). n % 4294967296) c.saturating_sub.ensures)
    (c.low_bits-2.ensures ∙ ap (λ (n : ℕ). n % 4294967296) c.reach.ensures) next on

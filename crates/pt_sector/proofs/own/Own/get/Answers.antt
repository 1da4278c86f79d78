use Rattle.std.proofs.Common.{◌≡◌, ◌∙◌, ◌<◌, ℕ, List, [], length, get_or, ap, sym, arith, subst}
use Rattle.std.proofs.lemmas.List.{get_or_default}
use Rattle.pt_sector.specs.Sectors.{puts_as_writes, no_put, slot_at, IsAscending, IsWriteAt}
use Rattle.pt_sector.specs.declared.own.Put.{Put}
use Rattle.pt_sector.proofs.InOrder.{value_of_one, value_of_none, none_in_gap, bytes-of-put, length-puts, rises_with, at_with, gap_with}
use Rattle.pt_sector.proofs.own.Own.get.Goals as goal

pub place-requires : goal.place-requires
place-requires g c = record {
  sorted = subst (λ (ps : List Put). IsAscending (puts_as_writes ps [])) (sym c.deref.ensures.value)
      (rises_with c.args.self.now.puts.items c.args.self.now.sectors.items [] c.args.self.now.sorted);
}

pub returns-in-Ok : goal.returns-in-Ok
returns-in-Ok g c = λ v.
    let ps = c.args.self.now.puts.items in
    let ss = c.args.self.now.sectors.items in
    let found : IsWriteAt (puts_as_writes ps ss) c.args.lba.0 c.in-Ok.at =
    at_with ps [] ss c.args.lba.0 c.in-Ok.at (rw c.deref.ensures.value at c.in-Ok.ensures.found) in
    let inside : c.in-Ok.at < length ps = omega (arith, found.in_range, length-puts ps ss) in
    let slot : slot_at ps c.in-Ok.at ≡ c.index.result.now.slot =
    ap (λ (p : Put). p.slot) (get_or_default ps c.in-Ok.at no_put c.index.result.now inside ∙ sym c.index.ensures) in
    let low : c.index.result.now.slot < length ss = omega (
      arith,
      slot,
      c.args.self.now.slots c.in-Ok.at inside,
      c.args.self.now.sectors.ok,
    ) in
    value_of_one (puts_as_writes ps ss) c.args.lba.0 c.in-Ok.at v c.args.self.now.sorted found ∙ bytes-of-put ps ss c.in-Ok.at inside
    ∙ ap (λ (n : ℕ). get_or ss n []) slot
    ∙ get_or_default ss c.index.result.now.slot [] c.index-in-Ok.result.now low ∙ sym c.index-in-Ok.ensures

pub returns-in-Err : goal.returns-in-Err
returns-in-Err g c = λ v.
    let ps = c.args.self.now.puts.items in
    let ss = c.args.self.now.sectors.items in
    value_of_none (puts_as_writes ps ss) c.args.lba.0 v
    (none_in_gap (puts_as_writes ps ss) c.args.lba.0 c.in-Err.field-0
    (gap_with ps [] ss c.args.lba.0 c.in-Err.field-0 (rw c.deref.ensures.value at c.in-Err.ensures.absent)))

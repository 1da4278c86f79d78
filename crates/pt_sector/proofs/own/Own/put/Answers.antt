use Rattle.std.proofs.Common.{◌≡◌, ◌∙◌, ◌<◌, ◌≤◌, ◌+◌, ◌++◌, ◌∷◌, ℕ, List, [], length, ap, sym, subst, arith, refl, slice_set}
use Rattle.std.specs.Prelude.{vec_len, vec_capacity, IsOk}
use Rattle.std.specs.List.{insert}
use Rattle.std.proofs.lemmas.List.{get_or_default}
use Rattle.pt_sector.specs.Sectors.{written, puts_as_writes, no_put, slot_at, SlotsFit, SlotsApart, IsAscending, IsWriteAt}
use Rattle.pt_sector.specs.inner.Sectors.{IsGapFor}
use Rattle.pt_sector.specs.declared.own.Put.{Put}
use Rattle.pt_sector.proofs.InOrder.{put_over, put_between, order_between, none_in_gap, length-puts, rises_with, at_with, gap_with}
use Rattle.pt_sector.proofs.InOrder.{fit_insert, apart_insert}
use Rattle.pt_sector.proofs.own.Own.put.Goals as goal

pub place-requires : goal.place-requires
place-requires g c = record {
  sorted = subst (λ (ps : List Put). IsAscending (puts_as_writes ps [])) (sym c.deref.ensures.value)
      (rises_with c.args.self.now.puts.items c.args.self.now.sectors.items [] c.args.self.now.sorted);
}

pub invariant_of-self : goal.invariant_of-self
invariant_of-self g c = record {
  small = c.args.self.now.small;
  within = c.args.self.now.within;
  reserved = c.args.self.now.reserved;
  stored = c.args.self.now.stored;
  paired = c.args.self.now.paired;
  slots = c.args.self.now.slots;
  apart = c.args.self.now.apart;
  sorted = rises_with c.args.self.now.puts.items c.args.self.now.sectors.items _ c.args.self.now.sorted;
}

pub returns-in-Ok-clause-put : goal.returns-in-Ok-clause-put
returns-in-Ok-clause-put g c = λ yes d.
    let ps = c.args.self.now.puts.items in
    let ss = c.args.self.now.sectors.items in
    let found : IsWriteAt (puts_as_writes ps ss) c.args.lba.0 c.in-Ok.at =
    at_with ps [] ss c.args.lba.0 c.in-Ok.at (rw c.deref.ensures.value at c.in-Ok.ensures.found) in
    let inside : c.in-Ok.at < length ps = omega (arith, found.in_range, length-puts ps ss) in
    let slot : slot_at ps c.in-Ok.at ≡ c.index.result.now.slot =
    ap (λ (p : Put). p.slot) (get_or_default ps c.in-Ok.at no_put c.index.result.now inside ∙ sym c.index.ensures) in
    let fit : SlotsFit ps (length ss) = λ j lt. omega (arith, c.args.self.now.slots j lt, c.args.self.now.sectors.ok) in
    subst (λ (n : ℕ). written (puts_as_writes ps (slice_set ss n c.args.bytes.now)) d
    ≡ slice_set (written (puts_as_writes ps ss) d) c.args.lba.0 c.args.bytes.now) slot
    (put_over ps ss c.args.lba.0 c.in-Ok.at c.args.bytes.now c.args.self.now.sorted found c.args.self.now.apart fit d)

pub returns-then-len-self-clause-refused : goal.returns-then-len-self-clause-refused
returns-then-len-self-clause-refused g c =
    let ps = c.args.self.now.puts.items in
    let ss = c.args.self.now.sectors.items in
    let gap = gap_with ps [] ss c.args.lba.0 c.in-Err.at (rw c.deref.ensures.value at c.in-Err.ensures.absent) in
    let none = none_in_gap (puts_as_writes ps ss) c.args.lba.0 c.in-Err.at gap in (
      λ no. (omega (arith, c.len.ensures, c.if-len-self.true), λ has. none has.0 has.1.in_range has.1.has_sector),
      λ full. refl,
    )

pub returns-in-Ok-clause-refused : goal.returns-in-Ok-clause-refused
returns-in-Ok-clause-refused g c = (
  λ no. absurd cc,
  λ full. absurd (full.1 (
    c.in-Ok.at,
    at_with c.args.self.now.puts.items [] c.args.self.now.sectors.items
        c.args.lba.0 c.in-Ok.at (rw c.deref.ensures.value at c.in-Ok.ensures.found),
  )),
)

pub returns-else-len-self-clause-refused : goal.returns-else-len-self-clause-refused
returns-else-len-self-clause-refused g c =
    (λ no. absurd cc, λ full. absurd (omega (arith, c.len.ensures, c.if-len-self.false, full.0)))

pub invariant_of-self-in-Err : goal.invariant_of-self-in-Err
invariant_of-self-in-Err g c =
    let own = c.args.self.now in
    let ps = own.puts.items in
    let ss = own.sectors.items in
    let p : Put = record { lba = c.args.lba; slot = c.len-slot.result } in
    let fits : vec_len own.puts < vec_capacity own.puts = omega (arith, c.len.ensures, c.if-len-self.false, own.reserved) in
    let ok : IsOk c.insert.result = c.insert.ensures.succeeds fits in
    let is : c.insert.new.self.items ≡ insert ps c.in-Err.at p = rw ok at c.insert.ensures.items in
    let len : vec_len c.insert.new.self ≡ vec_len own.puts + 1 = rw ok at c.insert.ensures.len in
    let gap : IsGapFor (puts_as_writes ps ss) c.args.lba.0 c.in-Err.at =
    gap_with ps [] ss c.args.lba.0 c.in-Err.at (rw c.deref.ensures.value at c.in-Err.ensures.absent) in
    let within : c.in-Err.at ≤ length ps = omega (arith, gap.in_range, length-puts ps ss) in
    let last : c.len-slot.result ≡ length ss = omega (arith, c.len-slot.ensures, own.sectors.ok) in
    let fit : SlotsFit ps (length ss) = λ j lt. omega (arith, own.slots j lt, own.sectors.ok) in
    record {
      small = own.small;
      within = omega (arith, len, c.len.ensures, c.if-len-self.false);
      reserved = omega (arith, c.insert.ensures.capacity, own.reserved);
      stored = omega (arith, c.push_reserved.ensures.capacity, own.stored);
      paired = omega (arith, len, c.push_reserved.ensures.len, own.paired);
      slots = subst (λ (qs : List Put). SlotsFit qs (vec_len c.push_reserved.new.self)) (sym is)
          (subst (λ (n : ℕ). SlotsFit (insert ps c.in-Err.at p) n) (omega (arith, c.push_reserved.ensures.len, own.sectors.ok))
          (fit_insert ps c.in-Err.at p (length ss) within fit last));
      apart = subst SlotsApart (sym is) (apart_insert ps c.in-Err.at p (length ss) within fit last own.apart);
      sorted = subst (λ (ts : List (List ℕ)). IsAscending (puts_as_writes c.insert.new.self.items ts)) (sym c.push_reserved.ensures.items)
          (subst (λ (qs : List Put). IsAscending (puts_as_writes qs (ss ++ c.args.bytes.now ∷ []))) (sym is)
          (order_between ps ss p c.in-Err.at c.args.bytes.now fit last gap own.sorted));
    }

pub returns-else-len-self-clause-put : goal.returns-else-len-self-clause-put
returns-else-len-self-clause-put g c = λ yes d.
    let own = c.args.self.now in
    let ps = own.puts.items in
    let ss = own.sectors.items in
    let p : Put = record { lba = c.args.lba; slot = c.len-slot.result } in
    let fits : vec_len own.puts < vec_capacity own.puts = omega (arith, c.len.ensures, c.if-len-self.false, own.reserved) in
    let ok : IsOk c.insert.result = c.insert.ensures.succeeds fits in
    let is : c.insert.new.self.items ≡ insert ps c.in-Err.at p = rw ok at c.insert.ensures.items in
    let gap : IsGapFor (puts_as_writes ps ss) c.args.lba.0 c.in-Err.at =
    gap_with ps [] ss c.args.lba.0 c.in-Err.at (rw c.deref.ensures.value at c.in-Err.ensures.absent) in
    let last : c.len-slot.result ≡ length ss = omega (arith, c.len-slot.ensures, own.sectors.ok) in
    let fit : SlotsFit ps (length ss) = λ j lt. omega (arith, own.slots j lt, own.sectors.ok) in
    subst (λ (ts : List (List ℕ)). written (puts_as_writes c.insert.new.self.items ts) d
    ≡ slice_set (written (puts_as_writes ps ss) d) c.args.lba.0 c.args.bytes.now) (sym c.push_reserved.ensures.items)
    (subst (λ (qs : List Put). written (puts_as_writes qs (ss ++ c.args.bytes.now ∷ [])) d
    ≡ slice_set (written (puts_as_writes ps ss) d) c.args.lba.0 c.args.bytes.now) (sym is)
    (put_between ps ss p c.in-Err.at c.args.bytes.now fit last gap d))

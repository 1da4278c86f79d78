use Rattle.std.proofs.Common.{◌≡◌, ◌-◌}
use Rattle.std.specs.Prelude.{fold, string_bytes}
use Rattle.pt_tables.specs.Entries.{from_on, own_text, with_own}
use Rattle.pt_tables.proofs.attributes.own.Given as goal

abbrev pub invariant-loop-bit : goal.invariant-loop-bit
invariant-loop-bit l = own_text l.attributes ≡ fold (with_own l.attributes) (string_bytes l.text) (from_on l.bit (64 - l.bit))

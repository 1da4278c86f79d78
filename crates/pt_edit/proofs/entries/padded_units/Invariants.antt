-- The units that have come, with zeros after them; those that are to come are of the text that is left.
use Rattle.std.proofs.Common.{◌≡◌, ◌≤◌, ◌++◌, length}
use Rattle.std.specs.Str.{IsUtf8}
use Rattle.std.specs.Str.Iter.{encode_utf16_rest, encode_utf16_pending}
use Rattle.pt_edit.specs.Entries.{units_of, padded}
use Rattle.pt_edit.proofs.entries.padded_units.Given as goal

abbrev pub invariant-loop-unit : goal.invariant-loop-unit
invariant-loop-unit l = record {
  can_go_on : (goal.iterator-loop-unit).can_next l.unit-iterator;
  ends : (goal.iterator-loop-unit).is_finite l.unit-iterator;
  text : IsUtf8 (encode_utf16_rest l.unit-iterator);
  count : l.count ≡ length l.yielded;
  most : l.count ≤ 36;
  so_far : units_of l.fn.name ≡ l.yielded ++ (encode_utf16_pending l.unit-iterator ++ units_of (encode_utf16_rest l.unit-iterator));
  units : l.units ≡ padded l.yielded;
}

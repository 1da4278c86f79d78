use Rattle.std.proofs.Common.{◌≡◌, drop}
use Rattle.pt_guid.specs.Codes.{rows, type_in, type_of}
use Rattle.pt_guid.proofs.codes.type_of_code.Given as goal

abbrev pub invariant-loop-known : goal.invariant-loop-known
invariant-loop-known l = type_of l.code ≡ type_in (drop l.known-index rows) l.code

use Rattle.std.proofs.Common.{◌≡◌, ℕ, drop, Some}
use Rattle.pt_guid.specs.Codes.{rows, type_in, type_of}
use Rattle.pt_guid.proofs.codes.code_of_type.Given as goal

abbrev pub invariant-loop-code : goal.invariant-loop-code
invariant-loop-code l = (code : ℕ) → type_of code ≡ Some l.guid.0 → type_in (drop l.code-index rows) code ≡ Some l.guid.0

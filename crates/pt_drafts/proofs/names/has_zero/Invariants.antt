use Rattle.std.proofs.Common.{◌≡◌, drop}
use Rattle.pt_drafts.specs.Names.{has_zero}
use Rattle.pt_drafts.proofs.names.has_zero.Given as goal

abbrev pub invariant-loop-byte : goal.invariant-loop-byte
invariant-loop-byte l = has_zero l.text ≡ has_zero (drop l.byte-index l.text)

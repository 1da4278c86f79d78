use Rattle.std.proofs.Common.{◌↔◌, ℕ, List, length}
use denote.Shadow.{shadow}
use denote.Text.{Utf8}
use Rattle.pt_disks.specs.inner.Devices.{parts, IsSourceIn}
use Rattle.pt_disks.proofs.uses.source_in.Given as goal

abbrev pub invariant-loop-part : goal.invariant-loop-part
invariant-loop-part l = record {
  same : (source : List ℕ) → IsSourceIn (parts l.fn.text) source ↔ IsSourceIn (parts l.rest) source;
  utf8 : shadow (Utf8 l.rest);
}

abbrev pub decreases-loop-part : goal.decreases-loop-part
decreases-loop-part l = length (parts l.rest)

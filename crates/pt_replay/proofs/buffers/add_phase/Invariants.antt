use Rattle.std.proofs.Common.{◌≡◌, ◌++◌, take}
use Rattle.pt_apply.specs.Plans.{writes_of}
use Rattle.pt_replay.specs.Given.{rows_in, bytes_in}
use Rattle.pt_replay.proofs.buffers.add_phase.Given as goal

abbrev pub invariant-loop-write : goal.invariant-loop-write
invariant-loop-write g l = record {
  rows : l.listed.rows.items ≡ l.fn.listed.rows.items ++ rows_in l.phase (writes_of (take l.write-index l.writes));
  bytes : l.listed.bytes.items ≡ l.fn.listed.bytes.items ++ bytes_in (writes_of (take l.write-index l.writes));
}

use Rattle.std.proofs.Common.{◌+◌, None}
use Rattle.std.specs.Prelude.{slice_index_or}
use Rattle.pt_bsd.specs.Labels.{place_of}
use Rattle.pt_bsd.specs.inner.Labels.{EntryIsPut}
use Rattle.pt_bsd.proofs.Entries.{put_more}
use Rattle.pt_bsd.proofs.Parts.{changes_none}
use Rattle.pt_bsd.proofs.encode.put_entries.Goals as goal
use Rattle.pt_bsd.proofs.encode.put_entries.Goals.{in-Some, in_default}

pub loop-k-preserved : goal.loop-k-preserved
loop-k-preserved c =
    let entries = c.args.entries.now in
    let k = c.loop-k.k in
    let old = c.args.bytes.now in
    let mid = c.loop-k.bytes in
    elim c.match-entries-k.branch [
      | in-Some w ↦
          let here : EntryIsPut (slice_index_or entries k None) (place_of k) w.put_entry.new.bytes = rw w.in-Some.is
          w.put_entry.ensures.here in
          rw w.bytes-is (put_more entries k old mid w.put_entry.new.bytes c.loop-k.invariant here w.put_entry.ensures.only)
      | in_default w ↦
          let here : EntryIsPut (slice_index_or entries k None) (place_of k) mid = rw w.in_default.is tt in
          rw w.bytes-is (put_more entries k old mid mid c.loop-k.invariant here (changes_none (place_of k) (place_of k + 16) mid))
    ]

-- What functions have of the records of a draft, of its logical partitions, and of what they are made by.
use Rattle.std.specs.Prelude.{ℕ}
use Rattle.pt_set.specs.declared.chains.Entering.{Entering}
use Rattle.pt_set.specs.declared.past.Past.{Past as Given}
use Rattle.pt_set.specs.declared.records.MbrBasis.{MbrBasis}
use Rattle.pt_set.specs.declared.records.Staged.{Staged}
use Rattle.pt_set.specs.Chains.{Row}
use Rattle.pt_set.specs.Pasts.{Past}
use Rattle.pt_set.specs.Records.{MbrFrame, Stage}

abbrev pub stage_of : Staged → Stage
stage_of m = record {
  records = m.records;
  labels = m.labels;
  runs = m.runs.items;
  extended = m.extended;
  later = m.later.items;
}

abbrev pub row_of : Entering → Row
row_of m = record {
  labels = m.labels;
  runs = m.runs.items;
  least = m.least;
  links = m.links.items;
  logicals = m.logicals.items;
}

abbrev pub past_in : Given → Past
past_in x = record { records = x.records.now; logicals = x.logicals.now; labels = x.labels.now }

abbrev pub mbr_frame : ℕ → MbrBasis → MbrFrame
mbr_frame b x = record { bytes = b; sectors = x.sectors; past = past_in x.past; parts = x.parts.now }

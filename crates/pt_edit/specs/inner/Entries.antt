-- Words on the entries of a GPT: what private contracts cite.
use Rattle.std.specs.Prelude.{◌≡◌, ◌<◌, ℕ, List, length, ◌≤◌, ◌-◌, None, slice_set, slice_index_or}
use Rattle.pt_members.specs.declared.layout.Layout.{Layout}
use Rattle.pt_edit.specs.declared.partitions.Partition.{Partition}
use Rattle.pt_edit.specs.SliceLabels.{without_label}
use Rattle.pt_members.specs.declared.layout.Body.TheVariants as body
use Rattle.pt_edit.specs.Records as records
use Rattle.pt_edit.specs.declared.gpt.Gpt.{Gpt}
use Rattle.pt_edit.specs.declared.paths.Parts.{Parts}
use Rattle.pt_edit.specs.declared.paths.Parts.TheVariants.{OfGpt, OfMbr}

-- ## Partitions that find their places in a table.

-- x stands in a list's place, counted from 0
abbrev pub IsItemAt : {X : Type 0} → List X → ℕ → X → Type 0
IsItemAt xs k x = (k < length xs) × (slice_index_or xs k x ≡ x)

-- each has a number of its own, and its sectors are below n
pub record Placeable (n : ℕ) (ps : List Partition) : Type 0 where
  pub low : (k : ℕ) (p : Partition) → IsItemAt ps k p → 1 ≤ p.number
  pub high : (k : ℕ) (p : Partition) → IsItemAt ps k p → p.number ≤ 128
  pub fits_first : (k : ℕ) (p : Partition) → IsItemAt ps k p → p.first < n
  pub fits_last : (k : ℕ) (p : Partition) → IsItemAt ps k p → p.last < n
  pub rising : (i j : ℕ) (p q : Partition) → i < j → IsItemAt ps i p → IsItemAt ps j q → p.number < q.number

-- ## The layout of a GPT that the program has taken apart.

-- the layout that its parts are
abbrev pub whole_of : Gpt → Layout
whole_of g = record { sectors = g.sectors; body = body.Gpt g.table; labels = g.labels }

-- the same of either kind
abbrev pub layout_of : Parts → Layout
layout_of (OfGpt g) = whole_of g
layout_of (OfMbr m) = records.whole_of m

-- the layout without an entry and the label of its number
abbrev pub without_spot : ℕ → Gpt → Layout
without_spot number g = record {
  sectors = g.sectors;
  body = body.Gpt (record {
    disk = g.table.disk;
    first = g.table.first;
    last = g.table.last;
    entries =
        slice_set g.table.entries (number - 1) None;
  });
  labels = without_label number g.labels;
}

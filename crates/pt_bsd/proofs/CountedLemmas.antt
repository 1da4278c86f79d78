-- Lemmas on which labels can be written for a slice.
use Rattle.std.specs.Prelude.{⊤, Option, Some, None}
use Rattle.pt_bsd.specs.declared.label.LabelEntry.{LabelEntry}

-- an entry is there
abbrev pub IsThere : Option LabelEntry → Type 0
IsThere None = ⊥
IsThere (Some e) = ⊤

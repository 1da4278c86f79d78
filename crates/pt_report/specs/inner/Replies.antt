-- The text of each answer: what private contracts cite.
use Rattle.std.specs.Prelude.{ℕ, List, [], ◌∷◌}
use Rattle.pt_layout.specs.declared.sound.finding.Finding.{Finding}
use Rattle.pt_report.specs.Replies.{finding_fields}

-- all fields but the first
abbrev pub fields_behind : List (List ℕ) → List (List ℕ)
fields_behind [] = []
fields_behind (field ∷ fields) = fields

-- what it names
abbrev pub names_in : Finding → List (List ℕ)
names_in f = fields_behind (finding_fields f)

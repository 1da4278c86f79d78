-- All words in order: what private contracts cite.
use Rattle.std.specs.Prelude.{List, drop}
use Rattle.pt_guid.specs.declared.guid.Guid.{Guid}
use Rattle.pt_edit.specs.Edited.{State}
use Rattle.pt_edit.specs.declared.fold.State.{State as Kept}

-- the state that it stands for
abbrev pub state_of : List Guid → Kept → State
state_of guids s = record { layout = s.layout; alignment = s.alignment; fresh = drop s.taken guids }

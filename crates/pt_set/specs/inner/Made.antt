-- What functions have of a state and of a frame, and how they tell a fault.
use Rattle.std.specs.Prelude.{ℕ}
use Rattle.std.specs.Option.{option_map}
use Rattle.pt_drafts.specs.declared.fault.DraftError.{DraftError}
use Rattle.pt_drafts.specs.declared.fault.DraftError.TheVariants.{Fault, Memory}
use Rattle.pt_drafts.specs.declared.fault.TextFault.{TextFault}
use Rattle.pt_set.specs.declared.gpt.Made.{Made}
use Rattle.pt_set.specs.declared.gpt.Basis.{Basis}
use Rattle.pt_set.specs.Entries.{State}
use Rattle.pt_set.specs.Tables.{Frame}

abbrev pub state_of : Made → State
state_of m = record { entries = m.entries; labels = m.labels; runs = m.runs.items; taken = m.taken }

abbrev pub frame_in : ℕ → Basis → Frame
frame_in b x = record {
  bytes = b;
  head = x.head;
  old = option_map (λ t. t.now) x.old;
  labels = x.labels.now;
  fresh = x.fresh.now;
  parts = x.parts.now;
}

-- what holds of the fault, where memory isn't what is wanting
abbrev pub Tells : (TextFault → Type 0) → DraftError → Type 0
Tells P (Fault fault) = P fault
Tells P Memory = Unit {0}

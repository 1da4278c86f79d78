-- Sessions, and runs of calls and crashes: what private contracts cite.
use Rattle.std.specs.Prelude.{◌≡◌, Bool, true, false, Result, Ok, Err}
use Rattle.pt_sector.specs.Device.{Told}
use Rattle.pt_plan.specs.declared.error.CommitError.{CommitError}
use Rattle.pt_plan.specs.declared.error.CommitError.TheVariants.{Device}
use Rattle.pt_plan.specs.declared.runs.sessions.Reply.{Reply}
use Rattle.pt_plan.specs.declared.runs.sessions.Reply.TheVariants as reply

-- one reply, with the flags before and after it
abbrev pub Replied : Bool → Reply → Bool → Type 0
Replied false reply.Done next = next ≡ false
Replied false (reply.Refused (Device fault)) next = ⊥
Replied false (reply.Refused e) next = next ≡ false
Replied false (reply.Fault fault) next = next ≡ true
Replied false reply.NotTried next = ⊥
Replied true reply.NotTried next = next ≡ true
Replied true r next = ⊥

module _ {W : Type 0} (commits : W → Result Unit CommitError → Told → Told → Type 0) where
  -- what was done for one batch: its commit, with the answer that the reply tells, or nothing
  abbrev pub Tried : W → Reply → Told → Told → Type 0
  Tried w reply.Done old new = commits w (Ok tt) old new
  Tried w (reply.Refused e) old new = commits w (Err e) old new
  Tried w (reply.Fault fault) old new = commits w (Err (Device fault)) old new
  Tried w reply.NotTried old new = new ≡ old

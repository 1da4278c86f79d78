-- A commit after calls that only read.
use Rattle.std.proofs.Common.{◌≡◌, ℕ, Result, subst}
use Rattle.pt_sector.specs.Device.{Told}
use Rattle.pt_members.specs.declared.layout.Layout.{Layout}
use Rattle.pt_cases.specs.declared.primary.Primary.{Primary as Choice}
use Rattle.pt_plan.specs.Layouts.{CommitsLayout}
use Rattle.pt_plan.specs.declared.error.CommitError.{CommitError}

pub becomes_by : (primary : Choice) (b n m : ℕ) (wanted : Layout) (result : Result Unit CommitError) (old between new : Told)
    → m ≡ n → between ≡ old → CommitsLayout primary b m wanted result between new → CommitsLayout primary b n wanted result old new
becomes_by primary b n m wanted result old between new count same commits =
    subst (λ (k : ℕ). CommitsLayout primary b k wanted result old new) count
    (subst (λ (t : Told). CommitsLayout primary b m wanted result t new) same commits)

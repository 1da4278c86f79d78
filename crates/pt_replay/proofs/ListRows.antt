-- What is answered where nothing is listed.
use Rattle.std.proofs.Common.{◌≡◌, ℕ}
use Rattle.pt_sector.specs.Sectors.{Sectors}
use Rattle.pt_replay.specs.Claims.{NoLayout, Members, MembersFor}
use Rattle.pt_replay.specs.Wanted.{OfView, NoBuffers}
use Rattle.pt_replay.proofs.Saying.{viewed}
use Rattle.pt_replay.specs.Listed.{Listing}
use Rattle.pt_replay.specs.declared.answers.Status.{Status}
use Rattle.pt_replay.specs.declared.answers.Status.TheVariants as status
use Rattle.pt_replay.specs.declared.answers.Reply.{Reply}
use Rattle.pt_replay.specs.declared.view.View.{View}

-- where there is no layout nothing is listed
none_listed : (b : ℕ) (v : View) (d : Sectors) (old new : Listing) → new ≡ old → (s : Status) (r : Reply) → NoLayout b v d s r
    → Members b v d old new s r
none_listed b v d old new same status.Done r is = absurd is
none_listed b v d old new same status.No r is = is
none_listed b v d old new same status.Usage r is = is
none_listed b v d old new same status.Refused r is = is
none_listed b v d old new same status.NoTable r is = (is, same)
none_listed b v d old new same status.Device r is = is
none_listed b v d old new same status.Memory r is = (is, same)
none_listed b v d old new same status.Want r is = (is, same)
none_listed b v d old new same status.Room r is = absurd is
none_listed b v d old new same status.WantOther r is = is

pub members_not : (b : ℕ) (v : View) (d : Sectors) (old new : Listing) (s : Status) (r : Reply) → new ≡ old
    → OfView b v NoBuffers (NoLayout b v d) s r → MembersFor b v d old new s r
members_not b v d old new s r same is = viewed NoBuffers (new ≡ old) (λ none. same) (none_listed b v d old new same) s r is

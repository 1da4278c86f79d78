-- An answer of recovery that is a reason, and no failure.
use Rattle.std.proofs.Common.{◌≡◌, ℕ, Ok, Err, ap, sym, subst, inl, inr}
use Rattle.std.specs.Prelude.{◌⊎◌, Result}
use Rattle.std.specs.Result.{result_ok}
use Rattle.pt_sector.specs.Sectors.{Sectors}
use Rattle.pt_members.specs.declared.layout.Layout.{Layout}
use Rattle.pt_recover.specs.Denotes.{Denotes, FoundIs, IsOutsideDisk, IsReason, TellsNothing, reason_in, told_reason}
use Rattle.pt_recover.specs.declared.error.NoTable.{NoTable}
use Rattle.pt_recover.specs.declared.error.NoTable.TheVariants.{NoCopy, Chain, TwoExtended, TooSmall, Device, Memory}
use Rattle.pt_recover.specs.declared.error.Reason.{Reason}
use Rattle.pt_recover.specs.declared.error.Reason.TheVariants as reason

pub told_inside : (r : Reason) → ¬ IsOutsideDisk (told_reason r)
told_inside (reason.NoCopy e f) = λ out. out
told_inside (reason.Chain e) = λ out. out
told_inside reason.TwoExtended = λ out. out
told_inside reason.TooSmall = λ out. out

told_as : (e : NoTable) (r : Reason) → reason_in e ≡ Ok r → told_reason r ≡ e
told_as (NoCopy e f) r is = (let same : r ≡ reason.NoCopy e f = cc in ap told_reason same)
told_as (Chain e) r is = (let same : r ≡ reason.Chain e = cc in ap told_reason same)
told_as TwoExtended r is = (let same : r ≡ reason.TwoExtended = cc in ap told_reason same)
told_as TooSmall r is = (let same : r ≡ reason.TooSmall = cc in ap told_reason same)
told_as (Device at) r is = absurd cc
told_as Memory r is = absurd cc

inside : (e : NoTable) (r : Reason) → reason_in e ≡ Ok r → ¬ IsOutsideDisk e
inside e r is = subst (λ (x : NoTable). ¬ IsOutsideDisk x) (told_as e r is) (told_inside r)

-- what is told of the answer holds of the reason
pub found_reason : (b : ℕ) (d : Sectors) (e : NoTable) (r : Reason) → reason_in e ≡ Ok r → TellsNothing b d e → FoundIs b d (Err r)
found_reason b d e r is (inl out) = absurd (inside e r is out)
found_reason b d e r is (inr told) = (told.0, subst (IsReason b d) (sym (told_as e r is)) told.1)

pub if_reason : {P : Type 0} (e : NoTable) (r : Reason) → reason_in e ≡ Ok r → IsOutsideDisk e ⊎ P → P
if_reason e r is (inl out) = absurd (inside e r is out)
if_reason e r is (inr p) = p

-- what is found is what the disk denotes, a layout or nothing
pub found_denotes : (b : ℕ) (d : Sectors) (r : Result Layout Reason) → FoundIs b d r → Denotes b d (result_ok r)
found_denotes b d (Ok o) is = is
found_denotes b d (Err r) is = is.0

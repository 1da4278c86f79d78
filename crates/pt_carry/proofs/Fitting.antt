-- Which sectors may be carried, one run after the other.
use Rattle.std.proofs.Common.{◌≡◌, ◌<◌, ◌+◌, ℕ, List, length, take, get_or, ⊎_elim}
use Rattle.pt_sector.specs.declared.address.Extent.{Extent}
use Rattle.pt_sector.specs.declared.address.Lba.{Lba}
use Rattle.pt_recover.specs.Spans.{IsIn as IsTraced}
use Rattle.pt_carry.specs.Data.{InRun, IsFirst, IsIn, UnfitIs}
use Rattle.pt_carry.specs.inner.Copying.{FirstInRun, MayBe}
use Rattle.pt_carry.specs.declared.error.Unfit.{Unfit}
use Rattle.pt_carry.specs.declared.known.Known.{Known}
use Rattle.pt_carry.proofs.Runs.{in_more, got}

pub first_found : (b n : ℕ) (known : Known) (runs : List Extent) (i : ℕ) (run : Extent) (found : Lba × Unfit) → i < length runs
    → run ≡ get_or runs i run → ((t : ℕ) → IsIn (take i runs) t → MayBe b n known t) → FirstInRun b n known run found
    → UnfitIs b n known.old known.new (IsTraced known.trace) found.0.0 found.1 × IsFirst (MayBe b n known) runs found.0.0
first_found b n known runs i run found lt is before (within, unfit, lower) = (
  unfit,
  record { place = i; run = run; is_run = got runs i run lt is; within = within; earlier = before; lower = lower },
)

pub fit_more : (b n : ℕ) (known : Known) (runs : List Extent) (i : ℕ) (run : Extent) → i < length runs
    → run ≡ get_or runs i run → ((t : ℕ) → IsIn (take i runs) t → MayBe b n known t)
    → ((t : ℕ) → InRun run t → MayBe b n known t) → (t : ℕ) → IsIn (take (i + 1) runs) t → MayBe b n known t
fit_more b n known runs i run lt is before here t within = ⊎_elim (before t) (here t) (in_more runs i run lt is t within)

-- What a reading finds on both disks, after calls that only read: the disks tell d and e, as they did.
use Rattle.std.proofs.Common.{◌≡◌, ℕ, List, Option, Some, Ok, Err, subst}
use Rattle.std.specs.Prelude.{Result}
use Rattle.std.specs.Result.{result_ok}
use Rattle.pt_sector.specs.Device.{Told}
use Rattle.pt_recover.specs.Denotes.{Denotes, FoundIs, IsTraceOf}
use Rattle.pt_recover.proofs.Told.{found_denotes}
use Rattle.pt_recover.specs.declared.error.Reason.{Reason}
use Rattle.pt_recover.specs.declared.trace.TracedRun.{TracedRun}
use Rattle.pt_members.specs.declared.layout.Layout.{Layout}
use Rattle.pt_carry.specs.inner.Copying.{IsKnown}
use Rattle.pt_carry.specs.declared.known.Known.{Known}

pub known_of : (b : ℕ) (was_e e was_d d : Told) (r : Result Layout Reason) (new : Layout) (trace : List TracedRun) → was_e ≡ e
    → was_d ≡ d → Denotes b was_e.seen (Some new) → FoundIs b was_d.seen r → IsTraceOf b was_d.seen trace
    → IsKnown b e.seen d.seen (record { old = result_ok r; trace = trace; new = new })
known_of b was_e e was_d d r new trace same_e same_d to found traced =
    let known : Known = record { old = result_ok r; trace = trace; new = new } in
    subst (λ (t : Told). IsKnown b t.seen d.seen known) same_e
    (subst (λ (t : Told). IsKnown b was_e.seen t.seen known) same_d
    (record { from = found_denotes b was_d.seen r found; to = to; trace = traced }))

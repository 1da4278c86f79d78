-- One phase more.
use Rattle.std.proofs.Common.{◌≡◌, ◌∙◌, inl, inr, ⊎_elim, ℕ, zero, suc, ◌+◌, ◌<◌, List, [], ◌∷◌, ◌++◌, length, take, get_or, slice_get}
use Rattle.std.proofs.Common.{Some, refl, sym, ap, subst, arith, add-one, Vec}
use Rattle.std.specs.declared.alloc.Global.{Global}
use Rattle.std.proofs.lemmas.List.{append-nil, append_assoc, length-map}
use Rattle.pt_sector.specs.Sectors.{Sectors, sector, Writes, Stopped, Puts, written, after}
use Rattle.pt_sector.specs.Device.{Told, Moment, MayLeave, LeftBy, LeavesOnly}
use Rattle.pt_sector.proofs.Since.{leaves_through}
use Rattle.pt_sector.specs.declared.disk.Fault.{Fault}
use Rattle.pt_apply.specs.Plans.{writes_of, faults_of, Settled, StoppedIn, StoppedSomewhere, Passed, Reached, CallFailed}
use Rattle.pt_apply.specs.Plans.{FaultOf}
use Rattle.pt_apply.specs.inner.Plans.{Within, Ended, phases_in}
use Rattle.pt_apply.specs.declared.plan.Write.{Write}
use Rattle.pt_apply.proofs.ItemsLemmas.{phase-at}
use Rattle.pt_apply.proofs.Items.{after-more, length-phases}

-- a settled disk is stopped before the first write of the next phase
settled_in : (phases : List Writes) (d : Sectors) (i : ℕ) (now : Told) → Settled now (after (take i phases) d) → (c : Sectors)
    → MayLeave now c → StoppedIn phases d i c
settled_in phases d i now settled c may = record {
  same_count = may.same_count ∙ ap length settled.durable;
  each = λ k lt. ⊎_elim
      (λ is. inl (subst (λ (x : Sectors). sector c k ≡ sector x k) settled.durable is))
      (λ puts. absurd (subst (λ (p : Writes). Puts p k (sector c k)) settled.pending puts))
      (may.each k (subst (λ (x : Sectors). k < length x) (sym settled.durable) lt));
}

-- with nothing done
pub reached_none : (phases : List Writes) (d : Sectors) (old : Told) → Settled old d → Reached phases d 0 0 old old
reached_none phases d old settled = record {
  done = [];
  here = [];
  past = sym (append-nil old.past);
  before = refl;
  calls = refl;
  inside = λ c none. absurd none;
  at_end = λ c may. settled_in phases d 0 old settled c may;
}

no_more : (l : List Moment) → length l ≡ 0 → l ≡ []
no_more [] is = refl
no_more (m ∷ l) is = absurd (omega (arith, is))

passed_on : (ps : List Writes) (d : Sectors) (i : ℕ) (ms here : List Moment) → i < length ps → Passed (take i ps) d ms
    → length here ≡ length (get_or ps i []) + 1 → ((c : Sectors) → LeftBy here c → StoppedIn ps d i c)
    → Passed (take (i + 1) ps) d (ms ++ here)
passed_on [] d i ms here lt so_far calls inside = absurd (omega (arith, lt))
passed_on (p ∷ ps) d zero ms here lt so_far calls inside =
    let flat : ms ++ here ≡ here ++ [] = ap (λ (l : List Moment). l ++ here) so_far ∙ sym (append-nil here) in
    (here, [], flat, calls, inside, refl)
passed_on (p ∷ ps) d (suc i) ms here lt (first, rest, is, count, left, more) calls inside =
    let joined : ms ++ here ≡ first ++ (rest ++ here) = ap (λ (l : List Moment). l ++ here) is ∙ append_assoc first rest here in
    rw add-one (
      first,
      rest ++ here,
      joined,
      count,
      left,
      rw add-one at (passed_on ps (written p d) i rest here (omega (arith, lt)) more calls inside),
    )

-- which call failed
pub fault_in : {b : _} (ps : List (Vec (Write b) Global)) (i : ℕ) (p : Vec (Write b) Global) (ws : List (Write b)) (e : Fault)
    → i < length ps → p ≡ get_or ps i p → ws ≡ p.items
    → (call : ℕ) × (slice_get (faults_of (writes_of ws)) call ≡ Some e) → FaultOf (phases_in ps) e
fault_in ps i p ws e lt is items (call, at) = record {
  phase = i;
  call = call;
  within = omega (arith, lt, length-phases ps);
  is = subst (λ (w : Writes). slice_get (faults_of w) call ≡ Some e) (sym (phase-at ps i p lt is ∙ ap writes_of (sym items))) at;
}

module _ {b : _} (ps : List (Vec (Write b) Global)) (i : ℕ) (p : Vec (Write b) Global) (lt : i < length ps) (is : p ≡ get_or ps i p)
    (ws : List (Write b)) (items : ws ≡ p.items) (d : Sectors) (mid new : Told)
    (so_far : Settled mid (after (take i (phases_in ps)) d)) where
  same_phase : get_or (phases_in ps) i [] ≡ writes_of ws
  same_phase = phase-at ps i p lt is ∙ ap writes_of (sym items)

  within : i < length (phases_in ps)
  within = omega (arith, lt, length-phases ps)

  step : written (writes_of ws) mid.seen ≡ after (take (i + 1) (phases_in ps)) d
  step =
      let more : after (take (i + 1) (phases_in ps)) d ≡ written (get_or (phases_in ps) i []) (after (take i (phases_in ps)) d) =
      after-more (phases_in ps) i d within in
      sym (more ∙ ap (λ (w : Writes). written w (after (take i (phases_in ps)) d)) same_phase
      ∙ ap (written (writes_of ws)) (sym so_far.seen))

  pub settled_on : Settled new (written (writes_of ws) mid.seen) → Settled new (after (take (i + 1) (phases_in ps)) d)
  settled_on settled = record { seen = settled.seen ∙ step; durable = settled.durable ∙ step; pending = settled.pending }

  here : (c : Sectors) → Stopped mid.seen (writes_of ws) c → StoppedIn (phases_in ps) d i c
  here c stopped = rw same_phase (subst (λ (x : Sectors). Stopped x (writes_of ws) c) so_far.seen stopped)

  pub leaves_phase : (old : Told) (n : ℕ) → LeavesOnly old mid (StoppedSomewhere (phases_in ps) d)
      → Within (Stopped mid.seen (writes_of ws)) n mid new → LeavesOnly old new (StoppedSomewhere (phases_in ps) d)
  leaves_phase old n run phase =
      let somewhere : (c : Sectors) → Stopped mid.seen (writes_of ws) c → StoppedSomewhere (phases_in ps) d c =
      λ c stopped. record { phase = i; within = omega (arith, within); stopped = here c stopped } in
      leaves_through old mid new _ run (record {
        more = phase.more;
        past = phase.past;
        inside = λ c left. inr (somewhere c (phase.inside c left));
        at_end = λ c may. inr (somewhere c (phase.at_end c may));
      })

  part : (old : Told) (n : ℕ) → Reached (phases_in ps) d i 0 old mid → Within (Stopped mid.seen (writes_of ws)) n mid new
      → Reached (phases_in ps) d i n old new
  part old n run phase = record {
    done = run.done;
    here = phase.more;
    past = phase.past ∙ ap (λ (l : List Moment). l ++ phase.more)
        (run.past ∙ ap (λ (l : List Moment). old.past ++ (run.done ++ l)) (no_more run.here run.calls)
        ∙ ap (λ (l : List Moment). old.past ++ l) (append-nil run.done)) ∙ append_assoc old.past run.done phase.more;
    before = run.before;
    calls = phase.calls;
    inside = λ c left. here c (phase.inside c left);
    at_end = λ c may. here c (phase.at_end c may);
  }

  pub reached_on : (old : Told) → Reached (phases_in ps) d i 0 old mid
      → Within (Stopped mid.seen (writes_of ws)) (length ws + 1) mid new → Settled new (written (writes_of ws) mid.seen)
      → Reached (phases_in ps) d (i + 1) 0 old new
  reached_on old run phase settled =
      let so : Reached (phases_in ps) d i (length ws + 1) old new = part old (length ws + 1) run phase in
      record {
        done = so.done ++ so.here;
        here = [];
        past = so.past ∙ ap (λ (l : List Moment). old.past ++ l) (sym (append-nil (so.done ++ so.here)));
        before = passed_on (phases_in ps) d i so.done so.here within so.before
            (so.calls ∙ ap (λ (n : ℕ). n + 1) (sym (ap length same_phase ∙ length-map ws (λ (w : Write _). (w.lba.0, w.bytes))))) so.inside;
        calls = refl;
        inside = λ c none. absurd none;
        at_end = λ c may. settled_in (phases_in ps) d (i + 1) new (settled_on settled) c may;
      }

  pub failed_in : (old : Told) (e : Fault) → Reached (phases_in ps) d i 0 old mid → Ended mid.seen (writes_of ws) mid new e
      → CallFailed (phases_in ps) d old new e
  failed_in old e run ended = record {
    phase = i;
    call = ended.call;
    within = within;
    reached = part old (ended.call + 1) run ended.within;
    is = subst (λ (w : Writes). slice_get (faults_of w) ended.call ≡ Some e) (sym same_phase) ended.is;
  }

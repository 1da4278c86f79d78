-- What a commit and a repair that are done leave.
use Rattle.std.specs.Prelude.{◌≡◌, ℕ, List, [], length, Option, Some, Ok, slice_index_or}
use Rattle.std.proofs.Common.{◌∙◌, refl, sym, ap, subst, arith}
use Rattle.std.proofs.lemmas.List.{take_all}
use Rattle.pt_sector.specs.Sectors.{Sectors, Writes, Puts, Stopped, sector, after}
use Rattle.pt_sector.specs.Device.{Told}
use Rattle.pt_sector.specs.inner.ForFields.{stopped_same}
use Rattle.pt_sector.proofs.Written.{agrees_written}
use Rattle.pt_apply.specs.Plans.{Keeps, StoppedSomewhere, writes_in}
use Rattle.pt_recover.specs.Denotes.{Denotes}
use Rattle.pt_members.specs.Tables.{OwnedOf, TableOf}
use Rattle.pt_members.specs.declared.layout.Layout.{Layout}
use Rattle.pt_layout.specs.Healthy.{Healthy}
use Rattle.pt_check.specs.Answers.{IsUnwritten}
use Rattle.pt_check.proofs.Reading.{after-writes}
use Rattle.pt_cases.specs.declared.primary.Primary.{Primary as Choice}
use Rattle.pt_plan.specs.Batches.{Change, CommitsChange, Repairs, IsReadyChange, IsReadyToMend}
use Rattle.pt_plan.proofs.Histories.{stopped_keeps}

unwritten_stays : (phases : List Writes) (d : Sectors) (s : ℕ) → IsUnwritten phases s → sector (after phases d) s ≡ sector d s
unwritten_stays phases d s free = ap (λ (x : Sectors). sector x s) (after-writes phases d)
    ∙ (agrees_written (λ k. k ≡ s) d (writes_in phases)
    (λ k bytes is puts. free bytes (subst (λ (m : ℕ). Puts (writes_in phases) m bytes) is puts))).each s refl

-- a plan that is done is stopped past its last phase
done_stopped : (phases : List Writes) (d : Sectors) → StoppedSomewhere phases d (after phases d)
done_stopped phases d = record {
  phase = length phases;
  within = omega arith;
  stopped = subst (λ (ps : List Writes). Stopped (after ps d) (slice_index_or phases (length phases) []) (after phases d))
      (sym (take_all (length phases) phases (omega arith))) (stopped_same (after phases d) (slice_index_or phases (length phases) []));
}

pub commit_leaves_lem : (primary : Choice) (b n : ℕ) (change : Change) (old new : Told) → CommitsChange primary b n change (Ok tt) old new
    → (phases : List Writes) × IsReadyChange primary b n change old.seen phases
    × ((s : ℕ) → IsUnwritten phases s → sector new.seen s ≡ sector old.seen s)
commit_leaves_lem primary b n change old new did =
    let is = did.ends.3 in
    (is.phases, is.ready, λ s free. ap (λ (x : Sectors). sector x s) is.seen ∙ unwritten_stays is.phases old.seen s free)

pub commit_keeps_lem : (primary : Choice) (b n : ℕ) (change : Change) (old new : Told) → CommitsChange primary b n change (Ok tt) old new
    → (o : Option Layout) × (l : Layout) × Denotes b old.seen o × Denotes b new.seen (Some l)
    × Keeps (Denotes b) (Healthy b) (TableOf b) (OwnedOf b) o (Some l) old.seen new.seen
commit_keeps_lem primary b n change old new did =
    let is = did.ends.3 in
    let r = is.ready in (
      r.old,
      r.new,
      r.leads.from,
      subst (λ (d : Sectors). Denotes b d (Some r.new)) (sym is.seen) r.finished,
      subst (λ (c : Sectors). Keeps (Denotes b) (Healthy b) (TableOf b) (OwnedOf b) r.old (Some r.new) old.seen c) (sym is.seen)
          (stopped_keeps (Denotes b) (Healthy b) (TableOf b) (OwnedOf b) is.phases old.seen r.switch r.safe r.old (Some r.new)
          r.leads.from r.finished (after is.phases old.seen) (done_stopped is.phases old.seen)),
    )

pub repair_leaves_lem : (primary : Choice) (b n : ℕ) (old new : Told) → Repairs primary b n (Ok tt) old new
    → (phases : List Writes) × IsReadyToMend primary b old.seen phases
    × ((s : ℕ) → IsUnwritten phases s → sector new.seen s ≡ sector old.seen s)
repair_leaves_lem primary b n old new did =
    let is = did.ends.3 in
    (is.phases, is.ready, λ s free. ap (λ (x : Sectors). sector x s) is.seen ∙ unwritten_stays is.phases old.seen s free)

pub repair_keeps_lem : (primary : Choice) (b n : ℕ) (old new : Told) → Repairs primary b n (Ok tt) old new
    → (l : Layout) × Denotes b old.seen (Some l) × Denotes b new.seen (Some l)
    × Keeps (Denotes b) (Healthy b) (TableOf b) (OwnedOf b) (Some l) (Some l) old.seen new.seen
repair_keeps_lem primary b n old new did =
    let is = did.ends.3 in
    let r = is.ready in (
      r.layout,
      r.mendable.from,
      subst (λ (d : Sectors). Denotes b d (Some r.layout)) (sym is.seen) r.finished,
      subst (λ (c : Sectors). Keeps (Denotes b) (Healthy b) (TableOf b) (OwnedOf b) (Some r.layout) (Some r.layout) old.seen c)
          (sym is.seen) (stopped_keeps (Denotes b) (Healthy b) (TableOf b) (OwnedOf b) is.phases old.seen r.switch r.safe
          (Some r.layout) (Some r.layout) r.mendable.from r.finished (after is.phases old.seen) (done_stopped is.phases old.seen)),
    )

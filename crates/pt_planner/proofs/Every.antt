-- Each label that would be written with both copies is written by their phases, or it changes.
use Rattle.std.proofs.Common.{◌≡◌, ◌∙◌, inl, inr, ℕ, List, replicate, sym, ap, subst, Option, Some}
use Rattle.std.specs.Prelude.{Contains}
use Rattle.pt_sector.specs.Sectors.{Sectors, sector, IsSectorSize, Writes, Puts}
use Rattle.pt_bsd.specs.declared.label.Label.{Label}
use Rattle.pt_gpt.specs.declared.table.Table.{Table}
use Rattle.pt_recover.specs.Denotes.{Reads}
use Rattle.pt_members.specs.Members.{places_of, place_of, IsPlace}
use Rattle.pt_recover.specs.Spans.{IsIn}
use Rattle.pt_members.specs.declared.layout.Layout.{Layout}
use Rattle.pt_members.specs.declared.layout.Slice.{Slice}
use Rattle.pt_recover.specs.declared.trace.TracedRun.{TracedRun}
use Rattle.pt_members.specs.Tables.{HasFour}
use Rattle.pt_cases.proofs.Causes.{had_one}
use Rattle.pt_cases.proofs.Ascending.{places_ascend_lem}
use Rattle.pt_cases.proofs.Along.{along_label}
use Rattle.pt_cases.specs.Writes.{Had, IsEncoded}
use Rattle.pt_cases.specs.Unplanned.{LabelComes, IsOtherLabel}
use Rattle.pt_cases.specs.Targets.{Targeted, IsPlaceTarget, AreNewWrites, InSectorOrder}
use Rattle.pt_cases.specs.declared.targets.target.Target.{Target}
use Rattle.pt_planner.specs.inner.Phases.{Alters}
use Rattle.pt_planner.specs.Phases.{CopiesStart}
use Rattle.pt_planner.specs.declared.phases.copies.Order.{Order}
use Rattle.pt_planner.proofs.Labels.{reads_is}

module _ {b : ℕ} (d : Sectors) (o : Option Layout) (p : Layout) (t : Table) (chosen : Order b) (guarded : List TracedRun)
    (ts sorted : List (Target b))
    (size : IsSectorSize b) (start : CopiesStart d o p t chosen guarded ts) (order : InSectorOrder ts sorted) where
  -- the target of a wanted label
  target_at : (w : Slice) (l : Label) → Contains (places_of b p.sectors p.body) w
      → Contains p.labels (record { number = w.number; label = l }) → Targeted d o ts w (Some l)
  target_at w l stands wanted =
      let four : HasFour p.body = subst HasFour (sym start.body) tt in
      along_label (Targeted d o ts) 1 (places_of b p.sectors p.body) p.labels w l
      (places_ascend_lem b p.sectors p.body four) start.places.has stands wanted

  -- a new label that isn't read there already is written
  pub new_put : (labels : Writes) → AreNewWrites guarded sorted labels → (s : ℕ) → LabelComes b d o p s → (v : List ℕ) × Puts labels s v
  new_put labels news s is = by_kind target.4
    where
      w : Slice
      w = is.slice

      l : Label
      l = is.label

      target : Targeted d o ts w (Some l)
      target = target_at w l is.labelled.stands is.labelled.wanted

      x : Target b
      x = target.0

      at : x.at.0 ≡ s
      at = target.2 ∙ is.labelled.place

      place : IsPlace (places_of b p.sectors p.body) s
      place = subst (IsPlace (places_of b p.sectors p.body)) at (start.places.each x target.1)

      reads : IsIn guarded x.at.0 → Reads b d s
      reads among = (reads_is d o p t chosen guarded ts size start s place).1 (subst (IsIn guarded) at among)

      stands : IsEncoded l w (replicate b 0) x.bytes → x.bytes ≡ x.under → IsEncoded l w (replicate b 0) (sector d s)
      stands encoded same = subst (IsEncoded l w (replicate b 0)) (same ∙ target.3 ∙ ap (λ (k : ℕ). sector d k) is.labelled.place) encoded

      by_kind : IsPlaceTarget d o w (Some l) x → (v : List ℕ) × Puts labels s v
      by_kind (inl stays) = absurd (is.none l (subst (λ (k : ℕ). Had b d o k l) is.labelled.place stays.1))
      by_kind (inr (inl (kind, (m, had, differ), encoded))) = absurd (is.none m (subst (λ (k : ℕ). Had b d o k m) is.labelled.place had))
      by_kind (inr (inr (kind, none, fresh))) = (
        x.bytes,
        subst (λ (k : ℕ). Puts labels k x.bytes) at
            (news.all x (order.all x target.1) kind (λ both. is.unread (reads both.1, stands fresh.encoded both.0))),
      )

  -- another label is of a target that changes
  pub other_alters : (s : ℕ) → IsOtherLabel b d o p s → Alters (λ k. k ≡ s) sorted
  other_alters s is = by_kind target.0 target.1 target.2 target.4
    where
      target : Targeted d o ts is.slice (Some is.label)
      target = target_at is.slice is.label is.labelled.stands is.labelled.wanted

      by_kind : (x : Target b) → Contains ts x → x.at.0 ≡ place_of is.slice → IsPlaceTarget d o is.slice (Some is.label) x
          → Alters (λ k. k ≡ s) sorted
      by_kind x has at (inl stays) =
          absurd (is.differ (had_one b d o s is.old is.label is.had (subst (λ (k : ℕ). Had b d o k is.label) is.labelled.place stays.1)))
      by_kind x has at (inr (inl (kind, had, encoded))) = (x, order.all x has, kind, at ∙ is.labelled.place)
      by_kind x has at (inr (inr (kind, none, fresh))) =
          absurd (none is.old (subst (λ (k : ℕ). Had b d o k is.old) (sym is.labelled.place) is.had))

-- The targets of label places: which labels they stand for, and that a guarded one is read.
use Rattle.std.proofs.Common.{◌≡◌, ◌∙◌, ◌⊎◌, ◌↔◌, inl, inr, ⊎_elim, ℕ, ◌+◌, ◌-◌, ◌<◌, ◌≤◌, List, [], ◌∷◌, length, replicate, refl, sym}
use Rattle.std.proofs.Common.{ap, subst, arith, Option, Some, None}
use Rattle.std.specs.Prelude.{Contains}
use Rattle.pt_sector.specs.Sectors.{Sectors, sector, IsSectorSize, Writes, Puts}
use Rattle.pt_bsd.specs.declared.label.Label.{Label}
use Rattle.pt_gpt.specs.Copies.{array_len, HasCopy, SideReads}
use Rattle.pt_gpt.specs.declared.table.Side.TheVariants.{Primary, Backup}
use Rattle.pt_gpt.specs.declared.table.Table.{Table}
use Rattle.pt_recover.specs.Denotes.{Reads, BodyIs, IsMbrDisk}
use Rattle.pt_members.specs.Members.{places_of, place_of, IsPlace}
use Rattle.pt_recover.specs.Spans.{IsIn}
use Rattle.pt_members.specs.declared.layout.Body.{Body}
use Rattle.pt_members.specs.declared.layout.Body.TheVariants.{Gpt}
use Rattle.pt_members.specs.declared.layout.Labelled.{Labelled}
use Rattle.pt_members.specs.declared.layout.Layout.{Layout}
use Rattle.pt_members.specs.declared.layout.Slice.{Slice}
use Rattle.pt_recover.specs.declared.trace.TracedRun.{TracedRun}
use Rattle.pt_members.proofs.Grouped.{contains_head, contains_tail}
use Rattle.pt_layout.specs.Healthy.{IsGuarded, place}
use Rattle.pt_layout.proofs.Guarded.{guarded_reads, reads_guarded}
use Rattle.pt_layout.specs.Sound.{Sound}
use Rattle.pt_cases.specs.Writes.{FitsTable, Along, Had, IsEncoded, WritesLabels}
use Rattle.pt_cases.proofs.Stands.{place_usable}
use Rattle.pt_cases.proofs.Within.{reads_gpt, side_within}
use Rattle.pt_cases.specs.Unplanned.{LabelComes, IsOtherLabel, WritesBoth}
use Rattle.pt_cases.proofs.Counts.{few_gpt_places}
use Rattle.pt_cases.proofs.Lifts.{labels_written}
use Rattle.pt_cases.proofs.SelectedLemmas.{climbs, climbs_one}
use Rattle.pt_cases.specs.Targets.{Targeted, IsPlaceTarget, AreNewWrites, InSectorOrder}
use Rattle.pt_cases.specs.declared.targets.target.TargetKind.TheVariants.{Stays, New, Changes}
use Rattle.pt_cases.specs.declared.targets.target.Target.{Target}
use Rattle.pt_planner.specs.Phases.{CopiesStart, OrderIs}
use Rattle.pt_planner.specs.declared.phases.copies.Order.{Order}
use Rattle.pt_planner.specs.declared.phases.copies.Order.TheVariants.{BackupFirst, PrimaryFirst, FromMbr}

-- a slice whose place a sector is, with its label or with none
record GoesAt (P : Slice → Option Label → Type 0) (ps : List Slice) (labels : List Labelled) (s : ℕ) : Type 0 where
  slice : Slice
  stands : Contains ps slice
  at : s ≡ place_of slice
  goes : ((l : Label) × Contains labels (record { number = slice.number; label = l }) × P slice (Some l)) ⊎ P slice None

module _ (P : Slice → Option Label → Type 0) where
  goes_more : (w : Slice) (ps : List Slice) (labels more : List Labelled) (s : ℕ)
      → ((x : Labelled) → Contains labels x → Contains more x) → GoesAt P ps labels s → GoesAt P (w ∷ ps) more s
  goes_more w ps labels more s into found = record {
    slice = found.slice;
    stands = contains_tail w ps found.slice found.stands;
    at = found.at;
    goes = ⊎_elim (λ with. inl (with.0, into (record { number = found.slice.number; label = with.0 }) with.1, with.2))
        (λ without. inr without) found.goes;
  }

  goes_at : (ps : List Slice) (labels : List Labelled) (s : ℕ) → Along P ps labels → IsPlace ps s → GoesAt P ps labels s
  goes_at [] labels s along at = absurd at
  goes_at (w ∷ ps) labels s (inl (l, rest, same, it, later)) (inl here) = record {
    slice = w;
    stands = contains_head w ps;
    at = here;
    goes = inl (
      l,
      subst (λ (x : List Labelled). Contains x (record { number = w.number; label = l })) (sym same)
          (contains_head (record { number = w.number; label = l }) rest),
      it,
    );
  }
  goes_at (w ∷ ps) labels s (inl (l, rest, same, it, later)) (inr there) = goes_more w ps rest labels s
      (λ x has. subst (λ (y : List Labelled). Contains y x) (sym same) (contains_tail (record { number = w.number; label = l }) rest x has))
      (goes_at ps rest s later there)
  goes_at (w ∷ ps) labels s (inr (it, later)) (inl here) = record { slice = w; stands = contains_head w ps; at = here; goes = inr it }
  goes_at (w ∷ ps) labels s (inr (it, later)) (inr there) = goes_more w ps labels labels s (λ x has. has) (goes_at ps labels s later there)

-- a place of a sound GPT that recovery of a disk reads, as no MBR disk, is the label place of what stands there
place_read : (b : ℕ) (d : Sectors) (p : Layout) (t : Table) (s : ℕ) → IsSectorSize b → ¬ IsMbrDisk d → Sound b p → p.sectors ≡ length d
    → p.body ≡ Gpt t → FitsTable b (length d) t
    → IsPlace (places_of b p.sectors p.body) s → Reads b d s → IsGuarded b d s
place_read b d p t s size plain sound count is fits at reads = by_kind (reads_gpt b d s plain reads)
  where
    between : (array_len b + 2 ≤ s) × (s < length d - (array_len b + 1))
    between = place_usable b p t (length d) s count sound is fits at

    by_kind : (s ≡ 0) ⊎
        (SideReads b d Primary s
        ⊎ (((¬ HasCopy b d Primary) × SideReads b d Backup s) ⊎ ((y : Body) × BodyIs b d y × IsPlace (places_of b (length d) y) s)))
        → IsGuarded b d s
    by_kind (inl none) = absurd (omega (arith, none, between.0))
    by_kind (inr (inl first)) = ⊎_elim
        (λ header. absurd (omega (arith, header, between.0)))
        (λ array. absurd (omega (arith, array.1, between.0)))
        (side_within b d Primary s size first)
    by_kind (inr (inr (inl (no_copy, second)))) = ⊎_elim
        (λ header. absurd (omega (arith, header, between.1, fits.room)))
        (λ array. absurd (omega (arith, array.0, between.1, fits.room)))
        (side_within b d Backup s size second)
    by_kind (inr (inr (inr (y, y_is, y_at)))) = place y y_is y_at

module _ {b : ℕ} (d : Sectors) (o : Option Layout) (p : Layout) (t : Table) (chosen : Order b) (guarded : List TracedRun)
    (ts : List (Target b))
    (size : IsSectorSize b) (start : CopiesStart d o p t chosen guarded ts) where
  read_guarded : (order : Order b) → chosen ≡ order → (s : ℕ) → IsPlace (places_of b p.sectors p.body) s → Reads b d s → IsGuarded b d s
  read_guarded (BackupFirst given) is s at reads =
      place_read b d p t s size
      (subst (λ (x : Order b). OrderIs b d x) is start.order).0 start.start.sound start.start.sectors start.body start.fits at reads
  read_guarded (PrimaryFirst given) is s at reads =
      place_read b d p t s size
      (subst (λ (x : Order b). OrderIs b d x) is start.order).0 start.start.sound start.start.sectors start.body start.fits at reads
  read_guarded (FromMbr old) is s at reads = reads_guarded b d s (subst (λ (x : Order b). OrderIs b d x) is start.order) reads

  -- the places that recovery reads are the guarded ones
  pub reads_is : (s : ℕ) → IsPlace (places_of b p.sectors p.body) s → (Reads b d s ↔ IsIn guarded s)
  reads_is s at = (
    (λ reads. (start.guards s).1 (read_guarded chosen refl s at reads)),
    (λ is. guarded_reads b d s ((start.guards s).0 is)),
  )

  few_places : length (places_of b p.sectors p.body) ≤ 128
  few_places = subst (λ (y : Body). length (places_of b p.sectors y) ≤ 128) (sym start.body)
      (let few = few_gpt_places b p.sectors t in omega (arith, few, start.fits.most))

  pub writes_both : WritesBoth o p
  writes_both = record { table = t; body = start.body; other = start.other }

  module _ (sorted : List (Target b)) (order : InSectorOrder ts sorted) where
    -- the writes of the new labels, where no label changes
    pub labels_are : (ws : Writes) → AreNewWrites guarded sorted ws → ((x : Target b) → Contains sorted x → ¬ (x.kind ≡ Changes))
        → WritesLabels b d o p ws
    labels_are ws news settled =
        labels_written d o p ts sorted guarded ws start.places order (λ x has. settled x (order.all x has)) reads_is news few_places

    -- what a target says of its own slice
    same_target : (x : Target b) → Contains sorted x → (w : Slice) (l : Option Label) → x.at.0 ≡ place_of w → Targeted d o ts w l
        → IsPlaceTarget d o w l x
    same_target x has w l at (y, y_has, y_at, under, is) =
        let same : y ≡ x = climbs_one sorted y x (climbs sorted order.ascending) (order.all y y_has) has (y_at ∙ sym at) in
        subst (IsPlaceTarget d o w l) same is

    found : (x : Target b) → Contains sorted x → GoesAt (Targeted d o ts) (places_of b p.sectors p.body) p.labels x.at.0
    found x has =
        goes_at (Targeted d o ts) (places_of b p.sectors p.body) p.labels x.at.0 start.places.has (start.places.each x (order.only x has))

    -- a new label that is written
    pub new_label : (ws : Writes) → AreNewWrites guarded sorted ws → (s : ℕ) (v : List ℕ) → Puts ws s v → LabelComes b d o p s
    new_label ws news s v puts = by_goes at_place.goes
      where
        it : (x : Target b) × Contains sorted x × (x.kind ≡ New) × (x.at.0 ≡ s) × (x.bytes ≡ v) × ¬ ((x.bytes ≡ x.under) × IsIn guarded s)
        it = news.each s v puts

        at_place : GoesAt (Targeted d o ts) (places_of b p.sectors p.body) p.labels it.0.at.0
        at_place = found it.0 it.1

        w : Slice
        w = at_place.slice

        is_place : IsPlace (places_of b p.sectors p.body) s
        is_place = subst (IsPlace (places_of b p.sectors p.body)) it.3 (start.places.each it.0 (order.only it.0 it.1))

        here : s ≡ place_of w
        here = sym it.3 ∙ at_place.at

        under : it.0.under ≡ sector d s
        under = start.places.tell it.0 (order.only it.0 it.1) ∙ ap (λ (k : ℕ). sector d k) it.3

        by_target : (l : Label) → Contains p.labels (record { number = w.number; label = l }) → IsPlaceTarget d o w (Some l) it.0
            → LabelComes b d o p s
        by_target l has (inl stays) = absurd (let no : Stays ≡ New = sym stays.0 ∙ it.2 in cc)
        by_target l has (inr (inl changes)) = absurd (let no : Changes ≡ New = sym changes.0 ∙ it.2 in cc)
        by_target l has (inr (inr (kind, none, fresh))) = record {
          slice = w;
          label = l;
          labelled = record { stands = at_place.stands; wanted = has; place = sym at_place.at ∙ it.3 };
          none = λ m had. none m (subst (λ (k : ℕ). Had b d o k m) (sym it.3 ∙ at_place.at) had);
          unread = λ both. it.5 (
            fresh.one (subst (λ (k : ℕ). IsEncoded l w (replicate b 0) (sector d k)) here both.1)
                ∙ ap (sector d) (sym here) ∙ sym under,
            (reads_is s is_place).0 both.0,
          );
        }

        by_goes :
            ((l : Label) × Contains p.labels (record { number = w.number; label = l }) × Targeted d o ts w (Some l))
            ⊎ Targeted d o ts w None
            → LabelComes b d o p s
        by_goes (inl (l, has, is)) = by_target l has (same_target it.0 it.1 w (Some l) at_place.at is)
        by_goes (inr is) =
            absurd (let stays = (same_target it.0 it.1 w None at_place.at is).0 in let no : Stays ≡ New = sym stays ∙ it.2 in cc)

    -- a label that would change
    pub other_label : (x : Target b) → Contains sorted x → x.kind ≡ Changes → IsOtherLabel b d o p x.at.0
    other_label x has kind = by_goes at_place.goes
      where
        at_place : GoesAt (Targeted d o ts) (places_of b p.sectors p.body) p.labels x.at.0
        at_place = found x has

        w : Slice
        w = at_place.slice

        by_target : (l : Label) → Contains p.labels (record { number = w.number; label = l }) → IsPlaceTarget d o w (Some l) x
            → IsOtherLabel b d o p x.at.0
        by_target l wanted (inl stays) = absurd (let no : Stays ≡ Changes = sym stays.0 ∙ kind in cc)
        by_target l wanted (inr (inr new)) = absurd (let no : New ≡ Changes = sym new.0 ∙ kind in cc)
        by_target l wanted (inr (inl (is, (m, had, differ), encoded))) = record {
          slice = w;
          label = l;
          labelled = record { stands = at_place.stands; wanted = wanted; place = sym at_place.at };
          old = m;
          had = subst (λ (k : ℕ). Had b d o k m) (sym at_place.at) had;
          differ = differ;
        }

        by_goes :
            ((l : Label) × Contains p.labels (record { number = w.number; label = l }) × Targeted d o ts w (Some l))
            ⊎ Targeted d o ts w None
            → IsOtherLabel b d o p x.at.0
        by_goes (inl (l, wanted, is)) = by_target l wanted (same_target x has w (Some l) at_place.at is)
        by_goes (inr is) =
            absurd (let stays = (same_target x has w None at_place.at is).0 in let no : Stays ≡ Changes = sym stays ∙ kind in cc)

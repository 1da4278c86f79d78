-- A turn of one label is a plan, and where there is none there is a cause.
use Rattle.std.proofs.Common.{◌≡◌, ◌∙◌, inl, inr, ℕ, List, [], ◌∷◌, length, refl, sym, ap, subst, Option, Bool, true, false}
use Rattle.std.specs.Prelude.{Contains}
use Rattle.pt_sector.specs.Sectors.{Sectors, sector, Writes, Puts}
use Rattle.pt_members.specs.Tables.{OwnedOf}
use Rattle.pt_apply.specs.Plans.{writes_in}
use Rattle.pt_recover.specs.Denotes.{Denotes}
use Rattle.pt_members.specs.Members.{places_of, IsPlace}
use Rattle.pt_members.specs.declared.layout.Body.{Body}
use Rattle.pt_members.specs.declared.layout.Layout.{Layout}
use Rattle.pt_layout.specs.Healthy.{IsGuarded, place}
use Rattle.pt_cases.specs.Cases.{IsOneLabel}
use Rattle.pt_cases.specs.Writes.{one_write, ComesToHold}
use Rattle.pt_cases.specs.Unplanned.{TargetsIn, TargetsOf, NotOneTurn, HasNoTurn, IsUnmended, StopsBy}
use Rattle.pt_cases.specs.Unplanned as causes
use Rattle.pt_cases.proofs.Lifts.{labels_met}
use Rattle.pt_cases.specs.Targets.{TellDisk, InSectorOrder, IsChange, IsOneChange, NotOneChange}
use Rattle.pt_cases.specs.declared.targets.error.PlanError.{PlanError}
use Rattle.pt_cases.specs.declared.targets.error.PlanError.TheVariants.{NotOneSwitch, ReusedInOneBatch, NeedsRepair, Unsound, Device}
use Rattle.pt_cases.specs.declared.targets.error.PlanError.TheVariants.{Memory}
use Rattle.pt_cases.specs.declared.targets.target.Target.{Target}
use Rattle.pt_planner.specs.inner.Phases.{IsLoneTurn, NoLoneTurn}
use Rattle.pt_planner.specs.Phases.{LabelStart, Unbroken}

module _ {b : ℕ} (d : Sectors) (o : Option Layout) (p : Layout) (broken : Bool) (places : List (Target b))
    (is : LabelStart d o p broken places) where
  targets_of : TargetsOf b d o p places
  targets_of = subst (λ (y : Body). TargetsIn b d o p y places) (sym is.body) (is.changes, is.places)

  -- each of the places is a label's on the disk
  guarded : (t : Target b) → Contains places t → IsGuarded b d t.at.0
  guarded t has = place is.changes.old.body (subst (Denotes b d) is.changes.is_old is.start.from).1
      (subst (λ (y : Body). IsPlace (places_of b (length d) y) t.at.0) (sym is.changes.same)
      (subst (λ (n : ℕ). IsPlace (places_of b n p.body) t.at.0) is.start.sectors (is.places.each t has)))

  module _ (sorted : List (Target b)) (order : InSectorOrder places sorted) where
    tell_sorted : TellDisk d sorted
    tell_sorted t has = is.places.tell t (order.only t has)

    no_turn : NotOneChange sorted → NotOneTurn b d places
    no_turn (inl none) = inl (λ t change loud. none t (order.all t change.0, change.1))
    no_turn (inr (t, u, t_change, u_change, less)) = inr (
      t,
      u,
      (order.only t t_change.0, t_change.1),
      (order.only u u_change.0, u_change.1),
      guarded t (order.only t t_change.0),
      guarded u (order.only u u_change.0),
      less,
    )

  -- a turn is a plan
  pub label_planned : broken ≡ false → (loud : ℕ × List ℕ) (phases : List Writes) → IsLoneTurn o places loud
      → phases ≡ one_write loud.0 loud.1 ∷ [] → IsOneLabel b d o p is.table phases
  label_planned whole loud phases turn made = record {
    common = record {
      from = is.start.from;
      sound = is.start.sound;
      sectors = is.start.sectors;
      stays = is.start.stays;
      not_done = is.start.not_done;
      free = not_owned;
    };
    body = is.body;
    old = is.changes.old;
    is_old = is.changes.is_old;
    same = is.changes.same;
    whole = (let there : Unbroken b d is.changes.old false = subst (Unbroken b d is.changes.old) whole is.unbroken in there);
    loud = loud;
    is = made;
    met = labels_met d o (one_write loud.0 loud.1) places turn.sorted turn.free.order.all one.ends one.stays p is.places;
    place = subst (IsPlace (places_of b p.sectors p.body)) one.at (is.places.each one.target
        (turn.free.order.only one.target one.change.0));
    other = λ same. one.change.1
        (one.bytes ∙ same ∙ ap (sector d) (sym one.at) ∙ sym (tell_sorted turn.sorted turn.free.order one.target one.change.0));
  } where
    one : IsOneChange d turn.sorted loud
    one = turn.change d (tell_sorted turn.sorted turn.free.order)

    not_owned : (s : ℕ) (v : List ℕ) → Puts (writes_in phases) s v → ¬ OwnedOf b o s
    not_owned s v puts owned = by_put (subst (λ (ps : List Writes). Puts (writes_in ps) s v) made puts) where
      by_put : Puts (one_write loud.0 loud.1) s v → ⊥
      by_put (inl here) = turn.free.free one.target one.change (subst (OwnedOf b o) (sym (one.at ∙ here.0)) owned)
      by_put (inr none) = none

  -- where there is none, that has a cause
  pub label_stops : (e : PlanError) → NoLoneTurn o places e → StopsBy b d o p (HasNoTurn b d o p) e
  label_stops NotOneSwitch (inl twice) = inr (places, inl targets_of, twice)
  label_stops NotOneSwitch (inr (sorted, free, none)) =
      inl (places, targets_of, (λ t change. free.free t (free.order.all t change.0, change.1)), no_turn sorted free.order none)
  label_stops ReusedInOneBatch owned = (owned.target.at.0, causes.target places owned.target targets_of owned.change refl, owned.owned)
  label_stops NeedsRepair never = absurd never
  label_stops (Unsound f) never = absurd never
  label_stops (Device fault) never = absurd never
  label_stops Memory any = tt

  -- broken copies are to be mended first
  pub label_unmended : broken ≡ true → (loud : ℕ × List ℕ) → IsLoneTurn o places loud → IsUnmended b d o p
  label_unmended so loud turn = record {
    changes = is.changes;
    finding = there.0;
    broken = there.1;
    items = places;
    places = is.places;
    target = one.target;
    lone = record {
      change = (turn.free.order.only one.target one.change.0, one.change.1);
      free = turn.free.free one.target one.change;
      one = λ u change. loud_only u change (one.ends u (turn.free.order.all u change.0));
    };
  } where
    there : Unbroken b d is.changes.old true
    there = subst (Unbroken b d is.changes.old) so is.unbroken

    one : IsOneChange d turn.sorted loud
    one = turn.change d (tell_sorted turn.sorted turn.free.order)

    loud_only : (u : Target b) → IsChange places u → ComesToHold d (one_write loud.0 loud.1) u.at.0 u.bytes → u.at.0 ≡ one.target.at.0
    loud_only u change (inl (inl here)) = sym here.0 ∙ sym one.at
    loud_only u change (inl (inr none)) = absurd none
    loud_only u change (inr stays) = absurd (change.1 (stays.0 ∙ sym (is.places.tell u change.0)))

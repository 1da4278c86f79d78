-- A turn of an MBR is a plan, and where there is none there is a cause.
use Rattle.std.proofs.Common.{◌≡◌, ◌≢◌, ◌∙◌, ◌⊎◌, inl, inr, ⊎_elim, ℕ, ◌≤◌, List, [], ◌∷◌, ◌++◌, length, refl, sym, ap, subst, arith}
use Rattle.std.proofs.Common.{Option, length-append}
use Rattle.std.specs.Prelude.{Contains}
use Rattle.std.proofs.lemmas.List.Elements.{Contains-append_left, Contains-append_right, Contains-append_cases}
use Rattle.pt_sector.specs.Sectors.{Sectors, sector, Writes, Puts}
use Rattle.pt_mbr.specs.declared.ebr.Ebr.{Ebr}
use Rattle.pt_mbr.specs.declared.record.Record.{Record}
use Rattle.pt_members.specs.Tables.{OwnedOf}
use Rattle.pt_apply.specs.Plans.{writes_in}
use Rattle.pt_recover.specs.Denotes.{Denotes, BodyIs, IsMbrDisk}
use Rattle.pt_members.specs.Members.{places_of}
use Rattle.pt_mbr.specs.Records.{extended_of}
use Rattle.pt_members.specs.declared.layout.Body.{Body}
use Rattle.pt_members.specs.declared.layout.Layout.{Layout}
use Rattle.pt_recover.specs.declared.trace.TracedRun.{TracedRun}
use Rattle.pt_cases.specs.Cases.{IsWithinMbr, IsNeeded, MbrMet, within_mbr_phases}
use Rattle.pt_cases.specs.Writes.{one_write, IsLoneChain}
use Rattle.pt_apply.proofs.Puts.{puts_right}
use Rattle.pt_layout.proofs.Guarded.{reads_guarded}
use Rattle.pt_cases.proofs.Guards.{guarded_is_read}
use Rattle.pt_cases.specs.Unplanned.{NoneOwned, TargetsIn, TargetsOf, NotOneTurn, HasNoTurn, StopsBy}
use Rattle.pt_cases.specs.Unplanned as causes
use Rattle.pt_cases.proofs.Counts.{most_mbr_places}
use Rattle.pt_cases.proofs.Lifts.{labels_met, mbr_met}
use Rattle.pt_cases.specs.Targets.{TellDisk, InSectorOrder, IsSplit, NotOneLoud}
use Rattle.pt_cases.specs.declared.targets.error.PlanError.{PlanError}
use Rattle.pt_cases.specs.declared.targets.error.PlanError.TheVariants.{NotOneSwitch, ReusedInOneBatch, NeedsRepair, Unsound, Device}
use Rattle.pt_cases.specs.declared.targets.error.PlanError.TheVariants.{Memory}
use Rattle.pt_cases.specs.declared.targets.target.Target.{Target}
use Rattle.pt_planner.specs.inner.Phases.{IsTurn, NoTurn}
use Rattle.pt_planner.specs.Phases.{MbrStart}

-- a chain of a lone extended record is short
chain_few : (n : ℕ) (rs : List Record) (chain : List Ebr) → IsLoneChain n rs chain → length chain ≤ 128
chain_few n [] chain linked = (let none : length chain ≡ 0 = ap length linked in omega (arith, none))
chain_few n (r ∷ []) chain linked = linked.0
chain_few n (r ∷ q ∷ rs) chain linked = absurd linked

-- the writes of the phases are the quiet ones and the loud one
pub phases_put : (quiet : Writes) (loud : ℕ × List ℕ) (phases : List Writes) (s : ℕ) (v : List ℕ) → within_mbr_phases quiet loud phases
    → Puts (writes_in phases) s v → Puts (quiet ++ one_write loud.0 loud.1) s v
phases_put quiet loud phases s v (inl one) puts =
    puts_right quiet (one_write loud.0 loud.1) s v (subst (λ (ps : List Writes). Puts (writes_in ps) s v) one.1 puts)
phases_put quiet loud phases s v (inr two) puts = subst (λ (ps : List Writes). Puts (writes_in ps) s v) two.1 puts

module _ {b : ℕ} (d : Sectors) (o : Option Layout) (p : Layout) (guarded : List TracedRun) (heads places : List (Target b))
    (is : MbrStart d o p guarded heads places) where
  abbrev both : List (Target b)
  both = heads ++ places

  in_both : (t : Target b) → Contains both t → Contains heads t ⊎ Contains places t
  in_both t has = Contains-append_cases heads places t has

  tell_both : TellDisk d both
  tell_both t has = ⊎_elim (λ left. is.heads.tell t left) (λ right. is.places.tell t right) (in_both t has)

  needed : (t : Target b) → Contains both t → IsNeeded b p is.chain t.at.0
  needed t has = ⊎_elim
      (λ left. ⊎_elim (λ head. inl head) (λ ebr. inr (inl ebr)) (is.heads.each t left))
      (λ right. inr (inr (is.places.each t right)))
      (in_both t has)

  mbr : IsMbrDisk d
  mbr = (subst (BodyIs b d) is.was.body (subst (Denotes b d) is.was.is_old is.start.from).1).0.0

  targets_of : TargetsOf b d o p both
  targets_of = subst (λ (y : Body). TargetsIn b d o p y both) (sym is.body) (is.was, heads, places, is.heads, is.places, refl)

  few_both : length both ≤ 261
  few_both =
      let chain = chain_few (length d) (extended_of is.records) is.chain is.linked in
      let labels : length (places_of b p.sectors p.body) ≤ 132 =
      subst (λ (y : Body). length (places_of b p.sectors y) ≤ 132) (sym is.body)
      (most_mbr_places b p.sectors is.records is.chain is.four chain) in
      omega (arith, chain, labels, is.heads.count, is.places.count, length-append heads places)

  module _ (sorted : List (Target b)) (order : InSectorOrder both sorted) where
    tell_sorted : TellDisk d sorted
    tell_sorted t has = tell_both t (order.only t has)

    module _ (free : NoneOwned o sorted) (quiet : Writes) (loud : ℕ × List ℕ) (split : IsSplit d guarded sorted quiet loud) where
      abbrev all : Writes
      all = quiet ++ one_write loud.0 loud.1

      not_owned : (s : ℕ) (v : List ℕ) → Puts all s v → ¬ OwnedOf b o s
      not_owned s v puts owned = (let it = split.each s v puts in free it.0 it.1 (subst (OwnedOf b o) (sym it.2) owned))

      each : (s : ℕ) (v : List ℕ) → Puts all s v → IsNeeded b p is.chain s × (v ≢ sector d s)
      each s v puts = (let it = split.each s v puts in (
        subst (IsNeeded b p is.chain) it.2 (needed it.0 (order.only it.0 it.1.0)),
        λ same. it.1.1 (it.3 ∙ same ∙ ap (sector d) (sym it.2) ∙ sym (tell_sorted it.0 it.1.0)),
      ))

      met : MbrMet b d o p is.was.records is.was.chain is.records is.chain all
      met =
          let first =
          mbr_met d is.was.chain all heads sorted
          (λ t has. order.all t (Contains-append_left heads places t has)) split.ends is.was.records is.records is.chain is.heads in
          record {
            head = first.0;
            ebrs = first.1;
            labels = labels_met d o all places sorted
                (λ t has. order.all t (Contains-append_right heads places t has)) split.ends split.stays p is.places;
          }

      planned : (phases : List Writes) → within_mbr_phases quiet loud phases → IsWithinMbr b d o p is.records is.chain phases
      planned phases made = record {
        common = record {
          from = is.start.from;
          sound = is.start.sound;
          sectors = is.start.sectors;
          stays = is.start.stays;
          not_done = is.start.not_done;
          free = λ s v puts. not_owned s v (phases_put quiet loud phases s v made puts);
        };
        body = is.body;
        old = is.was.old;
        old_records = is.was.records;
        old_chain = is.was.chain;
        is_old = is.was.is_old;
        old_body = is.was.body;
        linked = is.linked;
        quiet = quiet;
        loud = loud;
        ascending = split.ascending;
        few = (let most = few_both in omega (arith, most, split.few, order.count));
        unread = λ s v puts reads. split.unread s v puts ((is.guards s).1 (reads_guarded b d s mbr reads));
        read = guarded_is_read b d loud.0 ((is.guards loud.0).0 split.read);
        met = met;
        each = each;
        is = made;
      }

    -- none or two of the sectors that change are guarded
    no_turn : NotOneLoud guarded sorted → NotOneTurn b d both
    no_turn (inl none) = inl (λ t change loud. none t (order.all t change.0, change.1) ((is.guards t.at.0).1 loud))
    no_turn (inr (t, u, t_change, u_change, t_in, u_in, less)) = inr (
      t,
      u,
      (order.only t t_change.0, t_change.1),
      (order.only u u_change.0, u_change.1),
      (is.guards t.at.0).0 t_in,
      (is.guards u.at.0).0 u_in,
      less,
    )

  -- a turn is a plan
  pub mbr_planned : (phases : List Writes) → IsTurn o guarded both phases → IsWithinMbr b d o p is.records is.chain phases
  mbr_planned phases turn =
      planned turn.sorted turn.free.order turn.free.free turn.quiet turn.loud
      (turn.split d (tell_sorted turn.sorted turn.free.order)) phases turn.is

  -- where there is none, that has a cause
  pub mbr_stops : (e : PlanError) → NoTurn o guarded both e → StopsBy b d o p (HasNoTurn b d o p) e
  mbr_stops NotOneSwitch (inl twice) = inr (both, inl targets_of, twice)
  mbr_stops NotOneSwitch (inr (sorted, free, none)) =
      inl (both, targets_of, (λ t change. free.free t (free.order.all t change.0, change.1)), no_turn sorted free.order none)
  mbr_stops ReusedInOneBatch owned = (owned.target.at.0, causes.target both owned.target targets_of owned.change refl, owned.owned)
  mbr_stops NeedsRepair never = absurd never
  mbr_stops (Unsound f) never = absurd never
  mbr_stops (Device fault) never = absurd never
  mbr_stops Memory any = tt

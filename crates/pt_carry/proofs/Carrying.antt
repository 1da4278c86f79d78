-- Data that was carried, and the commit after it.
use Rattle.std.proofs.Common.{◌≡◌, ◌∙◌, ◌⊎◌, inl, inr, ⊎_elim, ℕ, ◌<◌, ◌≤◌, List, [], ◌∷◌, length, sym, ap, subst, arith}
use Rattle.std.specs.Prelude.{◌↔◌}
use Rattle.std.proofs.Common.{Option, Some, Result, Ok, Err}
use Rattle.std.proofs.lemmas.Grind.{common_steps}
use Rattle.std.proofs.lemmas.List.{append_cancel_left}
use Rattle.pt_sector.specs.Sectors.{Sectors, sector, Agrees}
use Rattle.pt_sector.specs.Device.{Told, Moment, MayLeave, LeftBy, LeavesOnly}
use Rattle.pt_sector.specs.declared.address.Extent.{Extent}
use Rattle.pt_sector.proofs.Since.{leaves_none, leaves_through, leaves_weaker}
use Rattle.pt_apply.specs.Plans.{Keeps}
use Rattle.pt_recover.specs.Denotes.{Denotes, IsReason, Reads}
use Rattle.pt_recover.specs.Spans.{IsIn as IsTraced}
use Rattle.pt_recover.proofs.Terms.{denotes_one_lem, reads_decide_lem}
use Rattle.pt_members.specs.Tables.{OwnedOf, TableOf}
use Rattle.pt_members.specs.declared.layout.Layout.{Layout}
use Rattle.pt_layout.specs.Healthy.{Healthy}
use Rattle.pt_cases.specs.Kept.{IsPlanBy}
use Rattle.pt_cases.specs.NewMbr.{UnplannedBy}
use Rattle.pt_cases.specs.declared.primary.Primary.{Primary as Choice}
use Rattle.pt_words.specs.declared.error.Refusal.{Refusal}
use Rattle.pt_plan.specs.Batches.{ChangedBy, FromNothing, to_layout}
use Rattle.pt_plan.specs.Commits.{Bounded, Either, Has}
use Rattle.pt_plan.specs.Layouts.{BecomesLike, CommitsLayout}
use Rattle.pt_plan.specs.declared.error.CommitError.{CommitError}
use Rattle.pt_plan.specs.declared.like_error.LikeError.{LikeError}
use Rattle.pt_plan.specs.declared.like_error.LikeError.TheVariants as like
use Rattle.pt_plan.proofs.EveryPlan.{settled_leaves}
use Rattle.pt_plan.proofs.RunsLemmas.{begins_lem}
use Rattle.pt_carry.specs.Data.{IsIn, HasData, HasPart, IsFirst, IsFit, UnfitIs, MayCarry, FirstUnfit}
use Rattle.pt_carry.specs.Carries.{BecomesAfter, Carries, CarriedAll, CarriedPart, IsAfter, IsBefore, IsDone, IsEither}
use Rattle.pt_carry.specs.inner.Copying.{CopiedAll, CopiedPart, FailedCopy, IsKnown, IsOfCopy, MayBe}
use Rattle.pt_carry.specs.declared.error.CarryError.{CarryError}
use Rattle.pt_carry.specs.declared.error.CarryError.TheVariants.{NotLike, Refused, Unread, Device, Differs, Table}
use Rattle.pt_carry.specs.declared.error.Unfit.{Unfit}
use Rattle.pt_carry.specs.declared.error.Unfit.TheVariants as unfit
use Rattle.pt_carry.specs.declared.known.Known.{Known}
use Rattle.pt_carry.proofs.Moving.{part_same, all_same}

-- ## What may be carried, by what is known of the disks. The disk has n sectors.

module _ (b n : ℕ) (runs : List Extent) (e d : Sectors) (known : Known) (is : IsKnown b e d known) (sized : n ≡ length d) where
  fit_by : (s : ℕ) → MayBe b n known s → IsFit b (length d) known.old known.new (Reads b d) s
  fit_by s fit = record {
    within = subst (λ (m : ℕ). s < m) sized fit.within;
    unowned = fit.unowned;
    no_table = fit.no_table;
    no_new_table = fit.no_new_table;
    unread = λ reads. fit.unread ((is.trace s).1 reads);
  }

  below : (s : ℕ) → s < n → s < length d
  below s lt = subst (λ (m : ℕ). s < m) sized lt

  unfit_by : (s : ℕ) (why : Unfit) → UnfitIs b n known.old known.new (IsTraced known.trace) s why
      → UnfitIs b (length d) known.old known.new (Reads b d) s why
  unfit_by s unfit.Outside past = λ lt. past (subst (λ (m : ℕ). s < m) (sym sized) lt)
  unfit_by s unfit.Owned (lt, owned) = (below s lt, owned)
  unfit_by s unfit.Table (lt, free, table) = (below s lt, free, table)
  unfit_by s unfit.NewTable (lt, free, old, table) = (below s lt, free, old, table)
  unfit_by s unfit.Read (lt, free, old, new, reads) = (below s lt, free, old, new, (is.trace s).0 reads)

  pub may_carry : ((s : ℕ) → IsIn runs s → MayBe b n known s) → MayCarry b runs e d
  may_carry fit = record {
    old = known.old;
    from = is.from;
    new = known.new;
    to = is.to;
    fit = λ s within. fit_by s (fit s within);
  }

  pub first_refused : (s : ℕ) (why : Unfit)
      → UnfitIs b n known.old known.new (IsTraced known.trace) s why × IsFirst (MayBe b n known) runs s → FirstUnfit b runs e d s why
  first_refused s why (bad, first) = record {
    old = known.old;
    from = is.from;
    new = known.new;
    to = is.to;
    unfit = unfit_by s why bad;
    first = record {
      place = first.place;
      run = first.run;
      is_run = first.is_run;
      within = first.within;
      earlier = λ t within. fit_by t (first.earlier t within);
      lower = λ t from to. fit_by t (first.lower t from to);
    };
  }

-- ## Disks with part of the data mean what the disk did.

below_or : (a b : ℕ) → (a < b) ⊎ (b ≤ a)
below_or a b = grind arith

past_end : (c : Sectors) (j : ℕ) → length c ≤ j → sector c j ≡ []
past_end c j le = grind (arith, common_steps)

module _ (b : ℕ) (runs : List Extent) (e : Sectors) (old : Told) (may : MayCarry b runs e old.seen) where
  agrees : (c : Sectors) → HasPart runs e old.seen c → Agrees (Reads b old.seen) c old.seen
  agrees c part = record { count = part.count; each = λ s reads. on s reads (below_or s (length old.seen)) }
    where
      on : (s : ℕ) → Reads b old.seen s → (s < length old.seen) ⊎ (length old.seen ≤ s) → sector c s ≡ sector old.seen s
      on s reads (inl lt) = ⊎_elim (λ same. same) (λ it. absurd ((may.fit s it.0).unread reads)) (part.each s lt)
      on s reads (inr past) =
          let ended : sector c s ≡ [] = past_end c s (omega (arith, past, part.count)) in ended ∙ sym (past_end old.seen s past)

  before : (c : Sectors) → HasPart runs e old.seen c → IsBefore b runs e old.seen c
  before c part = record { may = may; part = part; same = reads_decide_lem b c old.seen (agrees c part) }

  pub carried_part : (new : Told) → CopiedPart runs e old new → CarriedPart b runs e old new
  carried_part new it = record { may = may; seen = it.seen; stops = it.stops }

  pub stops_before : (new : Told) → LeavesOnly old new (HasPart runs e old.seen) → LeavesOnly old new (IsEither b runs e old.seen)
  stops_before new stops =
      leaves_weaker old new (HasPart runs e old.seen) (IsEither b runs e old.seen) (λ c part. inl (before c part)) stops

  pub carried_all : (new : Told) → CopiedAll runs e old new → CarriedAll b runs e old new
  carried_all new it = record {
    may = may;
    seen = record { part = it.part.seen; whole = it.whole };
    settled = it.settled;
    same = reads_decide_lem b new.seen old.seen (agrees new.seen it.part.seen);
    stops = it.part.stops;
  }

  pub failure : (primary : Choice) (new : Told) (error : CarryError) → FailedCopy (IsIn runs) error → CopiedPart runs e old new
      → Carries primary b runs e (Err error) old new
  failure primary new (NotLike error) is part = absurd is
  failure primary new (Refused at why) is part = absurd is
  failure primary new (Unread at) is part = (is, carried_part new part)
  failure primary new (Device fault) is part = carried_part new part
  failure primary new (Differs at) is part = absurd is
  failure primary new (Table error) is part = absurd is

-- ## Two things that hold of each disk that a stop leaves.

leaves_both : (old new : Told) (P Q : Sectors → Type 0) → LeavesOnly old new P → LeavesOnly old new Q
    → LeavesOnly old new (λ c. P c × Q c)
leaves_both old new P Q a b =
    let same : a.more ≡ b.more = append_cancel_left old.past a.more b.more (sym a.past ∙ b.past) in
    record {
      more = a.more;
      past = a.past;
      inside = λ c left. ⊎_elim
          (λ before. inl before)
          (λ p. ⊎_elim (λ before. inl before) (λ q. inr (p, q)) (b.inside c (subst (λ (l : List Moment). LeftBy l c) same left)))
          (a.inside c left);
      at_end = λ c may. ⊎_elim
          (λ before. inl before)
          (λ p. ⊎_elim (λ before. inl before) (λ q. inr (p, q)) (b.at_end c may))
          (a.at_end c may);
    }

-- ## The commit, from the moment between on.

one_made : (l w : Layout) → (let made : Result Layout Refusal = Ok l in made ≡ Ok w) → l ≡ w
one_made l w is = cc

module _ (primary : Choice) (b : ℕ) (runs : List Extent) (e : Sectors) (old between new : Told)
    (all : CarriedAll b runs e old between) where
  from_old : (o : Option Layout) → Denotes b between.seen o → o ≡ all.may.old
  from_old o is = denotes_one_lem b old.seen o all.may.old ((all.same.denotes o).0 is) all.may.from

  to_new : (w : Layout) → Denotes b e (Some w) → w ≡ all.may.new
  to_new w is = let same : Some w ≡ Some all.may.new = denotes_one_lem b e (Some w) (Some all.may.new) is all.may.to in cc

  between_old : Denotes b between.seen all.may.old
  between_old = (all.same.denotes all.may.old).1 all.may.from

  module _ (n : ℕ) (w : Layout) (is : Denotes b e (Some w)) where
    abbrev HasEither : Sectors → Type 0
    HasEither c = Has (Denotes b) (ChangedBy b n) all.may.old (Either (to_layout w) ∷ []) c

    abbrev IsBounded : Sectors → Type 0
    IsBounded c = Bounded (Denotes b) (IsReason b) FromNothing (ChangedBy b n) (IsPlanBy primary b) (UnplannedBy primary b) (Healthy b)
        (TableOf b) (OwnedOf b) (to_layout w) between.seen c

    means : (c : Sectors) → HasEither c → Denotes b c all.may.old ⊎ Denotes b c (Some all.may.new)
    means c (p, denotes, (m, inl was, is_m)) = inl (subst (λ (o : Option Layout). Denotes b c o) (is_m ∙ was) denotes)
    means c (p, denotes, (m, inr (l, made, to), is_m)) =
        let same : l ≡ w = one_made l w to in
        inr (subst (λ (o : Option Layout). Denotes b c o)
        (is_m ∙ made ∙ ap (λ (x : Layout). Some x) (same ∙ to_new w is)) denotes)

    kept : (c : Sectors) → IsBounded c → Keeps (Denotes b) (Healthy b) (TableOf b) (OwnedOf b) all.may.old (Some all.may.new) between.seen c
    kept c (o, l, leads, keeps) =
        let same : l ≡ w = one_made l w leads.to in
        subst (λ (x : Layout). Keeps (Denotes b) (Healthy b) (TableOf b) (OwnedOf b) all.may.old (Some x) between.seen c)
        (same ∙ to_new w is)
        (subst (λ (x : Option Layout). Keeps (Denotes b) (Healthy b) (TableOf b) (OwnedOf b) x (Some l) between.seen c)
        (from_old o leads.from) keeps)

    after : (c : Sectors) → HasEither c × IsBounded c → IsAfter b runs e old.seen c
    after c (has, bounded) =
        let keeps = kept c bounded in
        record {
          may = all.may;
          has = λ s within.
              (let fit = all.may.fit s within in
              keeps.sectors s (inl (fit.no_table, fit.no_new_table)) ∙ all.seen.whole s within);
          means = means c has;
          between = between.seen;
          carried = all.seen;
          keeps = keeps;
        }

    commit_stops : (result : Result Unit CommitError) → CommitsLayout primary b n w result between new
        → LeavesOnly between new (IsAfter b runs e old.seen)
    commit_stops result commits =
        leaves_weaker between new (λ c. HasEither c × IsBounded c) (IsAfter b runs e old.seen) after
        (leaves_both between new HasEither IsBounded
        (commits.history.any_moment all.may.old []
        (begins_lem (Denotes b) (ChangedBy b n) between between.seen all.may.old all.settled between_old))
        commits.bounds)

  becomes_stops : (result : Result Unit LikeError) → BecomesLike primary b e result between new
      → LeavesOnly between new (IsAfter b runs e old.seen)
  becomes_stops (Ok x) (w, is, commits) = commit_stops (length e) w is (Ok x) commits
  becomes_stops (Err (like.Disk error)) (w, is, commits) = commit_stops (length e) w is (Err error) commits
  becomes_stops (Err like.OtherSize) (why, same) =
      subst (λ (t : Told). LeavesOnly between t (IsAfter b runs e old.seen)) (sym same) (leaves_none between _)
  becomes_stops (Err (like.Other reason)) (why, same) =
      subst (λ (t : Told). LeavesOnly between t (IsAfter b runs e old.seen)) (sym same) (leaves_none between _)

  pub becomes_after : (result : Result Unit LikeError) → BecomesLike primary b e result between new
      → BecomesAfter primary b runs e result old new
  becomes_after result becomes = record { between = between; carried = all; becomes = becomes }

  pub stops_after : (result : Result Unit LikeError) → BecomesLike primary b e result between new
      → LeavesOnly old new (IsEither b runs e old.seen)
  stops_after result becomes =
      leaves_through old between new (IsEither b runs e old.seen)
      (stops_before b runs e old all.may between all.stops)
      (leaves_weaker between new (IsAfter b runs e old.seen) (IsEither b runs e old.seen) (λ c it. inr it) (becomes_stops result becomes))

  has_after : (c : Sectors) → MayLeave between c ⊎ IsAfter b runs e old.seen c → HasData runs e c
  has_after c (inl may) =
      subst (λ (d : Sectors). HasData runs e d) (sym (settled_leaves between between.seen all.settled c may)) all.seen.whole
  has_after c (inr it) = it.has

  pub is_done : MayLeave new new.seen → BecomesLike primary b e (Ok tt) between new → IsDone b runs e new
  is_done seen (w, is, commits) =
      let stops = commit_stops (length e) w is (Ok tt) commits in
      let ends = commits.ends in
      let same : ends.2.1 ≡ w = one_made ends.2.1 w ends.2.2.to in
      record {
        settled = ends.0;
        layout = w;
        of_other = is;
        denotes = subst (λ (x : Layout). Denotes b new.seen (Some x)) same ends.2.3;
        healthy = ends.1;
        has = has_after new.seen (stops.at_end new.seen seen);
      }

-- an error of a copy isn't that of another size
pub not_of_size : (e : CarryError) (m n : ℕ) → IsOfCopy e → m ≡ n
    → (let result : Result Unit CarryError = Err e in result ≡ Err (NotLike like.OtherSize)) ↔ ¬ (m ≡ n)
not_of_size (NotLike error) m n is same = absurd is
not_of_size (Refused at why) m n is same = absurd is
not_of_size (Unread at) m n is same = (λ other. absurd cc, λ no. absurd (no same))
not_of_size (Device fault) m n is same = (λ other. absurd cc, λ no. absurd (no same))
not_of_size (Differs at) m n is same = (λ other. absurd cc, λ no. absurd (no same))
not_of_size (Table error) m n is same = absurd is

-- ## A whole call. The disk told old and then was, the other one e, x and y, and both were only read between.

module _ (b n : ℕ) (runs : List Extent) (x e was old : Told) (known : Known) (is : IsKnown b e.seen old.seen known)
    (sized : n ≡ length old.seen) (fit : (s : ℕ) → IsIn runs s → MayBe b n known s) (same_e : x ≡ e) (same_old : was ≡ old) where
  may : MayCarry b runs e.seen old.seen
  may = may_carry b n runs e.seen old.seen known is sized fit

  part_of : (new : Told) → CopiedPart runs x.seen was new → CopiedPart runs e.seen old new
  part_of new part = part_same runs x e was old new same_e same_old part

  pub failed_carries : (primary : Choice) (new : Told) (error : CarryError) → FailedCopy (IsIn runs) error
      → CopiedPart runs x.seen was new → Carries primary b runs e.seen (Err error) old new
  failed_carries primary new error cause part = failure b runs e.seen old may primary new error cause (part_of new part)

  pub failed_stops : (new : Told) → CopiedPart runs x.seen was new → LeavesOnly old new (IsEither b runs e.seen old.seen)
  failed_stops new part = let it = part_of new part in stops_before b runs e.seen old may new it.stops

  module _ (primary : Choice) (y between new : Told) (copied : CopiedAll runs x.seen was between) (same_y : y ≡ x) where
    all : CarriedAll b runs e.seen old between
    all = carried_all b runs e.seen old may between (all_same runs x e was old between same_e same_old copied)

    becomes_of : (result : Result Unit LikeError) → BecomesLike primary b y.seen result between new
        → BecomesLike primary b e.seen result between new
    becomes_of result becomes =
        subst (λ (t : Told). BecomesLike primary b t.seen result between new) (same_y ∙ same_e) becomes

    pub commit_carries : (result : Result Unit LikeError) → BecomesLike primary b y.seen result between new
        → BecomesAfter primary b runs e.seen result old new
    commit_carries result becomes = becomes_after primary b runs e.seen old between new all result (becomes_of result becomes)

    pub commit_leaves : (result : Result Unit LikeError) → BecomesLike primary b y.seen result between new
        → LeavesOnly old new (IsEither b runs e.seen old.seen)
    commit_leaves result becomes = stops_after primary b runs e.seen old between new all result (becomes_of result becomes)

    pub commit_done : MayLeave new new.seen → BecomesLike primary b y.seen (Ok tt) between new → IsDone b runs e.seen new
    commit_done seen becomes = is_done primary b runs e.seen old between new all seen (becomes_of (Ok tt) becomes)

-- Lemmas on specs/Cases.antt: causes for which there is no plan, as far as they need no writes: each excludes every plan.
use Rattle.std.proofs.Common.{◌≡◌, ◌∙◌, ℕ, List, [], ◌∷◌, ◌++◌, length, refl, sym, ap, subst, Option, Some, None}
use Rattle.std.specs.Prelude.{Contains}
use Rattle.pt_sector.specs.Sectors.{Sectors, sector, Span, Writes}
use Rattle.pt_sector.specs.declared.address.Lba.{Lba}
use Rattle.pt_bsd.specs.Labels.{LabelBytes}
use Rattle.pt_bsd.proofs.Terms.{label_one}
use Rattle.pt_bsd.specs.declared.label.Label.{Label}
use Rattle.pt_mbr.specs.Chain.{Walk, lba}
use Rattle.pt_mbr.specs.declared.record.Record.{Record}
use Rattle.pt_mbr.specs.declared.ebr.Ebr.{Ebr}
use Rattle.pt_recover.specs.Denotes.{Denotes, BodyIs, HasChain, LabelsAre}
use Rattle.pt_recover.proofs.Terms.{denotes_one_lem}
use Rattle.pt_mbr.specs.Records.{extended_of, extent_of}
use Rattle.pt_members.specs.Members.{places_of, place_of}
use Rattle.pt_members.specs.declared.layout.Body.{Body}
use Rattle.pt_members.specs.declared.layout.Body.TheVariants.{Mbr, Gpt}
use Rattle.pt_members.specs.declared.layout.Layout.{Layout}
use Rattle.pt_members.specs.declared.layout.Slice.{Slice}
use Rattle.pt_layout.specs.Healthy.{IsBodyBroken, IsBodyWhole}
use Rattle.pt_layout.proofs.Terms.{unsound_excludes_lem, body_not_whole}
use Rattle.pt_layout.specs.Sound.{Sound, IsUnsound}
use Rattle.pt_layout.specs.declared.sound.finding.Finding.{Finding}
use Rattle.pt_cases.specs.Cases.{IsPlan, idle, backup_first, primary_first, from_mbr, one_label, within_mbr, ChangesLabels, MayHave}
use Rattle.pt_cases.specs.Cases.{MayBePlanned, IsLeft}
use Rattle.pt_cases.specs.Writes.{one_write, LinkedOn, IsLoneChain, Met, LabelsMet, Had, IsLabelSet, stood, set, there, Set, WritesLabels}
use Rattle.pt_cases.proofs.MetLemmas.{labels_set_met}
use Rattle.pt_cases.proofs.Ascending.{places_ascend_lem}
use Rattle.pt_cases.proofs.Along.{along_label, along_without}
use Rattle.pt_members.specs.Tables.{HasFour}
use Rattle.pt_cases.proofs.Denoted.{table_fits}
use Rattle.pt_cases.specs.Keeps.{StandsOn}
use Rattle.pt_cases.proofs.StandsOn.{along_labels_are}

walk_linked : (d : Sectors) (x : Span) (from : Option Lba) (list : List Ebr) → Walk d x from list None → LinkedOn x (length d) from list
walk_linked d x None [] walk = tt
walk_linked d x (Some at) [] walk = absurd cc
walk_linked d x None (e ∷ es) walk = absurd walk
walk_linked d x (Some at) (e ∷ es) walk = (walk.0.bytes.place, walk.0.inside, walk.1, walk_linked d x e.next es walk.2)

chain_linked : (d : Sectors) (rs : List Record) (list : List Ebr) → HasChain d rs list → IsLoneChain (length d) rs list
chain_linked d [] list is = is
chain_linked d (r ∷ []) list is = (is.few, walk_linked d (extent_of r) (Some (lba (extent_of r).first)) list is.whole)
chain_linked d (r ∷ s ∷ rs) list is = absurd is

-- what a disk denotes it may have
pub there_may : (b : ℕ) (d : Sectors) (p : Layout) (y : Body) → p.body ≡ y → BodyIs b d y → MayHave b d (Some p) y
there_may b d p (Gpt t) same is = table_fits b d t is.2
there_may b d p (Mbr records chain) same is =
    (record { old = p; records = records; chain = chain; is_old = refl; body = same }, chain_linked d (extended_of records) chain is.1)

-- who has a plan may be of its disk
pub plan_may_be : (b : ℕ) (d : Sectors) (o : Option Layout) (p : Layout) (phases : List Writes) → Denotes b d o → IsPlan b d p phases
    → MayBePlanned b d o p
plan_may_be b d o p phases from (idle healthy none) =
    let same : Some p ≡ o = denotes_one_lem b d (Some p) o healthy.denotes from in
    record {
      sectors = healthy.denotes.0;
      body = subst (λ (x : Option Layout). MayHave b d x p.body) same (there_may b d p p.body refl healthy.denotes.1);
    }
plan_may_be b d o p phases from (backup_first q t is) =
    record { sectors = is.common.sectors; body = subst (MayHave b d o) (sym is.copies.body) is.copies.fits }
plan_may_be b d o p phases from (primary_first q t is) =
    record { sectors = is.common.sectors; body = subst (MayHave b d o) (sym is.copies.body) is.copies.fits }
plan_may_be b d o p phases from (from_mbr q t is) =
    record { sectors = is.common.sectors; body = subst (MayHave b d o) (sym is.copies.body) is.copies.fits }
plan_may_be b d o p phases from (one_label q t is) =
    let there : BodyIs b d (Gpt t) = subst (BodyIs b d) (is.same ∙ is.body) (subst (Denotes b d) is.is_old is.common.from).1 in
    record { sectors = is.common.sectors; body = subst (MayHave b d o) (sym is.body) (table_fits b d t there.2) }
plan_may_be b d o p phases from (within_mbr q records chain is) =
    let same : q ≡ o = denotes_one_lem b d q o is.common.from from in
    record {
      sectors = is.common.sectors;
      body = subst (MayHave b d o) (sym is.body) (
        record { old = is.old; records = is.old_records; chain = is.old_chain; is_old = sym same ∙ is.is_old; body = is.old_body },
        is.linked,
      );
    }

pub plan_is_sound : (b : ℕ) (d : Sectors) (p : Layout) (phases : List Writes) → IsPlan b d p phases → Sound b p
plan_is_sound b d p phases (idle healthy none) = healthy.sound
plan_is_sound b d p phases (backup_first q t is) = is.common.sound
plan_is_sound b d p phases (primary_first q t is) = is.common.sound
plan_is_sound b d p phases (from_mbr q t is) = is.common.sound
plan_is_sound b d p phases (one_label q t is) = is.common.sound
plan_is_sound b d p phases (within_mbr q records chain is) = is.common.sound

pub plan_not_unsound : (b : ℕ) (d : Sectors) (p : Layout) (phases : List Writes) (f : Finding) → IsPlan b d p phases → ¬ IsUnsound b p f
plan_not_unsound b d p phases f is unsound = unsound_excludes_lem b p f unsound (plan_is_sound b d p phases is)

met_none_left : (b : ℕ) (d : Sectors) (o : Option Layout) (p : Layout) (ws : Writes) (w : Slice) → LabelsMet b d o p ws → ¬ IsLeft b d p w
met_none_left b d o p ws w met left =
    (along_without (Met b d o ws) (places_of b p.sectors p.body) p.labels w met left.stands left.without).0 left.magic

-- no plan leaves what looks like a label
pub plan_none_left : (b : ℕ) (d : Sectors) (p : Layout) (phases : List Writes) (w : Slice) → IsPlan b d p phases → ¬ IsLeft b d p w
plan_none_left b d p phases w (idle healthy none) left =
    let are : LabelsAre d (places_of b p.sectors p.body) p.labels =
    subst (λ (n : ℕ). LabelsAre d (places_of b n p.body) p.labels) (sym healthy.denotes.0) healthy.denotes.2 in
    let without =
    along_without (StandsOn d) (places_of b p.sectors p.body) p.labels w
    (along_labels_are d (places_of b p.sectors p.body) p.labels are) left.stands left.without in
    healthy.no_foreign w.number (record { slice = w; stands = left.stands; number = refl; foreign = (left.magic, without) })
plan_none_left b d p phases w (backup_first q t is) left =
    met_none_left b d q p is.copies.labels w (labels_set_met b d q p is.copies.labels is.copies.writes) left
plan_none_left b d p phases w (primary_first q t is) left =
    met_none_left b d q p is.copies.labels w (labels_set_met b d q p is.copies.labels is.copies.writes) left
plan_none_left b d p phases w (from_mbr q t is) left =
    met_none_left b d q p is.copies.labels w (labels_set_met b d q p is.copies.labels is.copies.writes) left
plan_none_left b d p phases w (one_label q t is) left = met_none_left b d q p (one_write is.loud.0 is.loud.1) w is.met left
plan_none_left b d p phases w (within_mbr q records chain is) left =
    met_none_left b d q p (is.quiet ++ one_write is.loud.0 is.loud.1) w is.met.labels left

changes_same : (b : ℕ) (d : Sectors) (q o : Option Layout) (p : Layout) → Denotes b d q → Denotes b d o → ChangesLabels o p
    → ChangesLabels q p
changes_same b d q o p first second = subst (λ (x : Option Layout). ChangesLabels x p) (denotes_one_lem b d o q second first)

-- a change of labels alone has a plan on a whole GPT alone
pub plan_of_whole : (b : ℕ) (d : Sectors) (o : Option Layout) (p : Layout) (phases : List Writes) (f : Finding) → Denotes b d o
    → (changes : ChangesLabels o p) → IsBodyBroken b d changes.old.body f → ¬ IsPlan b d p phases
plan_of_whole b d o p phases f from changes broken (idle healthy none) =
    let same : Some changes.old ≡ Some p = sym changes.is_old ∙ denotes_one_lem b d o (Some p) from healthy.denotes in
    let layouts : changes.old ≡ p = cc in
    changes.differ (ap (λ (l : Layout). l.labels) layouts)
plan_of_whole b d o p phases f from changes broken (backup_first q t is) = is.other (changes_same b d q o p is.common.from from changes)
plan_of_whole b d o p phases f from changes broken (primary_first q t is) = is.other (changes_same b d q o p is.common.from from changes)
plan_of_whole b d o p phases f from changes broken (from_mbr q t is) =
    let there : BodyIs b d (Gpt t) = subst (BodyIs b d) (changes.same ∙ is.copies.body) (subst (Denotes b d) changes.is_old from).1 in
    there.0 is.mbr
plan_of_whole b d o p phases f from changes broken (one_label q t is) =
    let denotes : Denotes b d (Some changes.old) = subst (Denotes b d) changes.is_old from in
    let whole : IsBodyWhole b d changes.old.body = subst (IsBodyWhole b d) (is.same ∙ sym changes.same) is.whole in
    body_not_whole b d changes.old f denotes broken whole
plan_of_whole b d o p phases f from changes broken (within_mbr q records chain is) =
    absurd (subst (λ (y : Body). IsBodyBroken b d y f) (changes.same ∙ is.body) broken)

-- one label at most was in a sector
pub had_one : (b : ℕ) (d : Sectors) (o : Option Layout) (s : ℕ) (l m : Label) → Had b d o s l → Had b d o s m → l ≡ m
had_one b d o s l m (x, x_is, at) (y, y_is, other) =
    let bytes : LabelBytes m other.slice.first other.slice.len (sector d (place_of at.slice)) =
    subst (λ (k : ℕ). LabelBytes m other.slice.first other.slice.len (sector d k)) (other.place ∙ sym at.place) other.label in
    label_one l m at.slice.first at.slice.len other.slice.first other.slice.len (sector d (place_of at.slice)) at.label bytes

-- where copies are written, no label changes beside them
pub set_none_changed : (b : ℕ) (d : Sectors) (o : Option Layout) (p : Layout) (ws : Writes) (w : Slice) (l m : Label) → HasFour p.body
    → WritesLabels b d o p ws → Contains (places_of b p.sectors p.body) w
    → Contains p.labels (record { number = w.number; label = l }) → Had b d o (place_of w) m → m ≡ l
set_none_changed b d o p ws w l m four is stands wanted had =
    by_kind (along_label (Set b d o ws) 1 (places_of b p.sectors p.body) p.labels w l
    (places_ascend_lem b p.sectors p.body four) is.set stands wanted)
  where
    by_kind : IsLabelSet b d o ws w l → m ≡ l
    by_kind (stood has reads never) = had_one b d o (place_of w) m l had has
    by_kind (set v none encoded unread puts) = absurd (none m had)
    by_kind (there none encoded read never) = absurd (none m had)

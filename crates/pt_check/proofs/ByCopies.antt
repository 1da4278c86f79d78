-- Copies that are followed, and what a disk denotes by them.
use Rattle.std.proofs.Common.{◌≡◌, ◌∙◌, inl, inr, ⊎_elim, ℕ, ◌+◌, ◌<◌, get_or, take, List, [], ◌∷◌, length, refl, sym, subst, Option, Some}
use Rattle.std.proofs.Common.{None, arith}
use Rattle.pt_apply.specs.Plans.{writes_of}
use Rattle.pt_apply.specs.declared.plan.Write.{Write}
use Rattle.std.proofs.Common.{length-set, get_or-set_other, ap}
use Rattle.std.specs.Prelude.{slice_set, ◌↔◌, ◌⊎◌, IfSome, All}
use Rattle.pt_sector.specs.Sectors.{Sectors, Writes, sector, written}
use Rattle.pt_bsd.specs.Labels.{LabelBytes}
use Rattle.pt_gpt.specs.Copies.{Copy, HasCopy, SideReads, header_place, HasRoom}
use Rattle.pt_gpt.specs.declared.table.Side.TheVariants.{Primary, Backup}
use Rattle.pt_gpt.specs.declared.table.Table.{Table}
use Rattle.pt_recover.specs.Denotes.{TableIs, TableReads, IsMbrDisk, IsMbrSector, BodyIs, LabelsAre, Denotes, Reads}
use Rattle.pt_recover.specs.Denotes.{head, chain, table, body, label}
use Rattle.pt_recover.proofs.One.{body_one}
use Rattle.pt_members.specs.Members.{places_of, place_of, IsPlace}
use Rattle.pt_members.specs.Tables.{IsGptTable}
use Rattle.pt_members.specs.declared.layout.Body.{Body}
use Rattle.pt_members.specs.declared.layout.Body.TheVariants.{Gpt}
use Rattle.pt_members.specs.declared.layout.Labelled.{Labelled}
use Rattle.pt_members.specs.declared.layout.Layout.{Layout}
use Rattle.pt_members.specs.declared.layout.Slice.{Slice}
use Rattle.pt_members.proofs.LabelPlaces.{place_more}
use Rattle.pt_gpt.specs.Copies.{FailedInCopy, failure_in}
use Rattle.pt_gpt.specs.declared.error.CopyError.{CopyError}
use Rattle.pt_gpt.specs.declared.error.CopyError.TheVariants.{Signature, Revision, HeaderSize, HeaderCrc, MyLba, ArrayPlace, EntryShape}
use Rattle.pt_gpt.specs.declared.error.CopyError.TheVariants.{UsableRange, ArrayCrc, Device, Memory}
use Rattle.pt_sector.specs.declared.address.Lba.{Lba}
use Rattle.pt_sector.specs.declared.reading.Failure.{Failure}
use Rattle.pt_sector.specs.declared.reading.Failure.TheVariants as failure
use Rattle.pt_check.specs.Answers.{FailedInCheck, told_failure}
use Rattle.pt_follow.specs.Follow.{InCopy, StandingIs}
use Rattle.pt_follow.specs.declared.standing.Standing.TheVariants.{Gives, LostHead, LostArray}
use Rattle.pt_recover.specs.declared.trace.TracedRun.{TracedRun}
use Rattle.pt_check.specs.declared.given.Given.{Given}
use Rattle.pt_check.specs.declared.given.Given.TheVariants.{ByPrimary, WithoutHeader, WithoutArray}
use Rattle.pt_check.specs.inner.Following.{DecidedBy, IsGiven, IsDeciding, IsDecided, IsLostSide, IsFollowed, AreFollowed}
use Rattle.pt_check.specs.inner.Following.{AreCopies, AreApart, StillIs, IsStepped, StepFollowed}
use Rattle.pt_check.specs.Answers.{disk_after, phase_at}
use Rattle.pt_check.proofs.Firsts.{seen_on}
use Rattle.pt_check.specs.declared.trial.Step.{Step}
use Rattle.pt_check.specs.declared.trial.Step.TheVariants.{Goes}
use Rattle.pt_check.specs.inner.Answers.{current_of}
use Rattle.pt_check.specs.declared.trial.Stepped.{Stepped}
use Rattle.pt_check.specs.declared.following.Followed.{Followed}
use Rattle.pt_check.specs.declared.given.GivenTrace.{GivenTrace}

-- ## By which copies a table is given.

pub given_primary : (b : ℕ) (d : Sectors) (t : Table) → StandingIs b d Primary t Gives → IsGiven b d t ByPrimary
given_primary b d t (copy, reads) = record {
  table = inl copy;
  reads = λ s. (
    λ is. ⊎_elim (λ here. (reads s).0 here) (λ lost. absurd (lost.0 (t, copy))) is,
    λ is. inl ((reads s).1 is),
  );
}

-- by the backup, where these sectors decide the primary side, which has no copy
module _ (b : ℕ) (d : Sectors) (t : Table) (S : ℕ → Type 0) (lost : (u : Table) → ¬ Copy b d Primary u)
    (primary : (s : ℕ) → SideReads b d Primary s ↔ S s) (gives : StandingIs b d Backup t Gives) where
  none : ¬ HasCopy b d Primary
  none has = lost has.0 has.1

  by_backup : TableIs b d t
  by_backup = inr (none, gives.0)

  both_read : (s : ℕ) → TableReads b d s ↔ (S s ⊎ InCopy b (length d) Backup (length t.entries) s)
  both_read s = (
    λ is. ⊎_elim (λ here. inl ((primary s).0 here)) (λ there. inr ((gives.1 s).0 there.1)) is,
    λ is. ⊎_elim (λ here. inl ((primary s).1 here)) (λ there. inr (none, (gives.1 s).1 there)) is,
  )

pub given_without_header : (b : ℕ) (d : Sectors) (t : Table) → StandingIs b d Primary t LostHead → StandingIs b d Backup t Gives
    → IsGiven b d t WithoutHeader
given_without_header b d t (lost, reads) gives = record {
  table = by_backup b d t (λ s. s ≡ header_place Primary (length d)) lost reads gives;
  reads = both_read b d t (λ s. s ≡ header_place Primary (length d)) lost reads gives;
}

pub given_without_array : (b : ℕ) (d : Sectors) (t : Table) (told : ℕ) → StandingIs b d Primary t (LostArray told)
    → StandingIs b d Backup t Gives → IsGiven b d t (WithoutArray told)
given_without_array b d t told (lost, reads) gives = record {
  table = by_backup b d t (InCopy b (length d) Primary told) lost reads gives;
  reads = both_read b d t (InCopy b (length d) Primary told) lost reads gives;
}

-- ## What a disk denotes with such a table.

labels_there : (c d : Sectors) (ps : List Slice) (labels : List Labelled) → ((s : ℕ) → IsPlace ps s → sector c s ≡ sector d s)
    → LabelsAre d ps labels → LabelsAre c ps labels
labels_there c d [] labels same are = are
labels_there c d (p ∷ ps) labels same (inl here) =
    inl (
      here.0,
      here.1,
      here.2,
      subst (LabelBytes here.0 p.first p.len) (sym (same (place_of p) (inl refl))) here.3,
      labels_there c d ps here.1 (λ s at. same s (inr at)) here.4,
    )
labels_there c d (p ∷ ps) labels same (inr without) =
    inr (
      λ has. without.0 (has.0, subst (LabelBytes has.0 p.first p.len) (same (place_of p) (inl refl)) has.1),
      labels_there c d ps labels (λ s at. same s (inr at)) without.1,
    )

-- c is d but for sectors of its table, which is the same by other copies
module _ (b : ℕ) (c d : Sectors) (l : Layout) (t : Table) (g : Given) (count : length c ≡ length d) (zeroth : sector c 0 ≡ sector d 0)
    (places : (s : ℕ) → IsPlace (places_of b (length d) l.body) s → sector c s ≡ sector d s) (is_gpt : l.body ≡ Gpt t)
    (denotes : Denotes b d (Some l)) (given : IsGiven b c t g) where
  body_there : BodyIs b d (Gpt t)
  body_there = subst (BodyIs b d) is_gpt denotes.1

  no_mbr : ¬ IsMbrDisk c
  no_mbr (some, is) = body_there.0 (subst (λ (n : ℕ). 0 < n) count some, subst IsMbrSector zeroth is)

  room_here : HasRoom b (length c)
  room_here = subst (HasRoom b) (sym count) body_there.1

  body_here : BodyIs b c l.body
  body_here = subst (BodyIs b c) (sym is_gpt) (no_mbr, room_here, given.table)

  pub denotes_given : Denotes b c (Some l)
  denotes_given = (
    denotes.0 ∙ sym count,
    body_here,
    subst (λ (n : ℕ). LabelsAre c (places_of b n l.body) l.labels) (sym count)
        (labels_there c d (places_of b (length d) l.body) l.labels places denotes.2),
  )

  decided : (s : ℕ) → Reads b c s → DecidedBy b (length c) l.body (length t.entries) g s
  decided s (body (head some at)) = inl at
  decided s (body (chain m mbr reads)) = absurd (no_mbr mbr.0)
  decided s (body (table _ room reads)) = inr (inl ((given.reads s).0 reads))
  decided s (label y is at) =
      inr (inr (subst (λ (z : Body). IsPlace (places_of b (length c) z) s) (body_one b c y l.body is body_here) at))

  read_there : (s : ℕ) → DecidedBy b (length c) l.body (length t.entries) g s → Reads b c s
  read_there s (inl at) = body (head (omega (arith, room_here)) at)
  read_there s (inr (inl reads)) = body (table no_mbr room_here ((given.reads s).1 reads))
  read_there s (inr (inr at)) = label l.body body_here at

  pub reads_given : (s : ℕ) → Reads b c s ↔ DecidedBy b (length c) l.body (length t.entries) g s
  reads_given s = (decided s, read_there s)

-- ## Failures.

pub copy_told : (S : ℕ → Type 0) (e : CopyError) (f : Failure) → failure_in e ≡ Some f → FailedInCopy S e → FailedInCheck S (told_failure f)
copy_told S (Device at) (failure.Device on) same is = subst (λ (x : Lba). S x.0) (device_same at on same) is
  where
    device_same : (x y : Lba) → Some (failure.Device x) ≡ Some (failure.Device y) → x ≡ y
    device_same x y it = cc
copy_told S (Device at) failure.Memory same is = tt
copy_told S Memory (failure.Device on) same is = absurd cc
copy_told S Memory failure.Memory same is = tt
copy_told S Signature f same is = absurd cc
copy_told S Revision f same is = absurd cc
copy_told S HeaderSize f same is = absurd cc
copy_told S HeaderCrc f same is = absurd cc
copy_told S MyLba f same is = absurd cc
copy_told S ArrayPlace f same is = absurd cc
copy_told S EntryShape f same is = absurd cc
copy_told S UsableRange f same is = absurd cc
copy_told S ArrayCrc f same is = absurd cc

-- ## Label places apart from tables.

pub clear_more : (P : ℕ → Type 0) (ps : List Slice) (k : ℕ) (z : Slice) → k < length ps → ((s : ℕ) → P s → ¬ IsPlace (take k ps) s)
    → ¬ P (place_of (get_or ps k z)) → (s : ℕ) → P s → ¬ IsPlace (take (k + 1) ps) s
clear_more P ps k z lt before not s is at =
    ⊎_elim (λ was. before s is was) (λ here. not (subst P here is)) (place_more ps k s z lt at)

-- ## Where there may be none.

pub of_some : {X : Type 0} (P : X → Type 0) (o : Option X) (x : X) → o ≡ Some x → IfSome o P → P x
of_some P o x same is = subst (λ (z : Option _). IfSome z P) same is

pub of_none : {X : Type 0} (P : X → Type 0) (o : Option X) → o ≡ None → IfSome o P
of_none P o same = subst (λ (z : Option _). IfSome z P) (sym same) tt

-- ## Sectors that decide a disk, told of the same numbers.

pub deciding_as : (b n m : ℕ) (y : Body) (c k : ℕ) (ks : List GivenTrace) → n ≡ m → c ≡ k
    → All (λ (x : GivenTrace). IsDeciding b n y c x.given x.trace) ks → All (λ (x : GivenTrace). IsDeciding b m y k x.given x.trace) ks
deciding_as b n m y c k ks same count all =
    subst (λ (z : ℕ). All (λ (x : GivenTrace). IsDeciding b z y k x.given x.trace) ks) same
    (subst (λ (z : ℕ). All (λ (x : GivenTrace). IsDeciding b n y z x.given x.trace) ks) count all)

pub runs_as : (b n m : ℕ) (y : Body) (c k : ℕ) (g : Given) (runs : List TracedRun) → n ≡ m → c ≡ k → IsDeciding b n y c g runs
    → IsDeciding b m y k g runs
runs_as b n m y c k g runs same count is =
    subst (λ (z : ℕ). IsDeciding b z y k g runs) same (subst (λ (z : ℕ). IsDeciding b n y z g runs) count is)

pub some_as : {X : Type 0} (P Q : X → Type 0) (o : Option X) → ((x : X) → P x → Q x) → IfSome o P → IfSome o Q
some_as P Q None f is = tt
some_as P Q (Some x) f is = f x is

-- ## What is read.

module _ (b : ℕ) (d : Sectors) (l : Layout) (t : Table) (is_gpt : l.body ≡ Gpt t) (denotes : Denotes b d (Some l)) where
  gpt_here : BodyIs b d (Gpt t)
  gpt_here = subst (BodyIs b d) is_gpt denotes.1

  pub primary_read : (s : ℕ) → SideReads b d Primary s → Reads b d s
  primary_read s read = body (table gpt_here.0 gpt_here.1 (inl read))

  pub lost_read : (s : ℕ) → IsLostSide b d s → Reads b d s
  lost_read s lost = body (table gpt_here.0 gpt_here.1 (inr ((λ has. lost.0 has.0 has.1), lost.1)))

-- ## The copies that are followed beside what is denoted.

some_layout : (x y : Layout) → Some x ≡ Some y → x ≡ y
some_layout x y it = cc

gpt_table : (x y : Table) → Gpt x ≡ Gpt y → x ≡ y
gpt_table x y it = cc

pub followed_of : (b : ℕ) (d : Sectors) (o : Option Layout) (f : Option Followed) (l : Layout) (t : Table) (c : Followed) → o ≡ Some l
    → l.body ≡ Gpt t → f ≡ Some c → AreFollowed b d o f → IsFollowed b d l t c
followed_of b d o f l t c same is_gpt some are =
    let (m, u, of, is) = subst (AreFollowed b d o) some are in
    let layout : m ≡ l = some_layout m l (sym of ∙ same) in
    let here : IsFollowed b d l u c = subst (λ (z : Layout). IsFollowed b d z u c) layout is in
    subst (λ (z : Table). IsFollowed b d l z c) (gpt_table u t (sym here.is_gpt ∙ is_gpt)) here

pub followed_on : (b : ℕ) (d e : Sectors) (l : Layout) (t : Table) (f h : Followed) → length e ≡ length d → IsFollowed b d l t f
    → AreCopies b e t h → h.deciding ≡ f.deciding → IsFollowed b e l t h
followed_on b d e l t f h count is copies same = record {
  sectors = is.sectors ∙ sym count;
  is_gpt = is.is_gpt;
  apart = subst (λ (n : ℕ). AreApart b n l.body) (sym count) is.apart;
  copies = copies;
  deciding = subst
      (λ (n : ℕ). All (λ (k : GivenTrace). IsDeciding b n l.body (length t.entries) k.given k.trace) h.deciding.items) (sym count)
      (subst (λ (ks : List GivenTrace). All (λ (k : GivenTrace). IsDeciding b (length d) l.body (length t.entries) k.given k.trace) ks)
      (sym (ap (λ v. v.items) same)) is.deciding);
}

-- ## A phase of one write.

pub one_write : {b : ℕ} (phase : List (Write b)) (w z : Write b) (d : Sectors) → length phase ≡ 1 → w ≡ get_or phase 0 z
    → written (writes_of phase) d ≡ slice_set d w.lba.0 w.bytes
one_write [] w z d one is = absurd (omega (arith, one))
one_write (x ∷ []) w z d one is = ap (λ (y : Write _). slice_set d y.lba.0 y.bytes) (sym is)
one_write (x ∷ y ∷ ws) w z d one is = absurd (omega (arith, one))

-- a write in the sectors of a GPT's tables, but for sector 0, that leaves the table as some of its copies give it
pub still : (b : ℕ) (d : Sectors) (l : Layout) (t : Table) (k : ℕ) (v : List ℕ) → Denotes b d (Some l) → l.body ≡ Gpt t → ¬ (k ≡ 0)
    → IsGptTable b (length d) k → AreApart b (length d) l.body → (runs : List TracedRun) → IsDecided b (slice_set d k v) l t runs
    → StillIs b (slice_set d k v) (Some l) runs
still b d l t k v denotes is_gpt some at_end apart runs (g, given, deciding) =
    let count : length (slice_set d k v) ≡ length d = length-set d k v in
    let zeroth : sector (slice_set d k v) 0 ≡ sector d 0 = get_or-set_other d k 0 v [] (λ same. some (sym same)) in
    let places = λ (s : ℕ) (at : IsPlace (places_of b (length d) l.body) s).
    get_or-set_other d k s v [] (λ same. apart k at_end (subst (IsPlace (places_of b (length d) l.body)) same at)) in
    record {
      denotes = denotes_given b (slice_set d k v) d l t g count zeroth places is_gpt denotes given;
      reads = λ s.
          let read = reads_given b (slice_set d k v) d l t g count zeroth places is_gpt denotes given s in
          (λ is. read.1 ((deciding s).0 is), λ is. (deciding s).1 (read.0 is));
    }

-- ## A recovery after a phase.

pub stepped_at : (b : ℕ) (d e : Sectors) (old new : Option Layout) (switch : Option ℕ) (number : ℕ) (r : Stepped) → d ≡ e
    → IsStepped b d old new switch number r → IsStepped b e old new switch number r
stepped_at b d e old new switch number r same is = subst (λ (x : Sectors). IsStepped b x old new switch number r) same is

-- the copies are followed beside the layout that a step goes on with
pub goes_followed : (b : ℕ) (d e : Sectors) (old new : Option Layout) (step : Step) (switch : Option ℕ) (f : Option Followed)
    → step ≡ Goes switch → d ≡ e → StepFollowed b d old new step f → AreFollowed b e (current_of old new switch) f
goes_followed b d e old new step switch f goes same is =
    subst (λ (x : Sectors). AreFollowed b x (current_of old new switch) f) same
    (subst (λ (s : Step). StepFollowed b d old new s f) goes is)

-- ## The disk that a phase leaves.

module _ (b : ℕ) (phases : List Writes) (d : Sectors) (i : ℕ) (below : i < length phases) (ws : Writes) (at : ws ≡ phase_at phases i)
    (o p : Option Layout) (same : p ≡ o) where
  after_it : written ws (disk_after phases d i) ≡ disk_after phases d (i + 1)
  after_it = seen_on phases d i ws (disk_after phases d i) (written ws (disk_after phases d i)) below at refl refl

  pub followed_before : (f : Option Followed) → AreFollowed b (disk_after phases d i) o f → AreFollowed b (disk_after phases d i) p f
  followed_before f is = subst (λ (q : Option Layout). AreFollowed b (disk_after phases d i) q f) (sym same) is

  -- its copies were followed on
  pub followed_next : (f h : Option Followed) → AreFollowed b (disk_after phases d i) o f
      → ((x : Sectors) → AreFollowed b x p f → AreFollowed b (written ws x) p h) → AreFollowed b (disk_after phases d (i + 1)) o h
  followed_next f h is on =
      subst (λ (x : Sectors). AreFollowed b x o h) after_it
      (subst (λ (q : Option Layout). AreFollowed b (written ws (disk_after phases d i)) q h) same
      (on (disk_after phases d i) (followed_before f is)))

  pub followed_there : (f : Option Followed) → AreFollowed b (disk_after phases d (i + 1)) o f
      → AreFollowed b (written ws (disk_after phases d i)) p f
  followed_there f is =
      subst (λ (q : Option Layout). AreFollowed b (written ws (disk_after phases d i)) q f) (sym same)
      (subst (λ (x : Sectors). AreFollowed b x o f) (sym after_it) is)

  pub denoted_before : Denotes b (disk_after phases d i) o → Denotes b (disk_after phases d i) p
  denoted_before is = subst (λ (q : Option Layout). Denotes b (disk_after phases d i) q) (sym same) is

  -- it denotes what it did, by these sectors
  pub still_there : (runs : List TracedRun) → StillIs b (written ws (disk_after phases d i)) p runs
      → StillIs b (disk_after phases d (i + 1)) o runs
  still_there runs is =
      subst (λ (x : Sectors). StillIs b x o runs) after_it
      (subst (λ (q : Option Layout). StillIs b (written ws (disk_after phases d i)) q runs) same is)

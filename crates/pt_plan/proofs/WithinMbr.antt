-- A plan that changes an MBR lands.
use Rattle.std.proofs.Common.{◌≡◌, ◌∙◌, ◌⊎◌, inl, inr, ⊎_elim, ℕ, ◌<◌, List, [], ◌∷◌, ◌++◌, length, take, refl, sym, ap, subst, arith}
use Rattle.std.proofs.Common.{Option, Some, None, length-append}
use Rattle.pt_sector.specs.Sectors.{Sectors, sector, Span, Writes, Puts, written, after, IsAscending}
use Rattle.pt_sector.proofs.Written.{stopped_written}
use Rattle.pt_sector.specs.inner.ForFields.{length-written}
use Rattle.pt_sector.specs.declared.address.Lba.{Lba}
use Rattle.pt_mbr.specs.Chain.{Walk, IsInside, StandsAt, lba, EbrBytes}
use Rattle.pt_mbr.specs.declared.record.Record.{Record}
use Rattle.pt_mbr.specs.declared.ebr.Ebr.{Ebr}
use Rattle.pt_recover.specs.Denotes.{Denotes, Reads, BodyIs, label, IsMbrSector, IsMbr, HasChain, LabelsAre, LeavesReads}
use Rattle.pt_mbr.specs.Records.{AreRecords, extended_of, extent_of}
use Rattle.pt_members.specs.Members.{places_of, IsPlace}
use Rattle.pt_recover.proofs.Terms.{stop_keeps_lem, denotes_one_lem}
use Rattle.pt_members.specs.declared.layout.Body.{Body}
use Rattle.pt_members.specs.declared.layout.Body.TheVariants.{Mbr}
use Rattle.pt_members.specs.declared.layout.Layout.{Layout}
use Rattle.pt_layout.specs.Healthy.{IsBodyWhole, IsHealthy}
use Rattle.pt_layout.specs.Sound.{Sound}
use Rattle.pt_members.specs.Tables.{IsTable, IsBodyTable}
use Rattle.pt_apply.specs.Plans.{writes_in}
use Rattle.pt_cases.specs.Cases.{IsWithinMbr, IsNeeded, MbrMet}
use Rattle.pt_cases.specs.Writes.{one_write, LinkedOn, IsLoneChain, link_to, IsEbrTarget, over, made, EbrsEnd, ChainEnds, ComesToHold}
use Rattle.pt_apply.proofs.Puts.{puts_split, puts_left, puts_right}
use Rattle.pt_cases.proofs.Frames.{LabelsRight, misses, one_is, one_end, put_there, foreign_back}
use Rattle.pt_plan.specs.Commits.{Lands}
use Rattle.pt_plan.proofs.Landings.{IsGood, landed}
use Rattle.pt_cases.proofs.MetLemmas.{labels_met_right}
use Rattle.pt_cases.proofs.LabelPlaces.{place_below}

-- a target reads as its extended boot record
target_ebr : (b : ℕ) (d : Sectors) (old : List Ebr) (first : ℕ) (e : Ebr) (link : Option Record) (v : List ℕ)
    → IsEbrTarget b d old first e link v → EbrBytes first e.at e v
target_ebr b d old first e link v (over w stands is) = is.reads
target_ebr b d old first e link v (made none is) = is.reads

-- where they stand is inside
stands_inside : (x : Span) (n : ℕ) (from : Option Lba) (list : List Ebr) (s : ℕ) → LinkedOn x n from list → StandsAt s list → s < n
stands_inside x n from [] s linked stands = absurd stands
stands_inside x n None (e ∷ es) s linked stands = absurd linked
stands_inside x n (Some at) (e ∷ es) s linked (inl here) =
    let same : e.at.0 ≡ at.0 = ap (λ (l : Lba). l.0) linked.0 in omega (arith, here, same, linked.1.1)
stands_inside x n (Some at) (e ∷ es) s linked (inr later) = stands_inside x n e.next es s linked.3 later

module _ (b : ℕ) (d : Sectors) (old : List Ebr) (ws : Writes) (c : Sectors) (count : length c ≡ length d)
    (ended : (s : ℕ) (v : List ℕ) → s < length d → ComesToHold d ws s v → sector c s ≡ v) where
  ends_walk : (x : Span) (from : Option Lba) (list : List Ebr) → LinkedOn x (length d) from list → EbrsEnd b d old ws x.first list
      → Walk c x from list None
  ends_walk x None [] linked end = refl
  ends_walk x (Some at) [] linked end = absurd linked
  ends_walk x None (e ∷ es) linked end = absurd linked
  ends_walk x (Some at) (e ∷ es) linked ((v, target, here), later) =
      let same : e.at.0 ≡ at.0 = ap (λ (l : Lba). l.0) linked.0 in
      let held : sector c e.at.0 ≡ v = ended e.at.0 v (omega (arith, same, linked.1.1)) here in
      let bytes : EbrBytes x.first e.at e (sector c e.at.0) =
      subst (EbrBytes x.first e.at e) (sym held) (target_ebr b d old x.first e (link_to x.first es) v target) in (
        record {
          inside = subst (λ (m : ℕ). IsInside x m at) (sym count) linked.1;
          bytes = subst (λ (l : Lba). EbrBytes x.first l e (sector c l.0)) linked.0 bytes;
        },
        linked.2,
        ends_walk x e.next es linked.3 later,
      )

  pub chain_ends : (rs : List Record) (list : List Ebr) → IsLoneChain (length d) rs list → ChainEnds b d old ws rs list → HasChain c rs list
  chain_ends [] list linked end = linked
  chain_ends (r ∷ []) list linked end =
      record { few = linked.0; whole = ends_walk (extent_of r) (Some (lba (extent_of r).first)) list linked.1 end }
  chain_ends (r ∷ s ∷ rs) list linked end = absurd linked

chain_inside : (n : ℕ) (rs : List Record) (list : List Ebr) (s : ℕ) → IsLoneChain n rs list → StandsAt s list → s < n
chain_inside n [] list s linked stands = absurd (subst (StandsAt s) linked stands)
chain_inside n (r ∷ []) list s linked stands = stands_inside (extent_of r) n (Some (lba (extent_of r).first)) list s linked.1 stands
chain_inside n (r ∷ q ∷ rs) list s linked stands = absurd linked

-- a disk on which each sector ended as its target denotes p, with right labels
module _ (b : ℕ) (d : Sectors) (o : Option Layout) (p : Layout) (old_records : List (Option Record)) (old_chain : List Ebr)
    (records : List (Option Record)) (chain : List Ebr) (ws : Writes)
    (met : MbrMet b d o p old_records old_chain records chain ws) (body : p.body ≡ Mbr records chain) (sectors : p.sectors ≡ length d)
    (linked : IsLoneChain (length d) (extended_of records) chain) (some : 0 < length d)
    (c : Sectors) (count : length c ≡ length d) (ended : (s : ℕ) (v : List ℕ) → s < length d → ComesToHold d ws s v → sector c s ≡ v) where
  pub place_lt : (s : ℕ) → IsPlace (places_of b p.sectors p.body) s → s < length d
  place_lt s at = let lt = place_below b p.sectors p.body s at in omega (arith, lt, sectors)

  pub head_there : sector c 0 ≡ met.head.0
  head_there = ended 0 met.head.0 some met.head.2

  mbr : IsMbr c records
  mbr = (
    (omega (arith, some, count), subst IsMbrSector (sym head_there) met.head.1.formed),
    subst (AreRecords records) (sym head_there) met.head.1.records,
  )

  pub mbr_labels : LabelsRight b c p
  mbr_labels = labels_met_right b d o p ws c met.labels (λ s v at ends. ended s v (place_lt s at) ends)

  pub mbr_denotes : Denotes b c (Some p)
  mbr_denotes =
      let is : BodyIs b c (Mbr records chain) =
      (mbr, chain_ends b d old_chain ws c count ended (extended_of records) chain linked met.ebrs) in (
        sectors ∙ sym count,
        subst (BodyIs b c) (sym body) is,
        subst (λ (m : ℕ). LabelsAre c (places_of b m p.body) p.labels) (sectors ∙ sym count) mbr_labels.0,
      )

-- an MBR disk has a sector
pub mbr_some : (b : ℕ) (d : Sectors) (o : Option Layout) (old : Layout) (records : List (Option Record)) (chain : List Ebr)
    → Denotes b d o → o ≡ Some old → old.body ≡ Mbr records chain → 0 < length d
mbr_some b d o old records chain from is body = (subst (BodyIs b d) body (subst (Denotes b d) is from).1).0.0.0

-- where writes that miss all that is read make every sector right, the disk is healthy and denotes p already
pub quiet_is_done : (b : ℕ) (d : Sectors) (o : Option Layout) (p : Layout) (old : Layout) (old_records : List (Option Record))
    (old_chain : List Ebr) (records : List (Option Record)) (chain : List Ebr) (quiet : Writes)
    → MbrMet b d o p old_records old_chain records chain quiet → p.body ≡ Mbr records chain → p.sectors ≡ length d
    → IsLoneChain (length d) (extended_of records) chain
    → Denotes b d o → o ≡ Some old → old.body ≡ Mbr old_records old_chain → Sound b p → IsAscending quiet → LeavesReads b d quiet
    → IsHealthy b d p
quiet_is_done b d o p old old_records old_chain records chain quiet met body sectors linked from is_old old_body sound ascending unread =
    let c : Sectors = written quiet d in
    let count : length c ≡ length d = length-written quiet d in
    let some : 0 < length d = mbr_some b d o old old_records old_chain from is_old old_body in
    let ended : (s : ℕ) (v : List ℕ) → s < length d → ComesToHold d quiet s v → sector c s ≡ v =
    λ s v lt ends. ⊎_elim (λ puts. put_there quiet d s v ascending lt puts) (λ kept. misses d quiet s kept.1 ∙ sym kept.0) ends in
    let new : Denotes b c (Some p) =
    mbr_denotes b d o p old_records old_chain records chain quiet met body sectors linked some c count ended in
    let same : o ≡ Some p =
    denotes_one_lem b c o (Some p) (((stop_keeps_lem b d c quiet unread (stopped_written quiet d)).denotes o).1 from) new in
    let here : Denotes b d (Some p) = subst (Denotes b d) same from in
    let right : LabelsRight b c p =
    mbr_labels b d o p old_records old_chain records chain quiet met body sectors linked some c count ended in
    let stay : (s : ℕ) → IsPlace (places_of b p.sectors p.body) s → sector d s ≡ sector c s =
    λ s at. sym (misses d quiet s
    (λ v puts. unread s v puts (label p.body here.1 (subst (λ (m : ℕ). IsPlace (places_of b m p.body) s) sectors at)))) in
    record {
      denotes = here;
      sound = sound;
      whole = subst (IsBodyWhole b d) (sym body) tt;
      no_foreign = λ n f. right.1 n (foreign_back b c d p n stay f);
    }

module _ (b : ℕ) (d : Sectors) (o : Option Layout) (p : Layout) (records : List (Option Record)) (chain : List Ebr)
    (phases : List Writes) (is : IsWithinMbr b d o p records chain phases) where
  abbrev n : ℕ
  n = length d

  abbrev loud : Writes
  loud = one_write is.loud.0 is.loud.1

  abbrev all : Writes
  all = is.quiet ++ loud

  abbrev d1 : Sectors
  d1 = written is.quiet d

  abbrev c : Sectors
  c = written loud d1

  n1 : length d1 ≡ n
  n1 = length-written is.quiet d

  count : length c ≡ n
  count = length-written loud d1 ∙ n1

  some : 0 < n
  some = mbr_some b d o is.old is.old_records is.old_chain is.common.from is.is_old is.old_body

  ended : (s : ℕ) (v : List ℕ) → s < n → ComesToHold d all s v → sector c s ≡ v
  ended s v lt (inl puts) = ⊎_elim
      (λ quiet. misses d1 loud s (λ x again. is.unread s v quiet (subst (Reads b d) (sym (one_is is.loud.0 s is.loud.1 x again)) is.read))
      ∙ put_there is.quiet d s v is.ascending lt quiet)
      (λ last. one_end d1 is.loud.0 s is.loud.1 v (omega (arith, lt, n1)) last)
      (puts_split is.quiet loud s v puts)
  ended s v lt (inr (same, never)) =
      misses d1 loud s (λ x puts. never x (puts_right is.quiet loud s x puts))
      ∙ misses d is.quiet s (λ x puts. never x (puts_left is.quiet loud s x puts))
      ∙ sym same

  -- what the writes bring about, whatever their phases
  right : LabelsRight b c p
  right = mbr_labels b d o p is.old_records is.old_chain records chain all is.met is.body is.common.sectors is.linked some c count
      ended

  head_is : sector c 0 ≡ is.met.head.0
  head_is = head_there b d o p is.old_records is.old_chain records chain all is.met is.body is.common.sectors is.linked some c count
      ended

  less : (s : ℕ) → IsPlace (places_of b p.sectors p.body) s → s < n
  less = place_lt b d o p is.old_records is.old_chain records chain all is.met is.body is.common.sectors is.linked some c count
      ended

  new : Denotes b c (Some p)
  new = mbr_denotes b d o p is.old_records is.old_chain records chain all is.met is.body is.common.sectors is.linked some c count ended

  pub ends : IsHealthy b c p
  ends =
      record {
        denotes = new;
        sound = is.common.sound;
        whole = subst (IsBodyWhole b c) (sym is.body) tt;
        no_foreign = right.1;
      }

  old1 : Denotes b d1 o
  old1 = ((stop_keeps_lem b d d1 is.quiet is.unread (stopped_written is.quiet d)).denotes o).1 is.common.from

  of_body : (s : ℕ) → (s ≡ 0) ⊎ StandsAt s chain → IsTable b p s
  of_body s at = inl (subst (λ (y : Body). IsBodyTable b p.sectors y s) (sym is.body) at)

  boot : (s : ℕ) (v : List ℕ) → Puts all s v → s ≡ 0 → take 440 v ≡ take 440 (sector d 0)
  boot s v puts zero_is =
      let here : sector c 0 ≡ v = ended 0 v some (inl (subst (λ (j : ℕ). Puts all j v) zero_is puts)) in
      ap (take 440) (sym here ∙ head_is) ∙ is.met.head.1.boot

  needed_good : (s : ℕ) (v : List ℕ) → Puts all s v → IsNeeded b p chain s → IsGood b d p s v
  needed_good s v puts (inl zero_is) =
      record { inside = omega (arith, some, zero_is); boot = boot s v puts; table = of_body s (inl zero_is) }
  needed_good s v puts (inr (inl stands)) =
      record {
        inside = chain_inside n (extended_of records) chain s is.linked stands;
        boot = boot s v puts;
        table = of_body s (inr stands);
      }
  needed_good s v puts (inr (inr place)) =
      record { inside = less s place; boot = boot s v puts; table = inr place }

  pub good_all : (s : ℕ) (v : List ℕ) → Puts all s v → IsGood b d p s v
  good_all s v puts = needed_good s v puts (is.each s v puts).0

  in_one : is.quiet ≡ [] → phases ≡ loud ∷ [] → Lands b d o p phases 1
  in_one none same =
      let start : d1 ≡ d = ap (λ (ws : Writes). written ws d) none in
      let last : IsHealthy b (written loud d) p = subst (λ (x : Sectors). IsHealthy b (written loud x) p) start ends in
      landed b d o p phases (loud ∷ []) 0 is.common same (omega arith) (λ s x puts. good_all s x (puts_right is.quiet loud s x puts), tt)
      (is.common.from, inl (omega arith), last.denotes) last

  in_two : phases ≡ is.quiet ∷ loud ∷ [] → Lands b d o p phases 2
  in_two same =
      let many = length-append is.quiet (writes_in (loud ∷ [])) in
      landed b d o p phases (is.quiet ∷ loud ∷ []) 1 is.common same (omega (arith, many, is.few))
      (λ s x puts. good_all s x (puts_left is.quiet loud s x puts), (λ s x puts. good_all s x (puts_right is.quiet loud s x puts), tt))
      (is.common.from, inr is.unread, (old1, inl (omega arith), new)) ends

  pub within_mbr_lands : Lands b d o p phases (length phases)
  within_mbr_lands = ⊎_elim
      (λ one. subst (Lands b d o p phases) (sym (ap length one.1)) (in_one one.0 one.1))
      (λ two. subst (Lands b d o p phases) (sym (ap length two.1)) (in_two two.1))
      is.is

  after_is : after phases d ≡ c
  after_is = ⊎_elim
      (λ one. ap (λ (ps : List Writes). after ps d) one.1
      ∙ ap (λ (x : Sectors). written loud x) (sym (ap (λ (ws : Writes). written ws d) one.0)))
      (λ two. ap (λ (ps : List Writes). after ps d) two.1)
      is.is

  -- each sector ends as it is to
  pub within_mbr_ended : (s : ℕ) (v : List ℕ) → IsPlace (places_of b p.sectors p.body) s
      → ComesToHold d (is.quiet ++ one_write is.loud.0 is.loud.1) s v → sector (after phases d) s ≡ v
  within_mbr_ended s v at ends =
      ap (λ (x : Sectors). sector x s) after_is ∙ ended s v (less s at) ends

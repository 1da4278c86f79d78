-- From targets that are met to the labels, and to sector 0 and the chain, that are.
use Rattle.std.proofs.Common.{◌≡◌, ◌∙◌, inl, inr, ⊎_elim, ℕ, ◌≤◌, List, [], ◌∷◌, length, replicate, sym, subst, arith, Option, Some, None}
use Rattle.std.specs.Prelude.{Contains, ◌↔◌}
use Rattle.pt_sector.specs.Sectors.{Sectors, sector, Writes, Puts}
use Rattle.pt_bsd.specs.Labels.{HasMagic, LabelBytes}
use Rattle.pt_bsd.specs.declared.label.Label.{Label}
use Rattle.pt_mbr.specs.declared.ebr.Ebr.{Ebr}
use Rattle.pt_mbr.specs.declared.record.Record.{Record}
use Rattle.pt_recover.specs.Denotes.{Reads}
use Rattle.pt_members.specs.Members.{places_of, place_of, IsPlace}
use Rattle.pt_mbr.specs.Records.{extended_of, extent_of}
use Rattle.pt_recover.specs.Spans.{IsIn}
use Rattle.pt_members.specs.declared.layout.Layout.{Layout}
use Rattle.pt_members.specs.declared.layout.Slice.{Slice}
use Rattle.pt_recover.specs.declared.trace.TracedRun.{TracedRun}
use Rattle.pt_cases.proofs.Along.{along_map}
use Rattle.pt_cases.specs.Writes.{IsHeadTarget, EbrsEnd, ChainEnds, IsEncoded, IsLabelTarget, kept, changed, new, ComesToHold, Met}
use Rattle.pt_cases.specs.Writes.{LabelsMet, stood, set, there, Set, WritesLabels}
use Rattle.pt_cases.proofs.Chosen.{same_or_not, in_or_not}
use Rattle.pt_cases.specs.Targets.{IsPlaceTarget, Targeted, AreLabelTargets, AreMbrTargets, AreNewWrites, InSectorOrder, HasLoneChain}
use Rattle.pt_cases.specs.Targets.{HasEbrs}
use Rattle.pt_cases.specs.declared.targets.target.TargetKind.TheVariants.{Stays, New, Changes}
use Rattle.pt_cases.specs.declared.targets.target.Target.{Target}

-- what a label place must hold, from what its target says
pub label_target : {b : ℕ} (d : Sectors) (o : Option Layout) (w : Slice) (l : Label) (t : Target b) → t.under ≡ sector d (place_of w)
    → IsPlaceTarget d o w (Some l) t → IsLabelTarget b d o w l t.bytes
label_target d o w l t under (inl (kind, had, reads, same)) = kept had reads (same ∙ under)
label_target d o w l t under (inr (inl (kind, (m, had, other), is))) =
    changed m had other (subst (λ (u : List ℕ). IsEncoded l w u t.bytes) under is)
label_target d o w l t under (inr (inr (kind, none, is))) = new none is

module _ {b : ℕ} (d : Sectors) (o : Option Layout) (ws : Writes) (ts among : List (Target b))
    (all : (t : Target b) → Contains ts t → Contains among t)
    (ends : (t : Target b) → Contains among t → ComesToHold d ws t.at.0 t.bytes)
    (stays : (t : Target b) → Contains among t → t.bytes ≡ t.under → (x : List ℕ) → ¬ Puts ws t.at.0 x) where
  place_met : (w : Slice) (l : Option Label) → Targeted d o ts w l → Met b d o ws w l
  place_met w (Some l) (t, has, at, under, is) = (
    t.bytes,
    label_target d o w l t under is,
    subst (λ (s : ℕ). ComesToHold d ws s t.bytes) at (ends t (all t has)),
  )
  place_met w None (t, has, at, under, (kind, plain, same)) = (
    subst (λ (u : List ℕ). ¬ HasMagic u) under plain,
    λ x puts. stays t (all t has) same x (subst (λ (s : ℕ). Puts ws s x) (sym at) puts),
  )

  -- where each target ends as it must, and those that hold what they must aren't written, the labels are met
  pub labels_met : (p : Layout) → AreLabelTargets d o p ts → LabelsMet b d o p ws
  labels_met p are = along_map (Targeted d o ts) (Met b d o ws) (places_of b p.sectors p.body) p.labels place_met are.has

module _ {b : ℕ} (d : Sectors) (old : List Ebr) (ws : Writes) (ts among : List (Target b))
    (all : (t : Target b) → Contains ts t → Contains among t)
    (ends : (t : Target b) → Contains among t → ComesToHold d ws t.at.0 t.bytes) where
  ebrs_end : (first : ℕ) (chain : List Ebr) → HasEbrs d old first chain ts → EbrsEnd b d old ws first chain
  ebrs_end first [] has = tt
  ebrs_end first (e ∷ es) ((t, has, at, under, is), later) = (
    (t.bytes, is, subst (λ (s : ℕ). ComesToHold d ws s t.bytes) at (ends t (all t has))),
    ebrs_end first es later,
  )

  chain_ends : (rs : List Record) (chain : List Ebr) → HasLoneChain d old rs chain ts → ChainEnds b d old ws rs chain
  chain_ends [] chain has = tt
  chain_ends (r ∷ rs) chain has = ebrs_end (extent_of r).first chain has

  -- where each target ends as it must, so do sector 0 and the chain
  pub mbr_met : (old_records records : List (Option Record)) (chain : List Ebr) → AreMbrTargets d old_records old records chain ts
      → ((v : List ℕ) × IsHeadTarget old_records records (sector d 0) v × ComesToHold d ws 0 v) × ChainEnds b d old ws
      (extended_of records) chain
  mbr_met old_records records chain are = (
    (
      are.head.target.bytes,
      are.head.is,
      subst (λ (s : ℕ). ComesToHold d ws s are.head.target.bytes) are.head.at (ends are.head.target
          (all are.head.target are.head.contains)),
    ),
    chain_ends (extended_of records) chain are.ebrs,
  )

module _ {b : ℕ} (d : Sectors) (o : Option Layout) (p : Layout) (ts sorted : List (Target b)) (guarded : List TracedRun) (ws : Writes)
    (are : AreLabelTargets d o p ts) (order : InSectorOrder ts sorted) (settled : (t : Target b) → Contains ts t → ¬ (t.kind ≡ Changes))
    (reads : (s : ℕ) → IsPlace (places_of b p.sectors p.body) s → (Reads b d s ↔ IsIn guarded s))
    (news : AreNewWrites guarded sorted ws) where
  never : (w : Slice) (t : Target b) → Contains ts t → t.at.0 ≡ place_of w → ¬ (t.kind ≡ New) → (x : List ℕ) → ¬ Puts ws (place_of w) x
  never w t has at other x puts = news.others t (order.all t has) other x (subst (λ (s : ℕ). Puts ws s x) (sym at) puts)

  place_set : (w : Slice) (l : Option Label) → Targeted d o ts w l → Set b d o ws w l
  place_set w (Some l) (t, has, at, under, inl (kind, had, label, same)) =
      stood had (subst (λ (v : List ℕ). LabelBytes l w.first w.len v) (same ∙ under) label)
      (never w t has at (λ is. (let no : Stays ≡ New = sym kind ∙ is in absurd cc)))
  place_set w (Some l) (t, has, at, under, inr (inl (kind, other, is))) = absurd (settled t has kind)
  place_set w (Some l) (t, has, at, under, inr (inr (kind, none, is))) = ⊎_elim
      (λ same. ⊎_elim
      (λ is_in. there none
      (subst (λ (v : List ℕ). IsEncoded l w (replicate b 0) v) (same ∙ under) is.encoded)
      ((reads (place_of w) at_place).1 (subst (IsIn guarded) at is_in))
      (λ x puts. news.there t (order.all t has) kind (same, is_in) x (subst (λ (s : ℕ). Puts ws s x) (sym at) puts)))
      (λ not_in. written (λ both. not_in both.1))
      (in_or_not guarded t.at.0))
      (λ differs. written (λ both. differs both.0))
      (same_or_not t.bytes t.under)
    where
      at_place : IsPlace (places_of b p.sectors p.body) (place_of w)
      at_place = subst (IsPlace (places_of b p.sectors p.body)) at (are.each t has)

      written : ¬ ((t.bytes ≡ t.under) × IsIn guarded t.at.0) → Set b d o ws w (Some l)
      written unread = set t.bytes none is
          (λ both. unread (both.1 ∙ sym under, subst (IsIn guarded) (sym at) ((reads (place_of w) at_place).0 both.0)))
          (subst (λ (s : ℕ). Puts ws s t.bytes) at (news.all t (order.all t has) kind unread))
  place_set w None (t, has, at, under, (kind, plain, same)) =
      (subst (λ (u : List ℕ). ¬ HasMagic u) under plain, never w t has at (λ is. (let no : Stays ≡ New = sym kind ∙ is in absurd cc)))

  -- where no label changes, the writes of the new ones are the writes of the labels
  pub labels_written : length (places_of b p.sectors p.body) ≤ 128 → WritesLabels b d o p ws
  labels_written most = record {
    ascending = news.ascending;
    few = omega (arith, news.few, order.count, are.count, most);
    set = along_map (Targeted d o ts) (Set b d o ws) (places_of b p.sectors p.body) p.labels place_set are.has;
    each = λ s v puts. (let it = news.each s v puts in
        subst (IsPlace (places_of b p.sectors p.body)) it.3 (are.each it.0 (order.only it.0 it.1)));
  }

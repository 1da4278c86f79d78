-- Whatever brings about what the sectors of an MBR layout need changes the same ones of them.
use Rattle.std.proofs.Common.{◌≡◌, ◌∙◌, inl, inr, ⊎_elim, ℕ, List, [], ◌∷◌, ◌++◌, length, Option, Some, None, refl, sym, ap, subst}
use Rattle.std.specs.Prelude.{Contains}
use Rattle.std.proofs.lemmas.List.Elements.{Contains-append_left, Contains-append_right, Contains-append_cases}
use Rattle.pt_sector.specs.Sectors.{Sectors, sector, Writes}
use Rattle.pt_mbr.specs.Chain.{StandsAt}
use Rattle.pt_mbr.specs.declared.ebr.Ebr.{Ebr}
use Rattle.pt_mbr.specs.declared.record.Record.{Record}
use Rattle.pt_bsd.specs.declared.label.Label.{Label}
use Rattle.pt_members.specs.Members.{places_of, place_of}
use Rattle.pt_mbr.specs.Records.{extended_of, extent_of}
use Rattle.pt_members.specs.declared.layout.Body.TheVariants.{Mbr}
use Rattle.pt_members.specs.declared.layout.Layout.{Layout}
use Rattle.pt_members.specs.declared.layout.Slice.{Slice}
use Rattle.pt_members.specs.Tables.{HasFour}
use Rattle.pt_cases.proofs.Along.{along_map}
use Rattle.pt_cases.specs.Cases.{IsNeeded, MbrMet, HadMbr}
use Rattle.pt_cases.specs.Writes.{IsLoneChain, link_to, IsHeadTarget, IsEbrTarget, EbrsEnd, ChainEnds, ComesToHold}
use Rattle.pt_cases.specs.Unplanned.{TargetsIn}
use Rattle.pt_cases.specs.Targets.{AreLabelTargets, AreMbrTargets, HasEbrs, HasLoneChain, HasTwoOfOne, IsChange}
use Rattle.pt_cases.specs.declared.targets.target.Target.{Target}
use Rattle.pt_cases.proofs.SameBytes.{head_target_one, ebr_target_one}
use Rattle.pt_cases.proofs.SameLabels.{Pair, same_pair, PlaceHas, PlacesHave, places_pair, Held, labels_have, met_have, changed_other}
use Rattle.pt_cases.proofs.SameLabels.{change_of}

-- Q holds of bytes that each of these extended boot records needs
abbrev pub EbrsHave : ℕ → Sectors → List Ebr → (ℕ → List ℕ → Type 0) → ℕ → List Ebr → Type 0
EbrsHave b d old Q first [] = Unit {0}
EbrsHave b d old Q first (e ∷ es) =
    ((v : List ℕ) × IsEbrTarget b d old first e (link_to first es) v × Q e.at.0 v) × EbrsHave b d old Q first es

-- of the lone extended record
abbrev pub ChainHas : ℕ → Sectors → List Ebr → (ℕ → List ℕ → Type 0) → List Record → List Ebr → Type 0
ChainHas b d old Q [] chain = Unit {0}
ChainHas b d old Q (r ∷ rs) chain = EbrsHave b d old Q (extent_of r).first chain

-- and so it is with each sector that p needs, in place of an MBR
pub record MbrHas (b : ℕ) (d : Sectors) (o : Option Layout) (p : Layout) (old_records : List (Option Record)) (old_chain : List Ebr)
    (records : List (Option Record)) (chain : List Ebr) (Q : ℕ → List ℕ → Type 0) : Type 0 where
  pub head : (v : List ℕ) × IsHeadTarget old_records records (sector d 0) v × Q 0 v
  pub ebrs : ChainHas b d old_chain Q (extended_of records) chain
  pub places : PlacesHave b d o p Q

-- two that bring about what the extended boot records need are a pair at each
ebrs_pair : (b : ℕ) (d : Sectors) (old : List Ebr) (P Q : ℕ → List ℕ → Type 0) (s first : ℕ) (chain : List Ebr)
    → EbrsHave b d old P first chain → EbrsHave b d old Q first chain → StandsAt s chain → Pair d P Q s
ebrs_pair b d old P Q s first [] have also at = absurd at
ebrs_pair b d old P Q s first (e ∷ es) ((v, target, has), more) ((x, other, holds), later) (inl here) =
    let same = ebr_target_one b d old first e (link_to first es) v x target other in
    subst (Pair d P Q) (sym here) (same_pair d P Q e.at.0 v x same has holds)
ebrs_pair b d old P Q s first (e ∷ es) (it, more) (again, later) (inr there) = ebrs_pair b d old P Q s first es more later there

-- so they are at each of the chain
chain_pair : (b : ℕ) (d : Sectors) (old : List Ebr) (P Q : ℕ → List ℕ → Type 0) (s : ℕ) (rs : List Record) (chain : List Ebr)
    → IsLoneChain (length d) rs chain → ChainHas b d old P rs chain → ChainHas b d old Q rs chain → StandsAt s chain → Pair d P Q s
chain_pair b d old P Q s [] chain linked have also at = absurd (subst (StandsAt s) linked at)
chain_pair b d old P Q s (r ∷ rs) chain linked have also at = ebrs_pair b d old P Q s (extent_of r).first chain have also at

-- two that bring about what p needs are a pair at each sector
module _ (b : ℕ) (d : Sectors) (o : Option Layout) (p : Layout) (old_records : List (Option Record)) (old_chain : List Ebr)
    (records : List (Option Record)) (chain : List Ebr) (P Q : ℕ → List ℕ → Type 0)
    (four : HasFour p.body) (linked : IsLoneChain (length d) (extended_of records) chain)
    (has : MbrHas b d o p old_records old_chain records chain P) (also : MbrHas b d o p old_records old_chain records chain Q) where
  head_pair : Pair d P Q 0
  head_pair =
      let same = head_target_one old_records records (sector d 0) has.head.0 also.head.0 has.head.1 also.head.1 in
      same_pair d P Q 0 has.head.0 also.head.0 same has.head.2 also.head.2

  pub mbr_pair : (s : ℕ) → IsNeeded b p chain s → Pair d P Q s
  mbr_pair s (inl first) = subst (Pair d P Q) (sym first) head_pair
  mbr_pair s (inr (inl stands)) = chain_pair b d old_chain P Q s (extended_of records) chain linked has.ebrs also.ebrs stands
  mbr_pair s (inr (inr place)) = places_pair b d o p P Q s four has.places also.places place

-- what holds of some targets holds of more
held_more : (b : ℕ) (d : Sectors) (heads places : List (Target b)) (s : ℕ) (v : List ℕ) → Held d heads s v → Held d (heads ++ places) s v
held_more b d heads places s v (t, has, at, under, is) = (t, Contains-append_left heads places t has, at, under, is)

-- also of those behind them
held_later : (b : ℕ) (d : Sectors) (heads places : List (Target b)) (s : ℕ) (v : List ℕ) → Held d places s v → Held d (heads ++ places) s v
held_later b d heads places s v (t, has, at, under, is) = (t, Contains-append_right heads places t has, at, under, is)

-- what follows from what is brought about is brought about
place_so : (b : ℕ) (d : Sectors) (o : Option Layout) (P Q : ℕ → List ℕ → Type 0) → ((s : ℕ) (v : List ℕ) → P s v → Q s v)
    → (w : Slice) (l : Option Label) → PlaceHas b d o P w l → PlaceHas b d o Q w l
place_so b d o P Q so w (Some l) (v, target, has) = (v, target, so (place_of w) v has)
place_so b d o P Q so w None has = so (place_of w) (sector d (place_of w)) has

-- at each label place
places_so : (b : ℕ) (d : Sectors) (o : Option Layout) (p : Layout) (P Q : ℕ → List ℕ → Type 0) → ((s : ℕ) (v : List ℕ) → P s v → Q s v)
    → PlacesHave b d o p P → PlacesHave b d o p Q
places_so b d o p P Q so has =
    along_map (PlaceHas b d o P) (PlaceHas b d o Q) (places_of b p.sectors p.body) p.labels (place_so b d o P Q so) has

-- the targets of the extended boot records have what those need
ebrs_have : (b : ℕ) (d : Sectors) (old : List Ebr) (heads places : List (Target b)) (first : ℕ) (chain : List Ebr)
    → HasEbrs d old first chain heads → EbrsHave b d old (Held d (heads ++ places)) first chain
ebrs_have b d old heads places first [] has = tt
ebrs_have b d old heads places first (e ∷ es) ((t, has, at, under, is), more) =
    ((t.bytes, is, held_more b d heads places e.at.0 t.bytes (t, has, at, under, refl)), ebrs_have b d old heads places first es more)

-- and those of the chain
chain_has : (b : ℕ) (d : Sectors) (old : List Ebr) (heads places : List (Target b)) (rs : List Record) (chain : List Ebr)
    → HasLoneChain d old rs chain heads → ChainHas b d old (Held d (heads ++ places)) rs chain
chain_has b d old heads places [] chain has = tt
chain_has b d old heads places (r ∷ rs) chain has = ebrs_have b d old heads places (extent_of r).first chain has

-- and those of all that p needs
heads_have : (b : ℕ) (d : Sectors) (o : Option Layout) (p : Layout) (old_records : List (Option Record)) (old_chain : List Ebr)
    (records : List (Option Record)) (chain : List Ebr) (heads places : List (Target b))
    → AreMbrTargets d old_records old_chain records chain heads → AreLabelTargets d o p places
    → MbrHas b d o p old_records old_chain records chain (Held d (heads ++ places))
heads_have b d o p old_records old_chain records chain heads places mbr labels = record {
  head = (
    mbr.head.target.bytes,
    mbr.head.is,
    held_more b d heads places 0 mbr.head.target.bytes (mbr.head.target, mbr.head.contains, mbr.head.at, mbr.head.under, refl),
  );
  ebrs = chain_has b d old_chain heads places (extended_of records) chain mbr.ebrs;
  places = places_so b d o p (Held d places) (Held d (heads ++ places)) (held_later b d heads places) (labels_have b d o p places labels);
}

-- what was an MBR was one
was_same : (o : Option Layout) (x y : HadMbr o) → Mbr x.records x.chain ≡ Mbr y.records y.chain
was_same o x y =
    let both : Some x.old ≡ Some y.old = sym x.is_old ∙ y.is_old in
    let same : x.old ≡ y.old = cc in
    sym x.body ∙ ap (λ (l : Layout). l.body) same ∙ y.body

-- with the same records
was_records : (o : Option Layout) (x y : HadMbr o) → x.records ≡ y.records
was_records o x y = let same = was_same o x y in cc

-- and the same chain
was_chain : (o : Option Layout) (x y : HadMbr o) → x.chain ≡ y.chain
was_chain o x y = let same = was_same o x y in cc

-- the targets of an MBR do so
pub targets_have : (b : ℕ) (d : Sectors) (o : Option Layout) (p : Layout) (records : List (Option Record)) (chain : List Ebr)
    (was : HadMbr o) (ts : List (Target b)) → TargetsIn b d o p (Mbr records chain) ts
    → MbrHas b d o p was.records was.chain records chain (Held d ts)
targets_have b d o p records chain was ts (before, heads, places, mbr, labels, same) =
    subst (λ (r : List (Option Record)). MbrHas b d o p r was.chain records chain (Held d ts)) (was_records o before was)
    (subst (λ (c : List Ebr). MbrHas b d o p before.records c records chain (Held d ts)) (was_chain o before was)
    (subst (λ (us : List (Target b)). MbrHas b d o p before.records before.chain records chain (Held d us)) (sym same)
    (heads_have b d o p before.records before.chain records chain heads places mbr labels)))

-- and each is of a sector that p needs
pub target_needed : (b : ℕ) (d : Sectors) (o : Option Layout) (p : Layout) (records : List (Option Record)) (chain : List Ebr)
    (ts : List (Target b)) (t : Target b) → TargetsIn b d o p (Mbr records chain) ts → Contains ts t → IsNeeded b p chain t.at.0
target_needed b d o p records chain ts t (was, heads, places, mbr, labels, same) has = ⊎_elim
    (λ head. ⊎_elim (λ first. inl first) (λ stands. inr (inl stands)) (mbr.each t head))
    (λ label. inr (inr (labels.each t label)))
    (Contains-append_cases heads places t (subst (λ (us : List (Target b)). Contains us t) same has))

-- writes after which they end so bring it about
ends_ebrs : (b : ℕ) (d : Sectors) (old : List Ebr) (ws : Writes) (first : ℕ) (chain : List Ebr) → EbrsEnd b d old ws first chain
    → EbrsHave b d old (ComesToHold d ws) first chain
ends_ebrs b d old ws first [] end = tt
ends_ebrs b d old ws first (e ∷ es) (it, more) = (it, ends_ebrs b d old ws first es more)

-- for the chain too
ends_chain : (b : ℕ) (d : Sectors) (old : List Ebr) (ws : Writes) (rs : List Record) (chain : List Ebr) → ChainEnds b d old ws rs chain
    → ChainHas b d old (ComesToHold d ws) rs chain
ends_chain b d old ws [] chain end = tt
ends_chain b d old ws (r ∷ rs) chain end = ends_ebrs b d old ws (extent_of r).first chain end

-- so do writes that meet what it needs
pub mbr_met_has : (b : ℕ) (d : Sectors) (o : Option Layout) (p : Layout) (old_records : List (Option Record)) (old_chain : List Ebr)
    (records : List (Option Record)) (chain : List Ebr) (ws : Writes)
    → MbrMet b d o p old_records old_chain records chain ws → MbrHas b d o p old_records old_chain records chain (ComesToHold d ws)
mbr_met_has b d o p old_records old_chain records chain ws met = record {
  head = met.head;
  ebrs = ends_chain b d old_chain ws (extended_of records) chain met.ebrs;
  places = met_have b d o p ws met.labels;
}

-- two lists of an MBR's targets change the same sectors
pub mbr_targets_one : (b : ℕ) (d : Sectors) (o : Option Layout) (p : Layout) (records : List (Option Record)) (chain : List Ebr)
    (ts us : List (Target b)) (t : Target b) → HasFour p.body → IsLoneChain (length d) (extended_of records) chain
    → TargetsIn b d o p (Mbr records chain) ts → TargetsIn b d o p (Mbr records chain) us → ¬ HasTwoOfOne ts → IsChange ts t
    → (u : Target b) × IsChange us u × (u.at.0 ≡ t.at.0)
mbr_targets_one b d o p records chain ts us t four linked are others one change =
    let was : HadMbr o = are.0 in
    let has = targets_have b d o p records chain was ts are in
    let also = targets_have b d o p records chain was us others in
    let needed = target_needed b d o p records chain ts t are change.0 in
    let pair = mbr_pair b d o p was.records was.chain records chain (Held d ts) (Held d us) four linked has also t.at.0 needed in
    let x = changed_other b d ts t (Held d us) one change pair in
    change_of b d us t.at.0 x.0 x.1 x.2

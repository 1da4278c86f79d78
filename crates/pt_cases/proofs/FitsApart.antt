-- No two targets of a layout that words make of a disk's are of one sector.
use Rattle.std.proofs.Common.{◌≡◌, ◌∙◌, ◌⊎◌, inl, inr, ℕ, zero, suc, List, [], ◌∷◌, ◌++◌, length, Option, refl, sym, ap, subst, arith}
use Rattle.std.proofs.Common.{length-append}
use Rattle.std.specs.Prelude.{Contains}
use Rattle.std.proofs.lemmas.List.{length-map}
use Rattle.std.proofs.lemmas.List.Elements.{Contains-append_left, Contains-append_right, Contains-append_cases}
use Rattle.pt_sector.specs.Sectors.{Sectors, IsSectorSize}
use Rattle.pt_mbr.specs.declared.ebr.Ebr.{Ebr}
use Rattle.pt_mbr.specs.declared.record.Record.{Record}
use Rattle.pt_recover.specs.Denotes.{Denotes}
use Rattle.pt_members.specs.Members.{places_of, place_of}
use Rattle.pt_mbr.specs.Records.{extended_of, extent_of}
use Rattle.pt_members.specs.declared.layout.Body.{Body}
use Rattle.pt_members.specs.declared.layout.Body.TheVariants.{Mbr, Gpt}
use Rattle.pt_members.specs.declared.layout.Layout.{Layout}
use Rattle.pt_members.specs.declared.layout.Slice.{Slice}
use Rattle.pt_layout.specs.Sound.{Sound}
use Rattle.pt_cases.proofs.Ascending.{fits_four}
use Rattle.pt_cases.specs.Keeps.{Covers, AllDiffer, label_sectors, chain_sectors, own_sectors, Keeps}
use Rattle.pt_cases.proofs.Differ.{own_differ_lem}
use Rattle.pt_cases.specs.Writes.{IsLoneChain, Shaped}
use Rattle.pt_cases.proofs.Links.{chain_is_linked_lem}
use Rattle.pt_cases.specs.Unplanned.{SharesSector, TargetsIn, TargetsOf, WritesBoth}
use Rattle.pt_cases.specs.Targets.{AreLabelTargets, AreMbrTargets, HasTwoOfOne, HasEbrs, HasLoneChain}
use Rattle.pt_cases.specs.declared.targets.target.Target.{Target}
use Rattle.pt_cases.proofs.Each.{place, none_share, labels_cover, one_each}

-- each extended boot record has a target
ebrs_cover : {b : ℕ} (d : Sectors) (old : List Ebr) (first : ℕ) (es : List Ebr) (ts : List (Target b)) → HasEbrs d old first es ts
    → Covers place ts (chain_sectors es)
ebrs_cover d old first [] ts is s has = absurd (omega (arith, has.1))
ebrs_cover d old first (e ∷ es) ts is s (zero, lt, at) = (is.0.0, is.0.1, is.0.2 ∙ at)
ebrs_cover d old first (e ∷ es) ts is s (suc k, lt, at) = ebrs_cover d old first es ts is.1 s (k, omega (arith, lt), at)

chain_covers : {b : ℕ} (d : Sectors) (old : List Ebr) (n : ℕ) (rs : List Record) (chain : List Ebr) (ts : List (Target b))
    → IsLoneChain n rs chain → HasLoneChain d old rs chain ts → Covers place ts (chain_sectors chain)
chain_covers d old n [] chain ts linked is =
    subst (λ (c : List Ebr). Covers place ts (chain_sectors c)) (sym linked) (λ s has. absurd (omega (arith, has.1)))
chain_covers d old n (r ∷ rs) chain ts linked is = ebrs_cover d old (extent_of r).first chain ts is

-- one sector before others
covers_first : {b : ℕ} (y : ℕ) (ys : List ℕ) (ts : List (Target b)) → (t : Target b) → Contains ts t → place t ≡ y → Covers place ts ys
    → Covers place ts (y ∷ ys)
covers_first y ys ts t has same covers s (zero, lt, at) = (t, has, same ∙ at)
covers_first y ys ts t has same covers s (suc k, lt, at) = covers s (k, omega (arith, lt), at)

-- some targets and others
covers_both : {b : ℕ} (xs ys : List ℕ) (ts us : List (Target b)) → Covers place ts xs → Covers place us ys
    → Covers place (ts ++ us) (xs ++ ys)
covers_both xs ys ts us first second s has =
    elim (Contains-append_cases xs ys s has) as (λ _. (t : Target _) × Contains (ts ++ us) t × (place t ≡ s)) [
      | inl here ↦ (let t = first s here in (t.0, Contains-append_left ts us t.0 t.1, t.2))
      | inr there ↦ (let t = second s there in (t.0, Contains-append_right ts us t.0 t.1, t.2))
    ]

module _ (b : ℕ) (d : Sectors) (o : Option Layout) (p : Layout) (shaped : Shaped b p) (sound : Sound b p) where
  abbrev places : List Slice
  places = places_of b p.sectors p.body

  labels_apart : (ts : List (Target b)) → AreLabelTargets d o p ts → ¬ HasTwoOfOne ts
  labels_apart ts are = one_each b d o p (fits_four b p.sectors p.body shaped.body) sound ts are

  -- the targets of sector 0 and of the chain with those of the label places
  mbr_apart : (old_records records : List (Option Record)) (old chain : List Ebr) (heads labels : List (Target b))
      → p.body ≡ Mbr records chain
      → AreMbrTargets d old_records old records chain heads → AreLabelTargets d o p labels → ¬ HasTwoOfOne (heads ++ labels)
  mbr_apart old_records records old chain heads labels is are_heads are_labels =
      let own : AllDiffer (own_sectors b p.sectors (Mbr records chain)) =
      subst (λ (y : Body). AllDiffer (own_sectors b p.sectors y)) is (own_differ_lem b p shaped sound) in
      let same : places_of b p.sectors (Mbr records chain) ≡ places = ap (λ (y : Body). places_of b p.sectors y) (sym is) in
      let differ : AllDiffer (0 ∷ (chain_sectors chain ++ label_sectors places)) =
      subst (λ (ws : List Slice). AllDiffer (0 ∷ (chain_sectors chain ++ label_sectors ws))) same own in
      let linked = chain_is_linked_lem b p records chain shaped sound is in
      let ebrs = chain_covers d old p.sectors (extended_of records) chain heads linked are_heads.ebrs in
      let first = covers_first 0 (chain_sectors chain) heads are_heads.head.target are_heads.head.contains are_heads.head.at ebrs in
      let others = labels_cover d o labels places p.labels are_labels.has in
      let covers = covers_both (0 ∷ chain_sectors chain) (label_sectors places) heads labels first others in
      let many : length (heads ++ labels) ≡ length (0 ∷ (chain_sectors chain ++ label_sectors places)) = omega (
        arith,
        length-append heads labels,
        are_heads.count,
        are_labels.count,
        length-append (chain_sectors chain) (label_sectors places),
        length-map chain (λ (e : Ebr). e.at.0),
        length-map places (λ (w : Slice). place_of w),
      ) in
      none_share (0 ∷ (chain_sectors chain ++ label_sectors places)) (heads ++ labels) differ covers many

  targets_apart : (y : Body) (ts : List (Target b)) → p.body ≡ y → TargetsIn b d o p y ts → ¬ HasTwoOfOne ts
  targets_apart (Gpt t) ts is are two = labels_apart ts are.1 two
  targets_apart (Mbr records chain) ts is (was, heads, labels, are_heads, are_labels, same) two =
      mbr_apart was.records records was.chain chain heads labels is are_heads are_labels
      (subst (λ (us : List (Target b)). HasTwoOfOne us) same two)

  all_apart : (ts : List (Target b)) → TargetsOf b d o p ts ⊎ (WritesBoth o p × AreLabelTargets d o p ts) → ¬ HasTwoOfOne ts
  all_apart ts (inl are) = targets_apart p.body ts refl are
  all_apart ts (inr are) = labels_apart ts are.1

-- so the layout has no two targets of one sector
pub edit_apart : (b : ℕ) (d : Sectors) (o : Option Layout) (p : Layout) → IsSectorSize b → Denotes b d o → Keeps b (length d) o p
    → Sound b p → ¬ SharesSector b d o p
edit_apart b d o p size from keeps sound shares = all_apart b d o p keeps.shaped sound shares.0 shares.1 shares.2

-- The targets of a chain, one after another.
use Rattle.std.proofs.Common.{◌≡◌, ℕ, zero, suc, ◌+◌, ◌-◌, ◌<◌, ◌≤◌, ◌⊎◌, List, [], ◌∷◌, ◌++◌, length, get_or, take, drop, refl, sym, ap}
use Rattle.std.proofs.Common.{subst, ◌∙◌, arith, inl, inr, length-append}
use Rattle.std.specs.Prelude.{Contains}
use Rattle.std.proofs.lemmas.List.{drop_all, take_all, length-drop}
use Rattle.std.proofs.lemmas.List.Elements.{Contains-append_left, Contains-push, Contains-push_cases}
use Rattle.pt_sector.specs.Overlays.{FailedIn}
use Rattle.pt_sector.proofs.ReadsLemmas.{failed_more}
use Rattle.pt_sector.specs.Sectors.{Sectors, sector}
use Rattle.pt_sector.specs.declared.reading.Failure.{Failure}
use Rattle.pt_mbr.specs.Chain.{StandsAt}
use Rattle.pt_mbr.specs.declared.ebr.Ebr.{Ebr}
use Rattle.pt_cases.specs.Writes.{link_to, IsEbrTarget}
use Rattle.pt_cases.specs.Targets.{HasEbrs}
use Rattle.pt_cases.specs.declared.targets.target.Target.{Target}
use Rattle.pt_planner.specs.inner.Places.{IsEbrOf, AreChainTargets}
use Rattle.pt_cases.specs.Unplanned.{HasUnmadeEbr, IsUnmadeEbr}
use Rattle.pt_planner.proofs.Linking.{opened}

-- one of them stands where it stands
pub stands_here : (s : ℕ) (chain : List Ebr) (k : ℕ) (z : Ebr) → k < length chain → s ≡ (get_or chain k z).at.0 → StandsAt s chain
stands_here s [] k z lt at = absurd (omega (arith, lt))
stands_here s (e ∷ es) zero z lt at = inl at
stands_here s (e ∷ es) (suc k) z lt at = inr (stands_here s es k z (omega (arith, lt)) at)

-- where the read of one of them failed
pub ebr_failed : (chain : List Ebr) (k : ℕ) (z : Ebr) (e : Failure) → k < length chain
    → FailedIn (λ s. s ≡ (get_or chain k z).at.0) e → FailedIn (λ s. StandsAt s chain) e
ebr_failed chain k z e lt =
    failed_more (λ s. s ≡ (get_or chain k z).at.0) (λ s. StandsAt s chain) e (λ s at. stands_here s chain k z lt at)

-- none stands there before a place
pub stands_later : (s : ℕ) (chain : List Ebr) (k : ℕ) (z : Ebr) → k < length chain → ¬ (s ≡ (get_or chain k z).at.0)
    → (StandsAt s chain → StandsAt s (drop k chain)) → StandsAt s chain → StandsAt s (drop (k + 1) chain)
stands_later s chain k z lt other before at =
    split (subst (λ (l : List Ebr). StandsAt s l) (opened chain k z (get_or chain k z) lt refl) (before at)) where
      split : StandsAt s (get_or chain k z ∷ drop (k + 1) chain) → StandsAt s (drop (k + 1) chain)
      split (inl here) = absurd (other here)
      split (inr later) = later

pub stands_nowhere : (s : ℕ) (chain : List Ebr) (k : ℕ) → length chain ≤ k → (StandsAt s chain → StandsAt s (drop k chain))
    → ¬ StandsAt s chain
stands_nowhere s chain k past before at = subst (λ (l : List Ebr). StandsAt s l) (drop_all k chain past) (before at)

-- what is left behind place k
pub rest_of : (chain : List Ebr) (k : ℕ) → take (length chain - (k + 1)) (drop (k + 1) chain) ≡ drop (k + 1) chain
rest_of chain k = take_all (length chain - (k + 1)) (drop (k + 1) chain) (let e = length-drop (k + 1) chain in omega (arith, e))

-- one that no bytes would do for
pub unmade_at : (b : ℕ) (d : Sectors) (old : List Ebr) (first : ℕ) (chain : List Ebr) (k : ℕ) (z : Ebr) (rest : List Ebr)
    → k < length chain → rest ≡ drop (k + 1) chain
    → IsUnmadeEbr b d old first (get_or chain k z) rest → HasUnmadeEbr b d old first chain
unmade_at b d old first [] k z rest lt behind unmade = absurd (omega (arith, lt))
unmade_at b d old first (e ∷ es) zero z rest lt behind unmade = inl (subst (λ (l : List Ebr). IsUnmadeEbr b d old first e l) behind unmade)
unmade_at b d old first (e ∷ es) (suc k) z rest lt behind unmade =
    let on : suc k + 1 ≡ suc (k + 1) = omega arith in
    inr (unmade_at b d old first es k z rest (omega (arith, lt)) (behind ∙ ap (λ (n : ℕ). drop n (e ∷ es)) on) unmade)

-- the targets of the first k, behind that of sector 0
pub record IsBegun {b : _} (d : Sectors) (head : Target b) (old : List Ebr) (first : ℕ) (chain : List Ebr) (k : ℕ)
    (ts : List (Target b)) : Type 0 where
  pub start : Contains ts head
  pub ebrs : (more : List (Target b)) → ((t : Target b) → Contains ts t → Contains more t) → HasEbrs d old first (drop k chain) more
      → HasEbrs d old first chain more
  pub each : (t : Target b) → Contains ts t → (t ≡ head) ⊎ ((t.under ≡ sector d t.at.0) × StandsAt t.at.0 chain)
  pub count : length ts ≡ 1 + k

pub begun_start : (b : ℕ) (d : Sectors) (head : Target b) (old : List Ebr) (first : ℕ) (chain : List Ebr) (ts : List (Target b))
    → ts ≡ [] ++ head ∷ [] → IsBegun d head old first chain 0 ts
begun_start b d head old first chain ts is = subst (λ (l : List (Target b)). IsBegun d head old first chain 0 l) (sym is) record {
  start = Contains-push [] head;
  ebrs = λ more all rest. rest;
  each = λ t at. elim (Contains-push_cases [] head t at) [ inl none ↦ absurd (omega (arith, none.1)) | inr same ↦ inl (sym same) ];
  count = refl;
}

pub begun_more : (b : ℕ) (d : Sectors) (head : Target b) (old : List Ebr) (first : ℕ) (chain : List Ebr) (k : ℕ) (z : Ebr)
    (rest : List Ebr) (ts : List (Target b)) (t : Target b) (new : List (Target b))
    → k < length chain → rest ≡ drop (k + 1) chain → IsBegun d head old first chain k ts → IsEbrOf d old first (get_or chain k z) rest t
    → new ≡ ts ++ t ∷ [] → IsBegun d head old first chain (k + 1) new
begun_more b d head old first chain k z rest ts t new lt behind begun is pushed =
    subst (λ (l : List (Target b)). IsBegun d head old first chain (k + 1) l) (sym pushed) record {
      start = Contains-append_left ts (t ∷ []) head begun.start;
      ebrs = λ more all later. begun.ebrs more (λ u at. all u (Contains-append_left ts (t ∷ []) u at))
          (has more (all t (Contains-push ts t)) later);
      each = λ u at. elim (Contains-push_cases ts t u at) [ inl before ↦ begun.each u before | inr same ↦ inr (told u (sym same)) ];
      count = length-append ts (t ∷ []) ∙ (let c = begun.count in omega (arith, c));
    } where
      told : (u : Target b) → u ≡ t → (u.under ≡ sector d u.at.0) × StandsAt u.at.0 chain
      told u same =
          subst (λ (v : Target b). (v.under ≡ sector d v.at.0) × StandsAt v.at.0 chain) (sym same)
          (is.under ∙ ap (λ (n : ℕ). sector d n) (sym is.at), stands_here t.at.0 chain k z lt is.at)

      has : (more : List (Target b)) → Contains more t → HasEbrs d old first (drop (k + 1) chain) more
          → HasEbrs d old first (drop k chain) more
      has more at later =
          subst (λ (l : List Ebr). HasEbrs d old first l more) (sym (opened chain k z (get_or chain k z) lt refl)) (
            (
              t,
              at,
              is.at,
              is.under,
              subst (λ (l : List Ebr). IsEbrTarget b d old first (get_or chain k z) (link_to first l) t.bytes) behind is.is,
            ),
            later,
          )

pub begun_end : (b : ℕ) (d : Sectors) (head : Target b) (old : List Ebr) (first : ℕ) (chain : List Ebr) (k : ℕ) (ts : List (Target b))
    → length chain ≤ k → k ≤ length chain
    → IsBegun d head old first chain k ts → AreChainTargets d head old first chain ts
begun_end b d head old first chain k ts past within begun = record {
  start = begun.start;
  ebrs = begun.ebrs ts (λ t at. at) (subst (λ (l : List Ebr). HasEbrs d old first l ts) (sym (drop_all k chain past)) tt);
  each = begun.each;
  count = (let c = begun.count in omega (arith, c, past, within));
}

-- where the targets stand
abbrev pub Placed : {b : _} → ℕ → List Ebr → List (Target b) → Type 0
Placed {b = b} head chain ts = (t : Target b) → Contains ts t → (t.at.0 ≡ head) ⊎ StandsAt t.at.0 chain

pub placed_start : (b : ℕ) (head : Target b) (chain : List Ebr) (ts : List (Target b)) → ts ≡ [] ++ head ∷ [] → Placed head.at.0 chain ts
placed_start b head chain ts is t at = elim (Contains-push_cases [] head t (subst (λ (l : List (Target b)). Contains l t) is at)) [
  | inl none ↦ absurd (omega (arith, none.1))
  | inr same ↦ inl (ap (λ (u : Target b). u.at.0) (sym same))
]

pub placed_more : (b head : ℕ) (chain : List Ebr) (k : ℕ) (z : Ebr) (ts : List (Target b)) (t : Target b) (new : List (Target b))
    → k < length chain → Placed head chain ts → t.at.0 ≡ (get_or chain k z).at.0 → new ≡ ts ++ t ∷ [] → Placed head chain new
placed_more b head chain k z ts t new lt placed at pushed u there =
    elim (Contains-push_cases ts t u (subst (λ (l : List (Target b)). Contains l u) pushed there)) [
      | inl before ↦ placed u before
      | inr same ↦ inr (stands_here u.at.0 chain k z lt (ap (λ (v : Target b). v.at.0) (sym same) ∙ at))
    ]

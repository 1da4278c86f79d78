-- Lemmas on specs/Keeps.antt: the sectors that a shaped and sound layout's records and labels stand in are different ones.
use Rattle.std.specs.Prelude.{◌≡◌, ◌⊎◌, ◌≤◌, ◌+◌, ◌++◌, ◌∷◌, [], ℕ, zero, suc, List, Contains, map}
use Rattle.std.proofs.Common.{refl, sym, ap, subst, arith, inl, inr}
use Rattle.std.proofs.lemmas.List.Elements.{Contains-append_cases}
use Rattle.pt_mbr.specs.Chain.{StandsAt}
use Rattle.pt_mbr.specs.declared.ebr.Ebr.{Ebr}
use Rattle.pt_members.specs.Members.{slices_of, places_of, place_of, IsPlace}
use Rattle.pt_members.specs.declared.layout.Slice.{Slice}
use Rattle.pt_members.specs.declared.layout.Layout.{Layout}
use Rattle.pt_members.specs.declared.layout.Body.{Body}
use Rattle.pt_members.specs.declared.layout.Body.TheVariants.{Mbr, Gpt}
use Rattle.pt_members.specs.Tables.{HasFour, IsEbr}
use Rattle.pt_layout.specs.Sound.{Sound}
use Rattle.pt_members.proofs.Grouped.{contains_head, contains_tail}
use Rattle.pt_cases.specs.Writes.{Shaped, NumbersAscend, Climbs}
use Rattle.pt_cases.proofs.LabelPlaces.{place_slice_lem, places_apart_lem, ebr_no_place_lem}
use Rattle.pt_cases.proofs.Stands.{ebr_lies_lem}
use Rattle.pt_cases.proofs.Ascending.{places_ascend_lem, fits_four}
use Rattle.pt_cases.proofs.Links.{chain_climbs_lem}
use Rattle.pt_cases.specs.Keeps.{AllDiffer, label_sectors, chain_sectors, own_sectors}

cases : {X : Type 0} (x y : X) (xs : List X) → Contains (x ∷ xs) y → (x ≡ y) ⊎ Contains xs y
cases x y xs (zero, lt, at) = inl at
cases x y xs (suc k, lt, at) = inr (k, omega (arith, lt), at)

-- whose sector one is
from_map : {X : Type 0} (f : X → ℕ) (xs : List X) (s : ℕ) → Contains (map f xs) s → (x : X) × Contains xs x × (f x ≡ s)
from_map f [] s (k, lt, at) = absurd (omega (arith, lt))
from_map f (x ∷ xs) s (zero, lt, at) = (x, contains_head x xs, at)
from_map f (x ∷ xs) s (suc k, lt, at) = (let h = from_map f xs s (k, omega (arith, lt), at) in (h.0, contains_tail x xs h.0 h.1, h.2))

label_place : (ws : List Slice) (s : ℕ) → Contains (label_sectors ws) s → IsPlace ws s
label_place [] s (k, lt, at) = absurd (omega (arith, lt))
label_place (w ∷ ws) s (zero, lt, at) = inl (sym at)
label_place (w ∷ ws) s (suc k, lt, at) = inr (label_place ws s (k, omega (arith, lt), at))

chain_place : (chain : List Ebr) (s : ℕ) → Contains (chain_sectors chain) s → StandsAt s chain
chain_place [] s (k, lt, at) = absurd (omega (arith, lt))
chain_place (e ∷ es) s (zero, lt, at) = inl (sym at)
chain_place (e ∷ es) s (suc k, lt, at) = inr (chain_place es s (k, omega (arith, lt), at))

-- slices that ascend have other numbers behind them
above_all : (low : ℕ) (ws : List Slice) (w : Slice) → NumbersAscend low ws → Contains ws w → low ≤ w.number
above_all low [] w up (k, lt, at) = absurd (omega (arith, lt))
above_all low (v ∷ ws) w up (zero, lt, at) = (let same : v.number ≡ w.number = ap (λ (x : Slice). x.number) at in omega (arith, up.0, same))
above_all low (v ∷ ws) w up (suc k, lt, at) =
    (let more = above_all (v.number + 1) ws w up.1 (k, omega (arith, lt), at) in omega (arith, up.0, more))

labels_differ : (b : ℕ) (o : Layout) (low : ℕ) (ws : List Slice) → Sound b o → NumbersAscend low ws
    → ((w : Slice) → Contains ws w → Contains (slices_of b o.body) w) → AllDiffer (label_sectors ws)
labels_differ b o low [] sound up each = tt
labels_differ b o low (w ∷ ws) sound up each = (
  λ has. (
      let h = from_map (λ (v : Slice). place_of v) ws (place_of w) has in
      let same = places_apart_lem b o w h.0 sound (each w (contains_head w ws)) (each h.0 (contains_tail w ws h.0 h.1)) (sym h.2) in
      let number : w.number ≡ h.0.number = ap (λ (v : Slice). v.number) same in
      let above = above_all (w.number + 1) ws h.0 up.1 h.1 in
      omega (arith, number, above)
      ),
  labels_differ b o (w.number + 1) ws sound up.1 (λ v has. each v (contains_tail w ws v has)),
)

-- in a sound layout the label places are different sectors
pub labels_differ_lem : (b : ℕ) (o : Layout) → HasFour o.body → Sound b o → AllDiffer (label_sectors (places_of b o.sectors o.body))
labels_differ_lem b o four sound =
    labels_differ b o 1 (places_of b o.sectors o.body) sound (places_ascend_lem b o.sectors o.body four)
    (λ w has. (place_slice_lem b o.sectors o.body w has).0)

climbs_above : (low : ℕ) (chain : List Ebr) (s : ℕ) → Climbs low chain → StandsAt s chain → low ≤ s
climbs_above low [] s up at = absurd at
climbs_above low (e ∷ es) s up (inl here) = omega (arith, up.0, here)
climbs_above low (e ∷ es) s up (inr there) = (let more = climbs_above (e.at.0 + 1) es s up.1 there in omega (arith, up.0, more))

-- those of a chain that climbs, and others
chain_differs : (low : ℕ) (chain : List Ebr) (more : List ℕ) → Climbs low chain → AllDiffer more
    → ((s : ℕ) → StandsAt s chain → ¬ Contains more s) → AllDiffer (chain_sectors chain ++ more)
chain_differs low [] more up differ apart = differ
chain_differs low (e ∷ es) more up differ apart = (
  λ has. (elim (Contains-append_cases (chain_sectors es) more e.at.0 has) as (λ _. ⊥) [
    | inl there ↦ (let above = climbs_above (e.at.0 + 1) es e.at.0 up.1 (chain_place es e.at.0 there) in omega (arith, above))
    | inr other ↦ apart e.at.0 (inl refl) other
  ]),
  chain_differs (e.at.0 + 1) es more up.1 differ (λ s at. apart s (inr at)),
)

own_differ : (b : ℕ) (o : Layout) (y : Body) → o.body ≡ y → Shaped b o → Sound b o → AllDiffer (own_sectors b o.sectors y)
own_differ b o (Gpt t) is shaped sound =
    subst (λ (z : Body). AllDiffer (label_sectors (places_of b o.sectors z))) is
    (labels_differ_lem b o (fits_four b o.sectors o.body shaped.body) sound)
own_differ b o (Mbr rs chain) is shaped sound =
    let labels : List ℕ = label_sectors (places_of b o.sectors (Mbr rs chain)) in
    let differ : AllDiffer labels =
    subst (λ (z : Body). AllDiffer (label_sectors (places_of b o.sectors z))) is
    (labels_differ_lem b o (fits_four b o.sectors o.body shaped.body) sound) in
    let ebr : (s : ℕ) → StandsAt s chain → IsEbr o.body s = λ s at. subst (λ (z : Body). IsEbr z s) (sym is) at in
    let place : (s : ℕ) → Contains labels s → IsPlace (places_of b o.sectors o.body) s =
    λ s has. subst (λ (z : Body). IsPlace (places_of b o.sectors z) s) (sym is)
    (label_place (places_of b o.sectors (Mbr rs chain)) s has) in (
      λ has. (elim (Contains-append_cases (chain_sectors chain) labels 0 has) as (λ _. ⊥) [
        | inl there ↦ (let lies = ebr_lies_lem b o 0 shaped sound (ebr 0 (chain_place chain 0 there)) in omega (arith, lies.0))
        | inr other ↦ (let h = from_map (λ (w : Slice). place_of w) (places_of b o.sectors (Mbr rs chain)) 0 other in omega (arith, h.2))
      ]),
      chain_differs 0 chain labels (chain_climbs_lem b o rs chain shaped is) differ
          (λ s at has. ebr_no_place_lem b o s sound (ebr s at) (place s has)),
    )

-- sector 0, the extended boot records and the label places are different sectors
pub own_differ_lem : (b : ℕ) (o : Layout) → Shaped b o → Sound b o → AllDiffer (own_sectors b o.sectors o.body)
own_differ_lem b o shaped sound = own_differ b o o.body refl shaped sound

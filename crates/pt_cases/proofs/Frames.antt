-- What writes leave standing.
use Rattle.std.proofs.Common.{◌≡◌, ◌∙◌, inl, inr, ⊎_elim, ℕ, zero, suc, ◌<◌, List, [], ◌∷◌, length, cond, ◌==◌, refl, sym, ap, subst}
use Rattle.std.proofs.Common.{arith, Some}
use Rattle.std.specs.Prelude.{Contains}
use Rattle.std.proofs.lemmas.Grind.{common_steps}
use Rattle.std.proofs.lemmas.Bool.Decides.{nat_tests}
use Rattle.pt_sector.specs.Sectors.{Sectors, sector, Writes, Puts, written, sector_at, IsAscending}
use Rattle.pt_sector.specs.inner.Sectors.{value_after}
use Rattle.pt_sector.proofs.Written.{agrees_written, sector-written, value_after_or}
use Rattle.pt_bsd.specs.Labels.{LabelBytes, HasMagic}
use Rattle.pt_gpt.specs.Copies.{CopyWith, SideReads, SameSide, HasRoom}
use Rattle.pt_gpt.proofs.Terms.{side_reads_decide_lem}
use Rattle.pt_gpt.specs.declared.header.Header.{Header}
use Rattle.pt_gpt.specs.declared.table.Table.{Table}
use Rattle.pt_gpt.specs.declared.table.Side.{Side}
use Rattle.pt_recover.specs.Denotes.{Denotes, BodyIs, TableIs, IsMbrDisk, IsMbrSector, LabelsAre}
use Rattle.pt_members.specs.Members.{places_of, place_of, IsPlace}
use Rattle.pt_members.specs.declared.layout.Body.TheVariants.{Gpt}
use Rattle.pt_members.specs.declared.layout.Labelled.{Labelled}
use Rattle.pt_members.specs.declared.layout.Layout.{Layout}
use Rattle.pt_members.specs.declared.layout.Slice.{Slice}
use Rattle.pt_layout.specs.Healthy.{HasForeign}
use Rattle.pt_cases.specs.Writes.{one_write}

-- what stands at each place is its label, or nothing that looks like one
abbrev pub LabelsRight : ℕ → Sectors → Layout → Type 0
LabelsRight b c p = LabelsAre c (places_of b p.sectors p.body) p.labels × ((n : ℕ) → ¬ HasForeign b c p n)

-- writes that miss a sector leave it
pub misses : (c : Sectors) (ws : Writes) (s : ℕ) → ((v : List ℕ) → ¬ Puts ws s v) → sector (written ws c) s ≡ sector c s
misses c ws s never = (agrees_written (λ j. j ≡ s) c ws (λ j v is puts. never v (subst (λ (x : ℕ). Puts ws x v) is puts))).each s refl

pub there_one : (c : Sectors) (k : ℕ) (v : List ℕ) → k < length c → sector (written ((k, v) ∷ []) c) k ≡ v
there_one c k v lt = grind (arith, common_steps, nat_tests)

pub one_is : (k s : ℕ) (v x : List ℕ) → Puts (one_write k v) s x → s ≡ k
one_is k s v x puts = ⊎_elim (λ put. sym put.0) (λ none. absurd none) puts

pub one_end : (c : Sectors) (k s : ℕ) (v x : List ℕ) → s < length c → Puts (one_write k v) s x → sector (written (one_write k v) c) s ≡ x
one_end c k s v x lt puts = ⊎_elim
    (λ put. subst (λ (j : ℕ). sector (written (one_write k v) c) j ≡ x) put.0 (there_one c k v (omega (arith, lt, put.0)) ∙ put.1))
    (λ nothing. absurd nothing)
    puts

-- ascending writes have one value a sector, and the disk comes to hold it
pub puts_at : (ws : Writes) (s : ℕ) (v : List ℕ) → Puts ws s v → (i : ℕ) × (i < length ws) × (sector_at ws i ≡ s)
puts_at [] s v puts = absurd puts
puts_at (w ∷ ws) s v (inl here) = (0, omega arith, here.0)
puts_at (w ∷ ws) s v (inr there) = let at = puts_at ws s v there in (suc at.0, omega (arith, at.1), at.2)

pub rises_in_tail : (w : ℕ × List ℕ) (ws : Writes) → IsAscending (w ∷ ws) → IsAscending ws
rises_in_tail w ws rises i j lt in_range = rises (suc i) (suc j) (omega (arith, lt)) (omega (arith, in_range))

first_alone : (w : ℕ × List ℕ) (ws : Writes) (s : ℕ) (v : List ℕ) → IsAscending (w ∷ ws) → w.0 ≡ s → ¬ Puts ws s v
first_alone w ws s v rises here puts =
    let at = puts_at ws s v puts in
    let less = rises 0 (suc at.0) (omega arith) (omega (arith, at.1)) in
    omega (arith, at.2, here, less)

value_kept : (ws : Writes) (s : ℕ) (x : List ℕ) → ((v : List ℕ) → ¬ Puts ws s v) → value_after ws s x ≡ x
value_kept ws s x never = ⊎_elim (λ same. same) (λ puts. absurd (never (value_after ws s x) puts)) (value_after_or ws s x)

value_put : (ws : Writes) (s : ℕ) (v x : List ℕ) → IsAscending ws → Puts ws s v → value_after ws s x ≡ v
value_put [] s v x rises puts = absurd puts
value_put (w ∷ ws) s v x rises (inl here) =
    let at : w.0 ≡ s = here.0 in
    let on : cond (w.0 == s) w.1 x ≡ w.1 = grind (arith, nat_tests) in
    ap (value_after ws s) on ∙ value_kept ws s w.1 (λ y. first_alone w ws s y rises at) ∙ here.1
value_put (w ∷ ws) s v x rises (inr there) = value_put ws s v (cond (w.0 == s) w.1 x) (rises_in_tail w ws rises) there

pub put_there : (ws : Writes) (c : Sectors) (s : ℕ) (v : List ℕ) → IsAscending ws → s < length c → Puts ws s v → sector (written ws c) s ≡ v
put_there ws c s v rises lt puts = sector-written ws c s lt ∙ value_put ws s v (sector c s) rises puts

-- a side stands where nothing that decides it is written
pub side_stands : (b : ℕ) (c : Sectors) (ws : Writes) (side : Side) (h : Header) (t : Table)
    → ((s : ℕ) (v : List ℕ) → Puts ws s v → ¬ SideReads b c side s) → CopyWith b c side h t → CopyWith b (written ws c) side h t
side_stands b c ws side h t clear is =
    let same : SameSide b side (written ws c) c =
    side_reads_decide_lem b side (written ws c) c (agrees_written (SideReads b c side) c ws (λ s v reads puts. clear s v puts reads)) in
    (same.tables h t).1 is

-- labels at the same places, of the same bytes
pub labels_stand : (c e : Sectors) (ps : List Slice) (labels : List Labelled) → ((s : ℕ) → IsPlace ps s → sector e s ≡ sector c s)
    → LabelsAre c ps labels → LabelsAre e ps labels
labels_stand c e [] labels same are = are
labels_stand c e (p ∷ ps) labels same (inl here) =
    inl (
      here.0,
      here.1,
      here.2,
      subst (λ (x : List ℕ). LabelBytes here.0 p.first p.len x) (sym (same (place_of p) (inl refl))) here.3,
      labels_stand c e ps here.1 (λ s at. same s (inr at)) here.4,
    )
labels_stand c e (p ∷ ps) labels same (inr without) =
    inr (
      λ has. without.0 (has.0, subst (λ (x : List ℕ). LabelBytes has.0 p.first p.len x) (same (place_of p) (inl refl)) has.1),
      labels_stand c e ps labels (λ s at. same s (inr at)) without.1,
    )

pub is_place : (ps : List Slice) (p : Slice) → Contains ps p → IsPlace ps (place_of p)
is_place [] p (k, lt, at) = absurd (omega (arith, lt))
is_place (q ∷ ps) p (zero, lt, at) = inl (ap place_of (sym at))
is_place (q ∷ ps) p (suc k, lt, at) = inr (is_place ps p (k, omega (arith, lt), at))

pub foreign_back : (b : ℕ) (c e : Sectors) (p : Layout) (n : ℕ)
    → ((s : ℕ) → IsPlace (places_of b p.sectors p.body) s → sector e s ≡ sector c s) → HasForeign b e p n → HasForeign b c p n
foreign_back b c e p n same f =
    let at : sector e (place_of f.slice) ≡ sector c (place_of f.slice) =
    same (place_of f.slice) (is_place (places_of b p.sectors p.body) f.slice f.stands) in
    record {
      slice = f.slice;
      stands = f.stands;
      number = f.number;
      foreign = (
        subst HasMagic at f.foreign.0,
        λ has. f.foreign.1 (has.0, subst (λ (x : List ℕ). LabelBytes has.0 f.slice.first f.slice.len x) (sym at) has.1),
      );
    }

-- labels stand where no place is written
pub labels_right : (b : ℕ) (c : Sectors) (p : Layout) (ws : Writes)
    → ((s : ℕ) (v : List ℕ) → Puts ws s v → ¬ IsPlace (places_of b p.sectors p.body) s) → LabelsRight b c p
    → LabelsRight b (written ws c) p
labels_right b c p ws clear is =
    let same : (s : ℕ) → IsPlace (places_of b p.sectors p.body) s → sector (written ws c) s ≡ sector c s =
    λ s at. misses c ws s (λ v puts. clear s v puts at) in (
      labels_stand c (written ws c) (places_of b p.sectors p.body) p.labels same is.0,
      λ n f. is.1 n (foreign_back b c (written ws c) p n same f),
    )

pub not_mbr : (c e : Sectors) → length e ≡ length c → sector e 0 ≡ sector c 0 → ¬ IsMbrDisk c → ¬ IsMbrDisk e
not_mbr c e count same isnt is = isnt (subst (λ (n : ℕ). 0 < n) count is.0, subst IsMbrSector same is.1)

pub denotes_gpt : (b : ℕ) (c : Sectors) (p : Layout) (t : Table) → p.body ≡ Gpt t → p.sectors ≡ length c → ¬ IsMbrDisk c
    → HasRoom b (length c) → TableIs b c t → LabelsRight b c p → Denotes b c (Some p)
denotes_gpt b c p t body sectors isnt room table labels = (
  sectors,
  subst (BodyIs b c) (sym body) (let gpt : BodyIs b c (Gpt t) = (isnt, room, table) in gpt),
  subst (λ (n : ℕ). LabelsAre c (places_of b n p.body) p.labels) sectors labels.0,
)

-- What edits of an MBR keep.
use Rattle.std.specs.Prelude.{◌≡◌, ◌<◌, ◌≤◌, ◌⊎◌, ◌+◌, ◌∷◌, [], ℕ, zero, suc, List, map, take, length, slice_index_or, slice_set, Option}
use Rattle.std.specs.Prelude.{Some, None, Contains, is_some, if◌then◌else◌}
use Rattle.std.proofs.Common.{refl, sym, ap, subst, ◌∙◌, inl, inr, arith}
use Rattle.std.proofs.lemmas.List.{length-set}
use Rattle.std.proofs.lemmas.List.Sums.{sum_by-cons}
use Rattle.pt_sector.specs.Sectors.{Span}
use Rattle.pt_sector.specs.declared.address.Lba.{Lba}
use Rattle.pt_mbr.specs.Chain.{IsUpward, lba}
use Rattle.pt_mbr.specs.declared.record.Record.{Record}
use Rattle.pt_mbr.specs.declared.ebr.Ebr.{Ebr}
use Rattle.pt_mbr.specs.Records.{extended_of, extent_of}
use Rattle.pt_members.proofs.SliceListsLemmas.{next_number}
use Rattle.pt_members.specs.Members.{slices_of, used_before, label_of}
use Rattle.pt_members.specs.declared.layout.Slice.{Slice}
use Rattle.pt_members.specs.declared.layout.Labelled.{Labelled}
use Rattle.pt_members.specs.declared.layout.Layout.{Layout}
use Rattle.pt_members.specs.declared.layout.Body.{Body}
use Rattle.pt_members.specs.declared.layout.Body.TheVariants.{Mbr}
use Rattle.pt_cases.specs.Writes.{FitsLogical, Linked, FitsChain, FitsExtended, FitsMbr, FitsBody, AreLabelsOf, Shaped}
use Rattle.pt_cases.specs.Keeps.{LabelStays, IsOldLabel, IsNewLabel, IsRetyped, IsMadeRecord, IsMadeLogical, IsMbrBody, Keeps, records_in}
use Rattle.pt_cases.specs.Keeps.{chain_in}
use Rattle.pt_cases.proofs.Terms.{label_stays_refl_lem}
use Rattle.pt_kept.proofs.Lists.{contains_cases, contains_later}
use Rattle.pt_kept.proofs.Chain.{number_by, next_of}

-- an MBR with these records, this chain and these labels
abbrev pub mbr_of : Layout → List (Option Record) → List Ebr → List Labelled → Layout
mbr_of o rs chain ls = record { sectors = o.sectors; body = Mbr rs chain; labels = ls }

-- a record of the old records, perhaps with another type
abbrev pub WasRecord : List (Option Record) → ℕ → Record → Type 0
WasRecord rs k r = (old : Record) × (slice_index_or rs k None ≡ Some old) × IsRetyped old r

-- a logical partition of the old chain in the same sector, perhaps with another type
abbrev pub WasLogical : List Ebr → Ebr → Record → Type 0
WasLogical chain e r = (was : Ebr) × (old : Record) × Contains chain was × (was.at ≡ e.at) × (was.logical ≡ Some old) × IsRetyped old r

-- an MBR keeps of another what its labels, its records and its logical partitions do
pub keeps_mbr : (b : ℕ) (o : Layout) (rs : List (Option Record)) (chain : List Ebr) (new : List (Option Record)) (made : List Ebr)
    (ls : List Labelled) → o.body ≡ Mbr rs chain → FitsMbr new made
    → AreLabelsOf (slices_of b (Mbr new made)) ls
    → ((s : Slice) → Contains (slices_of b (Mbr new made)) s → IsOldLabel b (Some o) s (label_of ls s.number)
    ⊎ IsNewLabel s (label_of ls s.number))
    → ((k : ℕ) (r : Record) → slice_index_or new k None ≡ Some r → WasRecord rs k r ⊎ IsMadeRecord r)
    → ((e : Ebr) (r : Record) → Contains made e → e.logical ≡ Some r → WasLogical chain e r ⊎ IsMadeLogical r)
    → Keeps b o.sectors (Some o) (mbr_of o new made ls)
keeps_mbr b o rs chain new made ls is fits are labels records logicals = record {
  sectors = refl;
  shaped = record { body = fits; labels = are };
  mbr = λ m. subst IsMbrBody (sym is) tt;
  labels = labels;
  records = λ k r at. elim (records k r at) [
    | inl (old, there, typed) ↦
        inl (old, ap (λ (y : Body). slice_index_or (records_in y) k None) is ∙ there, typed)
    | inr made ↦ inr made
  ];
  logicals = λ e r at has. elim (logicals e r at has) [
    | inl (was, old, there, place, logical, typed) ↦
        inl (record {
          was = was;
          stands = subst (λ (y : Body). Contains (chain_in y) was) (sym is) there;
          place = place;
          old =
              old;
          logical = logical;
          typed = typed;
        })
    | inr new ↦ inr new
  ];
}

pub body_fits : (b : ℕ) (o : Layout) (rs : List (Option Record)) (chain : List Ebr) → Shaped b o → o.body ≡ Mbr rs chain → FitsMbr rs chain
body_fits b o rs chain shaped is = subst (λ (y : Body). FitsBody b o.sectors y) is shaped.body

pub old_labels : (b : ℕ) (o : Layout) (rs : List (Option Record)) (chain : List Ebr) → Shaped b o → o.body ≡ Mbr rs chain
    → AreLabelsOf (slices_of b (Mbr rs chain)) o.labels
old_labels b o rs chain shaped is = subst (λ (y : Body). AreLabelsOf (slices_of b y) o.labels) is shaped.labels

-- a slice that was there, with its label
pub same_slice : (b : ℕ) (o : Layout) (rs : List (Option Record)) (chain : List Ebr) (s was : Slice) (l : Option _)
    → o.body ≡ Mbr rs chain → Contains (slices_of b (Mbr rs chain)) was → was.first ≡ s.first → was.len ≡ s.len
    → label_of o.labels was.number ≡ l → IsOldLabel b (Some o) s l ⊎ IsNewLabel s l
same_slice b o rs chain s was l is stands first len label =
    inl (
      was,
      record { stands = subst (λ (y : Body). Contains (slices_of b y) was) (sym is) stands; first = first; len = len },
      subst (LabelStays (label_of o.labels was.number)) label (label_stays_refl_lem (label_of o.labels was.number)),
    )

pub same_records : (rs : List (Option Record)) (k : ℕ) (r : Record) → slice_index_or rs k None ≡ Some r → WasRecord rs k r ⊎ IsMadeRecord r
same_records rs k r at = inl (r, at, refl)

pub same_logical : (chain : List Ebr) (e : Ebr) (r : Record) → Contains chain e → e.logical ≡ Some r
    → WasLogical chain e r ⊎ IsMadeLogical r
same_logical chain e r at has = inl (e, r, at, refl, has, refl)

-- a read inside a list doesn't look at what is read outside
pub any_default : (xs : List Ebr) (k : ℕ) (c d : Ebr) → k < length xs → slice_index_or xs k c ≡ slice_index_or xs k d
any_default [] k c d lt = absurd (omega (arith, lt))
any_default (x ∷ xs) zero c d lt = refl
any_default (x ∷ xs) (suc k) c d lt = any_default xs k c d (omega (arith, lt))

-- one of a list where another came to a place
pub contains_set : (xs : List Ebr) (k : ℕ) (x y : Ebr) → Contains (slice_set xs k x) y → (x ≡ y) ⊎ Contains xs y
contains_set [] k x y (j, lt, is) = absurd (omega (arith, lt))
contains_set (z ∷ xs) zero x y is = elim (contains_cases x y xs is) [ inl here ↦ inl here | inr later ↦ inr (contains_later z y xs later) ]
contains_set (z ∷ xs) (suc k) x y is = elim (contains_cases z y (slice_set xs k x) is) [
  | inl here ↦ inr (0, omega arith, here)
  | inr later ↦ elim (contains_set xs k x y later) [ inl same ↦ inl same | inr behind ↦ inr (contains_later z y xs behind) ]
]

pub contains_at : (xs : List Ebr) (k : ℕ) (d : Ebr) → k < length xs → Contains xs (slice_index_or xs k d)
contains_at [] k d lt = absurd (omega (arith, lt))
contains_at (x ∷ xs) zero d lt = (0, omega arith, refl)
contains_at (x ∷ xs) (suc k) d lt = contains_later x (slice_index_or xs k d) xs (contains_at xs k d (omega (arith, lt)))

pub contains_map : {X Y : Type 0} (g : X → Y) (xs : List X) (y : Y) → Contains (map g xs) y → (x : X) × Contains xs x × (g x ≡ y)
contains_map g [] y (k, lt, is) = absurd (omega (arith, lt))
contains_map g (x ∷ xs) y is = elim (contains_cases (g x) y (map g xs) is) [
  | inl here ↦ (x, (0, omega arith, refl), here)
  | inr later ↦ (let m = contains_map g xs y later in (m.0, contains_later x m.0 xs m.1, m.2))
]

-- an extended boot record with another logical partition, or none, in its place
pub linked_set : (x : Span) (from : Option Lba) (chain : List Ebr) (k : ℕ) (e : Ebr) → k < length chain
    → ((d : Ebr) → e.at ≡ (slice_index_or chain k d).at) → ((d : Ebr) → e.next ≡ (slice_index_or chain k d).next)
    → FitsLogical e.logical → Linked x from chain
    → Linked x from (slice_set chain k e)
linked_set x from [] k e lt at next fits is = absurd (omega (arith, lt))
linked_set x None (c ∷ cs) k e lt at next fits is = absurd is
linked_set x (Some p) (c ∷ cs) zero e lt at next fits is =
    (at c ∙ is.0, is.1, subst (IsUpward p) (sym (next c)) is.2, fits, subst (λ (n : Option Lba). Linked x n cs) (sym (next c)) is.4)
linked_set x (Some p) (c ∷ cs) (suc k) e lt at next fits is =
    (is.0, is.1, is.2, is.3, linked_set x c.next cs k e (omega (arith, lt)) at next fits is.4)

-- a chain that isn't empty is one of a lone extended record
pub refit : (rs : List Record) (chain made : List Ebr) → 0 < length chain → ((x : Span) → FitsChain x chain → FitsChain x made)
    → FitsExtended rs chain → FitsExtended rs made
refit [] chain made some fits is = let none : length chain ≡ 0 = ap length is in absurd (omega (arith, some, none))
refit (r ∷ []) chain made some fits is = fits (extent_of r) is
refit (r ∷ s ∷ rs) chain made some fits is = absurd is

-- the records and a chain with another logical partition
pub fits_set : (rs : List (Option Record)) (chain : List Ebr) (k : ℕ) (e : Ebr) → k < length chain
    → ((d : Ebr) → e.at ≡ (slice_index_or chain k d).at) → ((d : Ebr) → e.next ≡ (slice_index_or chain k d).next)
    → FitsLogical e.logical → FitsMbr rs chain
    → FitsMbr rs (slice_set chain k e)
fits_set rs chain k e lt at next fits is = record {
  four = is.four;
  each = is.each;
  extended = refit (extended_of rs) chain (slice_set chain k e) (omega (arith, lt))
      (λ x f. record {
        few = omega (arith, f.few, length-set chain k e);
        linked =
            linked_set x (Some (lba x.first)) chain k e lt at next fits f.linked;
      }) is.extended;
}

counted_one : (e : Ebr) (n : ℕ) (o : Option Record) → e.logical ≡ o → next_number n e ≡ n + (if is_some e.logical then 1 else 0)
counted_one e n None is =
    let same : n ≡ n + 0 = omega arith in
    next_of n e None is ∙ (same ∙ ap (λ (o : Option Record). n + (if is_some o then 1 else 0)) (sym is))
counted_one e n (Some r) is = next_of n e (Some r) is ∙ ap (λ (o : Option Record). n + (if is_some o then 1 else 0)) (sym is)

-- the numbers count from 5 what comes before
pub number_same : (n k : ℕ) (chain : List Ebr) → k ≤ length chain → number_by n k chain ≡ n + used_before k chain
number_same n zero chain le = let none : used_before 0 chain ≡ 0 = refl in omega (arith, none)
number_same n (suc k) [] le = absurd (omega (arith, le))
number_same n (suc k) (e ∷ es) le =
    let one = counted_one e n e.logical refl in
    let more = number_same (next_number n e) k es (omega (arith, le)) in
    let step : used_before (suc k) (e ∷ es) ≡ (if is_some e.logical then 1 else 0) + used_before k es =
    sum_by-cons (λ (x : Ebr). if is_some x.logical then 1 else 0) e (take k es) in
    omega (arith, one, more, step)

-- What a conversion to GPT keeps.
use Rattle.std.specs.Prelude.{◌≡◌, ◌≢◌, ◌<◌, ◌≤◌, ◌⊎◌, ◌+◌, ◌-◌, ◌*◌, ◌++◌, ◌∷◌, [], ℕ, suc, Bool, true, false, cond, List, flat_map, map}
use Rattle.std.specs.Prelude.{filter, length, replicate, slice_index_or, Option, Some, None, IfSome, Contains, if◌then◌else◌, nat_eq}
use Rattle.std.proofs.Common.{refl, sym, ap, subst, ◌∙◌, inl, inr, arith}
use Rattle.std.proofs.lemmas.Bool.{true≢false, eqb-true, eqb-false}
use Rattle.std.proofs.lemmas.Slice.Eq.{bytes_eq-Decides}
use Rattle.pt_guid.specs.Codes.{freebsd, type_of}
use Rattle.pt_guid.proofs.Terms.{codes_differ}
use Rattle.pt_guid.specs.Guids.{mixed}
use Rattle.pt_guid.specs.declared.guid.Guid.{Guid}
use Rattle.pt_gpt.specs.Copies.{AllTyped}
use Rattle.pt_gpt.specs.Entries.{IsTyped}
use Rattle.pt_gpt.specs.declared.entry.Entry.{Entry}
use Rattle.pt_gpt.specs.declared.table.Table.{Table}
use Rattle.pt_mbr.specs.declared.record.Record.{Record}
use Rattle.pt_mbr.specs.declared.ebr.Ebr.{Ebr}
use Rattle.pt_members.specs.Members.{entries_as, present, slots, is_slice_kind, slice_from, slice_as, slice_of, slices_of, label_of}
use Rattle.pt_members.proofs.SliceLists.{entry_some, slices_gpt, slices_mbr, entry_slice, entry_slices}
use Rattle.pt_members.specs.Members as slices
use Rattle.pt_members.specs.declared.layout.Slice.{Slice}
use Rattle.pt_members.specs.declared.layout.Layout.{Layout}
use Rattle.pt_members.specs.declared.layout.Body.{Body}
use Rattle.pt_members.specs.declared.layout.Body.TheVariants.{Mbr, Gpt}
use Rattle.pt_members.specs.Tables.{HasFour}
use Rattle.pt_members.specs.declared.member.Kind.{Kind}
use Rattle.pt_members.specs.declared.member.Kind.TheVariants as kind
use Rattle.pt_members.specs.declared.member.Member.{Member}
use Rattle.pt_edit.specs.Entries.{member_of, is_kept, is_kept_kind, partitions}
use Rattle.pt_edit.proofs.Kept.{kept_lem}
use Rattle.pt_edit.specs.Converted.{new_type, entry_of}
use Rattle.pt_edit.specs.inner.Entries.{IsItemAt, Placeable}
use Rattle.pt_edit.specs.declared.partitions.Partition.{Partition}
use Rattle.pt_edit.proofs.Numbers.{placed, room_for}
use Rattle.pt_edit.proofs.EntryPlaces.{at_place}
use Rattle.pt_cases.specs.Writes.{AreLabelsOf, Shaped}
use Rattle.pt_cases.specs.Keeps.{Keeps}
use Rattle.pt_kept.proofs.Lists.{contains_cases, contains_later}
use Rattle.pt_kept.proofs.Tables.{keeps_gpt}
use Rattle.pt_kept.proofs.Mbr.{body_fits, old_labels, same_slice}
use Rattle.pt_kept.proofs.GptWords.{code_typed}
use Rattle.pt_edit.proofs.ConvertSteps.{Converted, HasRecords, HasUnknown, IsGptOf}

-- the slice that a partition is
abbrev slice_in : Partition → List Slice
slice_in p = if nat_eq p.kind 0xA5 then slice_from p.number p.first p.last ∷ [] else []

-- ---- the slices of an MBR are those of its partitions

of_present : (ms : List (Option Member)) → flat_map slices.slice_in ms ≡ flat_map slice_of (present ms)
of_present [] = refl
of_present (None ∷ ms) = of_present ms
of_present (Some m ∷ ms) = ap (λ (l : List Slice). slice_of m ++ l) (of_present ms)

-- what isn't kept is no slice
no_slice_as : (k : Kind) (s : Slice) → is_kept_kind k ≡ false → slice_as k s ≡ []
no_slice_as kind.Leaf s not = refl
no_slice_as kind.Slice s not = absurd (true≢false not)
no_slice_as kind.Extended s not = refl

of_kept : (ms : List Member) → flat_map slice_of (filter is_kept ms) ≡ flat_map slice_of ms
of_kept [] = refl
of_kept (m ∷ ms) = by_kept (is_kept m) refl (of_kept ms) where
  others : List Member
  others = filter is_kept ms

  by_kept : (c : Bool) → is_kept m ≡ c → flat_map slice_of (filter is_kept ms) ≡ flat_map slice_of ms
      → flat_map slice_of (filter is_kept (m ∷ ms)) ≡ flat_map slice_of (m ∷ ms)
  by_kept true is more =
      ap (λ (c : Bool). flat_map slice_of (cond c (m ∷ others) others)) is ∙ ap (λ (l : List Slice). slice_of m ++ l) more
  by_kept false is more =
      ap (λ (c : Bool). flat_map slice_of (cond c (m ∷ others) others)) is
      ∙ (more
      ∙ ap (λ (l : List Slice). l ++ flat_map slice_of ms) (sym (no_slice_as m.kind (slice_from m.path.number m.first m.last) is)))

of_member : (p : Partition) → slice_of (member_of 512 p) ≡ slice_in p
of_member p = by_slice (nat_eq p.kind 0xA5) refl where
  by_slice : (t : Bool) → nat_eq p.kind 0xA5 ≡ t → slice_of (member_of 512 p) ≡ slice_in p
  by_slice true so = rw so refl
  by_slice false so = rw so refl

of_members : (ps : List Partition) → flat_map slice_of (map (member_of 512) ps) ≡ flat_map slice_in ps
of_members [] = refl
of_members (p ∷ ps) =
    ap (λ (l : List Slice). l ++ flat_map slice_of (map (member_of 512) ps)) (of_member p)
    ∙ ap (λ (l : List Slice). slice_in p ++ l) (of_members ps)

partition_slices : (rs : List (Option Record)) (chain : List Ebr)
    → slices_of 512 (Mbr rs chain) ≡ flat_map slice_in (partitions (Mbr rs chain))
unfolding slices_of
partition_slices rs chain =
    of_present (slots 512 (Mbr rs chain))
    ∙ (sym (of_kept (present (slots 512 (Mbr rs chain))))
    ∙ (ap (flat_map slice_of) (kept_lem 512 rs chain) ∙ of_members (partitions (Mbr rs chain))))

-- numbers that rise
abbrev IsRising : ℕ → List Partition → Type 0
IsRising low [] = Unit {0}
IsRising low (p ∷ ps) = (low ≤ p.number) × IsRising (p.number + 1) ps

later : (p q : Partition) (ps : List Partition) (k : ℕ) → IsItemAt ps k q → IsItemAt (p ∷ ps) (suc k) q
later p q ps k at = (omega (arith, at.0), at.1)

rising_of : (low : ℕ) (ps : List Partition) → ((k : ℕ) (p : Partition) → IsItemAt ps k p → low ≤ p.number)
    → ((i j : ℕ) (p q : Partition) → i < j → IsItemAt ps i p → IsItemAt ps j q → p.number < q.number) → IsRising low ps
rising_of low [] least up = tt
rising_of low (p ∷ ps) least up =
    let here : IsItemAt (p ∷ ps) 0 p = (omega arith, refl) in (
      least 0 p here,
      rising_of (p.number + 1) ps (λ k q at. let lt = up 0 (suc k) p q (omega arith) here (later p q ps k at) in
          omega (arith, lt)) (λ i j q r lt a c. up (suc i) (suc j) q r (omega (arith, lt)) (later p q ps i a) (later p r ps j c)),
    )

rising_more : (low : ℕ) (ps : List Partition) → IsRising low ps → ((p : Partition) → Contains ps p → p.number ≢ low) → IsRising (low + 1) ps
rising_more low [] up none = tt
rising_more low (p ∷ ps) up none = (let other = none p (0, omega arith, refl) in omega (arith, up.0, other), up.1)

rising_least : (low : ℕ) (ps : List Partition) (p : Partition) → IsRising low ps → Contains ps p → low ≤ p.number
rising_least low [] p up is = absurd (omega (arith, is.1))
rising_least low (q ∷ ps) p up is = elim (contains_cases q p ps is) [
  | inl here ↦ (let n = ap (λ (x : Partition). x.number) here in omega (arith, n, up.0))
  | inr behind ↦ (let more = rising_least (q.number + 1) ps p up.1 behind in omega (arith, more, up.0))
]

-- entries from a number on whose slices are those of partitions
record Stands (n : ℕ) (es : List (Option Entry)) (ps : List Partition) : Type 0 where
  rising : IsRising n ps
  below : (p : Partition) → Contains ps p → p.number < n + length es
  each : (p : Partition) → Contains ps p → entry_slice p.number (slice_index_or es (p.number - n) None) ≡ slice_in p
  others : (k : ℕ) → k < length es → ((p : Partition) → Contains ps p → p.number ≢ n + k) → slice_index_or es k None ≡ None

no_slice : (n : ℕ) → entry_slice n None ≡ []
unfolding entry_slice
no_slice n = refl

none_left : (n : ℕ) (ps : List Partition) → Stands n [] ps → ps ≡ []
none_left n [] s = refl
none_left n (p ∷ ps) s = let below = s.below p (0, omega arith, refl) in absurd (omega (arith, below, s.rising.0))

behind : (n : ℕ) (e : Option Entry) (es : List (Option Entry)) (ps : List Partition) (p : Partition) → n + 1 ≤ p.number
    → entry_slice p.number (slice_index_or (e ∷ es) (p.number - n) None) ≡ slice_in p
    → entry_slice p.number (slice_index_or es (p.number - (n + 1)) None) ≡ slice_in p
behind n e es ps p above is =
    let at : p.number - n ≡ suc (p.number - (n + 1)) = omega (arith, above) in
    subst (λ (k : ℕ). entry_slice p.number (slice_index_or (e ∷ es) k None) ≡ slice_in p) at is

-- no partition has the first number
past_none : (n : ℕ) (e : Option Entry) (es : List (Option Entry)) (ps : List Partition) → Stands n (e ∷ es) ps
    → ((p : Partition) → Contains ps p → p.number ≢ n) → (entry_slice n e ≡ []) × Stands (n + 1) es ps
past_none n e es ps s none =
    let up = rising_more n ps s.rising none in
    let at : e ≡ None = s.others 0 (omega arith) (λ p is same. none p is (omega (arith, same))) in (
      ap (entry_slice n) at ∙ no_slice n,
      record {
        rising = up;
        below = λ p is. (let lt = s.below p is in omega (arith, lt));
        each = λ p is. behind n e es ps p (rising_least (n + 1) ps p up is) (s.each p is);
        others = λ k lt free. s.others (suc k) (omega (arith, lt)) (λ p is same. free p is (omega (arith, same)));
      },
    )

-- the first partition has it
past_one : (n : ℕ) (e : Option Entry) (es : List (Option Entry)) (p : Partition) (ps : List Partition) → Stands n (e ∷ es) (p ∷ ps)
    → p.number ≡ n → (entry_slice n e ≡ slice_in p) × Stands (n + 1) es ps
past_one n e es p ps s same =
    let here : Contains (p ∷ ps) p = (0, omega arith, refl) in
    let at : p.number - n ≡ 0 = omega (arith, same) in
    let up : IsRising (n + 1) ps = subst (λ (k : ℕ). IsRising k ps) (ap (λ (k : ℕ). k + 1) same) s.rising.1 in (
      subst (λ (k : ℕ). entry_slice k e ≡ slice_in p) same
          (subst (λ (k : ℕ). entry_slice p.number (slice_index_or (e ∷ es) k None) ≡ slice_in p) at (s.each p here)),
      record {
        rising = up;
        below = λ q is. (let lt = s.below q (contains_later p q ps is) in omega (arith, lt));
        each = λ q is. behind n e es ps q (rising_least (n + 1) ps q up is) (s.each q (contains_later p q ps is));
        others = λ k lt free. s.others (suc k) (omega (arith, lt)) (λ q is equal. (elim (contains_cases p q ps is) [
          | inl first ↦ (let number = ap (λ (x : Partition). x.number) first in absurd (omega (arith, number, same, equal)))
          | inr more ↦ free q more (omega (arith, equal))
        ]));
      },
    )

standing_at : (n : ℕ) (e : Option Entry) (es : List (Option Entry)) (p : Partition) (ps : List Partition) → Stands n (e ∷ es) (p ∷ ps)
    → ((qs : List Partition) → Stands (n + 1) es qs → entry_slices (n + 1) es ≡ flat_map slice_in qs) → (t : Bool) → nat_eq p.number n ≡ t
    → entry_slices n (e ∷ es) ≡ flat_map slice_in (p ∷ ps)
unfolding entry_slices entry_slice entries_as
standing_at n e es p ps s more true so =
    let step = past_one n e es p ps s (eqb-true p.number n so) in
    ap (λ (l : List Slice). l ++ entry_slices (n + 1) es) step.0 ∙ (ap (λ (l : List Slice). slice_in p ++ l) (more ps step.1) ∙ refl)
standing_at n e es p ps s more false so =
    let other = eqb-false p.number n so in
    let up = s.rising in
    let step = past_none n e es (p ∷ ps) s (λ q is same. (let least = rising_least p.number (p ∷ ps) q (omega arith, up.1) is in
    absurd (omega (arith, least, same, other, up.0)))) in
    ap (λ (l : List Slice). l ++ entry_slices (n + 1) es) step.0 ∙ more (p ∷ ps) step.1

-- their slices are the partitions'
standing : (n : ℕ) (es : List (Option Entry)) (ps : List Partition) → Stands n es ps → entry_slices n es ≡ flat_map slice_in ps
unfolding entry_slices entry_slice entries_as
standing n [] ps s = ap (flat_map slice_in) (sym (none_left n ps s))
standing n (e ∷ es) [] s =
    let step = past_none n e es [] s (λ p is. absurd (omega (arith, is.1))) in
    ap (λ (l : List Slice). l ++ entry_slices (n + 1) es) step.0 ∙ standing (n + 1) es [] step.1
standing n (e ∷ es) (p ∷ ps) s = standing_at n e es p ps s (standing (n + 1) es) (nat_eq p.number n) refl

-- what is said of a type that a record's type becomes
record NewType (kind : ℕ) (stored : List ℕ) : Type 0 where
  slice : is_slice_kind stored ≡ nat_eq kind 0xA5
  typed : ¬ (stored ≡ replicate 16 0)

-- slices are of one type, which no other type becomes
type_of_kind : (kind : ℕ) (stored : List ℕ) → new_type kind ≡ Some stored → NewType kind stored
type_of_kind kind stored is = record {
  slice = by_type (is_slice_kind stored) (nat_eq kind 0xA5) refl refl;
  typed =
      code_typed (kind * 256) stored is;
} where
  of_slices : type_of 0xA500 ≡ Some (mixed freebsd)
  of_slices = refl

  by_type : (c d : Bool) → is_slice_kind stored ≡ c → nat_eq kind 0xA5 ≡ d → is_slice_kind stored ≡ nat_eq kind 0xA5
  by_type true true slice same = slice ∙ sym same
  by_type false false slice same = slice ∙ sym same
  by_type true false slice other =
      let stands : stored ≡ mixed freebsd = (bytes_eq-Decides stored (mixed freebsd)).0 slice in
      let code : kind * 256 ≡ 0xA500 = codes_differ (kind * 256) 0xA500 stored is (of_slices ∙ ap (λ (l : List ℕ). Some l) (sym stands)) in
      let one : kind ≡ 0xA5 = omega arith in
      absurd (eqb-false kind 0xA5 other one)
  by_type false true slice same =
      let stands : Some (mixed freebsd) ≡ Some stored = sym (ap new_type (eqb-true kind 0xA5 same)) ∙ is in
      let one : stored ≡ mixed freebsd = cc in
      absurd (true≢false (sym ((bytes_eq-Decides stored (mixed freebsd)).1 one) ∙ slice))

-- an entry that a partition becomes
record BecomesEntry (p : Partition) (x : Option Entry) : Type 0 where
  entry : Entry
  is : x ≡ Some entry
  typed : IsTyped entry
  slice : entry_slice p.number x ≡ slice_in p

entry_made : (guid : Guid) (p : Partition) (o : Option (List ℕ)) → new_type p.kind ≡ o → (new_type p.kind ≢ None)
    → BecomesEntry p (entry_of guid p)
unfolding entry_slice
entry_made guid p None is known = absurd (known is)
entry_made guid p (Some stored) is known =
    let type = type_of_kind p.kind stored is in
    let e : Entry = record {
      kind = record { 0 = stored };
      unique = guid;
      first = p.first;
      last = p.last;
      attributes = 0;
      name =
          replicate 36 0;
    } in
    let same : entry_of guid p ≡ Some e = rw is refl in
    record {
      entry = e;
      is = same;
      typed = type.typed;
      slice = ap (entry_slice p.number) same
          ∙ (entry_some p.number e ∙ ap (λ (c : Bool). if c then slice_from p.number p.first p.last ∷ [] else []) type.slice);
    }

found : (ps : List Partition) (number : ℕ) → ((j : ℕ) × (p : Partition) × IsItemAt ps j p × (p.number ≡ number))
    ⊎ ((p : Partition) → Contains ps p → p.number ≢ number)
found [] number = inr (λ p is. absurd (omega (arith, is.1)))
found (q ∷ ps) number = found_at q ps number (found ps number) (nat_eq q.number number) refl where
  found_at : (q : Partition) (ps : List Partition) (number : ℕ) → ((j : ℕ) × (p : Partition) × IsItemAt ps j p × (p.number ≡ number))
      ⊎ ((p : Partition) → Contains ps p → p.number ≢ number) → (t : Bool) → nat_eq q.number number ≡ t
      → ((j : ℕ) × (p : Partition) × IsItemAt (q ∷ ps) j p × (p.number ≡ number)) ⊎ ((p : Partition) → Contains (q ∷ ps) p
      → p.number ≢ number)
  found_at q ps number more true so = inl (0, q, (omega arith, refl), eqb-true q.number number so)
  found_at q ps number (inl (j, p, at, same)) false so = inl (suc j, p, later q p ps j at, same)
  found_at q ps number (inr none) false so = inr (λ p is. (elim (contains_cases q p ps is) [
    | inl here ↦ (λ e. eqb-false q.number number so (ap (λ (x : Partition). x.number) here ∙ e))
    | inr behind ↦ none p behind
  ]))

no_guid : Guid
no_guid = record { 0 = [] }

-- each partition's entry in the table
made_entry : (b n : ℕ) (guids : List Guid) (ps : List Partition) (t : Table) (j : ℕ) (p : Partition) → IsGptOf b n guids ps t
    → 1 + length ps ≤ length guids → ¬ HasUnknown ps → IsItemAt ps j p → BecomesEntry p (slice_index_or t.entries (p.number - 1) None)
made_entry b n guids ps t j p is enough known at =
    let guid = slice_index_or guids (1 + j) no_guid in
    let own : IsItemAt guids (1 + j) guid = at_place guids (1 + j) no_guid (omega (arith, at.0, enough)) in
    subst (BecomesEntry p) (sym (is.each j p guid at own))
    (entry_made guid p (new_type p.kind) refl (λ none. known (p, (j, at.0, at.1), none)))

all_typed : (b n : ℕ) (guids : List Guid) (ps : List Partition) (t : Table) → IsGptOf b n guids ps t → 1 + length ps ≤ length guids
    → ¬ HasUnknown ps → AllTyped t.entries
all_typed b n guids ps t is enough known k lt = by_number (found ps (k + 1)) where
  at : (k + 1) - 1 ≡ k
  at = omega arith

  by_number : ((j : ℕ) × (p : Partition) × IsItemAt ps j p × (p.number ≡ k + 1)) ⊎ ((p : Partition) → Contains ps p → p.number ≢ k + 1)
      → IfSome (slice_index_or t.entries k None) IsTyped
  by_number (inl (j, p, stands, same)) =
      let made = made_entry b n guids ps t j p is enough known stands in
      let place : p.number - 1 ≡ k = omega (arith, same) in
      let entry : slice_index_or t.entries k None ≡ Some made.entry = sym (ap (λ (i : ℕ). slice_index_or t.entries i None) place)
      ∙ made.is in
      subst (λ (x : Option Entry). IfSome x IsTyped) (sym entry) made.typed
  by_number (inr none) =
      let free : slice_index_or t.entries k None ≡ None = ap (λ (i : ℕ). slice_index_or t.entries i None) (sym at)
      ∙ is.others (k + 1) (omega arith) (omega (arith, lt, is.count)) none in
      subst (λ (x : Option Entry). IfSome x IsTyped) (sym free) tt

table_stands : (b n : ℕ) (guids : List Guid) (ps : List Partition) (t : Table) → IsGptOf b n guids ps t → 1 + length ps ≤ length guids
    → ¬ HasUnknown ps → Placeable n ps → Stands 1 t.entries ps
table_stands b n guids ps t is enough known place = record {
  rising = rising_of 1 ps place.low place.rising;
  below = λ p at. (let h = place.high at.0 p (at.1, at.2) in omega (arith, h, is.count));
  each = λ p at. (made_entry b n guids ps t at.0 p is enough known (at.1, at.2)).slice;
  others = λ k lt free. (
      let same : (1 + k) - 1 ≡ k = omega arith in
      sym (ap (λ (i : ℕ). slice_index_or t.entries i None) same) ∙ is.others (1 + k) (omega arith) (omega (arith, lt, is.count)) free);
}

-- the slices of a table and of an MBR, with sectors of either size
slices_by_size : (b : ℕ) (t : Table) (rs : List (Option Record)) (chain : List Ebr) → entry_slices 1 t.entries
    ≡ slices_of 512 (Mbr rs chain) → (d : Bool) → nat_eq b 512 ≡ d → slices_of b (Gpt t) ≡ slices_of b (Mbr rs chain)
slices_by_size b t rs chain same true large =
    slices_gpt b t true large ∙ (same ∙ ap (λ (x : ℕ). slices_of x (Mbr rs chain)) (sym (eqb-true b 512 large)))
slices_by_size b t rs chain same false small_sectors = slices_gpt b t false small_sectors ∙ sym (slices_mbr b rs chain false small_sectors)

-- `g`
pub keeps_converted : (b : ℕ) (guids : List Guid) (o p : Layout) → Shaped b o → Converted b guids o p → Keeps b o.sectors (Some o) p
keeps_converted b guids o p shaped c = subst (λ (q : Layout). Keeps b o.sectors (Some o) q) (sym c.made) (by_body o.body refl) where
  t : Table
  t = c.table

  of_mbr : (rs : List (Option Record)) (chain : List Ebr) → o.body ≡ Mbr rs chain
      → Keeps b o.sectors (Some o) (record { sectors = o.sectors; body = Gpt t; labels = o.labels })
  of_mbr rs chain is =
      let ps = partitions o.body in
      let ps_is : ps ≡ partitions (Mbr rs chain) = ap partitions is in
      let fits = body_fits b o rs chain shaped is in
      let is_table = c.is_table (subst HasFour (sym is) fits.four) in
      let room = room_for b o c.room in
      let place = placed b o (subst HasFour (sym is) fits.four) c.room in
      let stands = table_stands b o.sectors guids ps t is_table c.enough c.known place in
      let same : entry_slices 1 t.entries ≡ slices_of 512 (Mbr rs chain) =
      standing 1 t.entries ps stands ∙ (ap (flat_map slice_in) ps_is ∙ sym (partition_slices rs chain)) in
      let slices = slices_by_size b t rs chain same (nat_eq b 512) refl in
      keeps_gpt b o t o.labels
      (record {
        room = room;
        some = omega (arith, is_table.count);
        most = omega (arith, is_table.count);
        low = omega (arith, is_table.first);
        order = omega (arith, is_table.first, is_table.last, room);
        high = omega (arith, is_table.last);
        typed = all_typed b o.sectors guids ps t is_table c.enough c.known;
      })
      (subst (λ (l : List Slice). AreLabelsOf l o.labels) (sym slices) (old_labels b o rs chain shaped is))
      (λ s there. same_slice b o rs chain s s (label_of o.labels s.number) is (subst (λ (l : List Slice). Contains l s) slices there) refl
      refl refl)

  by_body : (y : Body) → o.body ≡ y → Keeps b o.sectors (Some o) (record { sectors = o.sectors; body = Gpt t; labels = o.labels })
  by_body (Mbr rs chain) is = of_mbr rs chain is
  by_body (Gpt u) is = absurd (subst HasRecords is c.is_mbr)

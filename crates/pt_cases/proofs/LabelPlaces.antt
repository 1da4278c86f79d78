-- Lemmas on specs/Keeps.antt: label places, where they lie in a sound layout, and apart from one another.
use Rattle.std.specs.Prelude.{◌≡◌, ◌≢◌, ◌<◌, ◌≤◌, ◌+◌, ◌∷◌, [], ◌↔◌, ℕ, true, List, All, Contains}
use Rattle.std.proofs.Common.{refl, sym, ap, subst, ◌∙◌, arith, inl, inr}
use Rattle.std.proofs.lemmas.List.Elements.{Contains-get_or, All-filter, filter_passes}
use Rattle.pt_members.specs.Members.{slice_from, slices_of, has_place, place_of, places_of, IsPlace, Holds, top_group}
use Rattle.pt_members.specs.declared.layout.Slice.{Slice}
use Rattle.pt_members.specs.declared.layout.Layout.{Layout}
use Rattle.pt_members.specs.declared.layout.Body.{Body}
use Rattle.pt_members.specs.declared.layout.Body.TheVariants.{Mbr, Gpt}
use Rattle.pt_members.specs.declared.member.Kind.TheVariants as kind
use Rattle.pt_members.specs.declared.member.Member.{Member}
use Rattle.pt_path.specs.declared.path.Path.{Path}
use Rattle.pt_layout.specs.Sound.{Sound}
use Rattle.pt_members.specs.Tables.{IsEbr}
use Rattle.pt_members.proofs.ByRows.{place_member}
use Rattle.pt_members.proofs.Grouped.{contains_head, contains_tail}
use Rattle.pt_layout.proofs.OneHome.{slot_one}
use Rattle.pt_cases.proofs.Slots.{slot_usable_lem}
use Rattle.pt_cases.specs.Keeps.{IsSliceMember, EndsOnDisk}
use Rattle.pt_cases.proofs.SliceMembers.{slice_member_lem, same_sectors, slice_lies_lem}

on_disk : (b n : ℕ) (y : Body) (s : ℕ) → EndsOnDisk n y → (top_group b n y).low ≤ s → s ≤ (top_group b n y).high → s < n
unfolding top_group
on_disk b n (Mbr rs chain) s ends low high = omega (arith, low, high)
on_disk b n (Gpt t) s ends low high = omega (arith, ends, high)

-- a slice with a label place has a second sector
pub place_is_long_lem : (n : ℕ) (s : Slice) → has_place n s ≡ true → 2 ≤ s.len
place_is_long_lem n s has = grind arith

both : (n : ℕ) (s : Slice) → 2 ≤ s.len → s.first + 1 < n → has_place n s ≡ true
both n s long on = grind arith

-- in a sound layout each slice with a second sector has one
pub slice_has_place_lem : (b : ℕ) (o : Layout) (s : Slice) → Sound b o → EndsOnDisk o.sectors o.body → Contains (slices_of b o.body) s
    → 2 ≤ s.len → has_place o.sectors s ≡ true
slice_has_place_lem b o s sound ends has long =
    let lies = slice_lies_lem b o s sound has in
    both o.sectors s long (on_disk b o.sectors o.body (s.first + 1) ends (omega (arith, lies.low)) (omega (arith, lies.high, long)))

pub places_are_second_lem : (b : ℕ) (o : Layout) (s : Slice) → Sound b o → EndsOnDisk o.sectors o.body → Contains (slices_of b o.body) s
    → (has_place o.sectors s ≡ true) ↔ (2 ≤ s.len)
places_are_second_lem b o s sound ends has = (place_is_long_lem o.sectors s, slice_has_place_lem b o s sound ends has)

-- a slice that has a label place is a slice
pub place_slice_lem : (b n : ℕ) (y : Body) (w : Slice) → Contains (places_of b n y) w → Contains (slices_of b y) w × (has_place n w ≡ true)
unfolding places_of
place_slice_lem b n y w (k, lt, at) =
    let each : All (λ (x : Slice). Contains (slices_of b y) x) (slices_of b y) = λ i d below. Contains-get_or (slices_of b y) i d below in
    let among = All-filter (has_place n) (λ (x : Slice). Contains (slices_of b y) x) (slices_of b y) each k w lt in
    let passes = filter_passes (has_place n) (slices_of b y) k w lt in
    (subst (λ (x : Slice). Contains (slices_of b y) x) at among, subst (λ (x : Slice). has_place n x ≡ true) at passes)

-- whose place it is
pub place_in : (ps : List Slice) (s : ℕ) → IsPlace ps s → (w : Slice) × Contains ps w × (s ≡ place_of w)
place_in [] s is = absurd is
place_in (p ∷ ps) s (inl here) = (p, contains_head p ps, here)
place_in (p ∷ ps) s (inr there) = (let h = place_in ps s there in (h.0, contains_tail p ps h.0 h.1, h.2))

-- each is a sector of the disk
below_end : (n : ℕ) (p : Slice) → has_place n p ≡ true → p.first + 1 < n
below_end n p has = grind arith

pub place_below : (b n : ℕ) (y : Body) (s : ℕ) → IsPlace (places_of b n y) s → s < n
place_below b n y s is =
    let h = place_in (places_of b n y) s is in
    let w = place_slice_lem b n y h.0 h.1 in
    let below = below_end n h.0 w.1 in
    omega (arith, h.2, below)

-- a label place of a sound layout is usable, and not the first sector that is
pub record LiesWithin (b : ℕ) (o : Layout) (s : ℕ) : Type 0 where
  pub low : (top_group b o.sectors o.body).low < s
  pub high : s ≤ (top_group b o.sectors o.body).high

pub place_lies_lem : (b : ℕ) (o : Layout) (s : ℕ) → Sound b o → IsPlace (places_of b o.sectors o.body) s → LiesWithin b o s
place_lies_lem b o s sound is =
    let h = place_in (places_of b o.sectors o.body) s is in
    let w = place_slice_lem b o.sectors o.body h.0 h.1 in
    let lies = slice_lies_lem b o h.0 sound w.0 in
    let long = place_is_long_lem o.sectors h.0 w.1 in
    record { low = omega (arith, h.2, lies.low); high = omega (arith, h.2, lies.high, long) }

-- of two slices with one first sector
same_slice : (s t : Slice) (x y : Member) → IsSliceMember s x → IsSliceMember t y → x ≡ y → s ≡ t
same_slice s t x y is also same =
    let paths = sym is.path ∙ ap (λ (m : Member). m.path) same ∙ also.path in
    let numbers : s.number ≡ t.number = ap (λ (p : Path). p.number) paths in
    is.slice ∙ (ap (λ (m : Member). slice_from s.number m.first m.last) same
    ∙ (ap (λ (n : ℕ). slice_from n y.first y.last) numbers ∙ sym also.slice))

plain_kind : (s : Slice) (m : Member) → IsSliceMember s m → m.kind ≢ kind.Extended
plain_kind s m is other = let two : kind.Slice ≡ kind.Extended = sym is.kind ∙ other in absurd cc

-- in a sound layout two slices with one label place are one
pub places_apart_lem : (b : ℕ) (o : Layout) (s t : Slice) → Sound b o → Contains (slices_of b o.body) s
    → Contains (slices_of b o.body) t → place_of s ≡ place_of t → s ≡ t
places_apart_lem b o s t sound in_s in_t place =
    let x = slice_member_lem b o.body s in_s in
    let y = slice_member_lem b o.body t in_t in
    let in_x = slot_usable_lem b o x.0 sound x.1 in
    let in_y = slot_usable_lem b o y.0 sound y.1 in
    let first_x = same_sectors s x.0 (top_group b o.sectors o.body) x.2 in_x in
    let first_y = same_sectors t y.0 (top_group b o.sectors o.body) y.2 in_y in
    let holds_x : Holds x.0 s.first = (omega (arith, first_x.0), omega (arith, first_x.0, in_x.exists.0)) in
    let holds_y : Holds y.0 s.first = (omega (arith, first_y.0, place), omega (arith, first_y.0, place, in_y.exists.0)) in
    same_slice s t x.0 y.0 x.2 y.2
    (slot_one b o s.first x.0 y.0 sound x.1 y.1 (plain_kind s x.0 x.2) (plain_kind t y.0 y.2) holds_x holds_y)

-- and no extended boot record is a label place
pub ebr_no_place_lem : (b : ℕ) (o : Layout) (s : ℕ) → Sound b o → IsEbr o.body s → ¬ IsPlace (places_of b o.sectors o.body) s
ebr_no_place_lem b o s sound ebr is =
    let h = place_in (places_of b o.sectors o.body) s is in
    let w = place_slice_lem b o.sectors o.body h.0 h.1 in
    let m = slice_member_lem b o.body h.0 w.0 in
    let inside = slot_usable_lem b o m.0 sound m.1 in
    let same = same_sectors h.0 m.0 (top_group b o.sectors o.body) m.2 inside in
    let long = place_is_long_lem o.sectors h.0 w.1 in
    sound.off_tables m.0 s (record {
      is_member = place_member b o m.0 (m.0, m.1, inl refl);
      kind = plain_kind h.0 m.0 m.2;
      holds = (omega (arith, h.2, same.0), omega (arith, h.2, same.1, long));
      table = inr is;
      foreign = λ own. own.2 ebr;
    })

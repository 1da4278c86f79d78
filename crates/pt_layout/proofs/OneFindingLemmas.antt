-- Lemmas on a layout has one first thing that is wrong with it at most, and so has a disk.
use Rattle.std.specs.Prelude.{◌≡◌, ◌⊎◌, ◌∷◌, ◌++◌, [], ℕ, Bool, true, false, List, All, Contains, length, Option, Some, None, nat_eq}
use Rattle.std.specs.Prelude.{if◌then◌else◌}
use Rattle.std.proofs.Common.{suc, ◌<◌, ◌≤◌, ◌+◌, refl, sym, ap, subst, ◌∙◌, arith, inl, inr}
use Rattle.std.proofs.lemmas.List.Elements.{Contains-append_right, Contains-get_or}
use Rattle.pt_sector.specs.Sectors.{Sectors}
use Rattle.pt_sector.specs.declared.address.Lba.{Lba}
use Rattle.pt_gpt.proofs.Terms.{no_copy_lem, copy_is_one_lem, head_is_one_lem}
use Rattle.pt_gpt.proofs.Faults.{copy_fault_is_one_lem}
use Rattle.pt_gpt.specs.Copies.{Copy, HasCopy, IsCopyFault, HasRoom}
use Rattle.pt_gpt.specs.declared.error.CopyError.{CopyError}
use Rattle.pt_gpt.specs.declared.header.Header.{Header}
use Rattle.pt_gpt.specs.declared.table.Table.{Table}
use Rattle.pt_gpt.specs.declared.table.Side.{Side}
use Rattle.pt_gpt.specs.declared.table.Side.TheVariants.{Primary, Backup}
use Rattle.pt_bsd.specs.declared.label.Label.{Label}
use Rattle.pt_bsd.specs.declared.label.LabelEntry.{LabelEntry}
use Rattle.pt_members.specs.Members.{places_of, number_path, letter_path, slots, Group, groups_of, part_of, parts_as, parts_in, label_of}
use Rattle.pt_members.specs.Rows.{IsMember}
use Rattle.pt_recover.specs.Denotes.{LabelsAre, BodyIs, Denotes, IsReason}
use Rattle.pt_recover.proofs.Terms.{denotes_one_lem, reason_is_one_lem}
use Rattle.pt_recover.specs.declared.error.NoTable.{NoTable as NoTableValue}
use Rattle.pt_members.specs.declared.layout.Layout.{Layout}
use Rattle.pt_members.specs.declared.layout.Labelled.{Labelled}
use Rattle.pt_members.specs.declared.layout.Slice.{Slice as SliceValue}
use Rattle.pt_members.specs.declared.layout.Body.{Body}
use Rattle.pt_members.specs.declared.layout.Body.TheVariants.{Mbr, Gpt}
use Rattle.pt_path.specs.declared.path.Path.{Path}
use Rattle.pt_members.specs.declared.member.Member.{Member}
use Rattle.pt_layout.specs.declared.sound.finding.Finding.{Finding}
use Rattle.pt_layout.specs.declared.sound.finding.Finding.TheVariants.{NoTable, PrimaryCopy, BackupCopy, CopiesDiffer, Alternate}
use Rattle.pt_layout.specs.declared.sound.finding.Finding.TheVariants.{Protective, OutsideUsable, Overlap as Shared, OnTable, SameGuid}
use Rattle.pt_layout.specs.declared.sound.finding.Finding.TheVariants.{ForeignLabel}
use Rattle.pt_layout.specs.declared.sound.finding.Verdict.{Verdict}
use Rattle.pt_layout.specs.declared.sound.finding.Verdict.TheVariants.{Yes, No}
use Rattle.pt_path.specs.Paths.{rank, letter_rank}
use Rattle.pt_layout.specs.inner.Sound.{IsOrdered}
use Rattle.pt_layout.specs.Sound.{IsApart, IsFirstOverlap, AllInside, AllApart, Sound, IsFirstOutside, IsFirstShared, IsFirstBuried}
use Rattle.pt_layout.specs.Sound.{IsFirstSameGuid, IsUnsound}
use Rattle.pt_layout.proofs.Apart.{not_apart}
use Rattle.pt_members.proofs.Standing.{AtPlace, IsNear}
use Rattle.pt_members.proofs.ByRows.{member_place}
use Rattle.pt_members.proofs.Grouped.{contains_head, contains_tail}
use Rattle.pt_layout.proofs.Faulty.{member_there}
use Rattle.pt_members.proofs.Paths.{place_cases, part_path, slot_whole}
use Rattle.pt_layout.proofs.OneOrder.{overlap_one}
use Rattle.pt_layout.specs.Healthy.{HasCopies, IsBodyWhole, IsBodyBroken}
use Rattle.pt_layout.specs.Healthy.{IsFirstForeign, IsLayoutFinding, IsFinding, VerdictIs, HasEight}
use Rattle.pt_layout.proofs.Terms.{unsound_excludes_lem, body_not_whole, healthy_is_one_lem, finding_excludes_lem}

label_eight : (ls : List Labelled) (n : ℕ) (l : Label) → HasEight ls → label_of ls n ≡ Some l → length l.entries ≡ 8
unfolding label_of HasEight
label_eight [] n l eight is = absurd cc
label_eight (x ∷ xs) n l eight is = by_case (label_eight xs n l eight.1) (nat_eq x.number n) is where
  by_case : (label_of xs n ≡ Some l → length l.entries ≡ 8) → (b : Bool) → (if b then Some x.label else label_of xs n) ≡ Some l
      → length l.entries ≡ 8
  by_case later true here = (let e : x.label ≡ l = cc in ap (λ (z : Label). length z.entries) (sym e) ∙ eight.0)
  by_case later false there = later there

-- a path of a member has no letter, or one of eight
abbrev IsNamed : Path → Type 0
IsNamed p = (p.letter ≡ None) ⊎ ((k : ℕ) × (k < 8) × (p.letter ≡ Some k))

letter_within : (l : Label) (m x : Member) (n : ℕ) (es : List (Option LabelEntry)) → AtPlace (parts_as l m n es) x
    → (k : ℕ) × (k < n + length es) × (x.path ≡ letter_path m.path.number k)
unfolding parts_as
letter_within l m x n [] at = absurd (omega (arith, at.1))
letter_within l m x n (e ∷ es) at =
    elim (place_cases (part_of l m n e) (parts_as l m (n + 1) es) x at) as (λ _. (k : ℕ) × (k < n + suc (length es))
    × (x.path ≡ letter_path m.path.number k)) [
      | inl here ↦ (n, omega arith, part_path l m x n e here)
      | inr there ↦ (let r = letter_within l m x (n + 1) es there in (r.0, omega (arith, r.1), r.2))
    ]

part_named : (o : Option Label) (m x : Member) → ((l : Label) → o ≡ Some l → length l.entries ≡ 8) → AtPlace (parts_in o m) x
    → IsNamed x.path
unfolding parts_in
part_named None m x eight at = absurd (omega (arith, at.1))
part_named (Some l) m x eight at =
    (let r = letter_within l m x 0 l.entries at in inr (r.0, omega (arith, r.1, eight l refl), ap (λ (p : Path). p.letter) r.2))

member_named : (b : ℕ) (o : Layout) (x : Member) → HasEight o.labels → IsMember b o x → IsNamed x.path
member_named b o x eight is = near (member_place b o x is).0 (member_place b o x is).1 (member_place b o x is).2 where
  near : (u : Member) → AtPlace (slots b o.body) u → IsNear o u x → IsNamed x.path
  near u at (inl same) = inl (ap (λ (z : Member). z.path.letter) same ∙ ap (λ (p : Path). p.letter) (slot_whole b o.body u at))
  near u at (inr part) = part_named (label_of o.labels u.path.number) u x (λ l is. label_eight o.labels u.path.number l eight is) part.1

rank_one : (p q : Path) → IsNamed p → IsNamed q → rank p ≡ rank q → p ≡ q
rank_one p q (inl a) (inl c) same =
    let x = ap letter_rank a in
    let y = ap letter_rank c in
    let numbers : p.number ≡ q.number = omega arith in
    let letters : p.letter ≡ q.letter = a ∙ sym c in
    λ i. record { number = numbers i; letter = letters i }
rank_one p q (inl a) (inr c) same =
    let x = ap letter_rank a in
    let y = ap letter_rank c.2 in
    absurd (omega (arith, c.1))
rank_one p q (inr a) (inl c) same =
    let x = ap letter_rank a.2 in
    let y = ap letter_rank c in
    absurd (omega (arith, a.1))
rank_one p q (inr a) (inr c) same =
    let x = ap letter_rank a.2 in
    let y = ap letter_rank c.2 in
    let numbers : p.number ≡ q.number = omega (arith, a.1, c.1) in
    let places : a.0 ≡ c.0 = omega (arith, a.1, c.1) in
    let letters : p.letter ≡ q.letter = a.2 ∙ ap (λ (k : ℕ). Some k) places ∙ sym c.2 in
    λ i. record { number = numbers i; letter = letters i }

outside_one : (b : ℕ) (o : Layout) (p q : Path) → HasEight o.labels → IsFirstOutside b o p → IsFirstOutside b o q → p ≡ q
outside_one b o p q eight x y =
    let there = x.first q y.here in
    let back = y.first p x.here in
    rank_one p q (named p x) (named q y) (omega arith) where
      named : (r : Path) → IsFirstOutside b o r → IsNamed r
      named r z =
          subst IsNamed z.here.path
          (member_named b o z.here.member eight (member_there b o z.here.group z.here.member z.here.is_of))

-- the first group that isn't apart
group_one : (xs ys us vs : List Group) (g h : Group) → xs ++ g ∷ us ≡ ys ++ h ∷ vs
    → ((k : Group) → Contains xs k → IsApart k.members) → ((k : Group) → Contains ys k → IsApart k.members) → ¬ IsApart g.members
    → ¬ IsApart h.members → g ≡ h
group_one [] [] us vs g h same p q x y = cc
group_one [] (k ∷ ys) us vs g h same p q x y =
    (let e : k ≡ g = cc in absurd (x (subst (λ (z : Group). IsApart z.members) e (q k (contains_head k ys)))))
group_one (k ∷ xs) [] us vs g h same p q x y =
    (let e : k ≡ h = cc in absurd (y (subst (λ (z : Group). IsApart z.members) e (p k (contains_head k xs)))))
group_one (k ∷ xs) (l ∷ ys) us vs g h same p q x y =
    let rest : xs ++ g ∷ us ≡ ys ++ h ∷ vs = cc in
    group_one xs ys us vs g h rest (λ z c. p z (contains_tail k xs z c)) (λ z c. q z (contains_tail l ys z c)) x y

shared_stands : (b : ℕ) (o : Layout) (p q : Path) (x : IsFirstShared b o p q) → Contains (groups_of b o) x.group
shared_stands b o p q x =
    subst (λ (l : List Group). Contains l x.group) (sym x.stands)
    (Contains-append_right x.before (x.group ∷ x.rest) x.group (contains_head x.group x.rest))

not_shared : (b : ℕ) (o : Layout) (p q : Path) → AllInside b o → (x : IsFirstShared b o p q) → ¬ IsApart x.group.members
not_shared b o p q inside x =
    let ordered : All IsOrdered x.group.members =
    λ i d lt. (inside x.group _ (record {
      stands = shared_stands b o p q x;
      sibling = Contains-get_or x.group.members i d lt;
    })).exists.0 in
    not_apart x.group.members (record { before = p; it = q }) ordered x.here

shared_one : (b : ℕ) (o : Layout) (p q r s : Path) → AllInside b o → IsFirstShared b o p q → IsFirstShared b o r s → Shared p q ≡ Shared r s
shared_one b o p q r s inside x y =
    let same : x.group ≡ y.group =
    group_one x.before y.before x.rest y.rest x.group y.group (sym x.stands ∙ y.stands) x.apart y.apart
    (not_shared b o p q inside x) (not_shared b o r s inside y) in
    let one =
    overlap_one y.group.members (record { before = p; it = q }) (record { before = r; it = s })
    (subst (λ (g : Group). IsFirstOverlap g.members (record { before = p; it = q })) same x.here) y.here in
    λ i. Shared ((one i).before) ((one i).it)

buried_one : (b : ℕ) (o : Layout) (p q : Path) (s t : Lba) → HasEight o.labels → IsFirstBuried b o p s.0 → IsFirstBuried b o q t.0
    → OnTable p s ≡ OnTable q t
buried_one b o p q s t eight x y =
    let there : rank p ≤ rank y.member.path = x.first y.member t.0 y.here in
    let back : rank q ≤ rank x.member.path = y.first x.member s.0 x.here in
    let a = ap rank x.path in
    let c = ap rank y.path in
    let paths : p ≡ q =
    rank_one p q (subst IsNamed x.path (member_named b o x.member eight x.here.is_member))
    (subst IsNamed y.path (member_named b o y.member eight y.here.is_member)) (omega arith) in
    let low : s.0 ≤ t.0 = x.lowest y.member t.0 y.here (y.path ∙ sym paths) in
    let high : t.0 ≤ s.0 = y.lowest x.member s.0 x.here (x.path ∙ paths) in
    let lbas : s.0 ≡ t.0 = omega arith in
    λ i. OnTable (paths i) (record { 0 = lbas i })

guids_one : (y : Body) (i j k l : ℕ) → IsFirstSameGuid y i j → IsFirstSameGuid y k l → SameGuid i j ≡ SameGuid k l
guids_one y i j k l p q = by_order (p.first k l q.here) (q.first i j p.here) where
  by_order : (j < l) ⊎ ((j ≡ l) × (i ≤ k)) → (l < j) ⊎ ((l ≡ j) × (k ≤ i)) → SameGuid i j ≡ SameGuid k l
  by_order (inl a) (inl c) = absurd (omega arith)
  by_order (inl a) (inr c) = absurd (omega (arith, c.0))
  by_order (inr a) (inl c) = absurd (omega (arith, a.0))
  by_order (inr a) (inr c) = (let lower : i ≡ k = omega (arith, a.1, c.1) in λ n. SameGuid (lower n) (a.0 n))

no_outside : (b : ℕ) (o : Layout) (p : Path) → IsFirstOutside b o p → AllInside b o → ⊥
no_outside b o p x inside = x.here.outside (inside x.here.group x.here.member x.here.is_of)

no_shared : (b : ℕ) (o : Layout) (p q : Path) → AllInside b o → IsFirstShared b o p q → AllApart b o → ⊥
no_shared b o p q inside x apart = not_shared b o p q inside x (apart x.group (shared_stands b o p q x))

pub unsound_one : (b : ℕ) (o : Layout) (f g : Finding) → HasEight o.labels → IsUnsound b o f → IsUnsound b o g → f ≡ g
unsound_one b o (OutsideUsable p) (OutsideUsable q) eight x y = ap OutsideUsable (outside_one b o p q eight x y)
unsound_one b o (OutsideUsable p) (Shared q r) eight x y = absurd (no_outside b o p x y.0)
unsound_one b o (OutsideUsable p) (OnTable q s) eight x y = absurd (no_outside b o p x y.0)
unsound_one b o (OutsideUsable p) (SameGuid i j) eight x y = absurd (no_outside b o p x y.0)
unsound_one b o (OutsideUsable p) _ eight x y = absurd y
unsound_one b o (Shared q r) (OutsideUsable p) eight x y = absurd (no_outside b o p y x.0)
unsound_one b o (Shared p q) (Shared r s) eight x y = shared_one b o p q r s x.0 x.1 y.1
unsound_one b o (Shared p q) (OnTable r s) eight x y = absurd (no_shared b o p q x.0 x.1 y.1)
unsound_one b o (Shared p q) (SameGuid i j) eight x y = absurd (no_shared b o p q x.0 x.1 y.1)
unsound_one b o (Shared p q) _ eight x y = absurd y
unsound_one b o (OnTable q s) (OutsideUsable p) eight x y = absurd (no_outside b o p y x.0)
unsound_one b o (OnTable q s) (Shared r t) eight x y = absurd (no_shared b o r t y.0 y.1 x.1)
unsound_one b o (OnTable p s) (OnTable q t) eight x y = buried_one b o p q s t eight x.2 y.2
unsound_one b o (OnTable p s) (SameGuid i j) eight x y = absurd (y.2 x.2.member s.0 x.2.here)
unsound_one b o (OnTable p s) _ eight x y = absurd y
unsound_one b o (SameGuid i j) (OutsideUsable p) eight x y = absurd (no_outside b o p y x.0)
unsound_one b o (SameGuid i j) (Shared r t) eight x y = absurd (no_shared b o r t y.0 y.1 x.1)
unsound_one b o (SameGuid i j) (OnTable q t) eight x y = absurd (x.2 y.2.member t.0 y.2.here)
unsound_one b o (SameGuid i j) (SameGuid k l) eight x y = guids_one o.body i j k l x.3 y.3
unsound_one b o (SameGuid i j) _ eight x y = absurd y
unsound_one b o _ g eight x y = absurd x

-- a side's fault, two tables and another alternate keep both copies of one table from being there as they should
record Copies (b : ℕ) (d : Sectors) (t : Table) : Type 0 where
  first : Copy b d Primary t
  second : Copy b d Backup t

copies_of : (b : ℕ) (d : Sectors) (t : Table) (h k : Header) → HasRoom b (length d) → HasCopies b d t h k → Copies b d t
copies_of b d t h k room is = record {
  first = record { room = room; head = h; stands = is.first };
  second = record { room = room; head = k; stands = is.second };
}

no_differ : (b : ℕ) (d : Sectors) (t : Table) → IsBodyBroken b d (Gpt t) CopiesDiffer → Copies b d t → ⊥
no_differ b d t (p, q, first, second, differ) copies =
    differ (copy_is_one_lem b d Primary p t first copies.first ∙ copy_is_one_lem b d Backup t q copies.second second)

no_other : (b : ℕ) (d : Sectors) (t : Table) (side : Side) → IsBodyBroken b d (Gpt t) (Alternate side)
    → IsBodyBroken b d (Gpt t) Protective → ⊥
no_other b d t Primary (h, k, copies, other) (i, j, also, alternates, bare) =
    let same = head_is_one_lem b d Primary h i copies.first.is_head also.first.is_head in
    other (ap (λ (h : Header). h.alternate) same ∙ alternates.first)
no_other b d t Backup (h, k, copies, other) (i, j, also, alternates, bare) =
    let same = head_is_one_lem b d Backup k j copies.second.is_head also.second.is_head in
    other.1 (ap (λ (h : Header). h.alternate) same ∙ alternates.second)

two_others : (b : ℕ) (d : Sectors) (t : Table) → IsBodyBroken b d (Gpt t) (Alternate Primary)
    → IsBodyBroken b d (Gpt t) (Alternate Backup) → ⊥
two_others b d t (h, k, copies, other) (i, j, also, right) =
    let same = head_is_one_lem b d Primary h i copies.first.is_head also.first.is_head in
    other (ap (λ (h : Header). h.alternate) same ∙ right.0)

alternates_one : (b : ℕ) (d : Sectors) (t : Table) (r s : Side) → IsBodyBroken b d (Gpt t) (Alternate r)
    → IsBodyBroken b d (Gpt t) (Alternate s) → Alternate r ≡ Alternate s
alternates_one b d t Primary Primary x y = refl
alternates_one b d t Primary Backup x y = absurd (two_others b d t x y)
alternates_one b d t Backup Primary x y = absurd (two_others b d t y x)
alternates_one b d t Backup Backup x y = refl

module _ (b : ℕ) (d : Sectors) (t : Table) (room : HasRoom b (length d)) where
  by_other : (side : Side) → IsBodyBroken b d (Gpt t) (Alternate side) → Copies b d t
  by_other side (h, k, copies, other) = copies_of b d t h k room copies

  by_open : IsBodyBroken b d (Gpt t) Protective → Copies b d t
  by_open (h, k, copies, alternates, bare) = copies_of b d t h k room copies

  no_first : (e : CopyError) → IsCopyFault b d Primary e → Copies b d t → ⊥
  no_first e p copies = no_copy_lem b d Primary e p (t, copies.first)

  no_second : (e : CopyError) → HasCopy b d Primary × IsCopyFault b d Backup e → Copies b d t → ⊥
  no_second e p copies = no_copy_lem b d Backup e p.1 (t, copies.second)

  broken_one : (f g : Finding) → IsBodyBroken b d (Gpt t) f → IsBodyBroken b d (Gpt t) g → f ≡ g
  broken_one (PrimaryCopy e) (PrimaryCopy f) x y = ap PrimaryCopy (copy_fault_is_one_lem b d Primary e f x y)
  broken_one (PrimaryCopy e) (BackupCopy f) x y = absurd (no_copy_lem b d Primary e x y.0)
  broken_one (PrimaryCopy e) CopiesDiffer x (p, q, first, second, differ) = absurd (no_copy_lem b d Primary e x (p, first))
  broken_one (PrimaryCopy e) (Alternate s) x y = absurd (no_first e x (by_other s y))
  broken_one (PrimaryCopy e) Protective x y = absurd (no_first e x (by_open y))
  broken_one (PrimaryCopy e) _ x y = absurd y
  broken_one (BackupCopy e) (PrimaryCopy f) x y = absurd (no_copy_lem b d Primary f y x.0)
  broken_one (BackupCopy e) (BackupCopy f) x y = ap BackupCopy (copy_fault_is_one_lem b d Backup e f x.1 y.1)
  broken_one (BackupCopy e) CopiesDiffer x (p, q, first, second, differ) = absurd (no_copy_lem b d Backup e x.1 (q, second))
  broken_one (BackupCopy e) (Alternate s) x y = absurd (no_second e x (by_other s y))
  broken_one (BackupCopy e) Protective x y = absurd (no_second e x (by_open y))
  broken_one (BackupCopy e) _ x y = absurd y
  broken_one CopiesDiffer (PrimaryCopy f) (p, q, first, second, differ) y = absurd (no_copy_lem b d Primary f y (p, first))
  broken_one CopiesDiffer (BackupCopy f) (p, q, first, second, differ) y = absurd (no_copy_lem b d Backup f y.1 (q, second))
  broken_one CopiesDiffer CopiesDiffer x y = refl
  broken_one CopiesDiffer (Alternate s) x y = absurd (no_differ b d t x (by_other s y))
  broken_one CopiesDiffer Protective x y = absurd (no_differ b d t x (by_open y))
  broken_one CopiesDiffer _ x y = absurd y
  broken_one (Alternate s) (PrimaryCopy f) x y = absurd (no_first f y (by_other s x))
  broken_one (Alternate s) (BackupCopy f) x y = absurd (no_second f y (by_other s x))
  broken_one (Alternate s) CopiesDiffer x y = absurd (no_differ b d t y (by_other s x))
  broken_one (Alternate r) (Alternate s) x y = alternates_one b d t r s x y
  broken_one (Alternate s) Protective x y = absurd (no_other b d t s x y)
  broken_one (Alternate s) _ x y = absurd y
  broken_one Protective (PrimaryCopy f) x y = absurd (no_first f y (by_open x))
  broken_one Protective (BackupCopy f) x y = absurd (no_second f y (by_open x))
  broken_one Protective CopiesDiffer x y = absurd (no_differ b d t y (by_open x))
  broken_one Protective (Alternate s) x y = absurd (no_other b d t s y x)
  broken_one Protective Protective x y = refl
  broken_one Protective _ x y = absurd y
  broken_one _ g x y = absurd x

body_one : (b : ℕ) (d : Sectors) (z : Body) (f g : Finding) → BodyIs b d z → IsBodyBroken b d z f → IsBodyBroken b d z g → f ≡ g
body_one b d (Mbr rs chain) f g is x y = absurd x
body_one b d (Gpt t) f g is x y = broken_one b d t is.1 f g x y

foreign_one : (b : ℕ) (d : Sectors) (o : Layout) (p q : Path) → IsFirstForeign b d o p → IsFirstForeign b d o q → p ≡ q
foreign_one b d o p q x y =
    let there : p.number ≤ q.number = x.first q.number y.here in
    let back : q.number ≤ p.number = y.first p.number x.here in
    let numbers : p.number ≡ q.number = omega arith in
    x.whole_slice ∙ ap (λ (n : ℕ). number_path n) numbers ∙ sym y.whole_slice

record ForeignFinding (b : ℕ) (d : Sectors) (o : Layout) (f : Finding) : Type 0 where
  path : Path
  is : f ≡ ForeignLabel path
  whole : IsBodyWhole b d o.body
  sound : Sound b o
  first : IsFirstForeign b d o path

record LayoutUnsound (b : ℕ) (d : Sectors) (o : Layout) (f : Finding) : Type 0 where
  whole : IsBodyWhole b d o.body
  unsound : IsUnsound b o f

abbrev Stage : ℕ → Sectors → Layout → Finding → Type 0
Stage b d o f = IsBodyBroken b d o.body f ⊎ LayoutUnsound b d o f ⊎ ForeignFinding b d o f

stage_of : (b : ℕ) (d : Sectors) (o : Layout) (f : Finding) → IsLayoutFinding b d o f → Stage b d o f
stage_of b d o (NoTable e) x = absurd x
stage_of b d o (PrimaryCopy e) x = inl x
stage_of b d o (BackupCopy e) x = inl x
stage_of b d o CopiesDiffer x = inl x
stage_of b d o (Alternate s) x = inl x
stage_of b d o Protective x = inl x
stage_of b d o (OutsideUsable p) x = inr (inl (record { whole = x.0; unsound = x.1 }))
stage_of b d o (Shared p q) x = inr (inl (record { whole = x.0; unsound = x.1 }))
stage_of b d o (OnTable p s) x = inr (inl (record { whole = x.0; unsound = x.1 }))
stage_of b d o (SameGuid i j) x = inr (inl (record { whole = x.0; unsound = x.1 }))
stage_of b d o (ForeignLabel p) x = inr (inr (record { path = p; is = refl; whole = x.0; sound = x.1; first = x.2 }))

stages_one : (b : ℕ) (d : Sectors) (o : Layout) (f g : Finding) → Denotes b d (Some o) → HasEight o.labels → Stage b d o f
    → Stage b d o g → f ≡ g
stages_one b d o f g denotes eight (inl x) (inl y) = body_one b d o.body f g denotes.1 x y
stages_one b d o f g denotes eight (inl x) (inr (inl y)) = absurd (body_not_whole b d o f denotes x y.whole)
stages_one b d o f g denotes eight (inl x) (inr (inr y)) = absurd (body_not_whole b d o f denotes x y.whole)
stages_one b d o f g denotes eight (inr (inl x)) (inl y) = absurd (body_not_whole b d o g denotes y x.whole)
stages_one b d o f g denotes eight (inr (inl x)) (inr (inl y)) = unsound_one b o f g eight x.unsound y.unsound
stages_one b d o f g denotes eight (inr (inl x)) (inr (inr y)) = absurd (unsound_excludes_lem b o f x.unsound y.sound)
stages_one b d o f g denotes eight (inr (inr x)) (inl y) = absurd (body_not_whole b d o g denotes y x.whole)
stages_one b d o f g denotes eight (inr (inr x)) (inr (inl y)) = absurd (unsound_excludes_lem b o g y.unsound x.sound)
stages_one b d o f g denotes eight (inr (inr x)) (inr (inr y)) =
    x.is ∙ ap ForeignLabel (foreign_one b d o x.path y.path x.first y.first) ∙ sym y.is

eight_on : (d : Sectors) (ps : List SliceValue) (labels : List Labelled) → LabelsAre d ps labels → HasEight labels
unfolding HasEight
eight_on d [] labels are = subst HasEight (sym are) tt
eight_on d (p ∷ ps) labels (inl here) = subst HasEight (sym here.2) (here.3.entries.places, eight_on d ps here.1 here.4)
eight_on d (p ∷ ps) labels (inr without) = eight_on d ps labels without.1

record NothingFound (b : ℕ) (d : Sectors) (f : Finding) : Type 0 where
  reason : NoTableValue
  is : f ≡ NoTable reason
  denotes : Denotes b d None
  holds : IsReason b d reason

record LayoutFound (b : ℕ) (d : Sectors) (f : Finding) : Type 0 where
  layout : Layout
  denotes : Denotes b d (Some layout)
  holds : IsLayoutFinding b d layout f

abbrev Found : ℕ → Sectors → Finding → Type 0
Found b d f = NothingFound b d f ⊎ LayoutFound b d f

found_of : (b : ℕ) (d : Sectors) (f : Finding) → IsFinding b d f → Found b d f
found_of b d (NoTable e) x = inl (record { reason = e; is = refl; denotes = x.0; holds = x.1 })
found_of b d (PrimaryCopy e) x = inr (record { layout = x.0; denotes = x.1; holds = x.2 })
found_of b d (BackupCopy e) x = inr (record { layout = x.0; denotes = x.1; holds = x.2 })
found_of b d CopiesDiffer x = inr (record { layout = x.0; denotes = x.1; holds = x.2 })
found_of b d (Alternate s) x = inr (record { layout = x.0; denotes = x.1; holds = x.2 })
found_of b d Protective x = inr (record { layout = x.0; denotes = x.1; holds = x.2 })
found_of b d (OutsideUsable p) x = inr (record { layout = x.0; denotes = x.1; holds = x.2 })
found_of b d (Shared p q) x = inr (record { layout = x.0; denotes = x.1; holds = x.2 })
found_of b d (OnTable p s) x = inr (record { layout = x.0; denotes = x.1; holds = x.2 })
found_of b d (SameGuid i j) x = inr (record { layout = x.0; denotes = x.1; holds = x.2 })
found_of b d (ForeignLabel p) x = inr (record { layout = x.0; denotes = x.1; holds = x.2 })

none_or_some : (b : ℕ) (d : Sectors) (o : Layout) → Denotes b d None → Denotes b d (Some o) → ⊥
none_or_some b d o x y = let same : None ≡ Some o = denotes_one_lem b d None (Some o) x y in absurd cc

founds_one : (b : ℕ) (d : Sectors) (f g : Finding) → Found b d f → Found b d g → f ≡ g
founds_one b d f g (inl x) (inl y) = x.is ∙ ap NoTable (reason_is_one_lem b d x.reason y.reason x.holds y.holds) ∙ sym y.is
founds_one b d f g (inl x) (inr y) = absurd (none_or_some b d y.layout x.denotes y.denotes)
founds_one b d f g (inr x) (inl y) = absurd (none_or_some b d x.layout y.denotes x.denotes)
founds_one b d f g (inr x) (inr y) =
    let both : Some x.layout ≡ Some y.layout = denotes_one_lem b d (Some x.layout) (Some y.layout) x.denotes y.denotes in
    let same : x.layout ≡ y.layout = cc in
    let eight = eight_on d (places_of b (length d) y.layout.body) y.layout.labels y.denotes.2 in
    stages_one b d y.layout f g y.denotes eight (stage_of b d y.layout f
    (subst (λ (o : Layout). IsLayoutFinding b d o f) same x.holds)) (stage_of b d y.layout g y.holds)

-- a disk has one first finding at most
pub finding_one : (b : ℕ) (d : Sectors) (f g : Finding) → IsFinding b d f → IsFinding b d g → f ≡ g
finding_one b d f g x y = founds_one b d f g (found_of b d f x) (found_of b d g y)

-- a disk has one verdict at most
pub verdict_one : (b : ℕ) (d : Sectors) (v w : Verdict) → VerdictIs b d v → VerdictIs b d w → v ≡ w
verdict_one b d (Yes o) (Yes p) x y = ap Yes (healthy_is_one_lem b d o p x y)
verdict_one b d (Yes o) (No g) x y = absurd (finding_excludes_lem b d g y (o, x))
verdict_one b d (No f) (Yes p) x y = absurd (finding_excludes_lem b d f x (p, y))
verdict_one b d (No f) (No g) x y = ap No (finding_one b d f g x y)

-- The partitions of a layout are listed in the order of their paths, so a path is one partition's.
use Rattle.std.proofs.Common.{◌≡◌, ◌<◌, ◌≤◌, ◌+◌, ℕ, List, [], ◌∷◌, ◌++◌, length, Option, Some, None, refl, sym, ap, subst, ◌∙◌}
use Rattle.std.proofs.Common.{append_assoc, append-nil, arith, inl, inr}
use Rattle.std.specs.Prelude.{◌⊎◌, Contains, flat_map, if◌then◌else◌, is_some, option_map, option_to_list}
use Rattle.std.proofs.lemmas.Grind.{flat_map-append}
use Rattle.pt_bsd.specs.declared.label.Label.{Label}
use Rattle.pt_bsd.specs.declared.label.LabelEntry.{LabelEntry}
use Rattle.pt_mbr.specs.declared.record.Record.{Record}
use Rattle.pt_mbr.specs.declared.ebr.Ebr.{Ebr}
use Rattle.pt_gpt.specs.declared.entry.Entry.{Entry}
use Rattle.pt_path.specs.declared.path.Path.{Path}
use Rattle.pt_path.specs.Paths.{letter_rank, rank}
use Rattle.pt_members.specs.declared.layout.Layout.{Layout}
use Rattle.pt_members.specs.declared.layout.Body.{Body}
use Rattle.pt_members.specs.declared.layout.Body.TheVariants.{Mbr, Gpt}
use Rattle.pt_members.specs.declared.member.Kind.{Kind}
use Rattle.pt_members.specs.declared.member.Kind.TheVariants.{Leaf, Slice, Extended}
use Rattle.pt_members.specs.declared.member.Member.{Member}
use Rattle.pt_members.specs.Members.{entries_as, entry_member, label_of, letter_path, logical_member, logicals, logicals_as, number_path}
use Rattle.pt_members.specs.Members.{part_of, parts, parts_as, parts_in, present, record_member, records_as, slots, tops}
use Rattle.pt_members.specs.Rows.{IsMember, members_below, members_of}
use Rattle.pt_members.specs.Tables.{HasFour, IsPlaceOf}
use Rattle.pt_members.proofs.Grouped.{contains_cases, contains_none}
use Rattle.pt_members.proofs.Paths.{part_path}
use Rattle.pt_members.proofs.RowMembers.{at_place, members_by_place}

-- the path has number n and a letter from place s on, of which 0 is for no letter, or it has a higher number
abbrev IsFrom : ℕ → ℕ → Path → Type 0
IsFrom n s p = (n < p.number) ⊎ ((n ≡ p.number) × (s ≤ letter_rank p.letter))

-- the first stands there or behind it, and each of the others behind the one before it
abbrev Ascends : ℕ → ℕ → List Member → Type 0
Ascends n s [] = Unit {0}
Ascends n s (m ∷ ms) = IsFrom n s m.path × Ascends m.path.number (letter_rank m.path.letter + 1) ms

before_from : (i s j t : ℕ) (p : Path) → (i < j) ⊎ ((i ≡ j) × (s ≤ t)) → IsFrom j t p → IsFrom i s p
before_from i s j t p (inl a) (inl c) = inl (omega (arith, a, c))
before_from i s j t p (inl a) (inr c) = inl (omega (arith, a, c.0))
before_from i s j t p (inr a) (inl c) = inl (omega (arith, a.0, c))
before_from i s j t p (inr a) (inr c) = inr (omega (arith, a.0, c.0), omega (arith, a.1, c.1))

lower : (i s j t : ℕ) (ms : List Member) → (i < j) ⊎ ((i ≡ j) × (s ≤ t)) → Ascends j t ms → Ascends i s ms
lower i s j t [] less up = tt
lower i s j t (m ∷ ms) less up = (before_from i s j t m.path less up.0, up.1)

-- a partition of this path in front of others
behind_path : (n s : ℕ) (m : Member) (p : Path) (ms : List Member) → m.path ≡ p → IsFrom n s p
    → Ascends p.number (letter_rank p.letter + 1) ms → Ascends n s (m ∷ ms)
behind_path n s m p ms is from up = (
  subst (λ (q : Path). IsFrom n s q) (sym is) from,
  subst (λ (q : Path). Ascends q.number (letter_rank q.letter + 1) ms) (sym is) up,
)

-- ## What is listed ascends.

-- the partitions of a label from letter k on, with what comes behind their slice
parts_up : (l : Label) (m : Member) (k : ℕ) (es : List (Option LabelEntry)) (rest : List Member) → Ascends (m.path.number + 1) 0 rest
    → Ascends m.path.number (k + 1) (present (parts_as l m k es) ++ rest)
unfolding parts_as
parts_up l m k [] rest up = lower m.path.number (k + 1) (m.path.number + 1) 0 rest (inl (omega arith)) up
parts_up l m k (e ∷ es) rest up = by_case (parts_up l m (k + 1) es rest up) (part_of l m k e) refl where
  by_case : Ascends m.path.number (k + 1 + 1) (present (parts_as l m (k + 1) es) ++ rest) → (o : Option Member) → part_of l m k e ≡ o
      → Ascends m.path.number (k + 1) ((option_to_list o ++ present (parts_as l m (k + 1) es)) ++ rest)
  by_case more None is =
      lower m.path.number (k + 1) m.path.number (k + 1 + 1) (present (parts_as l m (k + 1) es) ++ rest) (inr (refl, omega arith)) more
  by_case more (Some x) is =
      behind_path m.path.number (k + 1) x (letter_path m.path.number k) (present (parts_as l m (k + 1) es) ++ rest) (part_path l m x k e is)
      (inr (refl, omega arith)) more

label_up : (l : Option Label) (m : Member) (rest : List Member) → Ascends (m.path.number + 1) 0 rest
    → Ascends m.path.number 1 (present (parts_in l m) ++ rest)
unfolding parts_in
label_up None m rest up = lower m.path.number 1 (m.path.number + 1) 0 rest (inl (omega arith)) up
label_up (Some l) m rest up = parts_up l m 0 l.entries rest up

below_up : (o : Layout) (m : Member) (k : Kind) (rest : List Member) → Ascends (m.path.number + 1) 0 rest
    → Ascends m.path.number 1 (members_below k o m ++ rest)
below_up o m Leaf rest up = lower m.path.number 1 (m.path.number + 1) 0 rest (inl (omega arith)) up
below_up o m Slice rest up = label_up (label_of o.labels m.path.number) m rest up
below_up o m Extended rest up = lower m.path.number 1 (m.path.number + 1) 0 rest (inl (omega arith)) up

-- a place of number n, where it is used, with what comes behind it
place_up : {X : Type 0} (o : Layout) (n : ℕ) (f : X → Member) → ((r : X) → (f r).path ≡ number_path n) → (u : Option X) (rest : List Member)
    → Ascends (n + 1) 0 rest → Ascends n 0 (at_place o (option_map f u) ++ rest)
place_up o n f named None rest up = lower n 0 (n + 1) 0 rest (inl (omega arith)) up
place_up o n f named (Some r) rest up =
    let number : (f r).path.number ≡ n = ap (λ (p : Path). p.number) (named r) in
    behind_path n 0 (f r) (number_path n) (members_below (f r).kind o (f r) ++ rest) (named r) (inr (refl, omega arith))
    (subst (λ (k : ℕ). Ascends k 1 (members_below (f r).kind o (f r) ++ rest)) number
    (below_up o (f r) (f r).kind rest (subst (λ (k : ℕ). Ascends (k + 1) 0 rest) (sym number) up)))

-- what is in front of what is listed
joined : (n : ℕ) (xs ys zs : List Member) → Ascends n 0 (xs ++ (ys ++ zs)) → Ascends n 0 ((xs ++ ys) ++ zs)
joined n xs ys zs up = subst (λ (l : List Member). Ascends n 0 l) (sym (append_assoc xs ys zs)) up

records_up : (o : Layout) (b n : ℕ) (rs : List (Option Record)) (rest : List Member) → Ascends (n + length rs) 0 rest
    → Ascends n 0 (flat_map (at_place o) (records_as b n rs) ++ rest)
unfolding records_as
records_up o b n [] rest up = lower n 0 (n + 0) 0 rest (inr (omega arith, omega arith)) up
records_up o b n (r ∷ rs) rest up =
    joined n (at_place o (option_map (record_member b n) r)) (flat_map (at_place o) (records_as b (n + 1) rs)) rest
    (place_up o n (record_member b n) (λ r. refl) r (flat_map (at_place o) (records_as b (n + 1) rs) ++ rest)
    (records_up o b (n + 1) rs rest (lower ((n + 1) + length rs) 0 (n + length (r ∷ rs)) 0 rest (inr (omega arith, omega arith)) up)))

entries_up : (o : Layout) (b n : ℕ) (es : List (Option Entry)) → Ascends n 0 (flat_map (at_place o) (entries_as b n es))
unfolding entries_as
entries_up o b n [] = tt
entries_up o b n (e ∷ es) =
    place_up o n (entry_member b n) (λ r. refl) e (flat_map (at_place o) (entries_as b (n + 1) es)) (entries_up o b (n + 1) es)

logicals_up : (o : Layout) (b n : ℕ) (es : List Ebr) → Ascends n 0 (flat_map (at_place o) (logicals_as b n es))
unfolding logicals_as
logicals_up o b n [] = tt
logicals_up o b n (e ∷ es) = by_case (λ k. logicals_up o b k es) e.logical where
  by_case : ((k : ℕ) → Ascends k 0 (flat_map (at_place o) (logicals_as b k es))) → (r : Option Record) → Ascends n 0
      (at_place o (option_map (logical_member b n e.at.0) r) ++ flat_map (at_place o) (logicals_as b (if is_some r then n + 1 else n) es))
  by_case more None = more n
  by_case more (Some r) =
      place_up o n (logical_member b n e.at.0) (λ r. refl) (Some r) (flat_map (at_place o) (logicals_as b (n + 1) es))
      (more (n + 1))

slots_up : (o : Layout) (b : ℕ) (y : Body) → HasFour y → Ascends 0 0 (flat_map (at_place o) (slots b y))
unfolding tops logicals
slots_up o b (Mbr rs chain) four =
    subst (λ (l : List Member). Ascends 0 0 l) (sym (flat_map-append (at_place o) (records_as b 1 rs) (logicals_as b 5 chain)))
    (lower 0 0 1 0 (flat_map (at_place o) (records_as b 1 rs) ++ flat_map (at_place o) (logicals_as b 5 chain)) (inl (omega arith))
    (records_up o b 1 rs (flat_map (at_place o) (logicals_as b 5 chain))
    (lower (1 + length rs) 0 5 0 (flat_map (at_place o) (logicals_as b 5 chain)) (inr (omega (arith, four), omega arith))
    (logicals_up o b 5 chain))))
slots_up o b (Gpt t) four =
    subst (λ (ms : List (Option Member)). Ascends 0 0 (flat_map (at_place o) ms)) (sym (append-nil (entries_as b 1 t.entries)))
    (lower 0 0 1 0 (flat_map (at_place o) (entries_as b 1 t.entries)) (inl (omega arith)) (entries_up o b 1 t.entries))

members_up : (b : ℕ) (o : Layout) → HasFour o.body → Ascends 0 0 (members_of b o)
members_up b o four = subst (λ (l : List Member). Ascends 0 0 l) (sym (members_by_place b o)) (slots_up o b o.body four)

-- ## What ascends.

all_from : (n s : ℕ) (ms : List Member) (y : Member) → Ascends n s ms → Contains ms y → IsFrom n s y.path
all_from n s [] y up at = absurd (contains_none y at)
all_from n s (m ∷ ms) y up at = elim (contains_cases m ms y at) as (λ _. IsFrom n s y.path) [
  | inl here ↦ subst (λ (z : Member). IsFrom n s z.path) here up.0
  | inr there ↦ on up.0 (all_from m.path.number (letter_rank m.path.letter + 1) ms y up.1 there)
] where
  on : IsFrom n s m.path → IsFrom m.path.number (letter_rank m.path.letter + 1) y.path → IsFrom n s y.path
  on (inl less) from = before_from n s m.path.number (letter_rank m.path.letter + 1) y.path (inl less) from
  on (inr same) from = before_from n s m.path.number (letter_rank m.path.letter + 1) y.path (inr (same.0, omega (arith, same.1))) from

rest_up : (n s : ℕ) (before : List Member) (x : Member) (after : List Member) → Ascends n s (before ++ x ∷ after)
    → Ascends x.path.number (letter_rank x.path.letter + 1) after
rest_up n s [] x after up = up.1
rest_up n s (m ∷ ms) x after up = rest_up m.path.number (letter_rank m.path.letter + 1) ms x after up.1

-- what is listed behind a partition comes behind it, whose letter is one of 256
pub comes_behind : (b : ℕ) (o : Layout) (before : List Member) (x : Member) (after : List Member) (y : Member) → HasFour o.body
    → before ++ x ∷ after ≡ members_of b o → letter_rank x.path.letter ≤ 256 → Contains after y → rank x.path ≤ rank y.path
comes_behind b o before x after y four all few at = by_case (all_from x.path.number (letter_rank x.path.letter + 1) after y
    (rest_up 0 0 before x after (subst (λ (l : List Member). Ascends 0 0 l) (sym all) (members_up b o four))) at) where
      by_case : IsFrom x.path.number (letter_rank x.path.letter + 1) y.path → rank x.path ≤ rank y.path
      by_case (inl less) = omega (arith, less, few)
      by_case (inr same) = omega (arith, same.0, same.1)

-- ## A path is one partition's.

not_behind : (p q : Path) → p ≡ q → ¬ IsFrom p.number (letter_rank p.letter + 1) q
not_behind p q same from = by_case (subst (λ (r : Path). IsFrom p.number (letter_rank p.letter + 1) r) (sym same) from) where
  by_case : ¬ IsFrom p.number (letter_rank p.letter + 1) p
  by_case (inl less) = omega (arith, less)
  by_case (inr more) = omega (arith, more.1)

one_of : (n s : ℕ) (ms : List Member) (x y : Member) → Ascends n s ms → Contains ms x → Contains ms y → x.path ≡ y.path → x ≡ y
one_of n s [] x y up a c same = absurd (contains_none x a)
one_of n s (m ∷ ms) x y up a c same = elim (contains_cases m ms x a) as (λ _. x ≡ y) [
  | inl here ↦ elim (contains_cases m ms y c) as (λ _. x ≡ y) [
    | inl also ↦ sym here ∙ also
    | inr there ↦ absurd (not_behind m.path y.path (ap (λ (z : Member). z.path) here ∙ same) (later y there))
  ]
  | inr there ↦ elim (contains_cases m ms y c) as (λ _. x ≡ y) [
    | inl also ↦ absurd (not_behind m.path x.path (ap (λ (z : Member). z.path) also ∙ sym same) (later x there))
    | inr other ↦ one_of m.path.number (letter_rank m.path.letter + 1) ms x y up.1 there other same
  ]
] where
  later : (z : Member) → Contains ms z → IsFrom m.path.number (letter_rank m.path.letter + 1) z.path
  later z at = all_from m.path.number (letter_rank m.path.letter + 1) ms z up.1 at

pub path_one : (b : ℕ) (o : Layout) (x y : Member) → HasFour o.body → IsMember b o x → IsMember b o y → x.path ≡ y.path → x ≡ y
path_one b o x y four a c same = one_of 0 0 (members_of b o) x y (members_up b o four) a c same

-- a path and a number are one sector
pub sector_one : (b : ℕ) (o : Layout) (p : Path) (k s t : ℕ) → HasFour o.body → IsPlaceOf b o p k s → IsPlaceOf b o p k t → s ≡ t
sector_one b o p k s t four x y =
    let same : x.leaf ≡ y.leaf = path_one b o x.leaf y.leaf four x.is_member y.is_member (x.path ∙ sym y.path) in
    let starts : x.leaf.first ≡ y.leaf.first = ap (λ (m : Member). m.first) same in
    omega (arith, x.place, y.place, starts)

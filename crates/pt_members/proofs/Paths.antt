-- The paths of partitions: a number, and in a label a letter.
use Rattle.std.specs.Prelude.{◌⊎◌, ◌≡◌, ◌+◌, ◌∷◌, [], ℕ, Bool, true, false, List, option_map, is_some, if◌then◌else◌, nat_eq}
use Rattle.std.specs.Prelude.{Option, Some, None}
use Rattle.std.proofs.Common.{zero, suc, refl, sym, ap, subst, ◌∙◌, arith, inl, inr}
use Rattle.pt_bsd.specs.declared.label.Label.{Label}
use Rattle.pt_bsd.specs.declared.label.LabelEntry.{LabelEntry}
use Rattle.pt_bsd.specs.Labels.{entry_first_of}
use Rattle.pt_mbr.specs.declared.record.Record.{Record}
use Rattle.pt_mbr.specs.declared.ebr.Ebr.{Ebr}
use Rattle.pt_gpt.specs.declared.entry.Entry.{Entry}
use Rattle.pt_members.specs.declared.layout.Body.{Body}
use Rattle.pt_members.specs.declared.layout.Body.TheVariants.{Mbr, Gpt}
use Rattle.pt_members.specs.declared.member.Kind.TheVariants.{Leaf}
use Rattle.pt_members.specs.declared.member.Member.{Member}
use Rattle.pt_members.specs.Members.{number_path, letter_path, records_as, entries_as, logicals_as, record_member, entry_member}
use Rattle.pt_members.specs.Members.{logical_member, slots, tops, logicals, part_of, sized_member}
use Rattle.pt_members.proofs.Standing.{AtPlace}
use Rattle.pt_members.proofs.Grouped.{present_split}

-- a place is the first one or one of the rest
pub place_cases : (o : Option Member) (os : List (Option Member)) (m : Member) → AtPlace (o ∷ os) m → (o ≡ Some m) ⊎ AtPlace os m
place_cases o os m (zero, lt, at) = inl at
place_cases o os m (suc k, lt, at) = inr (k, omega arith, at)

-- ## Records, entries and logical partitions have no letter.

abbrev IsWhole : Member → Type 0
IsWhole x = x.path ≡ number_path x.path.number

-- of a place whose partition would be f's, and of those behind it
whole_at : {X : Type 0} (f : X → Member) → ((r : X) → IsWhole (f r)) → (u : Option X) (os : List (Option Member)) (x : Member)
    → AtPlace (option_map f u ∷ os) x → (AtPlace os x → IsWhole x) → IsWhole x
whole_at f whole u os x at more = elim (place_cases (option_map f u) os x at) as (λ _. IsWhole x) [
  | inl here ↦ head u here
  | inr there ↦ more there
] where
  head : (v : Option _) → option_map f v ≡ Some x → IsWhole x
  head None is = absurd cc
  head (Some r) is = let same : f r ≡ x = cc in subst (λ (z : Member). IsWhole z) same (whole r)

records_whole : (b n : ℕ) (rs : List (Option Record)) (x : Member) → AtPlace (records_as b n rs) x → IsWhole x
unfolding records_as
records_whole b n [] x at = absurd (omega (arith, at.1))
records_whole b n (r ∷ rs) x at =
    whole_at (record_member b n) (λ r. refl) r (records_as b (n + 1) rs) x at (records_whole b (n + 1) rs x)

entries_whole : (b n : ℕ) (es : List (Option Entry)) (x : Member) → AtPlace (entries_as b n es) x → IsWhole x
unfolding entries_as
entries_whole b n [] x at = absurd (omega (arith, at.1))
entries_whole b n (e ∷ es) x at =
    whole_at (entry_member b n) (λ r. refl) e (entries_as b (n + 1) es) x at (entries_whole b (n + 1) es x)

logicals_whole : (b n : ℕ) (es : List Ebr) (x : Member) → AtPlace (logicals_as b n es) x → IsWhole x
unfolding logicals_as
logicals_whole b n [] x at = absurd (omega (arith, at.1))
logicals_whole b n (e ∷ es) x at =
    let after = if is_some e.logical then n + 1 else n in
    whole_at (logical_member b n e.at.0) (λ r. refl) e.logical (logicals_as b after es) x at (logicals_whole b after es x)

pub slot_whole : (b : ℕ) (z : Body) (x : Member) → AtPlace (slots b z) x → x.path ≡ number_path x.path.number
unfolding tops logicals
slot_whole b (Mbr rs chain) x p =
    elim (present_split (records_as b 1 rs) (logicals_as b 5 chain) x p) as (λ _. x.path ≡ number_path x.path.number) [
      | inl top ↦ records_whole b 1 rs x top
      | inr logical ↦ logicals_whole b 5 chain x logical
    ]
slot_whole b (Gpt t) x p = elim (present_split (entries_as b 1 t.entries) [] x p) as (λ _. x.path ≡ number_path x.path.number) [
  | inl top ↦ entries_whole b 1 t.entries x top
  | inr none ↦ absurd (omega (arith, none.1))
]

-- ## The partitions of a label have one.

-- a partition of a label is one of its entries
pub part_is : (l : Label) (m x : Member) (k : ℕ) (o : Option LabelEntry) → part_of l m k o ≡ Some x
    → (e : LabelEntry) × (x ≡ sized_member (letter_path m.path.number k) Leaf (entry_first_of l m.first e) e.size)
part_is l m x k None is = absurd cc
part_is l m x k (Some e) is = by_case (nat_eq k 2) (nat_eq e.size 0) refl refl where
  made : Member
  made = sized_member (letter_path m.path.number k) Leaf (entry_first_of l m.first e) e.size

  by_case : (c d : Bool) → nat_eq k 2 ≡ c → nat_eq e.size 0 ≡ d
      → (f : LabelEntry) × (x ≡ sized_member (letter_path m.path.number k) Leaf (entry_first_of l m.first f) f.size)
  by_case true d p q = absurd (let f : part_of l m k (Some e) ≡ None = rw p refl in let g : None ≡ Some x = sym f ∙ is in cc)
  by_case false true p q = absurd (let f : part_of l m k (Some e) ≡ None = rw p (rw q refl) in let g : None ≡ Some x = sym f ∙ is in cc)
  by_case false false p q =
      let f : part_of l m k (Some e) ≡ Some made = rw p (rw q refl) in
      let g : Some made ≡ Some x = sym f ∙ is in
      let h : made ≡ x = cc in
      (e, sym h)

-- the letters of a label's partitions
pub part_path : (l : Label) (m x : Member) (k : ℕ) (o : Option LabelEntry) → part_of l m k o ≡ Some x → x.path ≡ letter_path m.path.number k
part_path l m x k o is = ap (λ (z : Member). z.path) (part_is l m x k o is).1

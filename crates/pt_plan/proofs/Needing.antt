-- Phases that are left out where the disk holds what they would write: what the others come to, how many writes they have, and what is
-- true of each.
use Rattle.std.proofs.Common.{◌≡◌, ◌∙◌, ◌⊎◌, inl, inr, ⊎_elim, ℕ, ◌+◌, ◌<◌, ◌≤◌, List, [], ◌∷◌, ◌++◌, length, sym, ap, subst}
use Rattle.std.proofs.Common.{arith, length-append}
use Rattle.std.specs.Prelude.{All}
use Rattle.std.proofs.lemmas.Bool.{cases_lt}
use Rattle.std.proofs.lemmas.List.Elements.{All-nil, All-cons, All-append}
use Rattle.pt_sector.specs.Sectors.{Sectors, sector, Writes, Puts, written, after}
use Rattle.pt_sector.specs.inner.ForFields.{length-written}
use Rattle.pt_sector.proofs.Written.{same_sectors, stopped_written}
use Rattle.pt_apply.specs.Plans.{writes_in}
use Rattle.pt_apply.proofs.Puts.{puts_split}
use Rattle.pt_cases.specs.Kept.{AllStand, Needed, ForPrimary, stands, rewritten}
use Rattle.pt_cases.specs.Writes.{one_write}
use Rattle.pt_cases.proofs.Frames.{misses, there_one, one_is}

-- ## Writes of what stands already change nothing.

pub unwritten : (d : Sectors) (ws : Writes) → AllStand d ws → written ws d ≡ d
unwritten d ws stand = same_sectors (written ws d) d (length-written ws d) (λ k lt. ⊎_elim
    (λ same. same)
    (λ puts. sym (stand k (sector (written ws d) k) puts))
    ((stopped_written ws d).each k lt))

-- what stands also stands on a disk with the same sectors there
pub stands_on : (d c : Sectors) (ws : Writes) → AllStand d ws → ((s : ℕ) (v : List ℕ) → Puts ws s v → sector c s ≡ sector d s)
    → AllStand c ws
stands_on d c ws stand same s v puts = same s v puts ∙ stand s v puts

-- of two writes of sector 1 the second one stays
pub written_over : (c : Sectors) (u v : List ℕ) → 1 < length c
    → written (one_write 1 v) (written (one_write 1 u) c) ≡ written (one_write 1 v) c
written_over c u v lt =
    same_sectors (written (one_write 1 v) (written (one_write 1 u) c)) (written (one_write 1 v) c)
    (length-written (one_write 1 v) (written (one_write 1 u) c) ∙ length-written (one_write 1 u) c ∙ sym (length-written (one_write 1 v) c))
    (λ k within. by_sector k (is_one k))
  where
    is_one : (k : ℕ) → (k ≡ 1) ⊎ ¬ (k ≡ 1)
    is_one k = ⊎_elim
        (λ below. inr (λ is. omega (arith, below, is)))
        (λ above. ⊎_elim (λ it. inl (omega (arith, it, above))) (λ past. inr (λ is. omega (arith, past, is))) (cases_lt k 2))
        (cases_lt k 1)

    by_sector : (k : ℕ) → (k ≡ 1) ⊎ ¬ (k ≡ 1)
        → sector (written (one_write 1 v) (written (one_write 1 u) c)) k ≡ sector (written (one_write 1 v) c) k
    by_sector k (inl is) =
        subst
        (λ (j : ℕ). sector (written (one_write 1 v) (written (one_write 1 u) c)) j ≡ sector (written (one_write 1 v) c) j)
        (sym is)
        (there_one (written (one_write 1 u) c) 1 v (subst (λ (m : ℕ). 1 < m) (sym (length-written (one_write 1 u) c)) lt)
        ∙ sym (there_one c 1 v lt))
    by_sector k (inr isnt) =
        misses (written (one_write 1 u) c) (one_write 1 v) k (λ x puts. isnt (one_is 1 k v x puts))
        ∙ misses c (one_write 1 u) k (λ x puts. isnt (one_is 1 k u x puts))
        ∙ sym (misses c (one_write 1 v) k (λ x puts. isnt (one_is 1 k v x puts)))

-- the disk after a phase that is written if it is needed
pub after_needed : (d : Sectors) (ws : Writes) (phases : List Writes) → Needed d ws phases → after phases d ≡ written ws d
after_needed d ws phases (inl (stand, none)) = ap (λ (ps : List Writes). after ps d) none ∙ sym (unwritten d ws stand)
after_needed d ws phases (inr (not_all, one)) = ap (λ (ps : List Writes). after ps d) one

-- ## What is true of the writes of phases, and how many they are.

-- of each write of these phases
abbrev pub Each : (ℕ → List ℕ → Type 0) → List Writes → Type 0
Each P [] = Unit {0}
Each P (ws ∷ phases) = ((s : ℕ) (v : List ℕ) → Puts ws s v → P s v) × Each P phases

pub each_put : (P : ℕ → List ℕ → Type 0) (phases : List Writes) → Each P phases → (s : ℕ) (v : List ℕ) → Puts (writes_in phases) s v → P s v
each_put P [] each s v puts = absurd puts
each_put P (ws ∷ phases) each s v puts =
    ⊎_elim (λ here. each.0 s v here) (λ later. each_put P phases each.1 s v later) (puts_split ws (writes_in phases) s v puts)

puts_left : (a c : Writes) (s : ℕ) (v : List ℕ) → Puts a s v → Puts (a ++ c) s v
puts_left [] c s v puts = absurd puts
puts_left (w ∷ a) c s v (inl here) = inl here
puts_left (w ∷ a) c s v (inr there) = inr (puts_left a c s v there)

puts_right : (a c : Writes) (s : ℕ) (v : List ℕ) → Puts c s v → Puts (a ++ c) s v
puts_right [] c s v puts = puts
puts_right (w ∷ a) c s v puts = inr (puts_right a c s v puts)

-- and back, by the phase that it is in
pub put_each : (P : ℕ → List ℕ → Type 0) (phases : List Writes) → ((s : ℕ) (v : List ℕ) → Puts (writes_in phases) s v → P s v)
    → Each P phases
put_each P [] each = tt
put_each P (ws ∷ phases) each = (
  λ s v puts. each s v (puts_left ws (writes_in phases) s v puts),
  put_each P phases (λ s v puts. each s v (puts_right ws (writes_in phases) s v puts)),
)

pub each_both : (P Q : ℕ → List ℕ → Type 0) (phases : List Writes) → Each P phases → Each Q phases → Each (λ s v. P s v × Q s v) phases
each_both P Q [] one two = tt
each_both P Q (ws ∷ phases) one two = (λ s v puts. (one.0 s v puts, two.0 s v puts), each_both P Q phases one.1 two.1)

pub each_first : (P Q : ℕ → List ℕ → Type 0) (phases : List Writes) → Each (λ s v. P s v × Q s v) phases → Each P phases
each_first P Q [] both = tt
each_first P Q (ws ∷ phases) both = (λ s v puts. (both.0 s v puts).0, each_first P Q phases both.1)

pub each_append : (P : ℕ → List ℕ → Type 0) (a c : List Writes) → Each P a → Each P c → Each P (a ++ c)
each_append P [] c one two = two
each_append P (ws ∷ a) c one two = (one.0, each_append P a c one.1 two)

pub each_needed : (P : ℕ → List ℕ → Type 0) (d : Sectors) (ws : Writes) (phases : List Writes)
    → ((s : ℕ) (v : List ℕ) → Puts ws s v → P s v)
    → Needed d ws phases → Each P phases
each_needed P d ws phases holds (inl (stand, none)) = subst (Each P) (sym none) tt
each_needed P d ws phases holds (inr (not_all, one)) = subst (Each P) (sym one) (holds, tt)

pub each_primary : (P : ℕ → List ℕ → Type 0) (d : Sectors) (meanwhile array header : Writes) (phases : List Writes)
    → ((s : ℕ) (v : List ℕ) → Puts meanwhile s v → P s v) → ((s : ℕ) (v : List ℕ) → Puts array s v → P s v)
    → ((s : ℕ) (v : List ℕ) → Puts header s v → P s v) → ForPrimary d meanwhile array header phases → Each P phases
each_primary P d meanwhile array header phases one two three (stands stand need) = each_needed P d header phases three need
each_primary P d meanwhile array header phases one two three (rewritten not_all first need is) =
    subst (Each P) (sym is) (each_append P first (array ∷ header ∷ []) (each_needed P d meanwhile first one need) (two, (three, tt)))

-- each phase has writes, and these ascend, where that is so of those that are left
module _ (P : Writes → Type 0) (d : Sectors) where
  pub all_needed : (ws : Writes) (phases : List Writes) → P ws → Needed d ws phases → All P phases
  all_needed ws phases holds (inl (stand, none)) = subst (All P) (sym none) (All-nil P)
  all_needed ws phases holds (inr (not_all, one)) = subst (All P) (sym one) (All-cons P ws [] holds (All-nil P))

  pub all_primary : (meanwhile array header : Writes) (phases : List Writes) → P meanwhile → P array → P header
      → ForPrimary d meanwhile array header phases → All P phases
  all_primary meanwhile array header phases one two three (stands stand need) = all_needed header phases three need
  all_primary meanwhile array header phases one two three (rewritten not_all first need is) = subst (All P) (sym is)
      (All-append P first (array ∷ header ∷ []) (all_needed meanwhile first one need)
      (All-cons P array (header ∷ []) two (All-cons P header [] three (All-nil P))))

-- how many writes they have
pub count_append : (a c : List Writes) → length (writes_in (a ++ c)) ≡ length (writes_in a) + length (writes_in c)
count_append [] c = omega arith
count_append (ws ∷ a) c =
    let more = count_append a c in
    let one = length-append ws (writes_in (a ++ c)) in
    let two = length-append ws (writes_in a) in
    omega (arith, more, one, two)

count_one : (ws : Writes) → length (writes_in (ws ∷ [])) ≡ length ws
count_one ws = let one = length-append ws [] in omega (arith, one)

pub count_needed : (d : Sectors) (ws : Writes) (phases : List Writes) → Needed d ws phases → length (writes_in phases) ≤ length ws
count_needed d ws phases (inl (stand, none)) = subst (λ (ps : List Writes). length (writes_in ps) ≤ length ws) (sym none) (omega arith)
count_needed d ws phases (inr (not_all, one)) =
    subst (λ (ps : List Writes). length (writes_in ps) ≤ length ws) (sym one) (let same = count_one ws in omega (arith, same))

pub count_primary : (d : Sectors) (meanwhile array header : Writes) (phases : List Writes) → ForPrimary d meanwhile array header phases
    → length (writes_in phases) ≤ length meanwhile + (length array + length header)
count_primary d meanwhile array header phases (stands stand need) = let few = count_needed d header phases need in omega (arith, few)
count_primary d meanwhile array header phases (rewritten not_all first need is) =
    subst (λ (ps : List Writes). length (writes_in ps) ≤ length meanwhile + (length array + length header)) (sym is)
    (let few = count_needed d meanwhile first need in
    let sum = count_append first (array ∷ header ∷ []) in
    let two = length-append array (header ++ []) in
    let three = length-append header [] in
    omega (arith, few, sum, two, three))

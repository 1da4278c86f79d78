-- Sectors that are added to a trace, piece by piece.
use Rattle.std.proofs.Common.{◌≡◌, ◌<◌, ◌≤◌, ◌+◌, ◌-◌, ℕ, suc, List, length, get_or, take, subst, arith}
use Rattle.std.proofs.Common.{inl, inr, ⊎_elim}
use Rattle.std.specs.Prelude.{◌⊎◌, Result, Ok, Err, OnOk}
use Rattle.pt_mbr.specs.Chain.{StandsAt}
use Rattle.pt_mbr.specs.declared.ebr.Ebr.{Ebr}
use Rattle.pt_members.specs.declared.layout.Slice.{Slice}
use Rattle.pt_members.specs.Members.{IsPlace, place_of}
use Rattle.pt_members.specs.Tables.{IsGptTable}
use Rattle.pt_gpt.specs.Copies.{array_len}
use Rattle.pt_members.proofs.Lowest.{stands_more, stands_back}
use Rattle.pt_members.proofs.LabelPlaces.{place_more, place_back}
use Rattle.pt_recover.specs.Spans.{Adds}
use Rattle.pt_recover.specs.declared.trace.TracedRun.{TracedRun}

pub on_ok : {T E : Type 0} (r : Result T E) (P Q : Type 0) → (P → Q) → OnOk r P → OnOk r Q
on_ok (Ok x) P Q f is = f is
on_ok (Err e) P Q f is = tt

pub adds_none : (P : ℕ → Type 0) (r : List TracedRun) → ((s : ℕ) → ¬ P s) → Adds r r P
adds_none P r none s = (λ is. inl is, λ is. ⊎_elim (λ was. was) (λ p. absurd (none s p)) is)

pub adds_same : (P Q : ℕ → Type 0) (old new : List TracedRun) → ((s : ℕ) → P s → Q s) → ((s : ℕ) → Q s → P s) → Adds old new P
    → Adds old new Q
adds_same P Q old new there back is s = (
  λ now. ⊎_elim (λ was. inl was) (λ p. inr (there s p)) ((is s).0 now),
  λ q. ⊎_elim (λ was. (is s).1 (inl was)) (λ here. (is s).1 (inr (back s here))) q,
)

pub adds_both : (P Q : ℕ → Type 0) (old mid new : List TracedRun) → Adds old mid P → Adds mid new Q → Adds old new (λ s. P s ⊎ Q s)
adds_both P Q old mid new first second s = (
  λ now. ⊎_elim (λ in_mid. ⊎_elim (λ was. inl was) (λ p. inr (inl p)) ((first s).0 in_mid)) (λ q. inr (inr q)) ((second s).0 now),
  λ is. ⊎_elim
      (λ was. (second s).1 (inl ((first s).1 (inl was))))
      (λ pq. ⊎_elim (λ p. (second s).1 (inl ((first s).1 (inr p)))) (λ q. (second s).1 (inr q)) pq) is,
)

-- one extended boot record more
pub adds_ebr : (old mid new : List TracedRun) (es : List Ebr) (k : ℕ) (z : Ebr) → k < length es
    → Adds old mid (λ s. StandsAt s (take k es)) → Adds mid new (λ s. s ≡ (get_or es k z).at.0)
    → Adds old new (λ s. StandsAt s (take (k + 1) es))
adds_ebr old mid new es k z lt first second =
    let e : suc k ≡ k + 1 = omega arith in
    subst (λ (n : ℕ). Adds old new (λ s. StandsAt s (take n es))) e
    (adds_same (λ s. StandsAt s (take k es) ⊎ (s ≡ (get_or es k z).at.0)) (λ s. StandsAt s (take (suc k) es)) old new
    (λ s. stands_back s k es z lt) (λ s. stands_more s k es z lt)
    (adds_both (λ s. StandsAt s (take k es)) (λ s. s ≡ (get_or es k z).at.0) old mid new first second))

-- one label place more
pub adds_label : (old mid new : List TracedRun) (ps : List Slice) (k : ℕ) (z : Slice) → k < length ps → Adds old mid (IsPlace (take k ps))
    → Adds mid new (λ s. s ≡ place_of (get_or ps k z)) → Adds old new (IsPlace (take (k + 1) ps))
adds_label old mid new ps k z lt first second =
    adds_same (λ s. IsPlace (take k ps) s ⊎ (s ≡ place_of (get_or ps k z))) (IsPlace (take (k + 1) ps)) old new
    (λ s. place_back ps k s z lt) (λ s. place_more ps k s z lt)
    (adds_both (IsPlace (take k ps)) (λ s. s ≡ place_of (get_or ps k z)) old mid new first second)

-- both ends of a disk
pub adds_ends : (b n : ℕ) (old mid new : List TracedRun) (edge : ℕ) → edge ≡ array_len b + 2 → 0 < n
    → Adds old mid (λ s. (0 ≤ s) × (s ≤ edge - 1)) → Adds mid new (λ s. (n - (edge - 1) ≤ s) × (s ≤ n - 1))
    → Adds old new (IsGptTable b n)
adds_ends b n old mid new edge is some first second =
    adds_same (λ s. ((0 ≤ s) × (s ≤ edge - 1)) ⊎ ((n - (edge - 1) ≤ s) × (s ≤ n - 1))) (IsGptTable b n) old new
    (λ s at. ⊎_elim (λ low. inl (omega (arith, low.1, is))) (λ high. inr (omega (arith, high.0, is), omega (arith, high.1, some))) at)
    (λ s at. ⊎_elim (λ low. inl (omega arith, omega (arith, low, is)))
    (λ high. inr (omega (arith, high.0, is), omega (arith, high.1, some))) at)
    (adds_both (λ s. (0 ≤ s) × (s ≤ edge - 1)) (λ s. (n - (edge - 1) ≤ s) × (s ≤ n - 1)) old mid new first second)

pub adds_start_only : (b n : ℕ) (old mid : List TracedRun) (edge : ℕ) → edge ≡ array_len b + 2 → n ≡ 0
    → Adds old mid (λ s. (0 ≤ s) × (s ≤ edge - 1)) → Adds old mid (IsGptTable b n)
adds_start_only b n old mid edge is none first =
    adds_same (λ s. (0 ≤ s) × (s ≤ edge - 1)) (IsGptTable b n) old mid
    (λ s low. inl (omega (arith, low.1, is)))
    (λ s at. ⊎_elim (λ low. (omega arith, omega (arith, low, is))) (λ high. absurd (omega (arith, high.1, none))) at) first

-- What the tests of a target tell.
use Rattle.std.proofs.Common.{◌≡◌, ◌≢◌, ◌⊎◌, inl, inr, ℕ, ◌≤◌, List, [], ◌∷◌, refl, Bool, true, false, not, ◌&&◌, nat_le, Decides, bytes_eq}
use Rattle.std.proofs.Common.{leb-true, le-leb}
use Rattle.std.proofs.lemmas.Bool.Decides.{Decides-not, Decides-and, Decides-or, not_from_Decides}
use Rattle.std.proofs.lemmas.Slice.Eq.{bytes_eq-Decides}
use Rattle.pt_recover.specs.Spans.{IsIn}
use Rattle.pt_recover.specs.declared.trace.TracedRun.{TracedRun}
use Rattle.pt_cases.specs.Targets.{Differs, IsUnreadNew}
use Rattle.pt_cases.specs.declared.targets.target.Target.{Target}
use Rattle.pt_cases.specs.declared.targets.target.TargetKind.{TargetKind}
use Rattle.pt_cases.specs.declared.targets.target.TargetKind.TheVariants.{Stays, New, Changes}
use Rattle.pt_cases.specs.declared.targets.writes.Choice.{Choice}
use Rattle.pt_cases.specs.declared.targets.writes.Choice.TheVariants.{Unmet, Loud, Quiet, UnreadNew}
use Rattle.pt_cases.specs.inner.Targets.{is_met, is_in, is_new, is_chosen}

decided : {P : Type 0} (is : Bool) → Decides is P → P ⊎ ¬ P
decided true says = inl (says.0 refl)
decided false says = inr (not_from_Decides false says refl)

-- two lists of bytes are the same, or not
pub same_or_not : (xs ys : List ℕ) → (xs ≡ ys) ⊎ (xs ≢ ys)
same_or_not xs ys = decided (bytes_eq xs ys) (bytes_eq-Decides xs ys)

le_decides : (m n : ℕ) → Decides (nat_le m n) (m ≤ n)
le_decides m n = (leb-true m n, le-leb m n)

in_decides : (rs : List TracedRun) (s : ℕ) → Decides (is_in rs s) (IsIn rs s)
unfolding IsIn
in_decides [] s = (λ no. absurd cc, λ no. absurd no)
in_decides (r ∷ rs) s = Decides-or (nat_le r.first s && nat_le s r.last) (is_in rs s)
    (Decides-and (nat_le r.first s) (nat_le s r.last) (le_decides r.first s) (le_decides s r.last)) (in_decides rs s)

-- a sector is in some runs, or not
pub in_or_not : (rs : List TracedRun) (s : ℕ) → IsIn rs s ⊎ ¬ IsIn rs s
in_or_not rs s = decided (is_in rs s) (in_decides rs s)

new_decides : (kind : TargetKind) → Decides (is_new kind) (kind ≡ New)
new_decides Stays = (λ no. absurd cc, λ no. absurd cc)
new_decides New = (λ _. refl, λ _. refl)
new_decides Changes = (λ no. absurd cc, λ no. absurd cc)

-- what a target is that is chosen
abbrev pub Means : {b : ℕ} → Choice → Target b → Type 0
Means Unmet t = Differs t
Means (Loud guarded) t = Differs t × IsIn guarded.now t.at.0
Means (Quiet guarded) t = Differs t × ¬ IsIn guarded.now t.at.0
Means (UnreadNew guarded) t = IsUnreadNew guarded.now t

module _ {b : ℕ} (t : Target b) where
  met : Decides (is_met t) (t.bytes ≡ t.under)
  met = bytes_eq-Decides t.bytes t.under

  unmet : Decides (not (is_met t)) (Differs t)
  unmet = Decides-not (is_met t) met

  within : (rs : List TracedRun) → Decides (is_in rs t.at.0) (IsIn rs t.at.0)
  within rs = in_decides rs t.at.0

  by_choice : (choice : Choice) → Decides (is_chosen choice t) (Means choice t)
  by_choice Unmet = unmet
  by_choice (Loud guarded) = Decides-and (not (is_met t)) (is_in guarded.now t.at.0) unmet (within guarded.now)
  by_choice (Quiet guarded) = Decides-and (not (is_met t)) (not (is_in guarded.now t.at.0)) unmet
      (Decides-not (is_in guarded.now t.at.0) (within guarded.now))
  by_choice (UnreadNew guarded) =
      Decides-and (is_new t.kind) (not (is_met t && is_in guarded.now t.at.0)) (new_decides t.kind)
      (Decides-not (is_met t && is_in guarded.now t.at.0)
      (Decides-and (is_met t) (is_in guarded.now t.at.0) met (within guarded.now)))

pub means : {b : ℕ} (choice : Choice) (t : Target b) → Decides (is_chosen choice t) (Means choice t)
means choice t = by_choice t choice

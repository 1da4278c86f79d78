-- How long plans are.
use Rattle.std.proofs.Common.{inl, inr, ℕ, ◌≤◌, List, length, sym, subst, arith}
use Rattle.pt_sector.specs.Sectors.{Sectors, Writes}
use Rattle.pt_members.specs.declared.layout.Layout.{Layout}
use Rattle.pt_cases.specs.Cases.{IsPlan, idle, backup_first, primary_first, from_mbr, one_label, within_mbr, within_mbr_phases}
use Rattle.pt_cases.specs.Writes.{Protects}

last_short : (n : ℕ) (old : List ℕ) (last : List Writes) → Protects n old last → length last ≤ 1
last_short n old last (inl (already, none)) = subst (λ (ps : List Writes). length ps ≤ 1) (sym none) (omega arith)
last_short n old last (inr (not_yet, (new, from, one))) = subst (λ (ps : List Writes). length ps ≤ 1) (sym one) (omega arith)

within_mbr_short : (quiet : Writes) (loud : ℕ × List ℕ) (phases : List Writes) → within_mbr_phases quiet loud phases → length phases ≤ 5
within_mbr_short quiet loud phases (inl (none, is)) = subst (λ (ps : List Writes). length ps ≤ 5) (sym is) (omega arith)
within_mbr_short quiet loud phases (inr (some, is)) = subst (λ (ps : List Writes). length ps ≤ 5) (sym is) (omega arith)

-- no plan has more than five phases
pub plan_short : (b : ℕ) (d : Sectors) (p : Layout) (phases : List Writes) → IsPlan b d p phases → length phases ≤ 5
plan_short b d p phases (idle healthy none) = subst (λ (ps : List Writes). length ps ≤ 5) (sym none) (omega arith)
plan_short b d p phases (backup_first o t is) =
    subst (λ (ps : List Writes). length ps ≤ 5) (sym is.is) (let short = last_short _ _ is.last is.protects in omega (arith, short))
plan_short b d p phases (primary_first o t is) =
    subst (λ (ps : List Writes). length ps ≤ 5) (sym is.is) (let short = last_short _ _ is.last is.protects in omega (arith, short))
plan_short b d p phases (from_mbr o t is) = subst (λ (ps : List Writes). length ps ≤ 5) (sym is.is) (omega arith)
plan_short b d p phases (one_label o t is) = subst (λ (ps : List Writes). length ps ≤ 5) (sym is.is) (omega arith)
plan_short b d p phases (within_mbr o records chain is) = within_mbr_short is.quiet is.loud phases is.is

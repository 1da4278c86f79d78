-- What is kept of a plan, by its kind.
use Rattle.std.proofs.Common.{◌≡◌, ◌∙◌, ◌⊎◌, inl, inr, ⊎_elim, ℕ, ◌+◌, ◌-◌, ◌<◌, ◌≤◌, List, [], ◌∷◌, ◌++◌, length, refl, sym, ap}
use Rattle.std.proofs.Common.{subst, arith, Option, Some, None, append_assoc}
use Rattle.pt_sector.specs.Sectors.{Sectors, sector, Writes, Puts}
use Rattle.pt_apply.specs.Plans.{writes_in}
use Rattle.pt_gpt.specs.Copies.{HasCopy, HasRoom}
use Rattle.pt_gpt.specs.declared.table.Side.TheVariants.{Primary, Backup}
use Rattle.pt_gpt.specs.declared.table.Table.{Table}
use Rattle.pt_recover.specs.Denotes.{Denotes, BodyIs, IsMbrDisk}
use Rattle.pt_recover.proofs.Terms.{denotes_one_lem}
use Rattle.pt_members.specs.Members.{places_of, IsPlace}
use Rattle.pt_members.specs.declared.layout.Body.{Body}
use Rattle.pt_members.specs.declared.layout.Body.TheVariants.{Mbr, Gpt}
use Rattle.pt_members.specs.declared.layout.Layout.{Layout}
use Rattle.pt_cases.specs.Cases.{IsPlan, IsBackupFirst, IsPrimaryFirst, idle, backup_first, primary_first, from_mbr, one_label, within_mbr}
use Rattle.pt_cases.specs.Cases.{labels_and_backup, primary_and_labels, within_mbr_phases}
use Rattle.pt_cases.specs.Kept.{IsKept, IsOpening, Needed}
use Rattle.pt_cases.specs.Writes.{array_phase, backup_phase, closing, one_write}
use Rattle.pt_planner.specs.Phases.{Reaches}
use Rattle.pt_cases.specs.declared.primary.Primary.TheVariants.{Kept}
use Rattle.pt_planner.specs.PlanReads.{PlanReads, PlanReadsBy, IsOfItsCopies, head, label}
use Rattle.pt_planner.specs.inner.Kept.{IsOver, IsTried, RewritesBackupFirst, RewritesPrimaryFirst}
use Rattle.pt_planner.proofs.Reached.{backup_first_reached, primary_first_reached, protects_reached}

-- ## Plans that stay as they are.

two_at_most : (quiet : Writes) (loud : ℕ × List ℕ) (phases : List Writes) → within_mbr_phases quiet loud phases → length phases ≤ 2
two_at_most quiet loud phases (inl (none, is)) = rw is (omega arith)
two_at_most quiet loud phases (inr (some, is)) = rw is (omega arith)

-- a plan of few phases
pub few_stay : (b : ℕ) (d : Sectors) (p : Layout) (phases : List Writes) → length phases < 4 → IsPlan b d p phases → IsKept b d p phases
few_stay b d p phases few (idle healthy none) = record { full = phases; plan = idle healthy none; kept = refl }
few_stay b d p phases few (backup_first o t is) = (let many = ap length is.is in absurd (omega (arith, few, many)))
few_stay b d p phases few (primary_first o t is) = (let many = ap length is.is in absurd (omega (arith, few, many)))
few_stay b d p phases few (from_mbr o t is) = record { full = phases; plan = from_mbr o t is; kept = refl }
few_stay b d p phases few (one_label o t is) = record { full = phases; plan = one_label o t is; kept = refl }
few_stay b d p phases few (within_mbr o records chain is) = record { full = phases; plan = within_mbr o records chain is; kept = refl }

-- one of a disk without room for a GPT
pub small_stay : (b : ℕ) (d : Sectors) (p : Layout) (phases : List Writes) → ¬ HasRoom b (length d) → IsPlan b d p phases
    → IsKept b d p phases
small_stay b d p phases small (idle healthy none) = record { full = phases; plan = idle healthy none; kept = refl }
small_stay b d p phases small (backup_first o t is) = absurd (small is.copies.fits.room)
small_stay b d p phases small (primary_first o t is) = absurd (small is.copies.fits.room)
small_stay b d p phases small (from_mbr o t is) = record { full = phases; plan = from_mbr o t is; kept = refl }
small_stay b d p phases small (one_label o t is) = record { full = phases; plan = one_label o t is; kept = refl }
small_stay b d p phases small (within_mbr o records chain is) = record { full = phases; plan = within_mbr o records chain is; kept = refl }

-- ## Plans that zero the primary header.

module _ (b : ℕ) (d : Sectors) (p : Layout) (phases new : List Writes) (many : 4 ≤ length phases) where
  idle_not : (phases ≡ []) → ⊥
  idle_not none = let few = ap length none in omega (arith, few, many)

  from_mbr_not : (v w : Writes) → phases ≡ v ∷ w ∷ [] → ⊥
  from_mbr_not v w is = let few = ap length is in omega (arith, few, many)

  one_not : (v : Writes) → phases ≡ v ∷ [] → ⊥
  one_not v is = let few = ap length is in omega (arith, few, many)

  within_not : (quiet : Writes) (loud : ℕ × List ℕ) → within_mbr_phases quiet loud phases → ⊥
  within_not quiet loud is = let few = two_at_most quiet loud phases is in omega (arith, few, many)

  module _ (o : Option Layout) (t : Table) (is : IsBackupFirst b d o p t phases) where
    keeps_backup_first : RewritesBackupFirst b d phases new → IsKept b d p new
    keeps_backup_first rewrites =
        let n = length d in
        let front : (is.copies.labels ++ array_phase b n t Backup) ++ one_write (n - 1) is.copies.backup
        ≡ labels_and_backup b n t is.copies.backup is.copies.labels =
        append_assoc is.copies.labels (array_phase b n t Backup) (one_write (n - 1) is.copies.backup) in
        let it = rewrites (is.copies.labels ++ array_phase b n t Backup) (n - 1) is.copies.backup (closing b) (array_phase b n t Primary)
        (one_write 1 is.copies.primary) is.last _
        (is.is ∙ ap (λ (ws : Writes). ws ∷ closing b ∷ array_phase b n t Primary ∷ one_write 1 is.copies.primary ∷ is.last) (sym front))
        is.copies.is_backup.header in
        record {
          full = phases;
          plan = backup_first o t is;
          kept = record {
            bridge = it.0;
            is_bridge = it.3;
            front = it.1;
            is_front = subst (λ (ws : Writes). Needed d ws it.1) front it.4;
            middle = it.2;
            is_middle = it.5;
            are = it.6;
          };
        }

  module _ (o : Option Layout) (t : Table) (is : IsPrimaryFirst b d o p t phases) where
    -- a layout that it denotes is that of its backup copy
    opens_by : (q : Option Layout) (bytes : List ℕ) → Denotes b d q → IsOver b d q bytes → IsOpening b d q bytes
    opens_by None bytes from over = over
    opens_by (Some l) bytes from over = by_body l.body from.1
      where
        by_body : (y : Body) → BodyIs b d y → IsOpening b d (Some l) bytes
        by_body (Mbr records chain) body = absurd (is.plain body.0.0)
        by_body (Gpt u) (plain, room, inl first) = absurd (is.no_primary (u, first))
        by_body (Gpt u) (plain, room, inr (none, second)) = over second.head second.stands.is_head.bytes

    keeps_primary_first : (q : Option Layout) → q ≡ o → RewritesPrimaryFirst b d q phases new → IsKept b d p new
    keeps_primary_first q same rewrites =
        let n = length d in
        let it = rewrites (closing b) (primary_and_labels b n t is.copies.labels) (one_write 1 is.copies.primary)
        (backup_phase b n t is.copies.backup) is.last is.is in
        record {
          full = phases;
          plan = primary_first o t is;
          kept = record {
            opening = it.0;
            is_opening = opens_by o it.0 is.common.from (subst (λ (x : Option Layout). IsOver b d x it.0) same it.3);
            middle = it.1;
            is_middle = it.4;
            back = it.2;
            is_back = it.5;
            are = it.6;
          };
        }

  -- where a primary copy is, or none
  pub backup_first_kept : (¬ IsMbrDisk d → HasCopy b d Primary) → RewritesBackupFirst b d phases new → IsPlan b d p phases
      → IsKept b d p new
  backup_first_kept first rewrites (idle healthy none) = absurd (idle_not none)
  backup_first_kept first rewrites (backup_first o t is) = keeps_backup_first o t is rewrites
  backup_first_kept first rewrites (primary_first o t is) = absurd (is.no_primary (first is.plain))
  backup_first_kept first rewrites (from_mbr o t is) = absurd (from_mbr_not _ _ is.is)
  backup_first_kept first rewrites (one_label o t is) = absurd (one_not _ is.is)
  backup_first_kept first rewrites (within_mbr o records chain is) = absurd (within_not is.quiet is.loud is.is)

  pub primary_first_kept : (¬ IsMbrDisk d → ¬ HasCopy b d Primary) → (q : Option Layout) → Denotes b d q
      → RewritesPrimaryFirst b d q phases new → IsPlan b d p phases → IsKept b d p new
  primary_first_kept none q from rewrites (idle healthy is) = absurd (idle_not is)
  primary_first_kept none q from rewrites (backup_first o t is) = absurd (none is.plain is.has_primary)
  primary_first_kept none q from rewrites (primary_first o t is) =
      keeps_primary_first o t is q (denotes_one_lem b d q o from is.common.from) rewrites
  primary_first_kept none q from rewrites (from_mbr o t is) = absurd (from_mbr_not _ _ is.is)
  primary_first_kept none q from rewrites (one_label o t is) = absurd (one_not _ is.is)
  primary_first_kept none q from rewrites (within_mbr o records chain is) = absurd (within_not is.quiet is.loud is.is)

  -- ## Where they write.

  pub has_table : IsPlan b d p phases → (t : Table) × (p.body ≡ Gpt t)
  has_table (idle healthy none) = absurd (idle_not none)
  has_table (backup_first o t is) = (t, is.copies.body)
  has_table (primary_first o t is) = (t, is.copies.body)
  has_table (from_mbr o t is) = absurd (from_mbr_not _ _ is.is)
  has_table (one_label o t is) = absurd (one_not _ is.is)
  has_table (within_mbr o records chain is) = absurd (within_not is.quiet is.loud is.is)

  reached_in : (t : Table) (labels : Writes) (s : ℕ) (v : List ℕ) → p.body ≡ Gpt t → p.sectors ≡ length d
      → ((k : ℕ) (x : List ℕ) → Puts labels k x → IsPlace (places_of b p.sectors p.body) k) → Reaches b (length d) labels s v
      → PlanReads b (length d) p s ⊎ IsOfItsCopies b (length d) p s
  reached_in t labels s v gpt sectors places (inl copy) = inr (t, gpt, copy)
  reached_in t labels s v gpt sectors places (inr puts) =
      inl (label (subst (λ (m : ℕ). IsPlace (places_of b m p.body) s) sectors (places s v puts)))

  pub tried_in : (s : ℕ) → IsTried phases s → IsPlan b d p phases → PlanReads b (length d) p s ⊎ IsOfItsCopies b (length d) p s
  tried_in s tried (idle healthy none) = absurd (idle_not none)
  tried_in s (v, puts) (backup_first o t is) = ⊎_elim
      (λ last. inl (head (protects_reached (length d) (sector d 0) is.last s v is.protects last).0))
      (λ reached. reached_in t is.copies.labels s v is.copies.body is.common.sectors is.copies.writes.each reached)
      (backup_first_reached b (length d) t is.copies.primary is.copies.backup is.copies.labels is.last s v is.copies.fits.room
      (subst (λ (ps : List Writes). Puts (writes_in ps) s v) is.is puts))
  tried_in s (v, puts) (primary_first o t is) = ⊎_elim
      (λ last. inl (head (protects_reached (length d) (sector d 0) is.last s v is.protects last).0))
      (λ reached. reached_in t is.copies.labels s v is.copies.body is.common.sectors is.copies.writes.each reached)
      (primary_first_reached b (length d) t is.copies.primary is.copies.backup is.copies.labels is.last s v is.copies.fits.room
      (subst (λ (ps : List Writes). Puts (writes_in ps) s v) is.is puts))
  tried_in s tried (from_mbr o t is) = absurd (from_mbr_not _ _ is.is)
  tried_in s tried (one_label o t is) = absurd (one_not _ is.is)
  tried_in s tried (within_mbr o records chain is) = absurd (within_not is.quiet is.loud is.is)

-- so are the sectors that are read where one of these fails: sector 1, the last one, and those of the phases
pub failed_in : (b n : ℕ) (d : Sectors) (p : Layout) (phases : List Writes) (s : ℕ) → HasRoom b n → length d ≡ n → 4 ≤ length phases
    → IsPlan b d p phases → (s ≡ 1) ⊎ ((s + 1 ≡ n) ⊎ IsTried phases s) → PlanReadsBy Kept b n p s
failed_in b n d p phases s room count many plan (inl one) =
    let has = has_table b d p phases phases many plan in
    inr (inl (has.0, has.1, (omega (arith, one), inl (omega (arith, one)))))
failed_in b n d p phases s room count many plan (inr (inl last)) =
    let has = has_table b d p phases phases many plan in
    inr (inl (has.0, has.1, (omega (arith, last, room), inr (omega (arith, last), omega (arith, last)))))
failed_in b n d p phases s room count many plan (inr (inr tried)) =
    ⊎_elim (λ ever. inl ever) (λ copy. inr (inl copy))
    (subst (λ (m : ℕ). PlanReads b m p s ⊎ IsOfItsCopies b m p s) count (tried_in b d p phases phases many s tried plan))

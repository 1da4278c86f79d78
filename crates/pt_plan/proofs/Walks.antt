-- Walks over the phases of a plan that writes both copies of a table, where some of the phases may be left out.
use Rattle.std.proofs.Common.{◌≡◌, ◌∙◌, ◌⊎◌, inl, inr, ℕ, suc, ◌+◌, ◌<◌, ◌≤◌, List, [], ◌∷◌, ◌++◌, length, refl, sym, ap, subst}
use Rattle.std.proofs.Common.{arith, Option}
use Rattle.pt_sector.specs.Sectors.{Sectors, Writes, Puts, written, after}
use Rattle.pt_sector.specs.inner.ForFields.{length-written}
use Rattle.pt_sector.proofs.Written.{after-append}
use Rattle.pt_check.proofs.Walk.{Calm, Stays, Turns}
use Rattle.pt_cases.specs.Kept.{AllStand, Needed, ForPrimary, stands, rewritten}
use Rattle.pt_cases.specs.Writes.{one_write}
use Rattle.pt_cases.proofs.Frames.{misses, one_is}
use Rattle.pt_plan.proofs.Needing.{unwritten, stands_on, written_over, after_needed}

-- the phases turn o to n in this one, counted from 1; or the two are the same, and the phases keep it
abbrev pub Goes : {L : Type 0} → (Sectors → Option L → Type 0) → (Sectors → ℕ → Type 0) → ℕ → List Writes → Sectors → Option L → Option L
    → Type 0
Goes denotes reads turn phases d o n =
    ((k : ℕ) × (k + 1 ≡ turn) × Turns denotes reads k phases d o n) ⊎ ((o ≡ n) × Stays denotes reads phases d n)

-- ## The backup copy first, p1, then the primary copy: what stands in sector 1 meanwhile, the array, the header.

module _ (d : Sectors) (p1 array : Writes) (between head : List ℕ) (last : List Writes) (edge : ℕ) (some : 1 < length d)
    (low : (s : ℕ) (x : List ℕ) → Puts array s x → (2 ≤ s) × (s < edge))
    (high : (s : ℕ) (x : List ℕ) → Puts p1 s x → (2 ≤ s) × (edge ≤ s)) where
  abbrev e1 : Sectors
  e1 = written p1 d

  abbrev e2 : Sectors
  e2 = written (one_write 1 between) e1

  abbrev e3 : Sectors
  e3 = written array e2

  abbrev e4 : Sectors
  e4 = written (one_write 1 head) e3

  some1 : 1 < length e1
  some1 = subst (λ (m : ℕ). 1 < m) (sym (length-written p1 d)) some

  array1 : AllStand d array → AllStand e1 array
  array1 stand = stands_on d e1 array stand
      (λ s v puts. misses d p1 s (λ x other. (let at = low s v puts in let up = high s x other in omega (arith, at.1, up.1))))

  array2 : AllStand d array → AllStand e2 array
  array2 stand = stands_on e1 e2 array (array1 stand)
      (λ s v puts. misses e1 (one_write 1 between) s
      (λ x other. (let at = low s v puts in let one = one_is 1 s between x other in omega (arith, at.0, one))))

  -- where the array stands, the header alone comes to the same
  pub header_alone : AllStand d array → written (one_write 1 head) e1 ≡ e4
  header_alone stand =
      sym (ap (written (one_write 1 head)) (unwritten e2 array (array2 stand)) ∙ written_over e1 between head some1)

  -- and where the header stands too, nothing
  pub nothing_needed : AllStand d array → AllStand d (one_write 1 head) → e1 ≡ e4
  nothing_needed stand header =
      sym (unwritten e1 (one_write 1 head) (stands_on d e1 (one_write 1 head) header
      (λ s v puts. misses d p1 s (λ x other. (let up = high s x other in let one = one_is 1 s head v puts in omega (arith, up.0, one))))))
      ∙ header_alone stand

  pub after_backup_first : (front middle : List Writes) → Needed d p1 front → ¬ AllStand d (one_write 1 between)
      → ForPrimary d (one_write 1 between) array (one_write 1 head) middle
      → after (front ++ (middle ++ last)) d ≡ after last e4
  after_backup_first front middle need never primary =
      after-append front (middle ++ last) d ∙ ap (after (middle ++ last)) (after_needed d p1 front need)
      ∙ after-append middle last e1 ∙ ap (after last) (by_array primary)
    where
      by_header : Needed d (one_write 1 head) middle → AllStand d array → after middle e1 ≡ e4
      by_header (inl (header, none)) stand = ap (λ (ps : List Writes). after ps e1) none ∙ nothing_needed stand header
      by_header (inr (not_all, one)) stand = ap (λ (ps : List Writes). after ps e1) one ∙ header_alone stand

      by_array : ForPrimary d (one_write 1 between) array (one_write 1 head) middle → after middle e1 ≡ e4
      by_array (stands stand header) = by_header header stand
      by_array (rewritten not_all first (inl (all, none)) is) = absurd (never all)
      by_array (rewritten not_all first (inr (some, one)) is) =
          ap (λ (ps : List Writes). after ps e1) (is ∙ ap (λ (ps : List Writes). ps ++ array ∷ one_write 1 head ∷ []) one)

  module _ {L : Type 0} (denotes : Sectors → Option L → Type 0) (reads : Sectors → ℕ → Type 0) (o n : Option L)
      (one : (c : Sectors) (x y : Option L) → denotes c x → denotes c y → x ≡ y) where
    -- what the disks on the way denote, and that no phase writes what is read there
    pub record BackupFirstWalk : Type 0 where
      pub from : denotes d o
      pub calm : Calm denotes reads p1 d
      pub old1 : denotes e1 o
      pub new2 : denotes e2 n
      pub calm3 : Calm denotes reads array e2
      pub new3 : denotes e3 n
      pub rest : Stays denotes reads last e4 n

    pub backup_first_turns : BackupFirstWalk
        → Turns denotes reads 1 (p1 ∷ one_write 1 between ∷ array ∷ one_write 1 head ∷ last) d o n
    backup_first_turns walk =
        (walk.from, walk.calm, (walk.old1, inl (omega arith), (walk.new2, walk.calm3, (walk.new3, inl (omega arith), walk.rest))))

    -- the primary copy from the disk with the backup written
    from_first : (walk : BackupFirstWalk) (middle : List Writes) → ¬ AllStand d (one_write 1 between)
        → ForPrimary d (one_write 1 between) array (one_write 1 head) middle → (e4_last : denotes e4 n)
        → Goes denotes reads 1 (middle ++ last) e1 o n
    from_first walk middle never (stands stand (inl (header, none))) at_end =
        subst (λ (ps : List Writes). Goes denotes reads 1 (ps ++ last) e1 o n) (sym none)
        (let same : e1 ≡ e4 = nothing_needed stand header in
        inr (
          one e4 o n (subst (λ (c : Sectors). denotes c o) same walk.old1) at_end,
          subst (λ (c : Sectors). Stays denotes reads last c n) (sym same) walk.rest,
        ))
    from_first walk middle never (stands stand (inr (not_all, is))) at_end =
        subst (λ (ps : List Writes). Goes denotes reads 1 (ps ++ last) e1 o n) (sym is)
        (inl (
          0,
          refl,
          (
            walk.old1,
            inl (omega arith),
            subst (λ (c : Sectors). Stays denotes reads last c n) (sym (header_alone stand)) walk.rest,
          ),
        ))
    from_first walk middle never (rewritten not_all first (inl (all, none)) is) at_end = absurd (never all)
    from_first walk middle never (rewritten not_all first (inr (some, is_first)) is) at_end =
        subst (λ (ps : List Writes). Goes denotes reads 1 (ps ++ last) e1 o n)
        (sym (is ∙ ap (λ (ps : List Writes). ps ++ array ∷ one_write 1 head ∷ []) is_first))
        (inl (0, refl, (walk.old1, inl (omega arith), (walk.new2, walk.calm3, (walk.new3, inl (omega arith), walk.rest)))))

    from_start : (walk : BackupFirstWalk) (front rest : List Writes) → Needed d p1 front → Goes denotes reads 1 rest e1 o n
        → Goes denotes reads (length front + 1) (front ++ rest) d o n
    from_start walk front rest (inl (stand, none)) goes =
        subst (λ (ps : List Writes). Goes denotes reads (length ps + 1) (ps ++ rest) d o n) (sym none)
        (subst (λ (c : Sectors). Goes denotes reads 1 rest c o n) (unwritten d p1 stand) goes)
    from_start walk front rest (inr (not_all, is)) (inl (k, is_turn, turns)) =
        subst (λ (ps : List Writes). Goes denotes reads (length ps + 1) (ps ++ rest) d o n) (sym is)
        (inl (suc k, omega (arith, is_turn), (walk.from, walk.calm, turns)))
    from_start walk front rest (inr (not_all, is)) (inr (same, stays)) =
        subst (λ (ps : List Writes). Goes denotes reads (length ps + 1) (ps ++ rest) d o n) (sym is)
        (inr (same, (subst (denotes d) same walk.from, walk.calm, stays)))

    pub backup_first_goes : BackupFirstWalk → denotes e4 n → (front middle : List Writes) → Needed d p1 front
        → ¬ AllStand d (one_write 1 between) → ForPrimary d (one_write 1 between) array (one_write 1 head) middle
        → Goes denotes reads (length front + 1) (front ++ (middle ++ last)) d o n
    backup_first_goes walk at_end front middle need never primary =
        from_start walk front (middle ++ last) need (from_first walk middle never primary at_end)

-- ## The primary copy first: what stands in sector 1 meanwhile, the array and labels, the header; then the backup copy.

module _ (d : Sectors) (p2 backup : Writes) (between head : List ℕ) (last : List Writes) (top : ℕ) (some : 1 < length d) (past : 2 ≤ top)
    (low : (s : ℕ) (x : List ℕ) → Puts p2 s x → (2 ≤ s) × (s < top)) (high : (s : ℕ) (x : List ℕ) → Puts backup s x → top ≤ s) where
  abbrev f1 : Sectors
  f1 = written (one_write 1 between) d

  abbrev f2 : Sectors
  f2 = written p2 f1

  abbrev f3 : Sectors
  f3 = written (one_write 1 head) f2

  abbrev f4 : Sectors
  f4 = written backup f3

  -- where the array and the labels stand, the header alone comes to the same
  header_only : AllStand d p2 → written (one_write 1 head) d ≡ f3
  header_only stand =
      sym (ap (written (one_write 1 head)) (unwritten f1 p2 (stands_on d f1 p2 stand
      (λ s v puts. misses d (one_write 1 between) s
      (λ x other. (let at = low s v puts in let one = one_is 1 s between x other in omega (arith, at.0, one))))))
      ∙ written_over d between head some)

  none_needed : AllStand d p2 → AllStand d (one_write 1 head) → d ≡ f3
  none_needed stand header = sym (unwritten d (one_write 1 head) header) ∙ header_only stand

  -- where the backup copy stands, it does so with the primary copy written
  backup_idle : AllStand d backup → f4 ≡ f3
  backup_idle stand = unwritten f3 backup (stands_on d f3 backup stand (λ s v puts. (let up = high s v puts in
      misses f2 (one_write 1 head) s (λ x other. (let one = one_is 1 s head x other in omega (arith, up, one, past)))
      ∙ misses f1 p2 s (λ x other. (let at = low s x other in omega (arith, up, at.1)))
      ∙ misses d (one_write 1 between) s (λ x other. (let one = one_is 1 s between x other in omega (arith, up, one, past))))))

  pub after_primary_first : (middle back : List Writes) → ForPrimary d (one_write 1 between) p2 (one_write 1 head) middle
      → Needed d backup back → after (middle ++ (back ++ last)) d ≡ after last f4
  after_primary_first middle back primary need =
      after-append middle (back ++ last) d ∙ ap (after (back ++ last)) (by_array primary)
      ∙ after-append back last f3 ∙ ap (after last) (by_back need)
    where
      by_header : Needed d (one_write 1 head) middle → AllStand d p2 → after middle d ≡ f3
      by_header (inl (header, none)) stand = ap (λ (ps : List Writes). after ps d) none ∙ none_needed stand header
      by_header (inr (not_all, one)) stand = ap (λ (ps : List Writes). after ps d) one ∙ header_only stand

      by_array : ForPrimary d (one_write 1 between) p2 (one_write 1 head) middle → after middle d ≡ f3
      by_array (stands stand header) = by_header header stand
      by_array (rewritten not_all first opens is) =
          ap (λ (ps : List Writes). after ps d) is ∙ after-append first (p2 ∷ one_write 1 head ∷ []) d
          ∙ ap (after (p2 ∷ one_write 1 head ∷ [])) (after_needed d (one_write 1 between) first opens)

      by_back : Needed d backup back → after back f3 ≡ f4
      by_back (inl (stand, none)) = ap (λ (ps : List Writes). after ps f3) none ∙ sym (backup_idle stand)
      by_back (inr (not_all, one)) = ap (λ (ps : List Writes). after ps f3) one

  module _ {L : Type 0} (denotes : Sectors → Option L → Type 0) (reads : Sectors → ℕ → Type 0) (o n : Option L)
      (one : (c : Sectors) (x y : Option L) → denotes c x → denotes c y → x ≡ y) where
    -- what the disks on the way denote, and that no phase writes what is read there
    pub record PrimaryFirstWalk : Type 0 where
      pub from : denotes d o
      pub old1 : denotes f1 o
      pub calm2 : Calm denotes reads p2 f1
      pub old2 : denotes f2 o
      pub new3 : denotes f3 n
      pub calm4 : Calm denotes reads backup f3
      pub rest : Stays denotes reads last f4 n

    pub primary_first_turns : PrimaryFirstWalk
        → Turns denotes reads 2 (one_write 1 between ∷ p2 ∷ one_write 1 head ∷ backup ∷ last) d o n
    primary_first_turns walk =
        (walk.from, inl (omega arith), (walk.old1, walk.calm2, (walk.old2, inl (omega arith), (walk.new3, walk.calm4, walk.rest))))

    -- the backup copy, if it is needed
    rest_stays : PrimaryFirstWalk → (back : List Writes) → Needed d backup back → Stays denotes reads (back ++ last) f3 n
    rest_stays walk back (inl (stand, none)) =
        subst (λ (ps : List Writes). Stays denotes reads (ps ++ last) f3 n) (sym none)
        (subst (λ (c : Sectors). Stays denotes reads last c n) (backup_idle stand) walk.rest)
    rest_stays walk back (inr (not_all, is)) =
        subst (λ (ps : List Writes). Stays denotes reads (ps ++ last) f3 n) (sym is) (walk.new3, walk.calm4, walk.rest)

    by_primary : PrimaryFirstWalk → (middle rest : List Writes) → Stays denotes reads rest f3 n
        → ForPrimary d (one_write 1 between) p2 (one_write 1 head) middle → Goes denotes reads (length middle) (middle ++ rest) d o n
    by_primary walk middle rest stays (stands stand (inl (header, none))) =
        subst (λ (ps : List Writes). Goes denotes reads (length ps) (ps ++ rest) d o n) (sym none)
        (let same : d ≡ f3 = none_needed stand header in
        inr (
          one f3 o n (subst (λ (c : Sectors). denotes c o) same walk.from) walk.new3,
          subst (λ (c : Sectors). Stays denotes reads rest c n) (sym same) stays,
        ))
    by_primary walk middle rest stays (stands stand (inr (not_all, is))) =
        subst (λ (ps : List Writes). Goes denotes reads (length ps) (ps ++ rest) d o n) (sym is)
        (inl (
          0,
          refl,
          (
            walk.from,
            inl (omega arith),
            subst (λ (c : Sectors). Stays denotes reads rest c n) (sym (header_only stand)) stays,
          ),
        ))
    by_primary walk middle rest stays (rewritten not_all first (inl (all, none)) is) =
        subst (λ (ps : List Writes). Goes denotes reads (length ps) (ps ++ rest) d o n)
        (sym (is ∙ ap (λ (ps : List Writes). ps ++ p2 ∷ one_write 1 head ∷ []) none))
        (let opened : f1 ≡ d = unwritten d (one_write 1 between) all in
        inl (
          1,
          refl,
          (
            walk.from,
            subst (λ (c : Sectors). Calm denotes reads p2 c) opened walk.calm2,
            subst (λ (c : Sectors). Turns denotes reads 0 (one_write 1 head ∷ rest) (written p2 c) o n) opened
                (walk.old2, inl (omega arith), stays),
          ),
        ))
    by_primary walk middle rest stays (rewritten not_all first (inr (some, is_first)) is) =
        subst (λ (ps : List Writes). Goes denotes reads (length ps) (ps ++ rest) d o n)
        (sym (is ∙ ap (λ (ps : List Writes). ps ++ p2 ∷ one_write 1 head ∷ []) is_first))
        (inl (2, refl, (walk.from, inl (omega arith), (walk.old1, walk.calm2, (walk.old2, inl (omega arith), stays)))))

    pub primary_first_goes : PrimaryFirstWalk → (middle back : List Writes)
        → ForPrimary d (one_write 1 between) p2 (one_write 1 head) middle → Needed d backup back
        → Goes denotes reads (length middle) (middle ++ (back ++ last)) d o n
    primary_first_goes walk middle back primary need = by_primary walk middle (back ++ last) (rest_stays walk back need) primary

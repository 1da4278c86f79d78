-- A plan that is walked phase by phase: what each disk on the way denotes, and that each phase is calm on the disk before it.
use Rattle.std.proofs.Common.{◌≡◌, ◌⊎◌, ℕ, zero, suc, ◌+◌, ◌<◌, ◌≤◌, List, [], ◌∷◌, length, arith, Option, Some, None}
use Rattle.pt_sector.specs.Sectors.{Sectors, Writes, Puts, written}
use Rattle.pt_check.specs.Answers.{disk_after, IsCalm, Course}

module _ {L : Type 0} (denotes : Sectors → Option L → Type 0) (reads : Sectors → ℕ → Type 0) where
  -- one write at most, or none of a sector that is read
  abbrev pub Calm : Writes → Sectors → Type 0
  Calm p d = (length p ≤ 1) ⊎ ((s : ℕ) (v : List ℕ) → Puts p s v → ¬ reads d s)

  -- every disk on the way denotes o
  abbrev pub Stays : List Writes → Sectors → Option L → Type 0
  Stays [] d o = denotes d o
  Stays (p ∷ ps) d o = denotes d o × Calm p d × Stays ps (written p d) o

  -- k phases keep o, and the next one gives n for good
  abbrev pub Turns : ℕ → List Writes → Sectors → Option L → Option L → Type 0
  Turns k [] d o n = ⊥
  Turns zero (p ∷ ps) d o n = denotes d o × Calm p d × Stays ps (written p d) n
  Turns (suc k) (p ∷ ps) d o n = denotes d o × Calm p d × Turns k ps (written p d) o n

  stays_calm : (ps : List Writes) (d : Sectors) (o : Option L) → Stays ps d o → (i : ℕ) → i < length ps → IsCalm denotes reads ps d i
  stays_calm [] d o is i lt = absurd (omega (arith, lt))
  stays_calm (p ∷ ps) d o is zero lt = is.1
  stays_calm (p ∷ ps) d o is (suc i) lt = stays_calm ps (written p d) o is.2 i (omega (arith, lt))

  stays_denotes : (ps : List Writes) (d : Sectors) (o : Option L) → Stays ps d o → (i : ℕ) → i ≤ length ps → denotes (disk_after ps d i) o
  stays_denotes [] d o is zero le = is
  stays_denotes [] d o is (suc i) le = absurd (omega (arith, le))
  stays_denotes (p ∷ ps) d o is zero le = is.0
  stays_denotes (p ∷ ps) d o is (suc i) le = stays_denotes ps (written p d) o is.2 i (omega (arith, le))

  turns_calm : (k : ℕ) (ps : List Writes) (d : Sectors) (o n : Option L) → Turns k ps d o n → (i : ℕ) → i < length ps
      → IsCalm denotes reads ps d i
  turns_calm k [] d o n is i lt = absurd is
  turns_calm zero (p ∷ ps) d o n is zero lt = is.1
  turns_calm zero (p ∷ ps) d o n is (suc i) lt = stays_calm ps (written p d) n is.2 i (omega (arith, lt))
  turns_calm (suc k) (p ∷ ps) d o n is zero lt = is.1
  turns_calm (suc k) (p ∷ ps) d o n is (suc i) lt = turns_calm k ps (written p d) o n is.2 i (omega (arith, lt))

  turns_old : (k : ℕ) (ps : List Writes) (d : Sectors) (o n : Option L) → Turns k ps d o n → (i : ℕ) → i < k + 1
      → denotes (disk_after ps d i) o
  turns_old k [] d o n is i lt = absurd is
  turns_old zero (p ∷ ps) d o n is zero lt = is.0
  turns_old zero (p ∷ ps) d o n is (suc i) lt = absurd (omega (arith, lt))
  turns_old (suc k) (p ∷ ps) d o n is zero lt = is.0
  turns_old (suc k) (p ∷ ps) d o n is (suc i) lt = turns_old k ps (written p d) o n is.2 i (omega (arith, lt))

  turns_new : (k : ℕ) (ps : List Writes) (d : Sectors) (o n : Option L) → Turns k ps d o n → (i : ℕ) → k + 1 ≤ i → i ≤ length ps
      → denotes (disk_after ps d i) n
  turns_new k [] d o n is i ge le = absurd is
  turns_new k (p ∷ ps) d o n is zero ge le = absurd (omega (arith, ge))
  turns_new zero (p ∷ ps) d o n is (suc i) ge le = stays_denotes ps (written p d) n is.2 i (omega (arith, le))
  turns_new (suc k) (p ∷ ps) d o n is (suc i) ge le = turns_new k ps (written p d) o n is.2 i (omega (arith, ge)) (omega (arith, le))

  turns_within : (k : ℕ) (ps : List Writes) (d : Sectors) (o n : Option L) → Turns k ps d o n → k + 1 ≤ length ps
  turns_within k [] d o n is = absurd is
  turns_within zero (p ∷ ps) d o n is = omega arith
  turns_within (suc k) (p ∷ ps) d o n is = let more = turns_within k ps (written p d) o n is.2 in omega (arith, more)

  -- a walk that keeps what the disk denotes, and one that turns, are courses
  pub stays_is_course : (ps : List Writes) (d : Sectors) (o n : Option L) → Stays ps d o → Course denotes reads ps d o n (length ps) None
  stays_is_course ps d o n is = record { calm = stays_calm ps d o is; layouts = stays_denotes ps d o is }

  pub turns_is_course : (k : ℕ) (ps : List Writes) (d : Sectors) (o n : Option L) → ¬ (o ≡ n) → Turns k ps d o n
      → Course denotes reads ps d o n (length ps) (Some (k + 1))
  turns_is_course k ps d o n differ is = record {
    calm = turns_calm k ps d o n is;
    layouts = (omega arith, turns_within k ps d o n is, differ, turns_old k ps d o n is, turns_new k ps d o n is);
  }

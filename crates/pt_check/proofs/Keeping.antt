-- What each disk stopped in a plan keeps, by the writes of the plan alone.
use Rattle.std.proofs.Common.{◌≡◌, ◌∙◌, inl, inr, ⊎_elim, ℕ, zero, suc, List, [], ◌∷◌, length, take, refl, sym, subst, arith, Bool, true}
use Rattle.std.proofs.Common.{false, Option}
use Rattle.pt_layout.specs.declared.sound.finding.Finding.{Finding}
use Rattle.std.specs.Str.{bytes_eq}
use Rattle.std.proofs.lemmas.Slice.Eq.{bytes_eq-Decides}
use Rattle.std.proofs.lemmas.Bool.{cases_lt}
use Rattle.std.proofs.Math.ListN.{get_or-eq_default}
use Rattle.pt_sector.specs.Sectors.{Sectors, sector, Writes, Puts, Stopped, written, after}
use Rattle.pt_sector.proofs.Written.{stopped_written}
use Rattle.pt_apply.proofs.Puts.{puts_split, puts_left, puts_right}
use Rattle.pt_apply.specs.Plans.{StoppedIn, boot_code, Keeps, writes_in, NoneIs}
use Rattle.pt_check.specs.Answers.{phase_at, disk_after, ChangesBoot, IsStray, IsOwned}

-- writes of a plan

puts_of_phase : (ps : List Writes) (i k : ℕ) (v : List ℕ) → Puts (phase_at ps i) k v → Puts (writes_in ps) k v
puts_of_phase [] i k v puts = absurd puts
puts_of_phase (p ∷ ps) zero k v puts = puts_left p (writes_in ps) k v puts
puts_of_phase (p ∷ ps) (suc i) k v puts = puts_right p (writes_in ps) k v (puts_of_phase ps i k v puts)

pub none_puts : (P : ℕ × List ℕ → Type 0) (ws : Writes) → NoneIs P ws → (k : ℕ) (v : List ℕ) → Puts ws k v → ¬ P (k, v)
none_puts P [] nothing k v puts = absurd puts
none_puts P (w ∷ ws) nothing k v (inl here) =
    λ it. nothing zero w refl (subst P (let same : (k, v) ≡ w = pair w k v here.0 here.1 in same) it)
  where
    pair : (w : ℕ × List ℕ) (k : ℕ) (v : List ℕ) → w.0 ≡ k → w.1 ≡ v → (k, v) ≡ w
    pair (a, x) k v first second = cc
none_puts P (w ∷ ws) nothing k v (inr there) = none_puts P ws (λ j x at. nothing (suc j) x at) k v there

-- a value that sector k has, and that every write of it has

module _ (Q : List ℕ → Type 0) (k : ℕ) where
  pub on_stop : (x : Sectors) (ws : Writes) (c : Sectors) → Stopped x ws c → Q (sector x k) → ((v : List ℕ) → Puts ws k v → Q v)
      → Q (sector c k)
  on_stop x ws c stop has puts = ⊎_elim
      (λ lt. ⊎_elim (λ same. subst Q (sym same) has) (λ put. puts (sector c k) put) (stop.each k lt))
      (λ past. subst Q (get_or-eq_default x [] past ∙ sym (get_or-eq_default c [] (omega (arith, past, stop.same_count)))) has)
      (cases_lt k (length x))

  on_after : (ps : List Writes) (x : Sectors) → Q (sector x k) → ((v : List ℕ) → Puts (writes_in ps) k v → Q v) → Q (sector (after ps x) k)
  on_after [] x has puts = has
  on_after (p ∷ ps) x has puts = on_after ps (written p x)
      (on_stop x p (written p x) (stopped_written p x) has (λ v put. puts v (puts_left p (writes_in ps) k v put)))
      (λ v put. puts v (puts_right p (writes_in ps) k v put))

  puts_of_take : (ps : List Writes) (i : ℕ) (v : List ℕ) → Puts (writes_in (take i ps)) k v → Puts (writes_in ps) k v
  puts_of_take [] zero v puts = puts
  puts_of_take [] (suc i) v puts = puts
  puts_of_take (p ∷ ps) zero v puts = absurd puts
  puts_of_take (p ∷ ps) (suc i) v puts = ⊎_elim
      (λ first. puts_left p (writes_in ps) k v first)
      (λ later. puts_right p (writes_in ps) k v (puts_of_take ps i v later))
      (puts_split p (writes_in (take i ps)) k v puts)

  pub on_stopped_in : (ps : List Writes) (d : Sectors) (i : ℕ) (c : Sectors) → StoppedIn ps d i c → Q (sector d k)
      → ((v : List ℕ) → Puts (writes_in ps) k v → Q v) → Q (sector c k)
  on_stopped_in ps d i c stop has puts = on_stop (disk_after ps d i) (phase_at ps i) c stop
      (on_after (take i ps) d has (λ v put. puts v (puts_of_take ps i v put)))
      (λ v put. puts v (puts_of_phase ps i k v put))

-- bytes that aren't unlike are the same
same_bytes : (xs ys : List ℕ) → ¬ ¬ (xs ≡ ys) → xs ≡ ys
same_bytes xs ys unlike = by_test (bytes_eq xs ys) (bytes_eq-Decides xs ys)
  where
    by_test : (r : Bool) → (r ≡ true → xs ≡ ys) × (xs ≡ ys → r ≡ true) → xs ≡ ys
    by_test true decides = decides.0 refl
    by_test false decides = absurd (unlike (λ is. let no : false ≡ true = decides.1 is in cc))

module _ {L : Type 0} (denotes : Sectors → Option L → Type 0) (healthy : Sectors → Type 0) (reads : Sectors → ℕ → Type 0)
    (table owned : Option L → ℕ → Type 0)
    (finds : Sectors → Finding → Type 0) (phases : List Writes) (d : Sectors) (old new : Option L) where
  -- no write is stray, none is of an owned sector, and none changes the boot code
  pub keeps : NoneIs (IsStray denotes reads table owned finds d phases old new) (writes_in phases)
      → NoneIs (IsOwned denotes reads table owned finds d phases old new) (writes_in phases) → NoneIs (ChangesBoot d) (writes_in phases)
      → (i : ℕ) (c : Sectors) → StoppedIn phases d i c → Keeps denotes healthy table owned old new d c
  keeps no_stray no_owned no_boot i c stop = record {
    sectors = λ k stay. on_stopped_in (λ v. v ≡ sector d k) k phases d i c stop refl (λ v put. absurd (⊎_elim
        (λ stray. none_puts (IsStray denotes reads table owned finds d phases old new) (writes_in phases) no_stray k v put stray)
        (λ is_owned. none_puts (IsOwned denotes reads table owned finds d phases old new) (writes_in phases) no_owned k v put is_owned)
        stay));
    boot = on_stopped_in (λ v. take 440 v ≡ boot_code d) 0 phases d i c stop refl
        (λ v put. same_bytes (take 440 v) (boot_code d)
        (λ unlike. none_puts (ChangesBoot d) (writes_in phases) no_boot 0 v put (refl, unlike)));
  }

-- What ghost fields of impls are given: the prover wants it in specs/.
use Rattle.std.specs.Prelude.{◌≡◌, ℕ, zero, suc, List, length, drop, ◌<◌, ◌≤◌, ◌^◌}
use Rattle.std.proofs.Common.{refl, ap, arith, ◌∙◌, [], ◌∷◌, Bool, true, false, cond, ◌&&◌, ◌==◌, slice_set, sym, length-set, inl, inr}
use Rattle.std.proofs.Common.{◌⊎◌, ⊎_elim}
use Rattle.pt_disks.specs.Stores.{sectors_of}
use Rattle.std.proofs.lemmas.Bool.{cases_eq}
use Rattle.std.proofs.lemmas.Bool.Decides.{nat_tests}
use Rattle.std.proofs.lemmas.Grind.{common_steps}
use Rattle.pt_sector.specs.Sectors.{Sectors, sector, Stopped, Puts}
use Rattle.pt_disks.specs.Memory.{reading, pending_writes}
use Rattle.pt_disks.specs.declared.in_memory.cache.Pending.{Pending}
use Rattle.pt_disks.specs.Reading.{read_at}

pub length-sectors_of : (b n : ℕ) (bytes : List ℕ) → length (sectors_of b n bytes) ≡ n
length-sectors_of b zero bytes = refl
length-sectors_of b (suc n) bytes = ap (λ (m : ℕ). suc m) (length-sectors_of b n (drop b bytes))

pub in_bound : (bytes : ℕ) → bytes < 2 ^ 63 → bytes ≤ 2 ^ 64
in_bound bytes fits = omega (arith, fits)

step : (r : Bool) (a k : ℕ) (v : List ℕ) (d : Sectors) → k < length d
    → sector (cond r (slice_set d a v) d) k ≡ cond (r && (a == k)) v (sector d k)
step false a k v d lt = refl
step true a k v d lt = grind (arith, common_steps, nat_tests)

length-step : (r : Bool) (a : ℕ) (v : List ℕ) (d : Sectors) → length (cond r (slice_set d a v) d) ≡ length d
length-step false a v d = refl
length-step true a v d = length-set d a v

pub length-reading : {b : _} (ps : List (Pending b)) (d : Sectors) → length (reading ps d) ≡ length d
length-reading [] d = refl
length-reading (p ∷ ps) d = length-reading ps (cond p.reads (slice_set d p.lba.0 p.bytes) d) ∙ length-step p.reads p.lba.0 p.bytes d

pub sector-reading : {b : _} (ps : List (Pending b)) (d : Sectors) (k : ℕ) → k < length d
    → sector (reading ps d) k ≡ read_at ps k (sector d k)
sector-reading [] d k lt = refl
sector-reading (p ∷ ps) d k lt =
    let len : length (cond p.reads (slice_set d p.lba.0 p.bytes) d) ≡ length d = length-step p.reads p.lba.0 p.bytes d in
    sector-reading ps (cond p.reads (slice_set d p.lba.0 p.bytes) d) k (omega (arith, len))
    ∙ ap (read_at ps k) (step p.reads p.lba.0 k p.bytes d lt)

put_or_not : (r : Bool) (a k : ℕ) (x v : List ℕ) → (cond (r && (a == k)) x v ≡ v) ⊎ ((a ≡ k) × (cond (r && (a == k)) x v ≡ x))
put_or_not false a k x v = inl refl
put_or_not true a k x v = elim (cases_eq a k) [
  | inl is ↦ inr (is, grind (arith, nat_tests))
  | inr not_it ↦ inl (grind (arith, nat_tests))
]

pub read_or : {b : _} (ps : List (Pending b)) (k : ℕ) (v : List ℕ) → (read_at ps k v ≡ v) ⊎ Puts (pending_writes ps) k (read_at ps k v)
read_or [] k v = inl refl
read_or (p ∷ ps) k v =
    ⊎_elim
    (λ same. ⊎_elim (λ kept. inl (same ∙ kept)) (λ put. inr (inl (put.0, sym (same ∙ put.1)))) (put_or_not p.reads p.lba.0 k p.bytes v))
    (λ puts. inr (inr puts))
    (read_or ps k (cond (p.reads && (p.lba.0 == k)) p.bytes v))

-- what a read gives is a disk that a stop may leave
pub stopped_reading : {b : _} (ps : List (Pending b)) (d : Sectors) → Stopped d (pending_writes ps) (reading ps d)
stopped_reading ps d = record {
  same_count = length-reading ps d;
  each = λ k lt. ⊎_elim (λ same. inl (sector-reading ps d k lt ∙ same)) (λ puts. inr (rw (sector-reading ps d k lt) puts))
      (read_or ps k (sector d k));
}

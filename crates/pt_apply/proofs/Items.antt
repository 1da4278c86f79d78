-- The write at an index, and the phase at an index.
use Rattle.std.proofs.Common.{◌≡◌, ◌∙◌, inl, inr, ℕ, zero, suc, ◌+◌, ◌<◌, ◌≤◌, List, [], ◌∷◌, length, slice_get, Some, drop, take, get_or}
use Rattle.std.proofs.Common.{refl, sym, ap, arith, add-one, Vec, Ok, Err}
use Rattle.std.specs.Prelude.{Result, IfErr, All}
use Rattle.std.specs.declared.alloc.Global.{Global}
use Rattle.pt_sector.specs.Sectors.{Sectors, Writes, Puts, written, after}
use Rattle.pt_sector.specs.declared.disk.Fault.{Fault}
use Rattle.pt_sector.specs.declared.disk.Fault.TheVariants as fault
use Rattle.pt_apply.specs.Plans.{writes_of, faults_of, PhaseInRange}
use Rattle.pt_apply.specs.inner.Plans.{phases_in}
use Rattle.pt_apply.specs.declared.plan.Write.{Write}

-- each write of these phases is of a sector below n
abbrev pub PhasesInRange : {b : _} → ℕ → List (Vec (Write b) Global) → Type 0
PhasesInRange n ps = All (λ (p : Vec (Write _) Global). PhaseInRange n p.items) ps

pub puts-write : {b : _} (ws : List (Write b)) (i : ℕ) (w : Write b) → i < length ws → w ≡ get_or ws i w
    → Puts (writes_of ws) w.lba.0 w.bytes
puts-write [] i w lt is = absurd (omega (arith, lt))
puts-write (x ∷ ws) zero w lt is = inl (ap (λ (y : Write _). y.lba.0) (sym is), ap (λ (y : Write _). y.bytes) (sym is))
puts-write (x ∷ ws) (suc i) w lt is = inr (puts-write ws i w (omega (arith, lt)) is)

pub drop-past : {X : Type 0} (xs : List X) (i : ℕ) → length xs ≤ i → drop i xs ≡ []
drop-past [] zero le = refl
drop-past [] (suc i) le = refl
drop-past (x ∷ xs) zero le = absurd (omega (arith, le))
drop-past (x ∷ xs) (suc i) le = drop-past xs i (omega (arith, le))

pub drop-all_writes : {b : _} (ws : List (Write b)) (i : ℕ) → length ws ≤ i → drop i (writes_of ws) ≡ []
drop-all_writes [] zero le = refl
drop-all_writes [] (suc i) le = refl
drop-all_writes (x ∷ ws) zero le = absurd (omega (arith, le))
drop-all_writes (x ∷ ws) (suc i) le = drop-all_writes ws i (omega (arith, le))

pub after-more : (ps : List Writes) (i : ℕ) (d : Sectors) → i < length ps
    → after (take (i + 1) ps) d ≡ written (get_or ps i []) (after (take i ps) d)
after-more [] i d lt = absurd (omega (arith, lt))
after-more (p ∷ ps) zero d lt = refl
after-more (p ∷ ps) (suc i) d lt = rw add-one (rw add-one at (after-more ps i (written p d) (omega (arith, lt))))

pub length-phases : {b : _} (ps : List (Vec (Write b) Global)) → length (phases_in ps) ≡ length ps
length-phases [] = refl
length-phases (p ∷ ps) = ap (λ (n : ℕ). suc n) (length-phases ps)

pub take-all : {X : Type 0} (xs : List X) (i : ℕ) → length xs ≤ i → take i xs ≡ xs
take-all [] zero le = refl
take-all [] (suc i) le = refl
take-all (x ∷ xs) zero le = absurd (omega (arith, le))
take-all (x ∷ xs) (suc i) le = ap (λ l. x ∷ l) (take-all xs i (omega (arith, le)))

pub fault-of-write : {b : _} (ws : List (Write b)) (i : ℕ) (w : Write b) (e : Fault) → i < length ws → w ≡ get_or ws i w
    → e ≡ fault.Write w.lba → slice_get (faults_of (writes_of ws)) i ≡ Some e
fault-of-write [] i w e lt is tells = absurd (omega (arith, lt))
fault-of-write (x ∷ ws) zero w e lt is tells =
    ap (λ (y : Write _). Some (fault.Write (record { 0 = y.lba.0 }))) (sym is) ∙ ap (λ (f : Fault). Some f) (sym tells)
fault-of-write (x ∷ ws) (suc i) w e lt is tells = fault-of-write ws i w e (omega (arith, lt)) is tells

flush_last : {b : _} (ws : List (Write b)) → slice_get (faults_of (writes_of ws)) (length ws) ≡ Some fault.Flush
flush_last [] = refl
flush_last (x ∷ ws) = flush_last ws

pub fault-of-flush : {b : _} (ws : List (Write b)) (n : ℕ) (e : Fault) → n ≡ length ws → e ≡ fault.Flush
    → slice_get (faults_of (writes_of ws)) n ≡ Some e
fault-of-flush ws n e is tells =
    ap (λ (m : ℕ). slice_get (faults_of (writes_of ws)) m) is ∙ flush_last ws ∙ ap (λ (f : Fault). Some f) (sym tells)

pub some_fault : {b : _} {T : Type 0} (ws : List (Write b)) (r : Result T Fault) → IfErr r (λ e. e ≡ fault.Flush)
    → IfErr r (λ e. (call : ℕ) × (slice_get (faults_of (writes_of ws)) call ≡ Some e))
some_fault ws (Ok x) tells = tt
some_fault ws (Err e) tells = (length ws, fault-of-flush ws (length ws) e refl tells)

pub whole_index : {n i : ℕ} → n ≤ i → i ≤ n → i ≡ n
whole_index le ge = omega arith

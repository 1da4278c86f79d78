-- What ghost fields of impls are given: the prover wants it in specs/.
use Rattle.std.specs.Prelude.{◌≡◌, ◌⊎◌, ℕ, ◌+◌, ◌-◌, ◌*◌, ◌^◌, ◌<◌, ◌≤◌, List, [], ◌∷◌, length, drop, Option}
use Rattle.std.proofs.Common.{refl, sym, ap, ◌∙◌, subst, arith, inl, inr, ⊎_elim, min}
use Rattle.std.specs.List.{cons_option}
use Rattle.std.proofs.lemmas.List.{get_or-take, get_or-drop, length-take, length-drop}
use Rattle.std.proofs.lemmas.Nat.{mul-le}
use Rattle.std.proofs.lemmas.Bool.{cases_lt, le-leb, lt-leb, lt-ltb, le-ltb}
use Rattle.jawefon.specs.Sectors.{Sectors, sector, Writes, Puts, MayHold}
use Rattle.jawefon.specs.Device.{Told, MayLeave}
use Rattle.example_disk.specs.Window.{window, writes_in, told_in}
use Rattle.example_disk.specs.Within.{Falls}

-- they have no more bytes than the disk
pub fewer_bytes : (first n count b : ℕ) → first + n ≤ count → count * b ≤ 2 ^ 64 → n * b ≤ 2 ^ 64
fewer_bytes first n count b le bound =
    let less : n * b ≤ count * b = mul-le n b count b (omega (arith, le)) (omega arith) in
    omega (arith, less, bound)

module _ (first n : ℕ) where
  pub falls : (w : ℕ × List ℕ) → (Falls first n) w
  falls w = ⊎_elim
      (λ (low : w.0 < first). inr (rw (lt-leb first w.0 low) refl, λ k less is. absurd (omega (arith, low, is))))
      (λ (le : first ≤ w.0). ⊎_elim
      (λ (lt : w.0 - first < n). inl (w.0 - first, lt, omega (arith, le), rw (le-leb first w.0 le, lt-ltb (w.0 - first) n lt) refl))
      (λ (high : n ≤ w.0 - first). inr (
        rw (le-leb first w.0 le, le-ltb (w.0 - first) n high) refl,
        λ k less is. absurd (omega (arith, high, le, is, less)),
      ))
      (cases_lt (w.0 - first) n))
      (cases_lt w.0 first)

  puts_in : (ws : Writes) (k : ℕ) (v : List ℕ) → k < n → Puts ws (first + k) v → Puts (writes_in first n ws) k v
  puts_in [] k v lt puts = puts
  puts_in (w ∷ ws) k v lt puts = ⊎_elim
      (λ at. subst (λ (o : Option (ℕ × List ℕ)). Puts (cons_option o (writes_in first n ws)) k v) (sym at.3)
      (⊎_elim (λ here. inl (omega (arith, at.2, here.0), here.1)) (λ later. inr (puts_in ws k v lt later)) puts))
      (λ out. subst (λ (o : Option (ℕ × List ℕ)). Puts (cons_option o (writes_in first n ws)) k v) (sym out.0)
      (⊎_elim (λ here. absurd (out.1 k lt here.0)) (λ later. puts_in ws k v lt later) puts))
      (falls w)

  pub sector-window : (d : Sectors) (k : ℕ) → k < n → sector (window first n d) k ≡ sector d (first + k)
  sector-window d k lt = get_or-take n (drop first d) k [] lt ∙ get_or-drop first d k []

  pub length-window : (d : Sectors) → length (window first n d) ≡ min n (length d - first)
  length-window d = length-take n (drop first d) ∙ ap (min n) (length-drop first d)

  pub sized_in : (d : Sectors) (count : ℕ) → first + n ≤ count → length d ≡ count → length (window first n d) ≡ n
  sized_in d count le sized = omega (arith, length-window d, le, sized)

  pub hold_in : (d : Sectors) (ws : Writes) (k : ℕ) (v : List ℕ) → k < n → MayHold d ws (first + k) v
      → MayHold (window first n d) (writes_in first n ws) k v
  hold_in d ws k v lt = ⊎_elim (λ is. inl (is ∙ sym (sector-window d k lt))) (λ puts. inr (puts_in ws k v lt puts))

  pub may_leave_in : (told : Told) → MayLeave told told.seen → MayLeave (told_in first n told) (window first n told.seen)
  may_leave_in told stopped = record {
    same_count =
        length-window told.seen ∙ ap (λ (m : ℕ). min n (m - first)) stopped.same_count ∙ sym (length-window told.durable);
    each = λ k lt.
        let within : k < n = omega (arith, lt, length-window told.durable) in
        let there : first + k < length told.durable = omega (arith, lt, length-window told.durable) in
        rw (sector-window told.seen k within) (hold_in told.durable told.pending k (sector told.seen (first + k)) within
        (stopped.each (first + k) there));
  }

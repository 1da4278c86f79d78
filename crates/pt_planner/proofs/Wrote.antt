-- What phases that write both copies have: they are in range, none is empty, and they are few writes.
use Rattle.std.proofs.Common.{◌≡◌, ◌∙◌, ◌⊎◌, inl, inr, ℕ, ◌+◌, ◌<◌, ◌≤◌, List, [], ◌∷◌, ◌++◌, length, slice_index_or, ◌-◌, Option}
use Rattle.std.proofs.Common.{Some, None, sym, ap, subst, arith, length-append, Vec}
use Rattle.std.specs.declared.alloc.Global.{Global}
use Rattle.pt_sector.specs.Sectors.{IsSectorSize, Writes, Puts}
use Rattle.pt_apply.specs.Plans.{writes_of, PhaseInRange, writes_in}
use Rattle.pt_apply.proofs.Items.{PhasesInRange}
use Rattle.pt_apply.specs.inner.Plans.{phases_in}
use Rattle.pt_apply.specs.declared.plan.Write.{Write}
use Rattle.pt_gpt.specs.Copies.{array_len, HasRoom, array_place}
use Rattle.pt_gpt.specs.declared.table.Side.{Side}
use Rattle.pt_gpt.specs.declared.table.Side.TheVariants.{Primary, Backup}
use Rattle.pt_gpt.specs.declared.table.Table.{Table}
use Rattle.pt_cases.specs.Cases.{backup_first_phases, primary_first_phases, from_mbr_phases, labels_and_backup, primary_and_labels}
use Rattle.pt_cases.specs.Cases.{copies_and_labels}
use Rattle.pt_cases.specs.Keeps.{copies_bound}
use Rattle.pt_cases.specs.Writes.{array_phase, one_write, closing, backup_phase}
use Rattle.pt_cases.proofs.Sides.{array_count}
use Rattle.pt_planner.specs.Phases.{last_of, WroteCopies, Reaches}
use Rattle.pt_planner.proofs.Reached.{reaches_below, last_reached, backup_first_reached, primary_first_reached, from_mbr_reached}
use Rattle.pt_planner.proofs.Ranges.{puts_below, phases_below, length_writes, NoneEmpty, phases_some, count_more}

array_some : (b : ℕ) → IsSectorSize b → 0 < array_len b
array_some b (inl e) = rw e (omega arith)
array_some b (inr e) = rw e (omega arith)

array_length : (b n : ℕ) (t : Table) (side : Side) → length (array_phase b n t side) ≡ array_len b
array_length b n t side = array_count b t.entries (array_place b side n) (array_len b)

backup_length : (b n : ℕ) (t : Table) (header : List ℕ) → length (backup_phase b n t header) ≡ array_len b + 1
backup_length b n t header =
    let all = length-append (array_phase b n t Backup) (one_write (n - 1) header) in
    let array = array_length b n t Backup in
    omega (arith, all, array)

front_length : (b n : ℕ) (t : Table) (backup : List ℕ) (labels : Writes)
    → length (labels_and_backup b n t backup labels) ≡ length labels + (array_len b + 1)
front_length b n t backup labels =
    length-append labels (backup_phase b n t backup) ∙ ap (λ (k : ℕ). length labels + k) (backup_length b n t backup)

middle_length : (b n : ℕ) (t : Table) (labels : Writes) → length (primary_and_labels b n t labels) ≡ array_len b + length labels
middle_length b n t labels =
    length-append (array_phase b n t Primary) labels ∙ ap (λ (k : ℕ). k + length labels) (array_length b n t Primary)

all_length : (b n : ℕ) (t : Table) (primary backup : List ℕ) (labels : Writes)
    → length (copies_and_labels b n t primary backup labels) ≡ 1 + (array_len b + (length labels + (array_len b + 1)))
all_length b n t primary backup labels =
    let first = length-append (one_write 1 primary) (array_phase b n t Primary ++ labels_and_backup b n t backup labels) in
    let second = length-append (array_phase b n t Primary) (labels_and_backup b n t backup labels) in
    let array = array_length b n t Primary in
    let front = front_length b n t backup labels in
    omega (arith, first, second, array, front)

last_some : (last : Option (List ℕ)) → NoneEmpty (last_of last)
last_some None = tt
last_some (Some v) = (omega arith, tt)

last_length : (last : Option (List ℕ)) → length (writes_in (last_of last)) ≤ 1
last_length None = omega arith
last_length (Some v) = omega arith

four_lengths : (p q r s : Writes) (last : List Writes)
    → length (writes_in (p ∷ q ∷ r ∷ s ∷ last)) ≡ length p + (length q + (length r + (length s + length (writes_in last))))
four_lengths p q r s last =
    let first = count_more p (q ∷ r ∷ s ∷ last) in
    let second = count_more q (r ∷ s ∷ last) in
    let third = count_more r (s ∷ last) in
    let fourth = count_more s last in
    omega (arith, first, second, third, fourth)

module _ (b n : ℕ) (t : Table) (labels : List (Write b)) (ps : List (Vec (Write b) Global)) (size : IsSectorSize b)
    (room : HasRoom b n) (below : PhaseInRange n labels) where
  reached_below : (s : ℕ) (v : List ℕ) → Reaches b n (writes_of labels) s v → s < n
  reached_below s v reached = reaches_below b n (writes_of labels) s v room (λ k x puts. puts_below n labels k x below puts) reached

  end_below : (last : Option (List ℕ)) (s : ℕ) (v : List ℕ) → Puts (writes_in (last_of last)) s v ⊎ Reaches b n (writes_of labels) s v
      → s < n
  end_below last s v (inl end) = let zero_is = (last_reached last s v end).0 in omega (arith, zero_is, room)
  end_below last s v (inr reached) = reached_below s v reached

  head_below : (head : List ℕ) (s : ℕ) (v : List ℕ) → ((s ≡ 0) × (v ≡ head)) ⊎ Reaches b n (writes_of labels) s v → s < n
  head_below head s v (inl end) = let zero_is = end.0 in omega (arith, zero_is, room)
  head_below head s v (inr reached) = reached_below s v reached

  module _ (last : Option (List ℕ))
      (is : WroteCopies b n t (λ p k. backup_first_phases b n t p k (writes_of labels) (last_of last)) (phases_in ps)) where
    pub backup_first_in_range : PhasesInRange n ps
    backup_first_in_range =
        phases_below n ps
        (λ s v puts. end_below last s v
        (backup_first_reached b n t is.primary is.backup (writes_of labels) (last_of last) s v room
        (subst (λ (x : List Writes). Puts (writes_in x) s v) is.is puts)))

    pub backup_first_some : (k : ℕ) (d : Vec (Write b) Global) → k < length ps → 0 < length (slice_index_or ps k d).items
    backup_first_some =
        let front = front_length b n t is.backup (writes_of labels) in
        let array = array_length b n t Primary in
        let some = array_some b size in
        phases_some ps (subst NoneEmpty (sym is.is)
        (omega (arith, front), (omega arith, (omega (arith, array, some), (omega arith, last_some last)))))

    pub backup_first_count : length (writes_in (phases_in ps)) ≤ copies_bound b (length labels)
    backup_first_count =
        let all =
        four_lengths (labels_and_backup b n t is.backup (writes_of labels)) (closing b) (array_phase b n t Primary)
        (one_write 1 is.primary) (last_of last) in
        let front = front_length b n t is.backup (writes_of labels) in
        let array = array_length b n t Primary in
        let end = last_length last in
        let few = length_writes labels in
        subst (λ (x : List Writes). length (writes_in x) ≤ copies_bound b (length labels)) (sym is.is)
        (omega (arith, all, front, array, end, few))

  module _ (last : Option (List ℕ))
      (is : WroteCopies b n t (λ p k. primary_first_phases b n t p k (writes_of labels) (last_of last)) (phases_in ps)) where
    pub primary_first_in_range : PhasesInRange n ps
    primary_first_in_range =
        phases_below n ps
        (λ s v puts. end_below last s v
        (primary_first_reached b n t is.primary is.backup (writes_of labels) (last_of last) s v room
        (subst (λ (x : List Writes). Puts (writes_in x) s v) is.is puts)))

    pub primary_first_some : (k : ℕ) (d : Vec (Write b) Global) → k < length ps → 0 < length (slice_index_or ps k d).items
    primary_first_some =
        let middle = middle_length b n t (writes_of labels) in
        let copy = backup_length b n t is.backup in
        let some = array_some b size in
        phases_some ps (subst NoneEmpty (sym is.is)
        (omega arith, (omega (arith, middle, some), (omega arith, (omega (arith, copy), last_some last)))))

    pub primary_first_count : length (writes_in (phases_in ps)) ≤ copies_bound b (length labels)
    primary_first_count =
        let all =
        four_lengths (closing b) (primary_and_labels b n t (writes_of labels)) (one_write 1 is.primary) (backup_phase b n t is.backup)
        (last_of last) in
        let middle = middle_length b n t (writes_of labels) in
        let copy = backup_length b n t is.backup in
        let end = last_length last in
        let few = length_writes labels in
        subst (λ (x : List Writes). length (writes_in x) ≤ copies_bound b (length labels)) (sym is.is)
        (omega (arith, all, middle, copy, end, few))

  module _ (head : List ℕ) (is : WroteCopies b n t (λ p k. from_mbr_phases b n t p k (writes_of labels) head) (phases_in ps)) where
    pub from_mbr_in_range : PhasesInRange n ps
    from_mbr_in_range =
        phases_below n ps
        (λ s v puts. head_below head s v
        (from_mbr_reached b n t is.primary is.backup (writes_of labels) head s v room
        (subst (λ (x : List Writes). Puts (writes_in x) s v) is.is puts)))

    pub from_mbr_some : (k : ℕ) (d : Vec (Write b) Global) → k < length ps → 0 < length (slice_index_or ps k d).items
    from_mbr_some =
        let all = all_length b n t is.primary is.backup (writes_of labels) in
        phases_some ps (subst NoneEmpty (sym is.is) (omega (arith, all), (omega arith, tt)))

    pub from_mbr_count : length (writes_in (phases_in ps)) ≤ copies_bound b (length labels)
    from_mbr_count =
        let first = count_more (copies_and_labels b n t is.primary is.backup (writes_of labels)) (one_write 0 head ∷ []) in
        let all = all_length b n t is.primary is.backup (writes_of labels) in
        let few = length_writes labels in
        subst (λ (x : List Writes). length (writes_in x) ≤ copies_bound b (length labels)) (sym is.is) (omega (arith, first, all, few))

-- Copies that are written.
use Rattle.std.proofs.Common.{◌≡◌, ◌∙◌, ◌⊎◌, inl, inr, ⊎_elim, ℕ, zero, suc, ◌+◌, ◌-◌, ◌<◌, ◌≤◌, List, [], ◌∷◌, ◌++◌, length, Option}
use Rattle.std.proofs.Common.{slice_set, refl, sym, ap, subst, arith, length-append}
use Rattle.std.proofs.lemmas.Bool.{cases_order}
use Rattle.pt_sector.specs.Sectors.{Sectors, sector, IsSectorSize, Writes, Puts, written}
use Rattle.pt_sector.proofs.Written.{written-append}
use Rattle.pt_sector.specs.inner.ForFields.{length-written}
use Rattle.pt_gpt.specs.Copies.{array_len, array_sector, counted, AllFit, HasRoom, header_place, array_place, CopyWith, IsPlaced}
use Rattle.pt_gpt.specs.Copies.{HeaderBytes}
use Rattle.pt_gpt.proofs.Written.{written_is_copy_lem}
use Rattle.pt_gpt.specs.declared.entry.Entry.{Entry}
use Rattle.pt_gpt.specs.declared.table.Side.{Side}
use Rattle.pt_gpt.specs.declared.table.Side.TheVariants.{Backup}
use Rattle.pt_gpt.specs.declared.table.Table.{Table}
use Rattle.pt_cases.specs.Writes.{FitsTable, header_of, array_writes, array_phase, one_write, backup_phase}
use Rattle.pt_apply.proofs.Puts.{puts_split, puts_left, puts_right}
use Rattle.pt_cases.proofs.Frames.{misses, there_one, one_is}

pub array_none : (b : ℕ) (es : List (Option Entry)) (at : ℕ) → array_writes b es at 0 ≡ []
unfolding array_writes
array_none b es at = refl

pub array_suc : (b : ℕ) (es : List (Option Entry)) (at k : ℕ)
    → array_writes b es at (suc k) ≡ array_writes b es at k ++ (at + k, array_sector b es k) ∷ []
unfolding array_writes
array_suc b es at k = refl

-- an array has as many writes as it has sectors
pub array_count : (b : ℕ) (es : List (Option Entry)) (at k : ℕ) → length (array_writes b es at k) ≡ k
array_count b es at zero = ap length (array_none b es at)
array_count b es at (suc k) =
    let rest = array_count b es at k in
    ap length (array_suc b es at k) ∙ length-append (array_writes b es at k) ((at + k, array_sector b es k) ∷ []) ∙ omega (arith, rest)

set_other : (d : Sectors) (k s : ℕ) (v : List ℕ) → ¬ (k ≡ s) → sector (slice_set d k v) s ≡ sector d s
set_other d k s v other = misses d ((k, v) ∷ []) s (λ x puts. ⊎_elim (λ put. other put.0) (λ nothing. absurd nothing) puts)

array_put : (b : ℕ) (es : List (Option Entry)) (at k j : ℕ) → j < k → Puts (array_writes b es at k) (at + j) (array_sector b es j)
array_put b es at zero j lt = absurd (omega (arith, lt))
array_put b es at (suc k) j lt = subst (λ (ws : Writes). Puts ws (at + j) (array_sector b es j)) (sym (array_suc b es at k)) (⊎_elim
    (λ same. puts_right (array_writes b es at k) ((at + k, array_sector b es k) ∷ []) (at + j) (array_sector b es j)
    (inl (ap (λ (i : ℕ). at + i) (sym same), ap (λ (i : ℕ). array_sector b es i) (sym same))))
    (λ other. ⊎_elim
    (λ less. puts_left (array_writes b es at k) ((at + k, array_sector b es k) ∷ []) (at + j) (array_sector b es j)
    (array_put b es at k j less))
    (λ more. absurd (omega (arith, lt, more)))
    other)
    (cases_order j k))

-- each sector of an array is written
pub array_any : (b : ℕ) (es : List (Option Entry)) (at k s : ℕ) → at ≤ s → s < at + k → (v : List ℕ) × Puts (array_writes b es at k) s v
array_any b es at k s low high =
    let is : at + (s - at) ≡ s = omega (arith, low) in (
      array_sector b es (s - at),
      subst (λ (j : ℕ). Puts (array_writes b es at k) j (array_sector b es (s - at))) is
          (array_put b es at k (s - at) (omega (arith, low, high))),
    )

-- the writes of an array are of its sectors
pub record Among (at n s : ℕ) : Type 0 where
  pub low : at ≤ s
  pub high : s < at + n

pub puts_array : (b : ℕ) (es : List (Option Entry)) (at k s : ℕ) (v : List ℕ) → Puts (array_writes b es at k) s v → Among at k s
puts_array b es at zero s v puts = absurd (subst (λ (ws : Writes). Puts ws s v) (array_none b es at) puts)
puts_array b es at (suc k) s v puts = ⊎_elim
    (λ before. let is = puts_array b es at k s v before in record { low = is.low; high = omega (arith, is.high) })
    (λ last. ⊎_elim (λ it. record { low = omega (arith, it.0); high = omega (arith, it.0) }) (λ nothing. absurd nothing) last)
    (puts_split (array_writes b es at k) ((at + k, array_sector b es k) ∷ []) s v
    (subst (λ (ws : Writes). Puts ws s v) (array_suc b es at k) puts))

one_more : (b : ℕ) (es : List (Option Entry)) (at k j : ℕ) (before : Sectors) → j < suc k → at + k < length before
    → (j < k → sector before (at + j) ≡ array_sector b es j)
    → sector (slice_set before (at + k) (array_sector b es k)) (at + j) ≡ array_sector b es j
one_more b es at k j before lt room so_far = last (cases_order j k)
  where
    last : (j ≡ k) ⊎ ((j < k) ⊎ (k < j)) → sector (slice_set before (at + k) (array_sector b es k)) (at + j) ≡ array_sector b es j
    last (inl same) = rw same (there_one before (at + k) (array_sector b es k) room)
    last (inr (inl less)) = set_other before (at + k) (at + j) (array_sector b es k) (λ is. omega (arith, is, less)) ∙ so_far less
    last (inr (inr more)) = absurd (omega (arith, lt, more))

pub array_there : (b : ℕ) (es : List (Option Entry)) (at k j : ℕ) (d : Sectors) → j < k → at + k ≤ length d
    → sector (written (array_writes b es at k) d) (at + j) ≡ array_sector b es j
array_there b es at zero j d lt room = absurd (omega (arith, lt))
array_there b es at (suc k) j d lt room =
    ap (λ (ws : Writes). sector (written ws d) (at + j)) (array_suc b es at k)
    ∙ ap (λ (x : Sectors). sector x (at + j)) (written-append (array_writes b es at k) ((at + k, array_sector b es k) ∷ []) d)
    ∙ one_more b es at k j (written (array_writes b es at k) d) lt (omega (arith, room, length-written (array_writes b es at k) d))
    (λ less. array_there b es at k j d less (omega (arith, room)))

-- the backup's writes are of the last sectors
pub puts_backup : (b n : ℕ) (t : Table) (header : List ℕ) (s : ℕ) (v : List ℕ) → HasRoom b n
    → Puts (backup_phase b n t header) s v → (n - (array_len b + 1) ≤ s) × (s < n)
puts_backup b n t header s v room puts = ⊎_elim
    (λ array. let is = puts_array b t.entries (n - (array_len b + 1)) (array_len b) s v array in (is.low, omega (arith, is.high, room)))
    (λ last. let is = one_is (n - 1) s header v last in (omega (arith, is, room), omega (arith, is, room)))
    (puts_split (array_phase b n t Backup) (one_write (n - 1) header) s v puts)

module _ (b n : ℕ) (t : Table) (header : List ℕ) (e : Sectors) (count : length e ≡ n) (room : HasRoom b n) where
  abbrev backed : Sectors
  backed = written (backup_phase b n t header) e

  backed_is : backed ≡ written (one_write (n - 1) header) (written (array_phase b n t Backup) e)
  backed_is = written-append (array_phase b n t Backup) (one_write (n - 1) header) e

  count_array : length (written (array_phase b n t Backup) e) ≡ n
  count_array = length-written (array_phase b n t Backup) e ∙ count

  pub backup_header : sector (written (backup_phase b n t header) e) (n - 1) ≡ header
  backup_header =
      ap (λ (x : Sectors). sector x (n - 1)) backed_is
      ∙ there_one (written (array_phase b n t Backup) e) (n - 1) header (omega (arith, count_array, room))

  pub backup_array : (k : ℕ) → k < array_len b
      → sector (written (backup_phase b n t header) e) (n - (array_len b + 1) + k) ≡ array_sector b t.entries k
  backup_array k lt =
      ap (λ (x : Sectors). sector x (n - (array_len b + 1) + k)) backed_is
      ∙ set_other (written (array_phase b n t Backup) e) (n - 1) (n - (array_len b + 1) + k) header (λ is. omega (arith, is, lt, room))
      ∙ array_there b t.entries (n - (array_len b + 1)) (array_len b) k e lt (omega (arith, count, room))

counted_below : (b count k : ℕ) → IsSectorSize b → count ≤ 128 → k < counted b count → k < array_len b
counted_below b count k (inl e) most lt = rw e (omega (arith, most, rw e at lt))
counted_below b count k (inr e) most lt = rw e (omega (arith, most, rw e at lt))

-- a table's header in its place and the sectors of its array in theirs are a copy of it
pub side_written : (b n : ℕ) (c : Sectors) (side : Side) (t : Table) (bytes : List ℕ) → IsSectorSize b → length c ≡ n → FitsTable b n t
    → AllFit t.entries → HeaderBytes b (header_of b n t side) bytes
    → sector c (header_place side n) ≡ bytes
    → ((k : ℕ) → k < array_len b → sector c (array_place b side n + k) ≡ array_sector b t.entries k)
    → CopyWith b c side (header_of b n t side) t
side_written b n c side t bytes size count fits fit is_header header array =
    let placed : IsPlaced b side (length c) (header_of b n t side) = record {
      my = ap (header_place side) (sym count);
      place = ap (array_place b side) (sym count);
      shape = (fits.some, fits.most, refl);
      range = (fits.low, fits.order, subst (λ (m : ℕ). t.last ≤ m - (array_len b + 2)) (sym count) fits.high);
    } in
    let at : sector c (header_place side (length c)) ≡ bytes = ap (λ (m : ℕ). sector c (header_place side m)) count ∙ header in
    written_is_copy_lem b c side (header_of b n t side) t size fit fits.typed (record {
      is_head = record { bytes = subst (HeaderBytes b (header_of b n t side)) (sym at) is_header; placed = placed };
      disk = refl;
      first = refl;
      last = refl;
      count = refl;
      crc = refl;
      array = λ k lt. array k (counted_below b (length t.entries) k size fits.most lt);
    })

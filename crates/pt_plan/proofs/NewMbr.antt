-- A plan of an MBR where the disk denotes none lands.
use Rattle.std.proofs.Common.{◌≡◌, ◌∙◌, ◌⊎◌, inl, inr, ⊎_elim, ℕ, zero, suc, ◌+◌, ◌-◌, ◌<◌, ◌≤◌, List, [], ◌∷◌, ◌++◌, length, take}
use Rattle.std.proofs.Common.{drop, replicate, refl, sym, ap, subst, arith, Option, Some, length-append, append_assoc}
use Rattle.std.proofs.lemmas.List.{take-append-le, take-append-drop, length-take-le}
use Rattle.pt_sector.specs.Sectors.{Sectors, sector, Writes, Puts, written, after}
use Rattle.pt_sector.specs.inner.Sectors.{value_after}
use Rattle.pt_sector.specs.inner.ForFields.{length-written}
use Rattle.pt_sector.proofs.Written.{same_sectors, stopped_written, written-append, after-append, sector-written}
use Rattle.pt_mbr.specs.Records.{put_at, extended_of}
use Rattle.pt_mbr.specs.Chain.{StandsAt}
use Rattle.pt_mbr.specs.declared.ebr.Ebr.{Ebr}
use Rattle.pt_mbr.specs.declared.record.Record.{Record}
use Rattle.pt_mbr.proofs.Terms.{records_are_one, chain_reads_are}
use Rattle.pt_gpt.specs.Copies.{HasRoom}
use Rattle.pt_gpt.specs.declared.table.Table.{Table}
use Rattle.pt_recover.specs.Denotes.{Denotes, Reads, BodyReads, body, label, head, chain, table, BodyIs, IsMbr, IsMbrDisk}
use Rattle.pt_recover.specs.Denotes.{IsMbrSector, HasChain}
use Rattle.pt_recover.specs.Denotes.{ExtendedReads, LeavesReads}
use Rattle.pt_recover.proofs.One.{body_one}
use Rattle.pt_recover.proofs.Terms.{stop_keeps_lem}
use Rattle.pt_members.specs.Members.{places_of, IsPlace}
use Rattle.pt_members.specs.Tables.{IsTable, IsBodyTable, IsGptTable, OwnedOf, Owns, TableOf}
use Rattle.pt_members.specs.declared.layout.Body.{Body}
use Rattle.pt_members.specs.declared.layout.Body.TheVariants.{Mbr, Gpt}
use Rattle.pt_members.specs.declared.layout.Layout.{Layout}
use Rattle.pt_layout.specs.Healthy.{IsHealthy, IsBodyWhole}
use Rattle.pt_layout.specs.Sound.{Sound}
use Rattle.pt_layout.proofs.Terms.{sound_frees_tables_lem}
use Rattle.pt_apply.specs.Plans.{writes_in, NoneIs}
use Rattle.pt_apply.proofs.Puts.{puts_split, puts_left, puts_right}
use Rattle.pt_check.specs.Answers.{IsFit, IsPastLast, ChangesBoot, InNoTable, InOwned, most_writes}
use Rattle.pt_check.proofs.Accepted.{accepted_lem}
use Rattle.pt_check.proofs.Walk.{Stays, Turns, turns_is_course}
use Rattle.pt_cases.specs.Cases.{IsPlan, idle, backup_first, primary_first, from_mbr, one_label, within_mbr, IsWithinMbr, within_mbr_phases}
use Rattle.pt_cases.specs.NewMbr.{empty_head, emptied, before_last, IsNewMbr, IsStale, IsTurning, filled, empty, MakesMbr}
use Rattle.pt_cases.specs.NewMbr.{Zeroes}
use Rattle.pt_cases.specs.Writes.{one_write}
use Rattle.pt_cases.proofs.Frames.{misses, there_one, one_is, foreign_back}
use Rattle.pt_cases.proofs.NewMbr.{long_head, emptied_reads}
use Rattle.pt_plan.specs.Commits.{Lands}
use Rattle.pt_plan.proofs.Landings.{IsGood, none_is}
use Rattle.pt_plan.proofs.Needing.{count_append}
use Rattle.pt_plan.proofs.WithinMbr.{good_all, ends}

-- ## Sectors that hold no table of an MBR decide nothing of it.

-- what recovery reads of a disk that denotes an MBR are its tables
pub mbr_reads : (b : ℕ) (c : Sectors) (p : Layout) (records : List (Option Record)) (links : List Ebr) (s : ℕ) → Denotes b c (Some p)
    → p.body ≡ Mbr records links → Reads b c s → IsTable b p s
mbr_reads b c p records links s from is reads = by_read reads
  where
    here : BodyIs b c (Mbr records links)
    here = subst (BodyIs b c) is from.1

    of_body : (s ≡ 0) ⊎ StandsAt s links → IsTable b p s
    of_body at = inl (subst (λ (y : Body). IsBodyTable b p.sectors y s) (sym is) at)

    chain_of : (rs : List Record) (list : List Ebr) → HasChain c rs list → ExtendedReads c rs s → StandsAt s list
    chain_of [] list has at = absurd at
    chain_of (r ∷ []) list has at = (chain_reads_are c _ list has s).0 at
    chain_of (r ∷ q ∷ rs) list has at = absurd at

    same_records : (m : List (Option Record)) → IsMbr c m → m ≡ records
    same_records m mbr = records_are_one m records (sector c 0) mbr.1 here.0.1

    by_body : BodyReads b c s → IsTable b p s
    by_body (head lt zero_is) = of_body (inl zero_is)
    by_body (chain m mbr at) =
        of_body (inr (chain_of (extended_of records) links here.1
        (subst (λ (x : List (Option Record)). ExtendedReads c (extended_of x) s) (same_records m mbr) at)))
    by_body (table other room at) = absurd (other here.0.0)

    by_read : Reads b c s → IsTable b p s
    by_read (body at) = by_body at
    by_read (label y is_body at) =
        let one : y ≡ p.body = body_one b c y p.body is_body from.1 in
        inr (subst (λ (n : ℕ). IsPlace (places_of b n p.body) s) (sym from.0)
        (subst (λ (x : Body). IsPlace (places_of b (length c) x) s) one at))

module _ (b : ℕ) (p : Layout) (records : List (Option Record)) (links : List Ebr) (is : p.body ≡ Mbr records links) where
  -- with such a sector written the disk is as healthy
  pub healthy_still : (c : Sectors) (k : ℕ) (v : List ℕ) → IsHealthy b c p → ¬ IsTable b p k → IsHealthy b (written (one_write k v) c) p
  healthy_still c k v well free =
      let unread : LeavesReads b c (one_write k v) =
      λ s x puts reads. free (subst (IsTable b p) (one_is k s v x puts) (mbr_reads b c p records links s well.denotes is reads)) in
      let stays : (s : ℕ) → IsPlace (places_of b p.sectors p.body) s → sector (written (one_write k v) c) s ≡ sector c s =
      λ s at. misses c (one_write k v) s (λ x puts. free (subst (IsTable b p) (one_is k s v x puts) (inr at))) in
      record {
        denotes = ((stop_keeps_lem b c (written (one_write k v) c) (one_write k v) unread (stopped_written (one_write k v) c)).denotes
            (Some p)).1 well.denotes;
        sound = well.sound;
        whole = subst (IsBodyWhole b (written (one_write k v) c)) (sym is) tt;
        no_foreign = λ n f. well.no_foreign n (foreign_back b c (written (one_write k v) c) p n stays f);
      }

  -- each of these phases is one write of such a sector
  abbrev pub Outside : List Writes → Type 0
  Outside [] = Unit {0}
  Outside (z ∷ zs) = ((k : ℕ) × (v : List ℕ) × (z ≡ one_write k v) × ¬ IsTable b p k) × Outside zs

  pub outside_append : (y z : List Writes) → Outside y → Outside z → Outside (y ++ z)
  outside_append [] z one two = two
  outside_append (x ∷ y) z one two = (one.0, outside_append y z one.1 two)

  next_well : (c : Sectors) (z : Writes) (k : ℕ) (v : List ℕ) → z ≡ one_write k v → ¬ IsTable b p k → IsHealthy b c p
      → IsHealthy b (written z c) p
  next_well c z k v same free well = subst (λ (ws : Writes). IsHealthy b (written ws c) p) (sym same) (healthy_still c k v well free)

  pub outside_stays : (zs : List Writes) (c : Sectors) → Outside zs → IsHealthy b c p → Stays (Denotes b) (Reads b) zs c (Some p)
  outside_stays [] c out well = well.denotes
  outside_stays (z ∷ zs) c ((k, v, same, free), rest) well =
      let one : length z ≡ 1 = ap length same in
      (well.denotes, inl (omega (arith, one)), outside_stays zs (written z c) rest (next_well c z k v same free well))

  pub outside_well : (zs : List Writes) (c : Sectors) → Outside zs → IsHealthy b c p → IsHealthy b (after zs c) p
  outside_well [] c out well = well
  outside_well (z ∷ zs) c ((k, v, same, free), rest) well = outside_well zs (written z c) rest (next_well c z k v same free well)

  pub outside_misses : (zs : List Writes) (c : Sectors) (s : ℕ) → Outside zs → IsTable b p s → sector (after zs c) s ≡ sector c s
  outside_misses [] c s out at = refl
  outside_misses (z ∷ zs) c s ((k, v, same, free), rest) at =
      outside_misses zs (written z c) s rest at
      ∙ misses c z s (λ x puts. free (subst (IsTable b p) (one_is k s v x (subst (λ (ws : Writes). Puts ws s x) same puts)) at))

  -- the phases that zero a header are so
  pub zeroes_outside : (d : Sectors) (o : Option Layout) (s : ℕ) (zs : List Writes) → Zeroes b d o p s zs → Outside zs
  zeroes_outside d o s zs (inl (stale, same)) = subst Outside (sym same) ((s, replicate b 0, refl, stale.no_table), tt)
  zeroes_outside d o s zs (inr (none, same)) = subst Outside (sym same) tt

-- the writes of phases behind others
pub writes_append : (y z : List Writes) → writes_in (y ++ z) ≡ writes_in y ++ writes_in z
writes_append [] z = refl
writes_append (w ∷ y) z = ap (λ (ws : Writes). w ++ ws) (writes_append y z) ∙ sym (append_assoc w (writes_in y) (writes_in z))

pub after_writes : (ps : List Writes) (d : Sectors) → after ps d ≡ written (writes_in ps) d
after_writes [] d = refl
after_writes (ws ∷ ps) d = after_writes ps (written ws d) ∙ sym (written-append ws (writes_in ps) d)

-- what they write, and how much
pub zeroes_put : (b : ℕ) (d : Sectors) (o : Option Layout) (p : Layout) (s : ℕ) (zs : List Writes) → Zeroes b d o p s zs
    → (k : ℕ) (v : List ℕ) → Puts (writes_in zs) k v → (k ≡ s) × IsStale b d o p s
zeroes_put b d o p s zs (inl (stale, same)) k v puts =
    let here : Puts (one_write s (replicate b 0)) k v = subst (λ (ps : List Writes). Puts (writes_in ps) k v) same puts in
    (one_is s k (replicate b 0) v here, stale)
zeroes_put b d o p s zs (inr (none, same)) k v puts = absurd (subst (λ (ps : List Writes). Puts (writes_in ps) k v) same puts)

pub zeroes_few : (b : ℕ) (d : Sectors) (o : Option Layout) (p : Layout) (s : ℕ) (zs : List Writes) → Zeroes b d o p s zs
    → length (writes_in zs) ≤ 1
zeroes_few b d o p s zs (inl (stale, same)) = (let one = ap (λ (ps : List Writes). length (writes_in ps)) same in omega (arith, one))
zeroes_few b d o p s zs (inr (none, same)) = (let one = ap (λ (ps : List Writes). length (writes_in ps)) same in omega (arith, one))

-- ## The phases up to the turn.

-- the boot code stays
boot_stays : (under : List ℕ) → 446 ≤ length under → take 440 (empty_head under) ≡ take 440 under
unfolding put_at
boot_stays under long =
    let front = length-take-le 446 under long in
    take-append-le 440 (take 446 under) _ (omega (arith, front)) ∙ take_less under long
  where
    take_less : (u : List ℕ) → 446 ≤ length u → take 440 (take 446 u) ≡ take 440 u
    take_less u lt = sym (take-append-le 440 (take 446 u) (drop 446 u) (let n = length-take-le 446 u lt in omega (arith, n)))
        ∙ ap (take 440) (take-append-drop 446 u)

-- what is written over sector 0 stays, whatever stood there
module _ (ws : Writes) (d : Sectors) (e v : List ℕ) (some : 0 < length d) (apart : (s : ℕ) (x : List ℕ) → Puts ws s x → 0 < s) where
  abbrev over : Writes
  over = one_write 0 v

  abbrev under : Sectors
  under = written (one_write 0 e) d

  one : length under ≡ length d
  one = length-written (one_write 0 e) d

  upper : length (written ws under) ≡ length d
  upper = length-written ws under ∙ one

  lower : length (written ws d) ≡ length d
  lower = length-written ws d

  is_zero : (k : ℕ) → (k ≡ 0) ⊎ (0 < k)
  is_zero zero = inl refl
  is_zero (suc k) = inr (omega arith)

  by_sector : (k : ℕ) → (k ≡ 0) ⊎ (0 < k) → k < length d
      → sector (written over (written ws under)) k ≡ sector (written over (written ws d)) k
  by_sector k (inl is) lt =
      subst (λ (j : ℕ). sector (written over (written ws under)) j ≡ sector (written over (written ws d)) j) (sym is)
      (there_one (written ws under) 0 v (omega (arith, some, upper)) ∙ sym (there_one (written ws d) 0 v (omega (arith, some, lower))))
  by_sector k (inr high) lt =
      misses (written ws under) over k (λ x puts. (let at = one_is 0 k v x puts in omega (arith, at, high)))
      ∙ sector-written ws under k (omega (arith, lt, one))
      ∙ ap (value_after ws k) (misses d (one_write 0 e) k (λ x puts. (let at = one_is 0 k e x puts in omega (arith, at, high))))
      ∙ sym (sector-written ws d k lt)
      ∙ sym (misses (written ws d) over k (λ x puts. (let at = one_is 0 k v x puts in omega (arith, at, high))))

  pub over_head : written over (written ws under) ≡ written over (written ws d)
  over_head = same_sectors (written over (written ws under)) (written over (written ws d))
      (length-written over (written ws under) ∙ upper ∙ sym lower ∙ sym (length-written over (written ws d)))
      (λ k lt. by_sector k (is_zero k) (let n = length-written over (written ws d) in omega (arith, lt, n, lower)))

-- the turn: sector 0 alone, and before it what recovery of d doesn't read, if there is any
pub record Turning (b : ℕ) (d : Sectors) (p : Layout) (turning : List Writes) : Type 0 where
  pub long : 446 ≤ length (sector d 0)
  pub quiet : Writes
  pub head : List ℕ
  pub are : within_mbr_phases quiet (0, head) turning
  pub apart : (s : ℕ) (x : List ℕ) → Puts quiet s x → 0 < s
  pub few : length quiet ≤ 261
  pub good : (s : ℕ) (x : List ℕ) → Puts (quiet ++ one_write 0 head) s x → IsGood b d p s x
  pub sound : Sound b p
  pub ends : IsHealthy b (written (one_write 0 head) (written quiet d)) p

module _ (b : ℕ) (d : Sectors) (o : Option Layout) (p : Layout) (makes : MakesMbr b d o p) where
  no_table_body : (t : Table) → ¬ (p.body ≡ Gpt t)
  no_table_body t is = (let never : Mbr makes.records makes.chain ≡ Gpt t = sym makes.body ∙ is in absurd cc)

  emptied_is : sector (emptied d) 0 ≡ empty_head (sector d 0)
  emptied_is = there_one d 0 (empty_head (sector d 0)) makes.some

  long_of : IsMbrDisk (emptied d) → 446 ≤ length (sector d 0)
  long_of disk = long_head (sector d 0) (subst IsMbrSector emptied_is disk.1).formed.signature

  good_of : 446 ≤ length (sector d 0) → (s : ℕ) (x : List ℕ) → IsGood b (emptied d) p s x → IsGood b d p s x
  good_of long s x good =
      let count = length-written (one_write 0 (empty_head (sector d 0))) d in
      record {
        inside = omega (arith, good.inside, count);
        boot = λ zero_is. good.boot zero_is ∙ ap (take 440) emptied_is ∙ boot_stays (sector d 0) long;
        table = good.table;
      }

  -- of the MBR without partitions
  alone : (turning : List Writes) → IsHealthy b (emptied d) p → turning ≡ one_write 0 (empty_head (sector d 0)) ∷ []
      → Turning b d p turning
  alone turning well same =
      let mbr : BodyIs b (emptied d) (Mbr makes.records makes.chain) = subst (BodyIs b (emptied d)) makes.body well.denotes.1 in
      let long = long_of mbr.0.0 in
      record {
        long = long;
        quiet = [];
        head = empty_head (sector d 0);
        are = inl (refl, same);
        apart = λ s x puts. absurd puts;
        few = omega arith;
        good = λ s x puts. (let at : s ≡ 0 = one_is 0 s (empty_head (sector d 0)) x puts in record {
          inside = omega (arith, at, makes.some);
          boot = λ zero_is. ap (take 440) (sym (⊎_elim (λ put. put.1) (λ none. absurd none) puts)) ∙ boot_stays (sector d 0) long;
          table = inl (subst (λ (y : Body). IsBodyTable b p.sectors y s) (sym makes.body) (inl at));
        });
        sound = well.sound;
        ends = well;
      }

  -- of another one
  module _ (q : Option Layout) (records : List (Option Record)) (links : List Ebr) (turning : List Writes)
      (is : IsWithinMbr b (emptied d) q p records links turning) where
    disk : IsMbrDisk (emptied d)
    disk = (subst (BodyIs b (emptied d)) is.old_body (subst (Denotes b (emptied d)) is.is_old is.common.from).1).0.0

    loud_is : is.loud.0 ≡ 0
    loud_is = emptied_reads b d makes.some (long_of disk) is.loud.0 is.read

    reads_head : Reads b (emptied d) 0
    reads_head = body (head disk.0 refl)

    apart_from : (s : ℕ) (x : List ℕ) → Puts is.quiet s x → 0 < s
    apart_from zero x puts = absurd (is.unread 0 x puts reads_head)
    apart_from (suc s) x puts = omega arith

    within : Turning b d p turning
    within = record {
      long = long_of disk;
      quiet = is.quiet;
      head = is.loud.1;
      are = subst (λ (k : ℕ). within_mbr_phases is.quiet (k, is.loud.1) turning) loud_is is.is;
      apart = apart_from;
      few = is.few;
      good = λ s x puts. good_of (long_of disk) s x (good_all b (emptied d) q p records links turning is s x
          (subst (λ (k : ℕ). Puts (is.quiet ++ one_write k is.loud.1) s x) (sym loud_is) puts));
      sound = is.common.sound;
      ends = subst (λ (c : Sectors). IsHealthy b c p)
          (over_head is.quiet d (empty_head (sector d 0)) is.loud.1 makes.some apart_from)
          (subst (λ (k : ℕ). IsHealthy b (written (one_write k is.loud.1) (written is.quiet (emptied d))) p) loud_is
          (ends b (emptied d) q p records links turning is));
    }

  filled_turns : (turning : List Writes) → IsPlan b (emptied d) p turning → ¬ (turning ≡ []) → Turning b d p turning
  filled_turns turning (idle well none) some = absurd (some none)
  filled_turns turning (backup_first q t is) some = absurd (no_table_body t is.copies.body)
  filled_turns turning (primary_first q t is) some = absurd (no_table_body t is.copies.body)
  filled_turns turning (from_mbr q t is) some = absurd (no_table_body t is.copies.body)
  filled_turns turning (one_label q t is) some = absurd (no_table_body t is.body)
  filled_turns turning (within_mbr q records links is) some = within q records links turning is

  no_phases : (quiet : Writes) (loud : ℕ × List ℕ) → ¬ within_mbr_phases quiet loud []
  no_phases quiet loud (inl (none, is)) = absurd cc
  no_phases quiet loud (inr (some, is)) = absurd cc

  empty_turns : (turning : List Writes) → IsPlan b (emptied d) p [] → turning ≡ one_write 0 (empty_head (sector d 0)) ∷ []
      → Turning b d p turning
  empty_turns turning (idle well none) same = alone turning well same
  empty_turns turning (backup_first q t is) same = absurd (no_table_body t is.copies.body)
  empty_turns turning (primary_first q t is) same = absurd (no_table_body t is.copies.body)
  empty_turns turning (from_mbr q t is) same = absurd (no_table_body t is.copies.body)
  empty_turns turning (one_label q t is) same = absurd (no_table_body t is.body)
  empty_turns turning (within_mbr q records links is) same = absurd (no_phases is.quiet is.loud is.is)

  pub turning_is : (turning : List Writes) → IsTurning b d p turning → Turning b d p turning
  turning_is turning (filled plan some) = filled_turns turning plan some
  turning_is turning (empty plan same) = empty_turns turning plan same

-- ## The whole plan.

module _ (b : ℕ) (d : Sectors) (p : Layout) (phases : List Writes) (is : IsNewMbr b d p phases) where
  abbrev o : Option Layout
  o = is.old

  abbrev n : ℕ
  n = length d

  abbrev zs : List Writes
  zs = is.first ++ is.last

  turns : Turning b d p is.turning
  turns = turning_is b d o p is.makes is.turning is.turns

  abbrev loud : Writes
  loud = one_write 0 turns.head

  abbrev c : Sectors
  c = written loud (written turns.quiet d)

  out : Outside b p is.makes.records is.makes.chain is.makes.body zs
  out = outside_append b p is.makes.records is.makes.chain is.makes.body is.first is.last
      (zeroes_outside b p is.makes.records is.makes.chain is.makes.body d o 1 is.first is.is_first)
      (zeroes_outside b p is.makes.records is.makes.chain is.makes.body d o (n - 1) is.last is.is_last)

  differ : ¬ (o ≡ Some p)
  differ same = is.makes.other (record {
    old = p;
    records = is.makes.records;
    chain = is.makes.chain;
    is_old = same;
    body = is.makes.body;
  })

  well : IsHealthy b (after zs c) p
  well = outside_well b p is.makes.records is.makes.chain is.makes.body zs c out turns.ends

  stays : Stays (Denotes b) (Reads b) zs c (Some p)
  stays = outside_stays b p is.makes.records is.makes.chain is.makes.body zs c out turns.ends

  -- the writes of the turn
  one_write_in : (s : ℕ) (x : List ℕ) → is.turning ≡ loud ∷ [] → Puts (writes_in is.turning) s x → Puts (turns.quiet ++ loud) s x
  one_write_in s x same puts =
      puts_right turns.quiet loud s x (⊎_elim (λ at. at) (λ none. absurd none)
      (puts_split loud [] s x (subst (λ (ps : List Writes). Puts (writes_in ps) s x) same puts)))

  two_writes_in : (s : ℕ) (x : List ℕ) → is.turning ≡ turns.quiet ∷ loud ∷ [] → Puts (writes_in is.turning) s x
      → Puts (turns.quiet ++ loud) s x
  two_writes_in s x same puts = ⊎_elim
      (λ front. puts_left turns.quiet loud s x front)
      (λ rest. puts_right turns.quiet loud s x (⊎_elim (λ at. at) (λ none. absurd none) (puts_split loud [] s x rest)))
      (puts_split turns.quiet (loud ++ []) s x (subst (λ (ps : List Writes). Puts (writes_in ps) s x) same puts))

  turning_in : (s : ℕ) (x : List ℕ) → Puts (writes_in is.turning) s x → Puts (turns.quiet ++ loud) s x
  turning_in s x puts =
      ⊎_elim (λ one. one_write_in s x one.1 puts) (λ two. two_writes_in s x two.1 puts) turns.are

  turning_few : length (writes_in is.turning) ≤ 262
  turning_few = ⊎_elim
      (λ one. (let same = ap (λ (ps : List Writes). length (writes_in ps)) one.1 in omega (arith, same)))
      (λ two.
      let same = ap (λ (ps : List Writes). length (writes_in ps)) two.1 in
      let all = length-append turns.quiet (loud ++ []) in
      omega (arith, same, all, turns.few))
      turns.are

  -- the sectors that are zeroed
  room : (s : ℕ) → IsStale b d o p s → HasRoom b n
  room s stale =
      let denotes : Denotes b d (Some stale.old) = subst (Denotes b d) stale.is_old is.makes.from in
      let gpt : BodyIs b d (Gpt stale.table) = subst (BodyIs b d) stale.was denotes.1 in
      gpt.1

  was_table : (s : ℕ) → (s ≡ 1) ⊎ (s ≡ n - 1) → IsStale b d o p s → TableOf b o s
  was_table s at stale =
      let denotes : Denotes b d (Some stale.old) = subst (Denotes b d) stale.is_old is.makes.from in
      let some : HasRoom b n = room s stale in
      let of_gpt : IsGptTable b n s = ⊎_elim
      (λ one. inl (omega (arith, one)))
      (λ last. inr (omega (arith, last, some), omega (arith, last, some)))
      at in
      subst (λ (x : Option Layout). TableOf b x s) (sym stale.is_old)
      (inl (subst (λ (y : Body). IsBodyTable b stale.old.sectors y s) (sym stale.was)
      (subst (λ (m : ℕ). IsGptTable b m s) (sym denotes.0) of_gpt)))

  high : (s : ℕ) → (s ≡ 1) ⊎ (s ≡ n - 1) → IsStale b d o p s → 0 < s
  high s at stale =
      let some : HasRoom b n = room s stale in
      ⊎_elim (λ one. omega (arith, one)) (λ last. omega (arith, last, some)) at

  zero_at : (s : ℕ) (x : List ℕ) → Puts (writes_in zs) s x → ((s ≡ 1) ⊎ (s ≡ n - 1)) × IsStale b d o p s
  zero_at s x puts = ⊎_elim
      (λ one.
      let at = zeroes_put b d o p 1 is.first is.is_first s x one in
      (inl at.0, subst (IsStale b d o p) (sym at.0) at.1))
      (λ two.
      let at = zeroes_put b d o p (n - 1) is.last is.is_last s x two in
      (inr at.0, subst (IsStale b d o p) (sym at.0) at.1))
      (puts_split (writes_in is.first) (writes_in is.last) s x
      (subst (λ (ws : Writes). Puts ws s x) (writes_append is.first is.last) puts))

  -- what is asked of each write
  abbrev Fits : ℕ → List ℕ → Type 0
  Fits s x = (s < n) × (s ≡ 0 → take 440 x ≡ take 440 (sector d 0)) × (TableOf b o s ⊎ IsTable b p s) × (¬ OwnedOf b o s) × ¬ Owns b p s

  turning_fits : (s : ℕ) (x : List ℕ) → Puts (writes_in is.turning) s x → Fits s x
  turning_fits s x puts =
      let good : IsGood b d p s x = turns.good s x (turning_in s x puts) in (
        good.inside,
        good.boot,
        inr good.table,
        (λ owned. is.unowned (s, x, puts, owned)),
        (λ owns. sound_frees_tables_lem b p s turns.sound owns good.table),
      )

  zero_fits : (s : ℕ) (x : List ℕ) → Puts (writes_in zs) s x → Fits s x
  zero_fits s x puts =
      let at = zero_at s x puts in
      let up = high s at.0 at.1 in (
        at.1.within,
        (λ zero_is. absurd (omega (arith, up, zero_is))),
        inl (was_table s at.0 at.1),
        at.1.unowned,
        at.1.free,
      )

  fits : (s : ℕ) (x : List ℕ) → Puts (writes_in phases) s x → Fits s x
  fits s x puts = ⊎_elim (turning_fits s x) (zero_fits s x)
      (puts_split (writes_in is.turning) (writes_in zs) s x
      (subst (λ (ws : Writes). Puts ws s x) (writes_append is.turning zs)
      (subst (λ (ps : List Writes). Puts (writes_in ps) s x) is.is puts)))

  few : length (writes_in phases) ≤ most_writes
  few =
      let all = ap (λ (ps : List Writes). length (writes_in ps)) is.is in
      let one = count_append is.turning zs in
      let two = count_append is.first is.last in
      let first = zeroes_few b d o p 1 is.first is.is_first in
      let last = zeroes_few b d o p (n - 1) is.last is.is_last in
      omega (arith, all, one, two, first, last, turning_few)

  fit : IsFit d phases
  fit = record {
    few = few;
    inside = none_is (IsPastLast d) (writes_in phases) (λ s x puts outside. outside (fits s x puts).0);
    boot = none_is (ChangesBoot d) (writes_in phases) (λ s x puts changes. changes.1 ((fits s x puts).1 changes.0));
  }

  placed : NoneIs (InNoTable b o (Some p)) (writes_in phases)
  placed = none_is (InNoTable b o (Some p)) (writes_in phases) (λ s x puts stray. ⊎_elim stray.0 stray.1 (fits s x puts).2)

  unowned : NoneIs (InOwned b o (Some p)) (writes_in phases)
  unowned = none_is (InOwned b o (Some p)) (writes_in phases) (λ s x puts owned. ⊎_elim (fits s x puts).3 (fits s x puts).4 owned)

  -- what comes before sector 0 isn't read
  quiet_of : is.turning ≡ turns.quiet ∷ loud ∷ [] → LeavesReads b d turns.quiet
  quiet_of same s x puts reads = is.unread (
    s,
    x,
    subst (λ (ps : List Writes). Puts (before_last ps) s x) (sym same) (puts_left turns.quiet [] s x puts),
    reads,
  )

  quiet_unread : LeavesReads b d turns.quiet
  quiet_unread = ⊎_elim
      (λ one. λ s x puts reads. absurd (subst (λ (ws : Writes). Puts ws s x) one.0 puts))
      (λ two. quiet_of two.1)
      turns.are

  -- so a sector that recovery reads, other than that one, isn't written up to the turn
  pub read_stays : (s : ℕ) (x : List ℕ) → 0 < s → Reads b d s → ¬ Puts (writes_in is.turning) s x
  read_stays s x up reads puts = ⊎_elim
      (λ front. quiet_unread s x front reads)
      (λ last. (let at = one_is 0 s turns.head x last in omega (arith, at, up)))
      (puts_split turns.quiet loud s x (turning_in s x puts))

  -- and a table of p isn't zeroed
  pub tables_stay : (s : ℕ) → IsTable b p s → sector (after phases d) s ≡ sector (after is.turning d) s
  tables_stay s at =
      ap (λ (ps : List Writes). sector (after ps d) s) is.is
      ∙ ap (λ (x : Sectors). sector x s) (after-append is.turning zs d)
      ∙ outside_misses b p is.makes.records is.makes.chain is.makes.body zs (after is.turning d) s out at

  pub new_long : 446 ≤ length (sector d 0)
  new_long = turns.long

  pub new_sectors : p.sectors ≡ length d
  new_sectors = turns.ends.denotes.0 ∙ length-written loud (written turns.quiet d) ∙ length-written turns.quiet d

  -- the walk over the phases, where one is quiet or none
  abbrev Walks : List Writes → ℕ → Type 0
  Walks turning k = Turns (Denotes b) (Reads b) k (turning ++ zs) d o (Some p)

  one_walks : turns.quiet ≡ [] → Walks (loud ∷ []) 0
  one_walks none =
      let start : written turns.quiet d ≡ d = ap (λ (ws : Writes). written ws d) none in
      (is.makes.from, inl (omega arith), subst (λ (x : Sectors). Stays (Denotes b) (Reads b) zs (written loud x) (Some p)) start stays)

  two_walk : LeavesReads b d turns.quiet → Walks (turns.quiet ∷ loud ∷ []) 1
  two_walk unread =
      let old : Denotes b (written turns.quiet d) o =
      ((stop_keeps_lem b d (written turns.quiet d) turns.quiet unread (stopped_written turns.quiet d)).denotes o).1 is.makes.from in
      (is.makes.from, inr unread, (old, inl (omega arith), stays))

  walks : (k : ℕ) × (k + 1 ≡ length is.turning) × Walks is.turning k
  walks = ⊎_elim
      (λ one. (0, sym (ap length one.1), subst (λ (ps : List Writes). Walks ps 0) (sym one.1) (one_walks one.0)))
      (λ two. (1, sym (ap length two.1), subst (λ (ps : List Writes). Walks ps 1) (sym two.1) (two_walk quiet_unread)))
      turns.are

  walk : (k : ℕ) → Walks is.turning k → Turns (Denotes b) (Reads b) k phases d o (Some p)
  walk k there = subst (λ (ps : List Writes). Turns (Denotes b) (Reads b) k ps d o (Some p)) (sym is.is) there

  turned_is : after is.turning d ≡ c
  turned_is = ⊎_elim
      (λ one. ap (λ (ps : List Writes). after ps d) one.1
      ∙ ap (λ (x : Sectors). written loud x) (sym (ap (λ (ws : Writes). written ws d) one.0)))
      (λ two. ap (λ (ps : List Writes). after ps d) two.1)
      turns.are

  pub new_mbr_ends : IsHealthy b (after phases d) p
  new_mbr_ends = subst (λ (x : Sectors). IsHealthy b x p)
      (sym (ap (λ (ps : List Writes). after ps d) is.is ∙ after-append is.turning zs d ∙ ap (after zs) turned_is)) well

  -- it is accepted, and turns with sector 0
  lands_by : (k : ℕ) → k + 1 ≡ length is.turning → Walks is.turning k → Lands b d o p phases (length is.turning)
  lands_by k count there = subst (λ (j : ℕ). Lands b d o p phases j) count (record {
    switch = k + 1;
    told = inr (differ, refl);
    answers = accepted_lem b d phases o (Some p) (Some (k + 1)) fit (record { from = is.makes.from; to = new_mbr_ends.denotes })
        (turns_is_course (Denotes b) (Reads b) k phases d o (Some p) differ (walk k there)) placed unowned (p, new_mbr_ends);
    ends = new_mbr_ends;
  })

  pub new_mbr_lands : Lands b d o p phases (length is.turning)
  new_mbr_lands = by_walk walks
    where
      by_walk : (k : ℕ) × (k + 1 ≡ length is.turning) × Walks is.turning k → Lands b d o p phases (length is.turning)
      by_walk (k, count, there) = lands_by k count there

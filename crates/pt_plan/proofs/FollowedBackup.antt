-- What a reader of the primary copy alone finds on each disk on the way of a plan that keeps that copy and writes the backup first.
use Rattle.std.proofs.Common.{◌≡◌, inr, ⊎_elim, ℕ, ◌+◌, ◌-◌, List, length, refl, sym, subst, arith}
use Rattle.std.proofs.Common.{Option, Some}
use Rattle.pt_sector.specs.Sectors.{Sectors, sector, IsSectorSize, Writes, Puts}
use Rattle.pt_gpt.specs.Copies.{array_len, Copy, HasRoom, HeaderBytes}
use Rattle.pt_gpt.specs.declared.table.Side.TheVariants.{Primary, Backup}
use Rattle.pt_gpt.specs.declared.table.Table.{Table}
use Rattle.pt_gpt.specs.declared.header.Header.{Header}
use Rattle.pt_gpt.proofs.Terms.{header_is_one_lem}
use Rattle.pt_members.specs.declared.layout.Layout.{Layout}
use Rattle.pt_cases.specs.Cases.{IsBackupFirst}
use Rattle.pt_cases.specs.Kept.{KeepsBackupFirst, bridge_of}
use Rattle.pt_cases.specs.Writes.{array_phase, header_of}
use Rattle.pt_plan.proofs.BackupFirst as first
use Rattle.pt_plan.proofs.Following.{FollowReads, bridge_is_followed, copy_is_followed, finds_one, follow_stays, follow_within}
use Rattle.pt_plan.proofs.Following.{last_follows}
use Rattle.pt_plan.proofs.Shutting.{Shut}
use Rattle.pt_plan.proofs.Walks.{BackupFirstWalk, Goes, backup_first_goes}
use Rattle.pt_plan.specs.Readers.{Finds, FollowsPrimary}

module _ (b : ℕ) (d : Sectors) (o : Option Layout) (p : Layout) (t : Table) (full : List Writes) (size : IsSectorSize b)
    (is : IsBackupFirst b d o p t full) (phases : List Writes) (kept : KeepsBackupFirst b d o p t full is phases) (old : Table)
    (find : FollowsPrimary b d old) where
  abbrev n : ℕ
  n = length d

  shut : Shut b n kept.bridge
  shut = first.bridge_stays_shut b d o p t full size is phases kept

  abbrev p1 : Writes
  p1 = first.p1 b d o p t full size is kept.bridge shut

  abbrev array : Writes
  array = array_phase b n t Primary

  abbrev d1 : Sectors
  d1 = first.d1 b d o p t full size is kept.bridge shut

  abbrev d2 : Sectors
  d2 = first.d2 b d o p t full size is kept.bridge shut

  abbrev d3 : Sectors
  d3 = first.d3 b d o p t full size is kept.bridge shut

  abbrev d4 : Sectors
  d4 = first.d4 b d o p t full size is kept.bridge shut

  n2 : length d2 ≡ n
  n2 = first.n2 b d o p t full size is kept.bridge shut

  n3 : length d3 ≡ n
  n3 = first.n3 b d o p t full size is kept.bridge shut

  n4 : length d4 ≡ n
  n4 = first.n4 b d o p t full size is kept.bridge shut

  room : HasRoom b n
  room = is.copies.fits.room

  abbrev back : Header
  back = header_of b n t Backup

  abbrev bridge : Header
  bridge = bridge_of n back

  bytes : HeaderBytes b bridge kept.bridge
  bytes = subst (λ (h : Header). HeaderBytes b (bridge_of n h) kept.bridge)
      (header_is_one_lem b kept.is_bridge.header back is.copies.backup kept.is_bridge.is_backup is.copies.is_backup.header)
      kept.is_bridge.written.header

  bytes2 : HeaderBytes b bridge (sector d2 1)
  bytes2 = subst (HeaderBytes b bridge) (sym (first.there2 b d o p t full size is kept.bridge shut)) bytes

  bytes3 : HeaderBytes b bridge (sector d3 1)
  bytes3 = subst (HeaderBytes b bridge) (sym (first.there3 b d o p t full size is kept.bridge shut)) bytes

  -- the primary copy that stands there at first is low on the disk
  calm1 : (s : ℕ) (x : List ℕ) → Puts p1 s x → ¬ FollowReads b d s
  calm1 s x puts reads =
      let copy = is.has_primary.1 in
      let at : copy.head.array ≡ 2 = copy.stands.is_head.placed.place in
      let high = first.high_first b d o p t full size is kept.bridge shut s x puts in
      ⊎_elim (λ one. omega (arith, one, high.0)) (λ a. omega (arith, a.1, at, high.1))
      (follow_within b d copy.head s size copy.stands.is_head.bytes reads)

  -- and the backup's array is high
  calm3 : (s : ℕ) (x : List ℕ) → Puts array s x → ¬ FollowReads b d2 s
  calm3 s x puts reads =
      let low = first.low b d o p t full size is kept.bridge shut s x puts in
      let at : bridge.array ≡ n - (array_len b + 1) = refl in
      ⊎_elim (λ one. omega (arith, one, low.0)) (λ a. omega (arith, a.0, at, low.1, room))
      (follow_within b d2 bridge s size bytes2 reads)

  copy4 : Copy b d4 Primary t
  copy4 = record {
    room = subst (HasRoom b) (sym n4) room;
    head = header_of b n t Primary;
    stands = first.first4 b d o p t full size is kept.bridge shut;
  }

  walk : BackupFirstWalk d p1 array kept.bridge is.copies.primary is.last (array_len b + 2)
      (first.some b d o p t full size is kept.bridge shut) (first.low b d o p t full size is kept.bridge shut)
      (first.high_first b d o p t full size is kept.bridge shut) (Finds b) (FollowReads b) (Some old) (Some t) (finds_one b)
  walk = record {
    from = find;
    calm = inr calm1;
    old1 = follow_stays b d p1 (Some old) calm1 find;
    new2 = bridge_is_followed b n d2 back t size room n2 (first.second2 b d o p t full size is kept.bridge shut) bytes2;
    calm3 = inr calm3;
    new3 = bridge_is_followed b n d3 back t size room n3 (first.second3 b d o p t full size is kept.bridge shut) bytes3;
    rest = last_follows b n d4 (sector d 0) is.last t size copy4 is.protects;
  }

  pub backup_first_followed : Goes (Finds b) (FollowReads b) (length kept.front + 1) phases d (Some old) (Some t)
  backup_first_followed =
      subst (λ (ps : List Writes). Goes (Finds b) (FollowReads b) (length kept.front + 1) ps d (Some old) (Some t)) (sym kept.are)
      (backup_first_goes d p1 array kept.bridge is.copies.primary is.last (array_len b + 2)
      (first.some b d o p t full size is kept.bridge shut) (first.low b d o p t full size is kept.bridge shut)
      (first.high_first b d o p t full size is kept.bridge shut) (Finds b) (FollowReads b) (Some old) (Some t) (finds_one b) walk
      (copy_is_followed b d4 t copy4) kept.front kept.middle kept.is_front
      (first.bridge_is_new b d o p t full size is phases kept) kept.is_middle)

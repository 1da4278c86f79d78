-- What a reader of the primary copy alone finds on each disk on the way of a plan that keeps that copy and writes the primary first.
use Rattle.std.proofs.Common.{◌≡◌, ◌∙◌, inr, ⊎_elim, ℕ, ◌+◌, ◌-◌, List, length, sym, subst, arith}
use Rattle.std.proofs.Common.{Option, Some}
use Rattle.pt_sector.specs.Sectors.{Sectors, sector, IsSectorSize, Writes, Puts}
use Rattle.pt_gpt.specs.Copies.{array_len, Copy, HasRoom, HeaderBytes, header_place}
use Rattle.pt_gpt.specs.declared.table.Side.TheVariants.{Primary, Backup}
use Rattle.pt_gpt.specs.declared.table.Table.{Table}
use Rattle.pt_gpt.specs.declared.header.Header.{Header}
use Rattle.pt_gpt.proofs.Terms.{header_is_one_lem}
use Rattle.pt_recover.specs.Denotes.{Denotes}
use Rattle.pt_members.specs.declared.layout.Body.TheVariants.{Gpt}
use Rattle.pt_members.specs.declared.layout.Layout.{Layout}
use Rattle.pt_cases.specs.Cases.{IsPrimaryFirst}
use Rattle.pt_cases.specs.Kept.{IsBridge, IsOpening, KeepsPrimaryFirst, bridge_of}
use Rattle.pt_cases.specs.Writes.{backup_phase, header_of}
use Rattle.pt_plan.proofs.Following.{FollowReads, bridge_is_followed, copy_is_followed, finds_one, follow_stays, follow_within}
use Rattle.pt_plan.proofs.Following.{last_follows}
use Rattle.pt_plan.proofs.PrimaryFirst as second
use Rattle.pt_plan.proofs.Shutting.{Shut, backup_of, closed_backup}
use Rattle.pt_plan.proofs.Walks.{Goes, PrimaryFirstWalk, primary_first_goes}
use Rattle.pt_plan.specs.Readers.{Finds, FollowsPrimary}

module _ (b : ℕ) (d : Sectors) (o : Option Layout) (p : Layout) (t : Table) (full : List Writes) (size : IsSectorSize b)
    (is : IsPrimaryFirst b d o p t full) (phases : List Writes) (kept : KeepsPrimaryFirst b d o p t full is phases)
    (l : Layout) (same : o ≡ Some l) (old : Table) (body : l.body ≡ Gpt old) (find : FollowsPrimary b d old) where
  abbrev n : ℕ
  n = length d

  shut : Shut b n kept.opening
  shut = second.opening_stays_shut b d o p t full size is phases kept

  abbrev p2 : Writes
  p2 = second.p2 b d o p t full size is kept.opening shut

  abbrev backup_writes : Writes
  backup_writes = backup_phase b n t is.copies.backup

  abbrev d1 : Sectors
  d1 = second.d1 b d o p t full size is kept.opening shut

  abbrev d2 : Sectors
  d2 = second.d2 b d o p t full size is kept.opening shut

  abbrev d3 : Sectors
  d3 = second.d3 b d o p t full size is kept.opening shut

  abbrev d4 : Sectors
  d4 = second.d4 b d o p t full size is kept.opening shut

  n1 : length d1 ≡ n
  n1 = second.n1 b d o p t full size is kept.opening shut

  n3 : length d3 ≡ n
  n3 = second.n3 b d o p t full size is kept.opening shut

  n4 : length d4 ≡ n
  n4 = second.n4 b d o p t full size is kept.opening shut

  room : HasRoom b n
  room = is.copies.fits.room

  from : Denotes b d (Some l)
  from = subst (Denotes b d) same is.common.from

  -- the old table is the backup's
  copy : Copy b d Backup old
  copy =
      let it = backup_of b d l.body is.plain is.no_primary from.1 in
      let both : Gpt it.0 ≡ Gpt old = sym it.1 ∙ body in
      let one : it.0 ≡ old = cc in
      subst (Copy b d Backup) one it.2

  abbrev bridge : Header
  bridge = bridge_of n copy.head

  opens : IsBridge b n (sector d (header_place Backup n)) kept.opening
  opens = subst (λ (x : Option Layout). IsOpening b d x kept.opening) same kept.is_opening

  bytes1 : HeaderBytes b bridge (sector d1 1)
  bytes1 = subst (HeaderBytes b bridge) (sym (second.there1 b d o p t full size is kept.opening shut))
      (subst (λ (h : Header). HeaderBytes b (bridge_of n h) kept.opening)
      (header_is_one_lem b opens.header copy.head (sector d (header_place Backup n)) opens.is_backup copy.stands.is_head.bytes)
      opens.written.header)

  follows1 : FollowsPrimary b d1 old
  follows1 = bridge_is_followed b n d1 copy.head old size room n1
      (closed_backup b d kept.opening size is.plain room is.no_primary shut copy.head old copy.stands) bytes1

  calm2 : (s : ℕ) (x : List ℕ) → Puts p2 s x → ¬ FollowReads b d1 s
  calm2 s x puts reads =
      let at = second.mid b d o p t full size is kept.opening shut s x puts in
      let high : copy.head.array ≡ n - (array_len b + 1) = copy.stands.is_head.placed.place in
      ⊎_elim (λ one. omega (arith, one, at.0)) (λ a. omega (arith, a.0, high, at.1)) (follow_within b d1 bridge s size bytes1 reads)

  copy3 : Copy b d3 Primary t
  copy3 = record {
    room = subst (HasRoom b) (sym n3) room;
    head = header_of b n t Primary;
    stands = second.first3 b d o p t full size is kept.opening shut;
  }

  copy4 : Copy b d4 Primary t
  copy4 = record {
    room = subst (HasRoom b) (sym n4) room;
    head = header_of b n t Primary;
    stands = second.first4 b d o p t full size is kept.opening shut;
  }

  calm4 : (s : ℕ) (x : List ℕ) → Puts backup_writes s x → ¬ FollowReads b d3 s
  calm4 s x puts reads =
      let up = second.above_backup b d o p t full size is kept.opening shut s x puts in
      let at : copy3.head.array ≡ 2 = copy3.stands.is_head.placed.place in
      ⊎_elim (λ one. omega (arith, one, up, room)) (λ a. omega (arith, a.1, at, up, room))
      (follow_within b d3 copy3.head s size copy3.stands.is_head.bytes reads)

  walk : PrimaryFirstWalk d p2 backup_writes kept.opening is.copies.primary is.last (n - (array_len b + 1))
      (second.some b d o p t full size is kept.opening shut) (second.past b d o p t full size is kept.opening shut)
      (second.mid b d o p t full size is kept.opening shut) (second.above_backup b d o p t full size is kept.opening shut)
      (Finds b) (FollowReads b) (Some old) (Some t) (finds_one b)
  walk = record {
    from = find;
    old1 = follows1;
    calm2 = inr calm2;
    old2 = follow_stays b d1 p2 (Some old) calm2 follows1;
    new3 = copy_is_followed b d3 t copy3;
    calm4 = inr calm4;
    rest = last_follows b n d4 (sector d 0) is.last t size copy4 is.protects;
  }

  pub primary_first_followed : Goes (Finds b) (FollowReads b) (length kept.middle) phases d (Some old) (Some t)
  primary_first_followed =
      subst (λ (ps : List Writes). Goes (Finds b) (FollowReads b) (length kept.middle) ps d (Some old) (Some t)) (sym kept.are)
      (primary_first_goes d p2 backup_writes kept.opening is.copies.primary is.last (n - (array_len b + 1))
      (second.some b d o p t full size is kept.opening shut) (second.past b d o p t full size is kept.opening shut)
      (second.mid b d o p t full size is kept.opening shut) (second.above_backup b d o p t full size is kept.opening shut)
      (Finds b) (FollowReads b) (Some old) (Some t) (finds_one b) walk kept.middle kept.back kept.is_middle kept.is_back)

-- What may stand in sector 1 while the primary array is written: bytes that are no primary header of a table. Zeros are such, and so is the
-- header that leads to the backup's array.
use Rattle.std.proofs.Common.{◌≡◌, ◌∙◌, ◌⊎◌, inl, inr, ⊎_elim, ℕ, ◌+◌, ◌-◌, ◌<◌, ◌≤◌, List, length, replicate, refl, sym, ap, subst}
use Rattle.std.proofs.Common.{arith, Option, Some, None}
use Rattle.pt_sector.specs.Sectors.{Sectors, sector, Writes, Puts, written, IsSectorSize}
use Rattle.pt_sector.specs.inner.ForFields.{length-written}
use Rattle.pt_sector.proofs.Written.{agrees_written}
use Rattle.pt_gpt.specs.Copies.{array_len, Copy, CopyWith, HasCopy, HasPlace, HasRoom, HeaderBytes, IsHead, SameSide, SideReads}
use Rattle.pt_gpt.specs.declared.header.Header.{Header}
use Rattle.pt_gpt.specs.declared.table.Side.TheVariants.{Primary, Backup}
use Rattle.pt_gpt.specs.declared.table.Table.{Table}
use Rattle.pt_gpt.proofs.Terms.{header_is_one_lem, side_reads_decide_lem}
use Rattle.pt_recover.specs.Denotes.{BodyIs, Denotes, IsMbrDisk, LabelsAre, Reads}
use Rattle.pt_recover.proofs.One.{body_one}
use Rattle.pt_members.specs.Members.{places_of, IsPlace}
use Rattle.pt_members.specs.declared.layout.Body.{Body}
use Rattle.pt_members.specs.declared.layout.Body.TheVariants.{Gpt, Mbr}
use Rattle.pt_members.specs.declared.layout.Layout.{Layout}
use Rattle.pt_cases.specs.Kept.{IsBridge, IsOpening, bridge_of}
use Rattle.pt_cases.specs.Writes.{one_write}
use Rattle.pt_cases.proofs.Frames.{misses, there_one, one_is, not_mbr, labels_stand}
use Rattle.pt_cases.proofs.Within.{side_within, zeros_no_head, reads_gpt}

-- on no disk of n sectors are these bytes a primary header of a table
abbrev pub Shut : ℕ → ℕ → List ℕ → Type 0
Shut b n between = (c : Sectors) (h : Header) → length c ≡ n → sector c 1 ≡ between → ¬ IsHead b c Primary h

pub zeros_shut : (b n : ℕ) → IsSectorSize b → Shut b n (replicate b 0)
zeros_shut b n size c h count zeros = zeros_no_head b c h size zeros

pub shut_no_copy : (b n : ℕ) (c : Sectors) (between : List ℕ) → Shut b n between → length c ≡ n → sector c 1 ≡ between
    → ¬ HasCopy b c Primary
shut_no_copy b n c between shut count same (t, copy) = shut c copy.head count same copy.stands.is_head

-- the header that leads to the backup's array is none: that array isn't where a primary one stands
pub bridge_shut : (b n : ℕ) (backup bytes : List ℕ) (h : Header) → HasRoom b n → HeaderBytes b h backup → HasPlace b Backup n h
    → IsBridge b n backup bytes → Shut b n bytes
bridge_shut b n backup bytes h room is_h place bridge c k count same head =
    let own : bridge.header ≡ h = header_is_one_lem b bridge.header h backup bridge.is_backup is_h in
    let that : k ≡ bridge_of n bridge.header = header_is_one_lem b k (bridge_of n bridge.header) bytes
    (subst (HeaderBytes b k) same head.bytes) bridge.written.header in
    let two : k.array ≡ 2 = head.placed.place in
    let led : k.array ≡ bridge.header.array = ap (λ (x : Header). x.array) that in
    let back : bridge.header.array ≡ h.array = ap (λ (x : Header). x.array) own in
    let high : h.array ≡ n - (array_len b + 1) = place in
    omega (arith, two, led, back, high, room)

-- a table that a disk without a primary copy denotes is the backup's
pub backup_of : (b : ℕ) (d : Sectors) (y : Body) → ¬ IsMbrDisk d → ¬ HasCopy b d Primary → BodyIs b d y
    → (t : Table) × (y ≡ Gpt t) × Copy b d Backup t
backup_of b d (Mbr records chain) plain none is = absurd (plain is.0.0)
backup_of b d (Gpt t) plain none (isnt, room, inl copy) = absurd (none (t, copy))
backup_of b d (Gpt t) plain none (isnt, room, inr (no_copy, copy)) = (t, refl, copy)

-- what opens a plan that writes the primary copy first
pub opening_shut : (b : ℕ) (d : Sectors) (o : Option Layout) (bytes : List ℕ) → IsSectorSize b → ¬ IsMbrDisk d → ¬ HasCopy b d Primary
    → HasRoom b (length d) → Denotes b d o → IsOpening b d o bytes → Shut b (length d) bytes
opening_shut b d None bytes size plain none room from zeros = λ c h count same. zeros_no_head b c h size (same ∙ zeros)
opening_shut b d (Some l) bytes size plain none room from bridge =
    let it = backup_of b d l.body plain none from.1 in
    let head = it.2.stands.is_head in
    bridge_shut b (length d) _ bytes it.2.head room head.bytes head.placed.place bridge

-- where such bytes stand in sector 1, the primary array isn't read
pub shut_misses_low : (b : ℕ) (d : Sectors) (p : Layout) (ws : Writes) → IsSectorSize b → ¬ IsMbrDisk d → HasRoom b (length d)
    → ((h : Header) → ¬ IsHead b d Primary h) → Denotes b d (Some p)
    → ((s : ℕ) → IsPlace (places_of b (length d) p.body) s → array_len b + 2 ≤ s)
    → ((s : ℕ) (v : List ℕ) → Puts ws s v → (2 ≤ s) × (s < array_len b + 2))
    → (s : ℕ) (v : List ℕ) → Puts ws s v → ¬ Reads b d s
shut_misses_low b d p ws size isnt room no_head is places low s v puts reads = by_kind (reads_gpt b d s isnt reads)
  where
    at : (2 ≤ s) × (s < array_len b + 2)
    at = low s v puts

    by_kind : (s ≡ 0) ⊎
        (SideReads b d Primary s
        ⊎ (((¬ HasCopy b d Primary) × SideReads b d Backup s) ⊎ ((y : Body) × BodyIs b d y × IsPlace (places_of b (length d) y) s)))
        → ⊥
    by_kind (inl none) = omega (arith, none, at.0)
    by_kind (inr (inl (inl header))) = omega (arith, header, at.0)
    by_kind (inr (inl (inr (h, here, inside)))) = no_head h here
    by_kind (inr (inr (inl (no_copy, second)))) = ⊎_elim
        (λ header. omega (arith, header, at.1, room))
        (λ array. omega (arith, array.0, at.1, room))
        (side_within b d Backup s size second)
    by_kind (inr (inr (inr (y, y_is, place)))) =
        let one : y ≡ p.body = body_one b d y p.body y_is is.1 in
        let high = places s (subst (λ (z : Body). IsPlace (places_of b (length d) z) s) one place) in
        omega (arith, high, at.1)

-- ## Writing such bytes over a primary header that makes no copy changes nothing.

module _ (b : ℕ) (d : Sectors) (between : List ℕ) (size : IsSectorSize b) (isnt : ¬ IsMbrDisk d) (room : HasRoom b (length d))
    (no_first : ¬ HasCopy b d Primary) (shut : Shut b (length d) between) where
  abbrev closed : Sectors
  closed = written (one_write 1 between) d

  n_closed : length closed ≡ length d
  n_closed = length-written (one_write 1 between) d

  pub isnt_closed : ¬ IsMbrDisk closed
  isnt_closed = not_mbr d closed n_closed
      (misses d (one_write 1 between) 0 (λ x puts. (let at = one_is 1 0 between x puts in omega (arith, at)))) isnt

  pub there_closed : sector closed 1 ≡ between
  there_closed = there_one d 1 between (omega (arith, room))

  no_closed : ¬ HasCopy b closed Primary
  no_closed = shut_no_copy b (length d) closed between shut n_closed there_closed

  same_backup : SameSide b Backup closed d
  same_backup = side_reads_decide_lem b Backup closed d (agrees_written (SideReads b d Backup) d (one_write 1 between)
      (λ s x reads puts. (let at = one_is 1 s between x puts in
      ⊎_elim (λ h. omega (arith, h, at, room)) (λ a. omega (arith, a.0, at, room)) (side_within b d Backup s size reads))))

  body_there : (y : Body) → BodyIs b d y → BodyIs b closed y
  body_there (Mbr records list) is = absurd (isnt is.0.0)
  body_there (Gpt t) (plain, enough, inl copy) = absurd (no_first (t, copy))
  body_there (Gpt t) (plain, enough, inr (none, copy)) =
      (isnt_closed, omega (arith, enough, n_closed), inr (no_closed, (same_backup.copies t).1 copy))

  body_back : (y : Body) → BodyIs b closed y → BodyIs b d y
  body_back (Mbr records list) is = absurd (isnt_closed is.0.0)
  body_back (Gpt t) (plain, enough, inl copy) = absurd (no_closed (t, copy))
  body_back (Gpt t) (plain, enough, inr (none, copy)) = (isnt, room, inr (no_first, (same_backup.copies t).0 copy))

  pub closed_keeps : (o : Option Layout) → ((l : Layout) → o ≡ Some l → ¬ IsPlace (places_of b (length d) l.body) 1) → Denotes b d o
      → Denotes b closed o
  closed_keeps None guard is = λ y y_is. is y (body_back y y_is)
  closed_keeps (Some l) guard is = (
    is.0 ∙ sym n_closed,
    body_there l.body is.1,
    subst (λ (n : ℕ). LabelsAre closed (places_of b n l.body) l.labels) (sym n_closed)
        (labels_stand d closed (places_of b (length d) l.body) l.labels
        (λ s at. misses d (one_write 1 between) s
        (λ x puts. guard l refl (subst (λ (j : ℕ). IsPlace (places_of b (length d) l.body) j)
        (one_is 1 s between x puts) at))) is.2),
  )

  -- the backup copy stands as it did
  pub closed_backup : (h : Header) (t : Table) → CopyWith b d Backup h t → CopyWith b closed Backup h t
  closed_backup h t is = (same_backup.tables h t).1 is

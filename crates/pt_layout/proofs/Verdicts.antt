-- The first finding of a disk, step by step.
use Rattle.std.proofs.Common.{◌≡◌, ◌≢◌, ◌∙◌, ◌<◌, ℕ, length, Option, Some, None, refl, sym, subst, arith, inl, inr}
use Rattle.std.specs.Prelude.{IsTrue}
use Rattle.pt_sector.specs.Sectors.{Sectors, sector}
use Rattle.pt_gpt.specs.Copies.{CopyWith, IsCopyFault, HasRoom}
use Rattle.pt_gpt.proofs.Terms.{no_copy_lem}
use Rattle.pt_gpt.specs.declared.error.CopyError.{CopyError}
use Rattle.pt_gpt.specs.declared.table.Side.TheVariants.{Primary, Backup}
use Rattle.pt_gpt.specs.declared.table.Table.{Table}
use Rattle.pt_recover.specs.Denotes.{IsMbrDisk, IsMbr, LabelsAre, TableIs, BodyIs, Denotes, IsReason, RecordsAre}
use Rattle.pt_mbr.specs.declared.mbr.Mbr.{Mbr as Records}
use Rattle.pt_mbr.specs.Records.{IsProtective}
use Rattle.pt_gpt.specs.declared.header.Header.{Header}
use Rattle.pt_members.specs.Members.{places_of}
use Rattle.pt_recover.specs.declared.error.NoTable.TheVariants as no
use Rattle.pt_members.specs.declared.layout.Layout.{Layout}
use Rattle.pt_members.specs.declared.layout.Body.{Body}
use Rattle.pt_members.specs.declared.layout.Body.TheVariants.{Mbr, Gpt}
use Rattle.pt_path.specs.declared.path.Path.{Path}
use Rattle.pt_layout.specs.declared.sound.finding.Finding.{Finding}
use Rattle.pt_layout.specs.declared.sound.finding.Finding.TheVariants.{NoTable, PrimaryCopy, BackupCopy, CopiesDiffer, Alternate}
use Rattle.pt_layout.specs.declared.sound.finding.Finding.TheVariants.{Protective, OutsideUsable, Overlap, OnTable, SameGuid}
use Rattle.pt_layout.specs.declared.sound.finding.Finding.TheVariants.{ForeignLabel}
use Rattle.pt_layout.specs.Sound.{Sound, UnsoundIs}
use Rattle.pt_layout.specs.Healthy.{IsBodyWhole, IsHealthy, HasCopies, IsFinding, IsBodyBroken}
use Rattle.pt_layout.specs.inner.Surveys.{ForeignIs, TwinIs, HeadIs, BrokenIs, LayoutOf, PairIs}
use Rattle.pt_layout.specs.Surveys.{HeadOf}
use Rattle.pt_layout.specs.declared.health.Head.{Head}
use Rattle.pt_layout.specs.declared.health.Head.TheVariants as head
use Rattle.pt_layout.specs.declared.copies.Twin.{Twin}

pub unsound_finding : (b : ℕ) (d : Sectors) (o : Layout) (f : Finding) → Denotes b d (Some o) → IsBodyWhole b d o.body
    → UnsoundIs b o (Some f) → IsFinding b d f
unsound_finding b d o (OutsideUsable p) denotes whole is = (o, denotes, (whole, is))
unsound_finding b d o (Overlap p q) denotes whole is = (o, denotes, (whole, is))
unsound_finding b d o (OnTable p s) denotes whole is = (o, denotes, (whole, is))
unsound_finding b d o (SameGuid i j) denotes whole is = (o, denotes, (whole, is))
unsound_finding b d o (NoTable e) denotes whole is = absurd is
unsound_finding b d o (PrimaryCopy e) denotes whole is = absurd is
unsound_finding b d o (BackupCopy e) denotes whole is = absurd is
unsound_finding b d o CopiesDiffer denotes whole is = absurd is
unsound_finding b d o (Alternate side) denotes whole is = absurd is
unsound_finding b d o Protective denotes whole is = absurd is
unsound_finding b d o (ForeignLabel p) denotes whole is = absurd is

pub foreign_finding : (b : ℕ) (d : Sectors) (o : Layout) (p : Path) → Denotes b d (Some o) → IsBodyWhole b d o.body → Sound b o
    → ForeignIs b d o (Some p) → IsFinding b d (ForeignLabel p)
foreign_finding b d o p denotes whole sound is = (o, denotes, (whole, sound, is))

pub healthy : (b : ℕ) (d : Sectors) (o : Layout) → Denotes b d (Some o) → IsBodyWhole b d o.body → Sound b o → ForeignIs b d o None
    → IsHealthy b d o
healthy b d o denotes whole sound none = record { denotes = denotes; sound = sound; whole = whole; no_foreign = none }

-- a GPT with its labels is denoted
pub gpt_denotes : (b : ℕ) (d : Sectors) (t : Table) (o : Layout) → BodyIs b d (Gpt t) → LayoutOf b d t o → Denotes b d (Some o)
gpt_denotes b d t o is of = (
  of.0,
  subst (λ (y : Body). BodyIs b d y) (sym of.1) is,
  subst (λ (y : Body). LabelsAre d (places_of b (length d) y) o.labels) (sym of.1) of.2,
)

-- what breaks the copies is found
pub broken_finding : (b : ℕ) (d : Sectors) (o : Layout) (f : Finding) → Denotes b d (Some o) → IsBodyBroken b d o.body f → IsFinding b d f
broken_finding b d o f denotes broken = by_body o.body refl broken
  where
    by_body : (y : Body) → o.body ≡ y → IsBodyBroken b d y f → IsFinding b d f
    by_body (Mbr rs chain) same is = absurd is
    by_body (Gpt t) same is = by_finding f is
      where
        by_finding : (f : Finding) → IsBodyBroken b d (Gpt t) f → IsFinding b d f
        by_finding (PrimaryCopy e) is = (o, denotes, subst (λ (y : Body). IsBodyBroken b d y (PrimaryCopy e)) (sym same) is)
        by_finding (BackupCopy e) is = (o, denotes, subst (λ (y : Body). IsBodyBroken b d y (BackupCopy e)) (sym same) is)
        by_finding CopiesDiffer is = (o, denotes, subst (λ (y : Body). IsBodyBroken b d y CopiesDiffer) (sym same) is)
        by_finding (Alternate side) is = (o, denotes, subst (λ (y : Body). IsBodyBroken b d y (Alternate side)) (sym same) is)
        by_finding Protective is = (o, denotes, subst (λ (y : Body). IsBodyBroken b d y Protective) (sym same) is)
        by_finding (NoTable e) is = absurd is
        by_finding (OutsideUsable p) is = absurd is
        by_finding (Overlap p q) is = absurd is
        by_finding (OnTable p s) is = absurd is
        by_finding (SameGuid i j) is = absurd is
        by_finding (ForeignLabel p) is = absurd is

-- two copies
copies_of : (b : ℕ) (d : Sectors) (p : Header) (t : Table) (q : Twin) → CopyWith b d Primary p t → (y : TwinIs b d t q) → IsTrue q.same
    → HasCopies b d t p y.0
copies_of b d p t q x y same = record { first = x; second = subst (λ (u : Table). CopyWith b d Backup y.0 u) (y.2.2.0 same) y.2.1 }

protected : (d : Sectors) (h : Head) → HeadOf d h → h ≡ head.Protected → IsProtective (length d) (sector d 0)
protected d head.Mbr is e = absurd cc
protected d head.Protected is e = is.1
protected d head.Unprotected is e = absurd cc

unprotected : (d : Sectors) (h : Head) → ¬ IsMbrDisk d → 0 < length d → HeadOf d h → h ≢ head.Protected
    → ¬ IsProtective (length d) (sector d 0)
unprotected d head.Mbr plain some is e = absurd (plain is)
unprotected d head.Protected plain some is e = absurd (e refl)
unprotected d head.Unprotected plain some is e = is.1 some

pub pair_broken : (b : ℕ) (d : Sectors) (h : Head) (p : Header) (t : Table) (q : Twin) (f : Option Finding) → ¬ IsMbrDisk d → HeadOf d h
    → HasRoom b (length d) → CopyWith b d Primary p t → TwinIs b d t q
    → PairIs (length d) h p q f → BrokenIs b d (Gpt t) f
pair_broken b d h p t q None plain is room x y pair = record {
  primary = p;
  backup = y.0;
  copies = copies_of b d p t q x y pair.0;
  alternates = record { first = pair.1; second = sym y.1 ∙ pair.2 };
  protective = protected d h is pair.3;
}
pair_broken b d h p t q (Some CopiesDiffer) plain is room x y pair = (
  t,
  y.2.0,
  record { room = room; head = p; stands = x },
  record { room = room; head = y.0; stands = y.2.1 },
  λ same. pair (y.2.2.1 (sym same)),
)
pair_broken b d h p t q (Some (Alternate Primary)) plain is room x y pair = (p, y.0, copies_of b d p t q x y pair.0, pair.1)
pair_broken b d h p t q (Some (Alternate Backup)) plain is room x y pair =
    (p, y.0, copies_of b d p t q x y pair.0, (pair.1, λ other. pair.2 (y.1 ∙ other)))
pair_broken b d h p t q (Some Protective) plain is room x y pair = (
  p,
  y.0,
  copies_of b d p t q x y pair.0,
  record { first = pair.1; second = sym y.1 ∙ pair.2 },
  unprotected d h plain (omega (arith, room)) is pair.3,
)
pair_broken b d h p t q (Some (NoTable e)) plain is room x y pair = absurd pair
pair_broken b d h p t q (Some (PrimaryCopy e)) plain is room x y pair = absurd pair
pair_broken b d h p t q (Some (BackupCopy e)) plain is room x y pair = absurd pair
pair_broken b d h p t q (Some (OutsideUsable s)) plain is room x y pair = absurd pair
pair_broken b d h p t q (Some (Overlap s u)) plain is room x y pair = absurd pair
pair_broken b d h p t q (Some (OnTable s u)) plain is room x y pair = absurd pair
pair_broken b d h p t q (Some (SameGuid i j)) plain is room x y pair = absurd pair
pair_broken b d h p t q (Some (ForeignLabel s)) plain is room x y pair = absurd pair

-- no copy, or no room
no_tables : (b : ℕ) (d : Sectors) → (¬ IsMbrDisk d) → ((t : Table) → HasRoom b (length d) → ¬ TableIs b d t) → Denotes b d None
no_tables b d plain none (Mbr rs chain) is = plain is.0.0
no_tables b d plain none (Gpt t) is = none t is.1 is.2

pub neither_reason : (b : ℕ) (d : Sectors) (e f : CopyError) → ¬ IsMbrDisk d → HasRoom b (length d) → IsCopyFault b d Primary e
    → IsCopyFault b d Backup f → Denotes b d None × IsReason b d (no.NoCopy e f)
neither_reason b d e f plain room x y = (
  no_tables b d plain (λ t big table. elim table as (λ _. ⊥) [
    | inl copy ↦ no_copy_lem b d Primary e x (t, copy)
    | inr copy ↦ no_copy_lem b d Backup f y (t, copy.1)
  ]),
  (plain, room, x, y),
)

pub small_reason : (b : ℕ) (d : Sectors) → ¬ IsMbrDisk d → ¬ HasRoom b (length d) → Denotes b d None × IsReason b d no.TooSmall
small_reason b d plain small = (no_tables b d plain (λ t big table. small big), (plain, small))

pub mbr_whole : (b : ℕ) (d : Sectors) (o : Layout) → IsMbrDisk d → Denotes b d (Some o) → IsBodyWhole b d o.body
mbr_whole b d o mbr denotes = by_body o.body denotes.1 where
  by_body : (y : Body) → BodyIs b d y → IsBodyWhole b d y
  by_body (Mbr rs chain) is = tt
  by_body (Gpt t) is = absurd (is.0 mbr)

-- what sector 0 says
pub head_is : (d : Sectors) (n : ℕ) (h : Head) → HeadIs n (sector d 0) h → n ≡ length d → 0 < n → HeadOf d h
head_is d n head.Mbr is count some = (subst (λ (m : ℕ). 0 < m) count some, is)
head_is d n head.Protected is count some = (λ disk. is.0 disk.1, subst (λ (m : ℕ). IsProtective m (sector d 0)) count is.1)
head_is d n head.Unprotected is count some =
    (λ disk. is.0 disk.1, λ any protective. is.1 (subst (λ (m : ℕ). IsProtective m (sector d 0)) (sym count) protective))

-- what sector 0 says of its records
pub records_mbr : (d : Sectors) (n : ℕ) (o : Option Records) (m : Records) → RecordsAre (sector d 0) o → o ≡ Some m → n ≡ length d → 0 < n
    → IsMbr d m.records
records_mbr d n None m are is count some = absurd (let e : None ≡ Some m = is in cc)
records_mbr d n (Some r) m are is count some =
    let same : r ≡ m = cc in
    subst (λ (x : Records). IsMbr d x.records) same ((subst (λ (k : ℕ). 0 < k) count some, are.0), are.1)

pub records_plain : (d : Sectors) (o : Option Records) → RecordsAre (sector d 0) o → o ≡ None → ¬ IsMbrDisk d
records_plain d None are is disk = are disk.1
records_plain d (Some r) are is disk = absurd (let e : Some r ≡ None = is in cc)

pub empty_head : (d : Sectors) → length d ≡ 0 → HeadOf d head.Unprotected
empty_head d none = (λ disk. omega (arith, disk.0, none), λ some. absurd (omega (arith, some, none)))

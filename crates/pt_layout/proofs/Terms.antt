-- Laws of layouts and disks, as terms that definitions and proofs above can cite.
use Rattle.std.specs.Prelude.{◌≡◌, ◌∷◌, ℕ, List, All, Contains, length, Some, None}
use Rattle.std.proofs.Common.{sym, ap, subst, ◌∙◌}
use Rattle.std.proofs.lemmas.List.Elements.{Contains-append_right, Contains-get_or}
use Rattle.pt_sector.specs.Sectors.{Sectors}
use Rattle.pt_gpt.specs.Copies.{CopyWith, Copy, HasRoom}
use Rattle.pt_gpt.proofs.Terms.{no_copy_lem, copy_is_one_lem, head_is_one_lem}
use Rattle.pt_gpt.specs.declared.header.Header.{Header}
use Rattle.pt_gpt.specs.declared.table.Table.{Table}
use Rattle.pt_gpt.specs.declared.table.Side.{Side}
use Rattle.pt_gpt.specs.declared.table.Side.TheVariants.{Primary, Backup}
use Rattle.pt_recover.specs.Denotes.{BodyIs, Denotes}
use Rattle.pt_recover.proofs.Terms.{denotes_one_lem}
use Rattle.pt_members.specs.declared.layout.Layout.{Layout}
use Rattle.pt_members.specs.declared.layout.Body.{Body}
use Rattle.pt_members.specs.declared.layout.Body.TheVariants.{Mbr, Gpt}
use Rattle.pt_path.specs.declared.path.Path.{Path}
use Rattle.pt_members.proofs.Grouped.{contains_head}
use Rattle.pt_members.specs.declared.member.Kind.TheVariants.{Leaf, Slice, Extended}
use Rattle.pt_layout.specs.declared.sound.finding.Finding.{Finding}
use Rattle.pt_layout.specs.declared.sound.finding.Finding.TheVariants.{NoTable, PrimaryCopy, BackupCopy, CopiesDiffer, Alternate}
use Rattle.pt_layout.specs.declared.sound.finding.Finding.TheVariants.{Protective, OutsideUsable, Overlap, OnTable, SameGuid}
use Rattle.pt_layout.specs.declared.sound.finding.Finding.TheVariants.{ForeignLabel}
use Rattle.pt_members.specs.Members.{Group, groups_of}
use Rattle.pt_layout.specs.inner.Sound.{IsOrdered}
use Rattle.pt_layout.proofs.Apart.{not_apart}
use Rattle.pt_members.specs.Tables.{IsTable, HasFour, IsPlaceOf, Owns}
use Rattle.pt_layout.proofs.OneHome.{place_one}
use Rattle.pt_members.proofs.InOrder.{sector_one}
use Rattle.pt_layout.specs.Sound.{AllInside, Sound, IsFirstShared, IsUnsound}
use Rattle.pt_layout.specs.Healthy.{IsWhole, IsBodyWhole, IsHealthy, Healthy, IsBodyBroken, IsLayoutFinding, IsFinding}

-- in a sound layout no partition owns a sector of a table
pub sound_frees_tables_lem : (b : ℕ) (o : Layout) (s : ℕ) → Sound b o → Owns b o s → ¬ IsTable b o s
sound_frees_tables_lem b o s sound owns table = sound.off_tables owns.leaf s (record {
  is_member = owns.is_member;
  kind = λ e. (let both : Leaf ≡ Extended = sym owns.is_leaf ∙ e in absurd cc);
  holds = owns.holds;
  table = table;
  foreign = λ own. (let both : Leaf ≡ Slice = sym owns.is_leaf ∙ own.0 in absurd cc);
})

shared_not_apart : (b : ℕ) (o : Layout) (p q : Path) → AllInside b o → IsFirstShared b o p q → Sound b o → ⊥
shared_not_apart b o p q inside shared sound =
    let stands : Contains (groups_of b o) shared.group =
    subst (λ (l : List Group). Contains l shared.group) (sym shared.stands)
    (Contains-append_right shared.before (shared.group ∷ shared.rest) shared.group (contains_head shared.group shared.rest)) in
    let ordered : All IsOrdered shared.group.members =
    λ i d lt. (inside shared.group _ (record { stands = stands; sibling = Contains-get_or shared.group.members i d lt })).exists.0 in
    not_apart shared.group.members (record { before = p; it = q }) ordered shared.here (sound.apart shared.group stands)

-- a finding excludes soundness
pub unsound_excludes_lem : (b : ℕ) (o : Layout) (f : Finding) → IsUnsound b o f → ¬ Sound b o
unsound_excludes_lem b o (OutsideUsable p) is sound = is.here.outside (sound.inside is.here.group is.here.member is.here.is_of)
unsound_excludes_lem b o (Overlap p q) is sound = shared_not_apart b o p q is.0 is.1 sound
unsound_excludes_lem b o (OnTable p s) is sound = sound.off_tables is.2.member s.0 is.2.here
unsound_excludes_lem b o (SameGuid i j) is sound = sound.distinct i j is.3.here
unsound_excludes_lem b o (NoTable e) is sound = is
unsound_excludes_lem b o (PrimaryCopy e) is sound = is
unsound_excludes_lem b o (BackupCopy e) is sound = is
unsound_excludes_lem b o CopiesDiffer is sound = is
unsound_excludes_lem b o (Alternate side) is sound = is
unsound_excludes_lem b o Protective is sound = is
unsound_excludes_lem b o (ForeignLabel p) is sound = is

-- a disk is healthy with one layout at most
pub healthy_is_one_lem : (b : ℕ) (d : Sectors) (o p : Layout) → IsHealthy b d o → IsHealthy b d p → o ≡ p
healthy_is_one_lem b d o p x y = let same = denotes_one_lem b d (Some o) (Some p) x.denotes y.denotes in cc

copy_of : (b : ℕ) (d : Sectors) (side : Side) (h : Header) (t : Table) → HasRoom b (length d) → CopyWith b d side h t → Copy b d side t
copy_of b d side h t room is = record { room = room; head = h; stands = is }

-- what breaks a GPT keeps it from being whole
broken_not_whole : (b : ℕ) (d : Sectors) (t : Table) (f : Finding) → HasRoom b (length d) → IsBodyBroken b d (Gpt t) f → IsWhole b d t → ⊥
broken_not_whole b d t (PrimaryCopy e) room is whole =
    no_copy_lem b d Primary e is (t, copy_of b d Primary whole.primary t room whole.copies.first)
broken_not_whole b d t (BackupCopy e) room is whole =
    no_copy_lem b d Backup e is.1 (t, copy_of b d Backup whole.backup t room whole.copies.second)
broken_not_whole b d t CopiesDiffer room (p, q, first, second, differ) whole =
    let before = copy_is_one_lem b d Primary p t first (copy_of b d Primary whole.primary t room whole.copies.first) in
    let behind = copy_is_one_lem b d Backup q t second (copy_of b d Backup whole.backup t room whole.copies.second) in
    differ (before ∙ sym behind)
broken_not_whole b d t (Alternate Primary) room (h, k, copies, other) whole =
    let same = head_is_one_lem b d Primary h whole.primary copies.first.is_head whole.copies.first.is_head in
    other (ap (λ (h : Header). h.alternate) same ∙ whole.alternates.first)
broken_not_whole b d t (Alternate Backup) room (h, k, copies, other) whole =
    let same = head_is_one_lem b d Backup k whole.backup copies.second.is_head whole.copies.second.is_head in
    other.1 (ap (λ (h : Header). h.alternate) same ∙ whole.alternates.second)
broken_not_whole b d t Protective room (h, k, copies, alternates, bare) whole = bare whole.protective
broken_not_whole b d t (NoTable e) room is whole = is
broken_not_whole b d t (OutsideUsable p) room is whole = is
broken_not_whole b d t (Overlap p q) room is whole = is
broken_not_whole b d t (OnTable p s) room is whole = is
broken_not_whole b d t (SameGuid i j) room is whole = is
broken_not_whole b d t (ForeignLabel p) room is whole = is

pub body_not_whole : (b : ℕ) (d : Sectors) (o : Layout) (f : Finding) → Denotes b d (Some o) → IsBodyBroken b d o.body f
    → IsBodyWhole b d o.body → ⊥
body_not_whole b d o f denotes = by_body o.body denotes.1 where
  by_body : (y : Body) → BodyIs b d y → IsBodyBroken b d y f → IsBodyWhole b d y → ⊥
  by_body (Mbr rs chain) is broken whole = broken
  by_body (Gpt t) is broken whole = broken_not_whole b d t f is.1 broken whole

layout_excludes : (b : ℕ) (d : Sectors) (o : Layout) (f : Finding) → IsLayoutFinding b d o f → IsHealthy b d o → ⊥
layout_excludes b d o (NoTable e) is healthy = is
layout_excludes b d o (PrimaryCopy e) is healthy = body_not_whole b d o (PrimaryCopy e) healthy.denotes is healthy.whole
layout_excludes b d o (BackupCopy e) is healthy = body_not_whole b d o (BackupCopy e) healthy.denotes is healthy.whole
layout_excludes b d o CopiesDiffer is healthy = body_not_whole b d o CopiesDiffer healthy.denotes is healthy.whole
layout_excludes b d o (Alternate side) is healthy = body_not_whole b d o (Alternate side) healthy.denotes is healthy.whole
layout_excludes b d o Protective is healthy = body_not_whole b d o Protective healthy.denotes is healthy.whole
layout_excludes b d o (ForeignLabel p) is healthy = healthy.no_foreign p.number is.2.here
layout_excludes b d o (OutsideUsable p) is healthy = unsound_excludes_lem b o (OutsideUsable p) is.1 healthy.sound
layout_excludes b d o (Overlap p q) is healthy = unsound_excludes_lem b o (Overlap p q) is.1 healthy.sound
layout_excludes b d o (OnTable p s) is healthy = unsound_excludes_lem b o (OnTable p s) is.1 healthy.sound
layout_excludes b d o (SameGuid i j) is healthy = unsound_excludes_lem b o (SameGuid i j) is.1 healthy.sound

same_layout : (b : ℕ) (d : Sectors) (o p : Layout) → Denotes b d (Some o) → IsHealthy b d p → IsHealthy b d o
same_layout b d o p denotes healthy =
    let same : Some p ≡ Some o = denotes_one_lem b d (Some p) (Some o) healthy.denotes denotes in
    let layouts : p ≡ o = cc in
    subst (λ (x : Layout). IsHealthy b d x) layouts healthy

some_excludes : (b : ℕ) (d : Sectors) (f : Finding) → (o : Layout) × Denotes b d (Some o) × IsLayoutFinding b d o f → Healthy b d → ⊥
some_excludes b d f is healthy = layout_excludes b d is.0 f is.2 (same_layout b d is.0 healthy.0 is.1 healthy.1)

-- a finding excludes health
pub finding_excludes_lem : (b : ℕ) (d : Sectors) (f : Finding) → IsFinding b d f → ¬ Healthy b d
finding_excludes_lem b d (NoTable e) is healthy =
    let same : None ≡ Some healthy.0 = denotes_one_lem b d None (Some healthy.0) is.0 healthy.1.denotes in absurd cc
finding_excludes_lem b d (PrimaryCopy e) is healthy = some_excludes b d (PrimaryCopy e) is healthy
finding_excludes_lem b d (BackupCopy e) is healthy = some_excludes b d (BackupCopy e) is healthy
finding_excludes_lem b d CopiesDiffer is healthy = some_excludes b d CopiesDiffer is healthy
finding_excludes_lem b d (Alternate side) is healthy = some_excludes b d (Alternate side) is healthy
finding_excludes_lem b d Protective is healthy = some_excludes b d Protective is healthy
finding_excludes_lem b d (OutsideUsable p) is healthy = some_excludes b d (OutsideUsable p) is healthy
finding_excludes_lem b d (Overlap p q) is healthy = some_excludes b d (Overlap p q) is healthy
finding_excludes_lem b d (OnTable p s) is healthy = some_excludes b d (OnTable p s) is healthy
finding_excludes_lem b d (SameGuid i j) is healthy = some_excludes b d (SameGuid i j) is healthy
finding_excludes_lem b d (ForeignLabel p) is healthy = some_excludes b d (ForeignLabel p) is healthy

-- in a sound layout a sector is one partition's, at one place in it
pub place_is_one_lem : (b : ℕ) (o : Layout) (p q : Path) (j k s : ℕ) → Sound b o → IsPlaceOf b o p j s → IsPlaceOf b o q k s
    → (p ≡ q) × (j ≡ k)
place_is_one_lem = place_one

-- sector k of the partition of a path is one sector
pub sector_is_one_lem : (b : ℕ) (o : Layout) (p : Path) (k s t : ℕ) → HasFour o.body → IsPlaceOf b o p k s → IsPlaceOf b o p k t → s ≡ t
sector_is_one_lem = sector_one

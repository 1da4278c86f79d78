-- What one side's copy gives alone.
use Rattle.std.proofs.Common.{◌≡◌, ◌∙◌, ℕ, List, length, Some, refl, sym, ap, subst, inl, inr}
use Rattle.std.specs.Prelude.{◌⊎◌}
use Rattle.pt_sector.specs.Overlays.{FailedIn as FailedAt, fault_of}
use Rattle.pt_sector.specs.Sectors.{Sectors}
use Rattle.pt_sector.specs.declared.reading.Failure.{Failure}
use Rattle.pt_sector.specs.declared.reading.Failure.TheVariants as failure
use Rattle.pt_gpt.specs.Copies.{Copy as CopyOf, FailedInCopy, SideReads, HasRoom, TellsFault, fault_in as fault_in_copy}
use Rattle.pt_gpt.specs.declared.error.CopyError.{CopyError}
use Rattle.pt_gpt.specs.declared.error.CopyError.TheVariants as copy
use Rattle.pt_gpt.specs.declared.table.Side.{Side}
use Rattle.pt_gpt.specs.declared.table.Side.TheVariants.{Primary, Backup}
use Rattle.pt_gpt.specs.declared.table.Table.{Table}
use Rattle.pt_gpt.proofs.Terms.{copy_is_one_lem}
use Rattle.pt_members.specs.Members.{places_of, IsPlace}
use Rattle.pt_members.specs.declared.layout.Body.{Body}
use Rattle.pt_members.specs.declared.layout.Body.TheVariants.{Gpt}
use Rattle.pt_members.specs.declared.layout.Labelled.{Labelled}
use Rattle.pt_members.specs.declared.layout.Layout.{Layout}
use Rattle.pt_members.specs.declared.layout.Slice.{Slice}
use Rattle.pt_recover.specs.Denotes.{Denotes, BodyIs, LabelsAre, TableIs}
use Rattle.pt_recover.specs.FromSides.{FailedInSide, FromSideReads, of_copy, of_label, SideGives, SideGivesNone, side_fault_in}
use Rattle.pt_recover.specs.FromSides.{told_copy, told_side_failure}
use Rattle.pt_recover.proofs.One.{labels_one}

-- one layout at most
pub side_gives_one : (b : ℕ) (d : Sectors) (side : Side) (o p : Layout) → SideGives b d side o → SideGives b d side p → o ≡ p
side_gives_one b d side o p x y =
    let table = copy_is_one_lem b d side x.table y.table x.copy y.copy in
    let count = x.count ∙ sym y.count in
    let body = x.body ∙ ap (λ (t : Table). Gpt t) table ∙ sym y.body in
    let labels =
    labels_one d (places_of b (length d) p.body) o.labels p.labels
    (subst (λ (z : Body). LabelsAre d (places_of b (length d) z) o.labels) body x.labels) y.labels in
    λ i. record { sectors = count i; body = body i; labels = labels i }

by_table : (b : ℕ) (d : Sectors) (o : Layout) (t : Table) → o.sectors ≡ length d → o.body ≡ Gpt t
    → LabelsAre d (places_of b (length d) o.body) o.labels → TableIs b d t → SideGives b d Primary o ⊎ SideGives b d Backup o
by_table b d o t count body labels (inl primary) = inl (record { count = count; table = t; body = body; copy = primary; labels = labels })
by_table b d o t count body labels (inr backup) =
    inr (record { count = count; table = t; body = body; copy = backup.1; labels = labels })

-- what a disk with a GPT denotes
pub a_side_gives : (b : ℕ) (d : Sectors) (o : Layout) (t : Table) → Denotes b d (Some o) → o.body ≡ Gpt t
    → SideGives b d Primary o ⊎ SideGives b d Backup o
a_side_gives b d o t denotes body =
    by_table b d o t denotes.0 body denotes.2 (subst (BodyIs b d) body denotes.1).2

-- what is told of a copy's error
pub copy_fault_told : (e : CopyError) → fault_in_copy e ≡ side_fault_in (told_copy e)
copy_fault_told (copy.Device at) = refl
copy_fault_told copy.Memory = refl
copy_fault_told _ = refl

pub copy_failed : (b : ℕ) (d : Sectors) (side : Side) (e : CopyError) → HasRoom b (length d) → FailedInCopy (SideReads b d side) e
    → FailedInSide (FromSideReads b d side) (told_copy e)
copy_failed b d side (copy.Device at) room is = of_copy room is
copy_failed b d side copy.Memory room is = tt
copy_failed b d side _ room is = tt

pub copy_gives_none : (b : ℕ) (d : Sectors) (side : Side) (e : CopyError) → HasRoom b (length d) → TellsFault b d side e
    → SideGivesNone b d side (told_copy e)
copy_gives_none b d side (copy.Device at) room is = tt
copy_gives_none b d side copy.Memory room is = tt
copy_gives_none b d side e room (inr fault) = (room, fault)
copy_gives_none b d side _ room (inl outside) = absurd outside

-- and of a failure where labels are read
pub label_fault_told : (f : Failure) → fault_of f ≡ side_fault_in (told_side_failure f)
label_fault_told (failure.Device at) = refl
label_fault_told failure.Memory = refl

pub label_gives_none : (b : ℕ) (d : Sectors) (side : Side) (f : Failure) → SideGivesNone b d side (told_side_failure f)
label_gives_none b d side (failure.Device at) = tt
label_gives_none b d side failure.Memory = tt

pub label_failed_there : (b n : ℕ) (d : Sectors) (side : Side) (t : Table) (ps : List Slice) (f : Failure) → CopyOf b d side t
    → ps ≡ places_of b n (Gpt t) → n ≡ length d → FailedAt (IsPlace ps) f → FailedInSide (FromSideReads b d side) (told_side_failure f)
label_failed_there b n d side t ps (failure.Device at) is are count failed =
    of_label t is (subst (λ (m : ℕ). IsPlace (places_of b m (Gpt t)) at.0) count
    (subst (λ (l : List Slice). IsPlace l at.0) are failed))
label_failed_there b n d side t ps failure.Memory is are count failed = tt

pub gives_layout : (b n : ℕ) (d : Sectors) (side : Side) (t : Table) (ps : List Slice) (ls : List Labelled) → CopyOf b d side t
    → ps ≡ places_of b n (Gpt t) → n ≡ length d → LabelsAre d ps ls
    → SideGives b d side (record { sectors = n; body = Gpt t; labels = ls })
gives_layout b n d side t ps ls is are count labels = record {
  count = count;
  table = t;
  body = refl;
  copy = is;
  labels = subst (λ (l : List Slice). LabelsAre d l ls) (are ∙ ap (λ (k : ℕ). places_of b k (Gpt t)) count) labels;
}

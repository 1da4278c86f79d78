-- What words make of a disk's layout fits the disk: its body may be there, and each label has its place and can be read.
use Rattle.std.proofs.Common.{◌≡◌, ℕ, length, Option, Some, None, refl, sym, subst}
use Rattle.pt_sector.specs.Sectors.{Sectors, IsSectorSize}
use Rattle.pt_recover.specs.Denotes.{Denotes}
use Rattle.pt_mbr.specs.Records.{extended_of}
use Rattle.pt_members.specs.declared.layout.Body.{Body}
use Rattle.pt_members.specs.declared.layout.Body.TheVariants.{Mbr, Gpt}
use Rattle.pt_members.specs.declared.layout.Layout.{Layout}
use Rattle.pt_layout.specs.Sound.{Sound}
use Rattle.pt_cases.proofs.Along.{labels_fit_lem, label_fits_lem}
use Rattle.pt_cases.specs.Keeps.{Keeps, IsMbrBody}
use Rattle.pt_cases.specs.Keeps as keep
use Rattle.pt_cases.specs.Writes.{FitsBody, IsLoneChain}
use Rattle.pt_cases.specs.Cases.{MayBePlanned, MayHave, HadMbr}
use Rattle.pt_cases.proofs.Links.{chain_is_linked_lem}
use Rattle.pt_cases.specs.Unplanned.{LabelsFit, HasUnreadable}

-- an old MBR layout has its records and its chain
was_of : (old : Layout) (y : Body) → old.body ≡ y → IsMbrBody y → HadMbr (Some old)
was_of old (Mbr records chain) same is = record { old = old; records = records; chain = chain; is_old = refl; body = same }
was_of old (Gpt t) same is = absurd is

was_mbr : (o : Option Layout) → keep.WasMbr o → HadMbr o
was_mbr None is = absurd is
was_mbr (Some old) is = was_of old old.body refl is

may_have : (b : ℕ) (d : Sectors) (o : Option Layout) (p : Layout) (y : Body) → p.body ≡ y → Keeps b (length d) o p → Sound b p
    → MayHave b d o y
may_have b d o p (Gpt t) is keeps sound =
    let fits : FitsBody b p.sectors (Gpt t) = subst (λ (y : Body). FitsBody b p.sectors y) is keeps.shaped.body in
    subst (λ (n : ℕ). FitsBody b n (Gpt t)) keeps.sectors fits
may_have b d o p (Mbr records chain) is keeps sound =
    let linked = chain_is_linked_lem b p records chain keeps.shaped sound is in (
      was_mbr o (keeps.mbr (subst IsMbrBody (sym is) tt)),
      subst (λ (n : ℕ). IsLoneChain n (extended_of records) chain) keeps.sectors linked,
    )

-- the disk may have the layout
pub edit_may_be : (b : ℕ) (d : Sectors) (o : Option Layout) (p : Layout) → IsSectorSize b → Denotes b d o → Keeps b (length d) o p
    → Sound b p → MayBePlanned b d o p
edit_may_be b d o p size from keeps sound = record { sectors = keeps.sectors; body = may_have b d o p p.body refl keeps sound }

-- its labels go with its slices
pub edit_labels_fit : (b : ℕ) (d : Sectors) (o : Option Layout) (p : Layout) → IsSectorSize b → Denotes b d o → Keeps b (length d) o p
    → Sound b p → LabelsFit b p
edit_labels_fit b d o p size from keeps sound = labels_fit_lem b p keeps.shaped sound

-- and each label fits its place, so some bytes there would be read as it
pub edit_readable : (b : ℕ) (d : Sectors) (o : Option Layout) (p : Layout) → IsSectorSize b → Denotes b d o → Keeps b (length d) o p
    → Sound b p → ¬ HasUnreadable b d o p
edit_readable b d o p size from keeps sound is =
    let fits = label_fits_lem b p is.slice is.label keeps.shaped sound is.stands is.wanted in
    is.unfit (fits.counted, fits.slice)

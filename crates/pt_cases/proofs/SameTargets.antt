-- The targets of a layout that fits its disk change the same sectors, whichever list of them is taken.
use Rattle.std.proofs.Common.{◌≡◌, inl, ℕ, List, length, Option, refl, subst}
use Rattle.pt_sector.specs.Sectors.{Sectors}
use Rattle.pt_mbr.specs.declared.ebr.Ebr.{Ebr}
use Rattle.pt_mbr.specs.declared.record.Record.{Record}
use Rattle.pt_mbr.specs.Records.{extended_of}
use Rattle.pt_members.specs.declared.layout.Body.{Body}
use Rattle.pt_members.specs.declared.layout.Body.TheVariants.{Mbr, Gpt}
use Rattle.pt_members.specs.declared.layout.Layout.{Layout}
use Rattle.pt_members.specs.Tables.{HasFour}
use Rattle.pt_cases.specs.Cases.{HadMbr, MayBePlanned, MayHave}
use Rattle.pt_cases.specs.Writes.{IsLoneChain}
use Rattle.pt_cases.specs.Unplanned.{SharesSector, TargetsIn, TargetsOf, LabelsFit, HasUnreadable, HasUnmade}
use Rattle.pt_cases.specs.Targets.{HasTwoOfOne, IsChange}
use Rattle.pt_cases.specs.declared.targets.target.Target.{Target}
use Rattle.pt_cases.proofs.SameHeads.{mbr_targets_one}
use Rattle.pt_cases.proofs.SameLabels.{labels_one}

-- p meets none of the causes that only a caller's layout can have: the disk may have it, each label has its place, each
-- sector that it needs would be read back, and no two of them are one
pub record Fitting (b : ℕ) (d : Sectors) (o : Option Layout) (p : Layout) : Type 0 where
  pub four : HasFour p.body
  pub may : MayBePlanned b d o p
  pub labels : LabelsFit b p
  pub readable : ¬ HasUnreadable b d o p
  pub made : (records : List (Option Record)) (chain : List Ebr) → p.body ≡ Mbr records chain → (was : HadMbr o)
      → ¬ HasUnmade b d was.records was.chain records chain
  pub apart : ¬ SharesSector b d o p

-- its chain is linked
pub fitting_linked : (b : ℕ) (d : Sectors) (o : Option Layout) (p : Layout) (records : List (Option Record)) (chain : List Ebr)
    → Fitting b d o p → p.body ≡ Mbr records chain → IsLoneChain (length d) (extended_of records) chain
fitting_linked b d o p records chain fits body =
    let may : MayHave b d o (Mbr records chain) = subst (MayHave b d o) body fits.may.body in may.1

-- each sector has one target of it
pub one_of_each : (b : ℕ) (d : Sectors) (o : Option Layout) (p : Layout) (ts : List (Target b)) → Fitting b d o p → TargetsOf b d o p ts
    → ¬ HasTwoOfOne ts
one_of_each b d o p ts fits are two = let shares : SharesSector b d o p = (ts, inl are, two) in fits.apart shares

-- so it is with a GPT and with an MBR
by_body : (b : ℕ) (d : Sectors) (o : Option Layout) (p : Layout) (y : Body) (ts us : List (Target b)) (t : Target b) → Fitting b d o p
    → p.body ≡ y → TargetsIn b d o p y ts → TargetsIn b d o p y us → ¬ HasTwoOfOne ts → IsChange ts t
    → (u : Target b) × IsChange us u × (u.at.0 ≡ t.at.0)
by_body b d o p (Gpt table) ts us t fits body are others one change = labels_one b d o p ts us t fits.four are.1 others.1 one change
by_body b d o p (Mbr records chain) ts us t fits body are others one change =
    mbr_targets_one b d o p records chain ts us t fits.four (fitting_linked b d o p records chain fits body) are others one change

-- a target that changes has one of any other list, in the same sector, that changes
pub targets_one : (b : ℕ) (d : Sectors) (o : Option Layout) (p : Layout) (ts us : List (Target b)) (t : Target b) → Fitting b d o p
    → TargetsOf b d o p ts → TargetsOf b d o p us → IsChange ts t
    → (u : Target b) × IsChange us u × (u.at.0 ≡ t.at.0)
targets_one b d o p ts us t fits are others change =
    by_body b d o p p.body ts us t fits refl are others (one_of_each b d o p ts fits are) change

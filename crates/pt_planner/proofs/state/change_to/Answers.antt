use Rattle.std.proofs.Common.{◌≡◌, ℕ, List, length, Option, subst}
use Rattle.pt_sector.specs.Sectors.{Sectors}
use Rattle.pt_mbr.specs.Records.{extended_of}
use Rattle.pt_mbr.specs.declared.ebr.Ebr.{Ebr}
use Rattle.pt_mbr.specs.declared.record.Record.{Record}
use Rattle.pt_members.specs.declared.layout.Body.TheVariants.{Mbr}
use Rattle.pt_members.specs.declared.layout.Layout.{Layout}
use Rattle.pt_cases.specs.Cases.{MayBePlanned, MayHave, HadMbr}
use Rattle.pt_cases.specs.Writes.{IsLoneChain}
use Rattle.pt_planner.proofs.state.change_to.Goals as goal

not_planned : (b n : ℕ) (d : Sectors) (o : Option Layout) (p : Layout) (records : List (Option Record)) (chain : List Ebr)
    → p.body ≡ Mbr records chain → length d ≡ n → (HadMbr o → ¬ IsLoneChain n (extended_of records) chain) → ¬ MayBePlanned b d o p
not_planned b n d o p records chain body count none may =
    let has : MayHave b d o (Mbr records chain) = subst (MayHave b d o) body may.body in
    none has.0 (subst (λ (k : ℕ). IsLoneChain k (extended_of records) chain) count has.1)

pub returns-in_err-change-in-Mbr-clause-none : goal.returns-in_err-change-in-Mbr-clause-none
returns-in_err-change-in-Mbr-clause-none g c =
    rw c.from_residual.ensures
    (λ d count from. not_planned g.row.B c.args.sectors d c.args.old.now c.args.wanted.now _ _ c.in-Mbr.is count
    (c.in_err-change-in-Mbr.ensures.none g.row.B d count from))

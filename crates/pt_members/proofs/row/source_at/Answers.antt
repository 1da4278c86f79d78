use Rattle.std.proofs.Common.{List, get_or, None, ap, sym, ◌∙◌}
use Rattle.pt_mbr.specs.declared.ebr.Ebr.{Ebr}
use Rattle.pt_members.specs.declared.layout.Body.{Body}
use Rattle.pt_members.specs.declared.layout.Body.TheVariants.{Mbr}
use Rattle.pt_members.specs.Members.{sources}
use Rattle.pt_members.proofs.ByPlace.{within_gpt, within_mbr}
use Rattle.pt_members.proofs.row.source_at.Goals as goal

pub get-requires : goal.get-requires
get-requires g c = within_gpt g.row.B c.args.body.now c.in-Gpt.table c.args.k c.in-Gpt.is c.requires

pub mbr_source-requires : goal.mbr_source-requires
mbr_source-requires g c =
    within_mbr g.row.B c.args.body.now c.in-Mbr.records c.in-Mbr.chain c.as_slice.result.now c.args.k c.in-Mbr.is c.as_slice.ensures
    c.requires

pub returns-in-Mbr : goal.returns-in-Mbr
returns-in-Mbr g c =
    c.mbr_source.ensures ∙ ap (λ (l : List Ebr). get_or (sources (Mbr c.in-Mbr.records l)) c.args.k None) c.as_slice.ensures
    ∙ ap (λ (y : Body). get_or (sources y) c.args.k None) (sym c.in-Mbr.is)

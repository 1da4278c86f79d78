use Rattle.std.proofs.Common.{◌<◌, ◌^◌, ◌∙◌, ◌++◌, ℕ, List, ap, length, subst, sym}
use Rattle.std.specs.Prelude.{map, slice_index_or}
use Rattle.std.proofs.lemmas.Result.{on_ok_weaker}
use Rattle.pt_edit.specs.declared.space.Run.{Run}
use Rattle.pt_edit.specs.Free.{block_of, place_of}
use Rattle.pt_edit.specs.Space.{area_of}
use Rattle.pt_edit.proofs.BlocksWithin.{all_below}
use Rattle.pt_edit.proofs.FreeLists.{adds_one}
use Rattle.pt_edit.proofs.free.push_blocks.Goals as goal

pub push_runs-requires : goal.push_runs-requires
push_runs-requires c =
    let a = area_of c.args.space in
    subst (λ (l : List Run). (k : ℕ) (d : Run) → k < length l
    → ((slice_index_or l k d).first < 2 ^ 64) × ((slice_index_or l k d).last < 2 ^ 64))
    (sym c.as_slice.ensures.value) (all_below a c.in_ok-runs.runs.items (2 ^ 64) c.in_ok-runs.ensures c.requires)

pub returns : goal.returns
returns c =
    let place = place_of c.args.inside (area_of c.args.space) in
    on_ok_weaker c.push_runs.result (λ pushed. adds_one place c.in_ok-runs.runs.items c.args.list.now.items c.push_runs.new.list.items
    c.in_ok-runs.ensures
    (pushed ∙ ap (λ (l : List Run). c.args.list.now.items ++ map (block_of c.args.inside) l) c.as_slice.ensures.value)) c.push_runs.ensures

use Rattle.std.proofs.Common.{◌≡◌, ◌∙◌, ◌+◌, List, [], drop, ap, sym}
use Rattle.std.specs.Prelude.{fold, zip}
use Rattle.std.proofs.lemmas.List.{drop_all}
use Rattle.pt_guid.specs.declared.guid.Guid.{Guid}
use Rattle.pt_edit.specs.declared.partitions.Partition.{Partition}
use Rattle.pt_edit.specs.Converted.{put_entry}
use Rattle.pt_edit.proofs.EntryPlaces.{zip_none}
use Rattle.pt_edit.proofs.convert.entries_for.Goals as goal

pub returns : goal.returns
returns c =
    let k = c.loop-k.k in
    let guids = drop (1 + k) c.args.guids.now in
    let none : drop k c.args.partitions.now ≡ [] = drop_all k c.args.partitions.now c.loop-k-test.false in
    let same : zip guids (drop k c.args.partitions.now) ≡ [] = ap (λ (ps : List Partition). zip guids ps) none ∙ zip_none guids in
    ap (λ (xs : List (Guid × Partition)). fold put_entry c.loop-k.entries.items xs) (sym same) ∙ c.loop-k.invariant.left

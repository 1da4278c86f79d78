use Rattle.std.proofs.Common.{◌≡◌, ◌≤◌, ◌+◌, ◌-◌, ◌∙◌, ℕ, List, drop, length, ap, arith}
use Rattle.std.specs.Prelude.{Ok}
use Rattle.std.proofs.lemmas.List.{length-drop}
use Rattle.pt_guid.specs.declared.guid.Guid.{Guid}
use Rattle.pt_members.specs.declared.layout.Layout.{Layout}
use Rattle.pt_words.specs.declared.word.Edit.{Edit}
use Rattle.pt_edit.specs.Edited.{made_of, taken_by}
use Rattle.pt_edit.proofs.Folding.{left}
use Rattle.pt_edit.proofs.Taken.{enough_left}
use Rattle.pt_edit.proofs.fold.take_layout.Goals as goal

counted : (b alignment : ℕ) (guids rest : List Guid) (taken count : ℕ) (w : Edit) (o p : Layout) → taken ≤ length guids
    → count ≡ taken_by w o → rest ≡ drop taken guids → made_of b alignment rest w o ≡ Ok p → taken + count ≤ length guids
counted b alignment guids rest taken count w o p within is same made =
    let enough = enough_left b alignment rest w o p made in
    let size : length rest ≡ length guids - taken = ap (λ (l : List Guid). length l) same ∙ length-drop taken guids in
    omega arith

pub returns-clause-taken : goal.returns-clause-taken
returns-clause-taken g c =
    counted g.row.B c.args.state.alignment c.args.guids.now _ c.args.state.taken c.guids_of-count.result c.args.word.now
    c.in_ok-layout.layout c.in_ok-layout-2.layout c.requires.taken c.guids_of-count.ensures (left c.args.guids.now c.args.state.taken)
    c.in_ok-layout-2.ensures.ok

pub overflow_add-result : goal.overflow_add-result
overflow_add-result g c =
    let sum = counted g.row.B c.args.state.alignment c.args.guids.now _ c.args.state.taken c.guids_of-count.result c.args.word.now
    c.in_ok-layout.layout c.in_ok-layout-2.layout c.requires.taken c.guids_of-count.ensures (left c.args.guids.now c.args.state.taken)
    c.in_ok-layout-2.ensures.ok in
    omega (arith, sum)

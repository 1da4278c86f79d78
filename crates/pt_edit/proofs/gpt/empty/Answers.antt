use Rattle.std.proofs.Common.{refl}
use Rattle.pt_edit.proofs.gpt.empty.Goals as goal

pub returns : goal.returns
returns g c =
    rw (c.new.ensures, c.new-3.ensures, c.in_ok-entries.ensures.items, c.first_usable-first.ensures.value, c.new-2.ensures.items) refl

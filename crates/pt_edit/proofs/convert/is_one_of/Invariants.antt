use Rattle.std.proofs.Common.{◌≡◌, drop}
use Rattle.std.specs.List.{list_any}
use Rattle.std.specs.Str.{bytes_eq}
use Rattle.pt_guid.specs.declared.guid.Guid.{Guid}
use Rattle.pt_edit.proofs.convert.is_one_of.Given as goal

abbrev pub invariant-loop-other : goal.invariant-loop-other
invariant-loop-other l =
    list_any (λ (h : Guid). bytes_eq l.guid.0 h.0) (drop l.other-index l.guids) ≡ list_any (λ (h : Guid). bytes_eq l.guid.0 h.0) l.guids

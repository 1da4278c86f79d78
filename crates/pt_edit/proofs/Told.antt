-- The extended record in a search, by what the test of its type tells.
use Rattle.std.proofs.Common.{◌≡◌, ◌∙◌, ◌<◌, ◌+◌, ℕ, Bool, true, false, List, length, get_or, drop, Option, Some, sym}
use Rattle.std.specs.Prelude.{◌↔◌, IsTrue}
use Rattle.pt_mbr.specs.Records.{IsExtendedKind}
use Rattle.pt_mbr.specs.declared.record.Record.{Record}
use Rattle.pt_edit.proofs.TypesLemmas.{told_extended}
use Rattle.pt_edit.specs.MbrEdits.{extended_record}
use Rattle.pt_edit.proofs.Extended.{none_here, plain_here, found_here, ended}

pub plain_told : (rs : List (Option Record)) (k : ℕ) (z : Option Record) (r : Record) (told : Bool) → k < length rs → get_or rs k z ≡ Some r
    → (IsTrue told ↔ IsExtendedKind r.kind) → told ≡ false → extended_record (drop k rs) ≡ extended_record (drop (k + 1) rs)
plain_told rs k z r told within at tells is = plain_here rs k z r within at (sym (told_extended told r.kind tells) ∙ is)

pub found_told : (rs : List (Option Record)) (k : ℕ) (z : Option Record) (r : Record) (told : Bool) → k < length rs → get_or rs k z ≡ Some r
    → (IsTrue told ↔ IsExtendedKind r.kind) → told ≡ true → extended_record (drop k rs) ≡ Some r
found_told rs k z r told within at tells is = found_here rs k z r within at (sym (told_extended told r.kind tells) ∙ is)

-- a step of the search, and its end
pub ruleset searched = (none_here, plain_told, found_told, ended)

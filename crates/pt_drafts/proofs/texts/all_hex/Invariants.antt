use Rattle.std.proofs.Common.{◌≡◌, drop}
use Rattle.std.specs.Char.{is_ascii_hexdigit}
use Rattle.std.specs.List.{list_all}
use Rattle.pt_drafts.proofs.texts.all_hex.Given as goal

abbrev pub invariant-loop-digit : goal.invariant-loop-digit
invariant-loop-digit l = list_all is_ascii_hexdigit l.text ≡ list_all is_ascii_hexdigit (drop l.digit-index l.text)

use Rattle.std.proofs.Common.{◌≡◌, ◌++◌, flat_map, string_bytes, take}
use Rattle.pt_human.specs.Page.{line_text}
use Rattle.pt_human.proofs.page.push_lines.Given as goal

abbrev pub invariant-loop-line : goal.invariant-loop-line
invariant-loop-line l =
    string_bytes l.text ≡ string_bytes l.initial.text ++ flat_map (line_text l.sector_size l.widths) (take l.line-index l.lines)

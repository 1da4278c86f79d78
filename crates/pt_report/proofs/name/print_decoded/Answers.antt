use Rattle.std.proofs.Common.{ap, sym, subst, Option, ℕ, List}
use Rattle.std.specs.Prelude.{flat_map}
use Rattle.std.specs.Io.KnownBytes.{Appends}
use Rattle.std.proofs.KnownBytes.{Appends-nil, Appends-trans}
use Rattle.pt_report.specs.Shown.{char_bytes}
use Rattle.pt_report.proofs.Names.{nothing_left}
use Rattle.pt_report.proofs.name.print_decoded.Goals as goal

pub loop-left-preserved : goal.loop-left-preserved
loop-left-preserved g c = λ end rest.
    c.loop-left.invariant end
    (subst (λ (bs : List ℕ). Appends (g.O.Write.contents c.loop-left.out) end bs)
    (ap (λ (cs : List (Option ℕ)). flat_map char_bytes cs) (sym c.first_char-found.ensures.first))
    (Appends-trans _ _ _ _ _ c.in_ok-print_char.ensures rest))

pub returns : goal.returns
returns g c =
    c.loop-left.invariant (g.O.Write.contents c.loop-left.out)
    (subst (λ (bs : List ℕ). Appends (g.O.Write.contents c.loop-left.out) (g.O.Write.contents c.loop-left.out) bs)
    (sym (nothing_left c.loop-left.left.now c.loop-left-test.ensures)) (Appends-nil _))

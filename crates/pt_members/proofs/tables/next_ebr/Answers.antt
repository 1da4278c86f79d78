use Rattle.std.proofs.Common.{◌+◌, ◌≤◌, ℕ, List, length, take, Option, sym, subst, arith}
use Rattle.std.proofs.lemmas.List.{take_all}
use Rattle.pt_mbr.specs.Chain.{StandsAt}
use Rattle.pt_mbr.specs.declared.ebr.Ebr.{Ebr}
use Rattle.pt_members.specs.Members.{no_ebr}
use Rattle.pt_members.specs.Tables.{NextSectorIs}
use Rattle.pt_members.proofs.Lowest.{ebr_more}
use Rattle.pt_members.proofs.tables.next_ebr.Goals as goal

pub loop-k-preserved : goal.loop-k-preserved
loop-k-preserved c =
    let es = c.args.chain.now in
    subst (λ (r : Option ℕ). NextSectorIs (λ (s : ℕ). StandsAt s (take (c.loop-k.k + 1) es)) c.args.from r) (sym c.least-next.ensures)
    (ebr_more c.loop-k.k c.args.from es no_ebr c.loop-k.next c.not_below.result (omega arith) c.loop-k.invariant c.not_below.ensures)

pub returns : goal.returns
returns c =
    let es = c.args.chain.now in
    let past : length es ≤ c.loop-k.k = omega arith in
    subst (λ (l : List Ebr). NextSectorIs (λ (s : ℕ). StandsAt s l) c.args.from c.loop-k.next)
    (take_all c.loop-k.k es past) c.loop-k.invariant

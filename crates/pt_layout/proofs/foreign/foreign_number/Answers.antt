use Rattle.std.proofs.Common.{◌≡◌, ℕ, List, subst}
use Rattle.pt_members.specs.Tables.{NextSectorIs}
use Rattle.pt_layout.specs.inner.Surveys.{ForeignBytes}
use Rattle.pt_layout.proofs.foreign.foreign_number.Goals as goal

pub returns-clause-ok : goal.returns-clause-ok
returns-clause-ok g c = λ tells.
    subst (λ (bytes : List ℕ). NextSectorIs (λ n. (n ≡ c.args.slice.number)
    × ForeignBytes c.args.slice bytes) 0 c.number_if_foreign.result) (c.in_ok-read_sector.ensures.bytes tells) c.number_if_foreign.ensures

use Rattle.std.proofs.Common.{◌≡◌, sym, subst}
use Rattle.pt_gpt.specs.declared.table.Side.TheVariants.{Primary, Backup}
use Rattle.pt_follow.specs.Follow.{StandingIs}
use Rattle.pt_follow.specs.declared.standing.Standing.TheVariants.{Gives}
use Rattle.pt_check.specs.declared.given.Given.{Given}
use Rattle.pt_check.specs.declared.given.Given.TheVariants.{WithoutHeader, WithoutArray}
use Rattle.pt_check.specs.inner.Following.{IsGiven}
use Rattle.pt_check.proofs.ByCopies.{given_primary, given_without_header, given_without_array, some_as}
use Rattle.pt_check.proofs.following.Followed.given.Goals as goal

pub returns-in-Gives : goal.returns-in-Gives
returns-in-Gives g c = λ d copies. given_primary g.row.B d c.args.table.now (c.in-Gives.ensures d Primary copies.primary)

pub returns-in-LostHead : goal.returns-in-LostHead
returns-in-LostHead g c = λ d copies.
    let b = g.row.B in
    let t = c.args.table.now in
    some_as (λ (x : Given). (x ≡ WithoutHeader) × StandingIs b d Backup t Gives) (IsGiven b d t) c.by_backup.result
    (λ x is. subst (IsGiven b d t) (sym is.0)
    (given_without_header b d t (c.in-LostHead.ensures d Primary copies.primary) is.1))
    (c.by_backup.ensures d copies.backup)

pub returns-in-LostArray : goal.returns-in-LostArray
returns-in-LostArray g c = λ d copies.
    let b = g.row.B in
    let t = c.args.table.now in
    let told = c.in-LostArray.told in
    some_as (λ (x : Given). (x ≡ WithoutArray told) × StandingIs b d Backup t Gives) (IsGiven b d t) c.by_backup-in-LostArray.result
    (λ x is. subst (IsGiven b d t) (sym is.0)
    (given_without_array b d t told (c.in-LostArray.ensures d Primary copies.primary) is.1))
    (c.by_backup-in-LostArray.ensures d copies.backup)

-- The first partition that is as wanted, one after the other.
use Rattle.std.proofs.Common.{◌≡◌, ◌≤◌, ◌∙◌, List, [], ◌∷◌, ◌++◌, ℕ, ap, map, sym, subst, arith, Some, ⊎_elim}
use Rattle.std.specs.Prelude.{Contains}
use Rattle.std.proofs.lemmas.List.{map-append}
use Rattle.std.proofs.lemmas.List.Elements.{Contains-append_cases, Contains-append_right, Contains-push_cases}
use Rattle.pt_path.specs.Paths.{letter_rank, rank}
use Rattle.pt_members.specs.declared.layout.Layout.{Layout}
use Rattle.pt_members.specs.declared.member.Member.{Member}
use Rattle.pt_members.specs.declared.row.Row.{Row}
use Rattle.pt_members.specs.declared.search.Wanted.{Wanted}
use Rattle.pt_members.specs.inner.Tables.{Found, IsAsWanted}
use Rattle.pt_members.specs.Rows.{IsMember, member_of, members_of, rows_of}
use Rattle.pt_members.specs.Tables.{HasFour}
use Rattle.pt_members.proofs.Grouped.{contains_cases, contains_head, contains_none}
use Rattle.pt_members.proofs.InOrder.{comes_behind}

abbrev NoneOf : Wanted → List Member → Type 0
NoneOf wanted ms = (x : Member) → Contains ms x → ¬ IsAsWanted wanted x

pub none_yet : (wanted : Wanted) → NoneOf wanted []
none_yet wanted x at = absurd (contains_none x at)

pub none_more : (wanted : Wanted) (ms : List Member) (m : Member) → NoneOf wanted ms → ¬ IsAsWanted wanted m → NoneOf wanted (ms ++ m ∷ [])
none_more wanted ms m none other x at = ⊎_elim
    (λ before. none x before) (λ same. subst (λ (y : Member). ¬ IsAsWanted wanted y) same other) (Contains-push_cases ms m x at)

pub first_of_members : (b : ℕ) (o : Layout) (wanted : Wanted) (before : List Member) (m : Member) (after : List Member) → HasFour o.body
    → before ++ m ∷ after ≡ members_of b o → letter_rank m.path.letter ≤ 256 → NoneOf wanted before → IsAsWanted wanted m
    → Found b o wanted (Some m)
first_of_members b o wanted before m after four all few none is = (in_all, is, first) where
  in_all : IsMember b o m
  in_all = subst (λ (ms : List Member). Contains ms m) all (Contains-append_right before (m ∷ after) m (contains_head m after))

  first : (y : Member) → IsMember b o y → IsAsWanted wanted y → rank m.path ≤ rank y.path
  first y at also = ⊎_elim
      (λ earlier. absurd (none y earlier also))
      (λ later. ⊎_elim (λ same. subst (λ (z : Member). rank m.path ≤ rank z.path) same (omega arith))
      (λ behind. comes_behind b o before m after y four all few behind) (contains_cases m after y later))
      (Contains-append_cases before (m ∷ after) y (subst (λ (ms : List Member). Contains ms y) (sym all) at))

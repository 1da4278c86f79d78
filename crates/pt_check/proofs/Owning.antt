-- What a walk over the partitions of a layout adds to a trace.
use Rattle.std.proofs.Common.{ℕ, List, [], ◌∷◌, ◌++◌, ⊎_elim}
use Rattle.std.specs.Prelude.{◌⊎◌}
use Rattle.pt_members.specs.declared.layout.Layout.{Layout}
use Rattle.pt_members.specs.declared.member.Member.{Member}
use Rattle.pt_members.specs.Rows.{members_of}
use Rattle.pt_members.specs.Tables.{Owns}
use Rattle.pt_members.specs.inner.Members.{IsLeafWith}
use Rattle.pt_members.proofs.ByRows.{HasLeafAmong, among_before, among_cases, among_last, among_owns, owns_among}
use Rattle.pt_members.proofs.ByRows as by_rows
use Rattle.pt_recover.specs.Spans.{Adds}
use Rattle.pt_recover.specs.declared.trace.TracedRun.{TracedRun}
use Rattle.pt_check.proofs.Adding.{adds_both, adds_none, adds_same}

pub among_none : (r : List TracedRun) → Adds r r (HasLeafAmong [])
among_none r = adds_none (HasLeafAmong []) r by_rows.among_none

pub among_more : (ms : List Member) (m : Member) (old mid new : List TracedRun) → Adds old mid (HasLeafAmong ms)
    → Adds mid new (IsLeafWith m) → Adds old new (HasLeafAmong (ms ++ m ∷ []))
among_more ms m old mid new first second =
    adds_same (λ s. HasLeafAmong ms s ⊎ IsLeafWith m s) (HasLeafAmong (ms ++ m ∷ [])) old new
    (λ s is. ⊎_elim (among_before ms m s) (among_last ms m s) is) (among_cases ms m)
    (adds_both (HasLeafAmong ms) (IsLeafWith m) old mid new first second)

pub among_all : (b : ℕ) (o : Layout) (old new : List TracedRun) → Adds old new (HasLeafAmong (members_of b o)) → Adds old new (Owns b o)
among_all b o old new is = adds_same (HasLeafAmong (members_of b o)) (Owns b o) old new (among_owns b o) (owns_among b o) is

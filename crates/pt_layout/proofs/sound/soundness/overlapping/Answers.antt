use Rattle.std.proofs.Common.{List, Option, Some, None, sym, subst}
use Rattle.pt_layout.specs.declared.sound.overlap.Overlap.{Overlap}
use Rattle.pt_members.specs.Members.{Group}
use Rattle.pt_layout.specs.inner.Sound.{AllOrdered, SharedIs}
use Rattle.pt_layout.proofs.Faulty.{ordered_all, apart_all, shared_first}
use Rattle.pt_layout.proofs.sound.soundness.overlapping.Goals as goal

pub first_shared-requires : goal.first_shared-requires
first_shared-requires g c =
    subst (λ (l : List Group). AllOrdered l) (sym c.requires.all) (ordered_all g.row.B c.args.layout.now c.requires.inside)

pub returns-in-Ok-Some : goal.returns-in-Ok-Some
returns-in-Ok-Some g c =
    let x = c.in-Ok-Some.overlap in
    let shared : SharedIs c.args.groups.now (Some x) =
    subst (λ (o : Option Overlap). SharedIs c.args.groups.now o) c.in-Ok-Some.field-0-is c.in-Ok-Some.ensures.found in
    record { found = shared_first g.row.B c.args.layout.now x (subst (λ (l : List Group). SharedIs l (Some x)) c.requires.all shared) }

pub returns-in-Ok-None : goal.returns-in-Ok-None
returns-in-Ok-None g c =
    let shared : SharedIs c.args.groups.now None =
    subst (λ (o : Option Overlap). SharedIs c.args.groups.now o) c.in-Ok-None.field-0-is c.in-Ok-None.ensures.found in
    record { found = apart_all g.row.B c.args.layout.now (subst (λ (l : List Group). SharedIs l None) c.requires.all shared) }

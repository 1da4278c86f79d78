use Rattle.std.proofs.Common.{◌+◌, List, Option, Some, None, sym, subst}
use Rattle.pt_gpt.specs.declared.entry.Entry.{Entry}
use Rattle.pt_members.specs.declared.layout.Body.{Body}
use Rattle.pt_layout.specs.inner.Sound.{TwinsAre, SameGuidIs}
use Rattle.pt_layout.proofs.Pairs.{mbr_distinct, distinct, first_pair}
use Rattle.pt_layout.proofs.sound.soundness.same_guid.Goals as goal

pub returns-in-Mbr : goal.returns-in-Mbr
returns-in-Mbr c = subst (λ (y : Body). SameGuidIs y None) (sym c.in-Mbr.is) (mbr_distinct _ _)

pub returns-in-Some : goal.returns-in-Some
returns-in-Some c =
    let i = c.in-Some.i in
    let k = c.in-Some.k in
    let t = c.in-Gpt.table in
    let twins : TwinsAre t.entries (Some (i, k)) =
    subst (λ (es : List (Option Entry)). TwinsAre es (Some (i, k))) c.as_slice.ensures c.in-Some.ensures in
    subst (λ (y : Body). SameGuidIs y (Some (i + 1, k + 1))) (sym c.in-Gpt.is) (first_pair t (i, k) twins)

pub returns-in-None : goal.returns-in-None
returns-in-None c =
    let t = c.in-Gpt.table in
    let twins : TwinsAre t.entries None = subst (λ (es : List (Option Entry)). TwinsAre es None) c.as_slice.ensures c.in-None.ensures in
    subst (λ (y : Body). SameGuidIs y None) (sym c.in-Gpt.is) (distinct t twins)

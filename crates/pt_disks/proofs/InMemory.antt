-- What a disk in memory keeps of its past.
use Rattle.std.proofs.Common.{◌≡◌, ◌∙◌, List, [], ◌∷◌, ◌++◌, Vec, ap, ℕ}
use Rattle.std.specs.declared.alloc.Global.{Global}
use Rattle.std.proofs.lemmas.List.{map-append}
use Rattle.pt_disks.specs.Memory.{moments}

pub moments_on : (old : Vec (List ℕ) Global) (past later : List (Vec (List ℕ) Global)) → later ≡ past ++ old ∷ []
    → moments later ≡ moments past ++ (old.items, []) ∷ []
moments_on old past later is = ap moments is ∙ map-append (λ (v : Vec (List ℕ) Global). (v.items, [])) past (old ∷ [])

-- A lifetime that is within those of several values is within that of a tuple of references to them.
use Rattle.std.proofs.Common.{[], ◌++◌}
use base.Fml.{Lft}
use contract.BorrowLft.{◌⊑◌, ⊑_meet, ⊑_static}

-- with one that is in no value
alone : (k d : Lft) → k ⊑ d → k ⊑ d ++ []
alone k d in_d = ⊑_meet k d [] in_d (⊑_static k)

twice : (k d : Lft) → k ⊑ d → k ⊑ d ++ d
twice k d in_d = ⊑_meet k d d in_d in_d

-- a reference to a past
past : (k s d : Lft) → k ⊑ s → k ⊑ d → k ⊑ s ++ ((d ++ []) ++ (((d ++ []) ++ []) ++ []))
past k s d in_s in_d =
    let one = alone k d in_d in
    ⊑_meet k s ((d ++ []) ++ (((d ++ []) ++ []) ++ [])) in_s (⊑_meet k (d ++ []) (((d ++ []) ++ []) ++ []) one
    (alone k ((d ++ []) ++ []) (alone k (d ++ []) one)))

-- one to a result
result : (k s d : Lft) → k ⊑ s → k ⊑ d → k ⊑ s ++ ((d ++ []) ++ ((d ++ []) ++ []))
result k s d in_s in_d =
    let one = alone k d in_d in
    ⊑_meet k s ((d ++ []) ++ ((d ++ []) ++ [])) in_s (⊑_meet k (d ++ []) ((d ++ []) ++ []) one (alone k (d ++ []) one))

pub of_closed : (k s t d : Lft) → k ⊑ s → k ⊑ t → k ⊑ d
    → k ⊑ ((s ++ ((d ++ []) ++ (((d ++ []) ++ []) ++ []))) ++ ((t ++ d) ++ [])) ++ ((s ++ ((d ++ []) ++ (((d ++ []) ++ []) ++ []))) ++
    ((t ++ d) ++ []))
of_closed k s t d in_s in_t in_d =
    twice k _ (⊑_meet k _ ((t ++ d) ++ []) (past k s d in_s in_d) (alone k (t ++ d) (⊑_meet k t d in_t in_d)))

pub of_found : (k s p t d : Lft) → k ⊑ s → k ⊑ p → k ⊑ t → k ⊑ d
    → k ⊑ ((s ++ ((d ++ []) ++ (((d ++ []) ++ []) ++ []))) ++ ((p ++ []) ++ ((t ++ []) ++ [])))
    ++ ((s ++ ((d ++ []) ++ (((d ++ []) ++ []) ++ []))) ++ ((p ++ []) ++ ((t ++ []) ++ [])))
of_found k s p t d in_s in_p in_t in_d =
    twice k _ (⊑_meet k _ ((p ++ []) ++ ((t ++ []) ++ [])) (past k s d in_s in_d)
    (⊑_meet k (p ++ []) ((t ++ []) ++ []) (alone k p in_p) (alone k (t ++ []) (alone k t in_t))))

pub of_opened : (k s p t d : Lft) → k ⊑ s → k ⊑ p → k ⊑ t → k ⊑ d
    → k ⊑ ((s ++ ((d ++ []) ++ (((d ++ []) ++ []) ++ []))) ++ ((p ++ []) ++ ((t ++ ((d ++ []) ++ ((d ++ []) ++ []))) ++ [])))
    ++ ((s ++ ((d ++ []) ++ (((d ++ []) ++ []) ++ []))) ++ ((p ++ []) ++ ((t ++ ((d ++ []) ++ ((d ++ []) ++ []))) ++ [])))
of_opened k s p t d in_s in_p in_t in_d =
    twice k _ (⊑_meet k _ ((p ++ []) ++ ((t ++ ((d ++ []) ++ ((d ++ []) ++ []))) ++ [])) (past k s d in_s in_d)
    (⊑_meet k (p ++ []) ((t ++ ((d ++ []) ++ ((d ++ []) ++ []))) ++ []) (alone k p in_p) (alone k _ (result k t d in_t in_d))))

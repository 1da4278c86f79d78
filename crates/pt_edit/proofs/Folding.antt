-- The fold at one of its words, and the fresh GUIDs that are left.
use Rattle.std.proofs.Common.{◌≡◌, ◌<◌, ◌+◌, ◌-◌, ℕ, zero, suc, List, [], ◌∷◌, take, drop, length, get_or, Some, arith, refl}
use Rattle.std.specs.Prelude.{slice_get}
use Rattle.std.proofs.lemmas.List.{drop-drop, length-drop, take_all}
use Rattle.pt_guid.specs.declared.guid.Guid.{Guid}
use Rattle.pt_members.specs.declared.layout.Layout.{Layout}
use Rattle.pt_edit.specs.Edited.{State}

-- the state after a word that takes so many of the fresh GUIDs
pub state_after : (guids : List Guid) (o : Layout) (alignment taken count n : ℕ) → count ≡ n
    → ◌≡◌ {A = State} (record { layout = Some o; alignment = alignment; fresh = drop (taken + count) guids })
    (record { layout = Some o; alignment = alignment; fresh = drop n (drop taken guids) })
state_after guids o alignment taken count n e = rw (e, drop-drop n taken guids) refl

-- the fresh GUIDs that are left, as a slice has them
pub left : (guids : List Guid) (n : ℕ) → take (length guids - n) (drop n guids) ≡ drop n guids
left guids n = take_all (length guids - n) (drop n guids) (omega (arith, length-drop n guids))

-- the next of them
pub next : (guids : List Guid) (n : ℕ) (d : Guid) → n < length guids → slice_get (drop n guids) 0 ≡ Some (get_or guids n d)
next [] n d within = absurd (omega arith)
next (g ∷ gs) zero d within = refl
next (g ∷ gs) (suc n) d within = next gs n d (omega arith)

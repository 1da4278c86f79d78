-- Blocks of free sectors that are written as one list are equal.
use Rattle.std.proofs.Common.{◌≡◌, ◌∙◌, ℕ, List, [], ◌∷◌, Option, Some, None, codes, map, refl, sym, ap}
use Rattle.serde_json.specs.Data.{Data}
use Rattle.pt_edit.specs.declared.free.FreeBlock.{FreeBlock}
use Rattle.pt_tables.specs.Fields.{array_of, num}
use Rattle.pt_tables.specs.Free.{block_data, block_fields, free_data, inside_fields}
use Rattle.pt_tables.specs.Text.{IsText}
use Rattle.pt_tables.proofs.Found.{Lacks, Other, Tells, one_found, one_looked, tells_here, tells_later, tells_none}
use Rattle.pt_tables.proofs.OneText.{one_value}
use Rattle.pt_tables.proofs.Parts.{last_in, one_end, other_end, size_in, tells_end, tells_size}
use Rattle.pt_tables.proofs.SameLabels.{data_from, num_from}
use Rattle.pt_tables.proofs.SameLists.{one_list}

lacks_inside : (k : List ℕ) → Other k (codes "inside") → (o : Option ℕ) → Lacks k (inside_fields o)
lacks_inside k other None = tt
lacks_inside k other (Some n) = (other, tt)

abbrev inside_in : Option ℕ → Option Data
inside_in None = None
inside_in (Some n) = Some (num n)

tells_inside : (o : Option ℕ) → Tells (codes "inside") (inside_fields o) (inside_in o)
tells_inside None = tells_none (codes "inside") [] tt
tells_inside (Some n) = tells_here (codes "inside") (num n) [] tt

one_inside : (o q : Option ℕ) → inside_in o ≡ inside_in q → o ≡ q
one_inside None None same = refl
one_inside None (Some m) same = absurd (cc)
one_inside (Some n) None same = absurd (cc)
one_inside (Some n) (Some m) same = ap Some (num_from n m same)

module _ (b : FreeBlock) where
  tells_first : Tells (codes "start") (block_fields b) (Some (num b.first))
  tells_first =
      tells_here (codes "start") (num b.first) _
      (other_end (codes "start") b.first b.last refl refl, lacks_inside (codes "start") refl b.inside)

  block_size : Tells (codes "size") (block_fields b) (size_in b.first b.last)
  block_size =
      tells_later (codes "size") _ _ _ refl (tells_size b.first b.last (inside_fields b.inside) (lacks_inside (codes "size") refl b.inside))

  block_end : Tells (codes "last") (block_fields b) (last_in b.first b.last)
  block_end =
      tells_later (codes "last") _ _ _ refl (tells_end b.first b.last (inside_fields b.inside) (lacks_inside (codes "last") refl b.inside))

  block_inside : Tells (codes "inside") (block_fields b) (inside_in b.inside)
  block_inside =
      tells_later (codes "inside") _ _ _ refl
      (tells_later (codes "inside") _ _ _ (other_end (codes "inside") b.first b.last refl refl) (tells_inside b.inside))

one_block : (a b : FreeBlock) → block_data a ≡ block_data b → a ≡ b
one_block a b same =
    let at : (k : List ℕ) (o q : Option Data) → Tells k (block_fields a) o → Tells k (block_fields b) q → o ≡ q =
    λ k o q here there. one_found k (block_fields a) (block_fields b) o q here there same in
    let first = num_from a.first b.first (at (codes "start") _ _ (tells_first a) (tells_first b)) in
    let last = one_end a.first a.last b.last
    (at (codes "size") _ _ (block_size a) (block_size b) ∙ ap (λ (x : ℕ). size_in x b.last) (sym first))
    (at (codes "last") _ _ (block_end a) (block_end b) ∙ ap (λ (x : ℕ). last_in x b.last) (sym first)) in
    let inside = one_inside a.inside b.inside (at (codes "inside") _ _ (block_inside a) (block_inside b)) in
    λ i. record { first = first i; last = last i; inside = inside i }

pub one_list_of_blocks : (text : List ℕ) (xs ys : List FreeBlock) → IsText text (free_data xs) → IsText text (free_data ys) → xs ≡ ys
one_list_of_blocks text xs ys here there =
    let list : Some (array_of (map block_data xs)) ≡ Some (array_of (map block_data ys)) =
    one_looked (codes "freeblocks") ((codes "freeblocks", array_of (map block_data xs)) ∷ [])
    ((codes "freeblocks", array_of (map block_data ys)) ∷ []) (one_value text (free_data xs) (free_data ys) here there) in
    one_list block_data one_block xs ys (data_from _ _ list)

-- Lists of blocks, place by place.
use Rattle.std.proofs.Common.{◌≡◌, ◌∙◌, List, [], ◌∷◌, ◌++◌, append-nil, append_assoc, ap, refl}
use Rattle.std.proofs.Common.{ap₂, subst, sym}
use Rattle.std.specs.Prelude.{map}
use Rattle.pt_edit.specs.declared.free.FreeBlock.{FreeBlock}
use Rattle.pt_edit.specs.declared.space.Run.{Run}
use Rattle.pt_edit.specs.Free.{AreFree, Place, block_of}
use Rattle.pt_edit.specs.Space.{AreBlocks}
use Rattle.pt_edit.specs.inner.Free.{Adds}
use Rattle.pt_edit.proofs.Blocks.{blocks_are_one}

free_append : (ps qs : List Place) (xs ys : List FreeBlock) → AreFree ps xs → AreFree qs ys → AreFree (ps ++ qs) (xs ++ ys)
free_append [] qs xs ys is also = subst (λ (l : List FreeBlock). AreFree qs (l ++ ys)) (sym is) also
free_append (p ∷ ps) qs xs ys is also =
    let runs = is.0 in
    let rest = is.1 in (
      runs,
      rest ++ ys,
      is.2,
      free_append ps qs rest ys is.3 also,
      ap (λ (l : List FreeBlock). l ++ ys) is.4 ∙ append_assoc (map (block_of p.inside) runs) rest ys,
    )

-- nothing is added
pub adds_none : (xs : List FreeBlock) → Adds [] xs xs
adds_none xs ps is = subst (λ (l : List Place). AreFree l xs) (sym (append-nil ps)) is

-- some, and then others
pub adds_both : (ms ns : List Place) (xs ys zs : List FreeBlock) → Adds ms xs ys → Adds ns ys zs → Adds (ms ++ ns) xs zs
adds_both ms ns xs ys zs one two ps is =
    subst (λ (l : List Place). AreFree l zs) (append_assoc ps ms ns) (two (ps ++ ms) (one ps is))

-- those of one place
pub adds_one : (n : Place) (runs : List Run) (xs ys : List FreeBlock) → AreBlocks n.area runs → ys ≡ xs ++ map (block_of n.inside) runs
    → Adds (n ∷ []) xs ys
adds_one n runs xs ys are is ps so =
    subst (λ (l : List FreeBlock). AreFree (ps ++ n ∷ []) l) (sym is)
    (free_append ps (n ∷ []) xs (map (block_of n.inside) runs) so (runs, [], are, refl, sym (append-nil (map (block_of n.inside) runs))))

-- those of one place, of some more, and of the rest
pub all_three : (n : Place) (ms ns : List Place) (ws xs ys zs : List FreeBlock) → ws ≡ [] → Adds (n ∷ []) ws xs → Adds ms xs ys
    → Adds ns ys zs → AreFree (n ∷ (ms ++ ns)) zs
all_three n ms ns ws xs ys zs none one two three =
    adds_both (n ∷ []) (ms ++ ns) ws xs zs one (adds_both ms ns xs ys zs two three) [] none

-- one list of all
pub free_is_one : (ps : List Place) (xs ys : List FreeBlock) → AreFree ps xs → AreFree ps ys → xs ≡ ys
free_is_one [] xs ys one two = one ∙ sym two
free_is_one (p ∷ ps) xs ys one two =
    let runs = blocks_are_one p.area one.0 two.0 one.2 two.2 in
    let rest = free_is_one ps one.1 two.1 one.3 two.3 in
    one.4 ∙ ap₂ (λ (rs : List Run) (l : List FreeBlock). map (block_of p.inside) rs ++ l) runs rest ∙ sym two.4

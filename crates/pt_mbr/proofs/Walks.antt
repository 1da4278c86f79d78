-- A walk takes one more step, or ends.
use Rattle.std.proofs.Common.{◌≡◌, ◌<◌, ◌≤◌, List, [], ◌∷◌, ◌++◌, length, Option, Some, None, refl, sym, ap, subst, arith}
use Rattle.std.proofs.lemmas.List.{length_push}
use Rattle.pt_sector.specs.Sectors.{Sectors, sector, Span}
use Rattle.pt_sector.specs.declared.address.Lba.{Lba}
use Rattle.pt_mbr.specs.Chain.{lba, IsInside, IsUpward, EbrAt, Walk, Chain, IsEbrFault}
use Rattle.pt_mbr.specs.Changes.{EndsIn}
use Rattle.pt_mbr.specs.declared.ebr.Ebr.{Ebr}
use Rattle.pt_mbr.specs.declared.ebr.EbrFault.TheVariants as ebr
use Rattle.pt_mbr.specs.declared.chain.ChainError.TheVariants.{NoSignature, BadRecord, NotUpward, OutsideExtended, TooLong, Device}

walk_more : (d : Sectors) (x : Span) (from : Option Lba) (done : List Ebr) (at : Lba) (e : Ebr) → Walk d x from done (Some at)
    → EbrAt d x at e → IsUpward at e.next → Walk d x from (done ++ e ∷ []) e.next
walk_more d x None [] at e walk here up = absurd cc
walk_more d x (Some y) [] at e walk here up =
    let same : at ≡ y = cc in
    (subst (λ (z : Lba). EbrAt d x z e) same here, subst (λ (z : Lba). IsUpward z e.next) same up, refl)
walk_more d x None (f ∷ es) at e walk here up = absurd walk
walk_more d x (Some y) (f ∷ es) at e walk here up = (walk.0, walk.1, walk_more d x f.next es at e walk.2 here up)

pub chain_ends : (d : Sectors) (x : Span) (done : List Ebr) (at : Lba) (e : Ebr) (list : List Ebr)
    → Walk d x (Some (lba x.first)) done (Some at) → length done < 128
    → EbrAt d x at e → e.next ≡ None → list ≡ done ++ e ∷ [] → Chain d x list
chain_ends d x done at e list walk few here end same =
    let up : IsUpward at e.next = subst (λ (o : Option Lba). IsUpward at o) (sym end) tt in
    let whole : Walk d x (Some (lba x.first)) (done ++ e ∷ []) None =
    subst (λ (o : Option Lba). Walk d x (Some (lba x.first)) (done ++ e ∷ []) o) end
    (walk_more d x (Some (lba x.first)) done at e walk here up) in
    record {
      few = omega (arith, ap (length {A = Ebr}) same, length_push done e);
      whole = subst (λ (l : List Ebr). Walk d x (Some (lba x.first)) l None) (sym same) whole;
    }

pub walk_on : (d : Sectors) (x : Span) (done : List Ebr) (at : Lba) (e : Ebr) (y : Lba) (list : List Ebr)
    → Walk d x (Some (lba x.first)) done (Some at)
    → EbrAt d x at e → e.next ≡ Some y → at.0 < y.0 → list ≡ done ++ e ∷ [] → Walk d x (Some (lba x.first)) list (Some y)
walk_on d x done at e y list walk here next above same =
    let up : IsUpward at e.next = subst (λ (o : Option Lba). IsUpward at o) (sym next) above in
    let whole : Walk d x (Some (lba x.first)) (done ++ e ∷ []) (Some y) =
    subst (λ (o : Option Lba). Walk d x (Some (lba x.first)) (done ++ e ∷ []) o) next
    (walk_more d x (Some (lba x.first)) done at e walk here up) in
    subst (λ (l : List Ebr). Walk d x (Some (lba x.first)) l (Some y)) (sym same) whole

pub links_down : (d : Sectors) (x : Span) (done : List Ebr) (at : Lba) (e : Ebr) (y : Lba) (list : List Ebr)
    → Walk d x (Some (lba x.first)) done (Some at) → length done < 128
    → EbrAt d x at e → e.next ≡ Some y → y.0 ≤ at.0 → list ≡ done ++ e ∷ [] → EndsIn d x list (NotUpward at)
links_down d x done at e y list walk few here next below same = record {
  fault = record {
    before = done;
    at = at;
    few = omega arith;
    reached = walk;
    here = (refl, few, e, here, λ up. let above : at.0 < y.0 = subst (λ (o : Option Lba). IsUpward at o) next up in absurd (omega arith));
  };
  decoded = (e, here.bytes.place, same);
}

pub links_out : (d : Sectors) (x : Span) (list : List Ebr) (y : Lba) → Walk d x (Some (lba x.first)) list (Some y) → length list ≤ 128
    → ¬ IsInside x (length d) y → EndsIn d x list (OutsideExtended y)
links_out d x list y walk few out =
    record { fault = record { before = list; at = y; few = few; reached = walk; here = (refl, out) }; decoded = refl }

pub links_outside : (d : Sectors) (x : Span) (done : List Ebr) (at : Lba) (e : Ebr) (y : Lba) (list : List Ebr)
    → Walk d x (Some (lba x.first)) done (Some at) → length done < 128
    → EbrAt d x at e → e.next ≡ Some y → at.0 < y.0 → list ≡ done ++ e ∷ [] → ¬ IsInside x (length d) y
    → EndsIn d x list (OutsideExtended y)
links_outside d x done at e y list walk few here next above same out =
    links_out d x list y (walk_on d x done at e y list walk here next above same)
    (omega (arith, ap (length {A = Ebr}) same, length_push done e)) out

-- an extended partition that starts past the end of the disk
pub starts_out : (d : Sectors) (x : Span) (list : List Ebr) (y : Lba) → list ≡ [] → y ≡ lba x.first → ¬ IsInside x (length d) y
    → EndsIn d x list (OutsideExtended y)
starts_out d x list y none same out = links_out d x list y
    (subst (λ (l : List Ebr). Walk d x (Some (lba x.first)) l (Some y)) (sym none) (ap (λ (z : Lba). some z) (sym same)))
    (omega (arith, ap (length {A = Ebr}) none)) out where
      some : Lba → Option Lba
      some z = Some z

pub too_long : (d : Sectors) (x : Span) (list : List Ebr) (y : Lba) → Walk d x (Some (lba x.first)) list (Some y) → length list ≡ 128
    → IsInside x (length d) y → EndsIn d x list TooLong
too_long d x list y walk count inside =
    record { fault = record { before = list; at = y; few = omega arith; reached = walk; here = (inside, count) }; decoded = refl }

pub no_signature : (d : Sectors) (x : Span) (list : List Ebr) (at : Lba) → Walk d x (Some (lba x.first)) list (Some at) → length list < 128
    → IsInside x (length d) at → IsEbrFault ebr.NoSignature (sector d at.0) → EndsIn d x list (NoSignature at)
no_signature d x list at walk few inside bad =
    record { fault = record { before = list; at = at; few = omega arith; reached = walk; here = (refl, inside, few, bad) }; decoded = refl }

pub bad_record : (d : Sectors) (x : Span) (list : List Ebr) (at : Lba) → Walk d x (Some (lba x.first)) list (Some at) → length list < 128
    → IsInside x (length d) at → IsEbrFault ebr.BadRecord (sector d at.0) → EndsIn d x list (BadRecord at)
bad_record d x list at walk few inside bad =
    record { fault = record { before = list; at = at; few = omega arith; reached = walk; here = (refl, inside, few, bad) }; decoded = refl }

pub device : (d : Sectors) (x : Span) (list : List Ebr) (at y : Lba) → y ≡ at → Walk d x (Some (lba x.first)) list (Some at)
    → length list < 128
    → IsInside x (length d) at → EndsIn d x list (Device y)
device d x list at y is walk few inside =
    record { fault = record { before = list; at = at; few = omega arith; reached = walk; here = (is, inside, few) }; decoded = refl }

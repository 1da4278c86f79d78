-- Writes of which none is of an owned sector.
use Rattle.std.proofs.Common.{◌≡◌, ◌⊎◌, ℕ, List, Option, Some, None, inl, inr, ⊎_elim, subst}
use Rattle.std.specs.Prelude.{◌↔◌}
use Rattle.pt_sector.specs.Sectors.{Writes}
use Rattle.pt_members.specs.declared.layout.Layout.{Layout}
use Rattle.pt_members.specs.declared.owned.Reach.{Reach}
use Rattle.pt_members.specs.Tables.{Owns, OwnedOf, IsWithin, TableOf, IsBodyTable}
use Rattle.pt_members.specs.declared.layout.Body.{Body}
use Rattle.pt_members.specs.declared.layout.Body.TheVariants.{Mbr, Gpt}
use Rattle.pt_recover.specs.Spans.{IsIn}
use Rattle.pt_recover.specs.declared.trace.TracedRun.{TracedRun}
use Rattle.pt_apply.specs.Plans.{NoneIs}
use Rattle.pt_check.specs.declared.writes.Found.{Found}
use Rattle.pt_check.specs.inner.Answers.{FirstWriteIs}
use Rattle.pt_check.specs.Answers.{InOwned, InNoTable, IsFixed, FixedOf}

pub none_owned : (b : ℕ) (l : Option Layout) (o : Layout) (r : Reach) (ws : Writes) → l ≡ Some o → ((s : ℕ) → Owns b o s → IsWithin r s)
    → NoneIs (λ (w : ℕ × List ℕ). IsWithin r w.0) ws → NoneIs (λ (w : ℕ × List ℕ). OwnedOf b l w.0) ws
none_owned b l o r ws is reach none k w at owned =
    none k w at (reach w.0 (subst (λ (x : Option Layout). OwnedOf b x w.0) is owned))

-- the first write of which P holds is the first of which Q does, where the two say the same
first_as : (P Q : ℕ × List ℕ → Type 0) (ws : Writes) (f : Option Found) → ((w : ℕ × List ℕ) → P w → Q w)
    → ((w : ℕ × List ℕ) → Q w → P w) → FirstWriteIs P ws f → FirstWriteIs Q ws f
first_as P Q ws None there back is = λ k w at here. is k w at (back w here)
first_as P Q ws (Some f) there back is = (
  is.0,
  is.1,
  is.2,
  is.3,
  record {
    at = is.4.at;
    is = there is.1 is.4.is;
    none_before = λ j y less at here. is.4.none_before j y less at (back y here);
  },
)

-- where the runs are the tables of both layouts
pub first_outside : (b : ℕ) (old new : Option Layout) (t : List TracedRun) (ws : Writes) (f : Option Found)
    → ((s : ℕ) → IsIn t s ↔ (TableOf b old s ⊎ TableOf b new s)) → FirstWriteIs (λ (w : ℕ × List ℕ). ¬ IsIn t w.0) ws f
    → FirstWriteIs (InNoTable b old new) ws f
first_outside b old new t ws f same is =
    first_as (λ (w : ℕ × List ℕ). ¬ IsIn t w.0) (InNoTable b old new) ws f
    (λ w none. (λ o. none ((same w.0).1 (inl o)), λ n. none ((same w.0).1 (inr n))))
    (λ w none is_in. ⊎_elim none.0 none.1 ((same w.0).0 is_in)) is

-- where they are what the partitions of both own
pub first_among : (b : ℕ) (old new : Option Layout) (t : List TracedRun) (ws : Writes) (f : Option Found)
    → ((s : ℕ) → IsIn t s ↔ (OwnedOf b old s ⊎ OwnedOf b new s)) → FirstWriteIs (λ (w : ℕ × List ℕ). IsIn t w.0) ws f
    → FirstWriteIs (InOwned b old new) ws f
first_among b old new t ws f same is =
    first_as (λ (w : ℕ × List ℕ). IsIn t w.0) (InOwned b old new) ws f (λ w. (same w.0).0) (λ w. (same w.0).1) is

fixed_body : (b n : ℕ) (y : Body) (s : ℕ) → IsFixed b n y s → IsBodyTable b n y s
fixed_body b n (Mbr records chain) s is = inl is
fixed_body b n (Gpt t) s is = is

fixed_table : (b : ℕ) (l : Option Layout) (s : ℕ) → FixedOf b l s → TableOf b l s
fixed_table b None s is = is
fixed_table b (Some o) s is = inl (fixed_body b o.sectors o.body s is)

-- a write of a fixed table is none outside the tables
pub none_moves : (b : ℕ) (old new : Option Layout) (ws : Writes)
    → NoneIs (λ (w : ℕ × List ℕ). (¬ FixedOf b old w.0) × (¬ FixedOf b new w.0)) ws → NoneIs (InNoTable b old new) ws
none_moves b old new ws none k w at stray =
    none k w at (λ fixed. stray.0 (fixed_table b old w.0 fixed), λ fixed. stray.1 (fixed_table b new w.0 fixed))

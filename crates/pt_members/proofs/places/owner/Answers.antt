use Rattle.std.proofs.Common.{◌≡◌, Bool, true, false, sym, ◌∙◌, inl, inr}
use Rattle.std.specs.Prelude.{◌⊎◌}
use Rattle.pt_members.proofs.Homes.{home_found, owns_none}
use Rattle.pt_members.proofs.places.owner.Goals as goal

never : (r : Bool) → r ≡ true → r ≡ false → ⊥
never r is none = let e : true ≡ false = sym is ∙ none in cc

neither : {P Q : Type 0} → ¬ P → ¬ Q → ¬ (P ⊎ Q)
neither p q (inl x) = p x
neither p q (inr y) = q y

pub returns-in-Some : goal.returns-in-Some
returns-in-Some g c = home_found g.row.B c.args.layout.now c.args.lba c.in-Some.m c.in-Some.ensures

pub returns-then-is_table : goal.returns-then-is_table
returns-then-is_table g c = (owns_none g.row.B c.args.layout.now c.args.lba c.in-None.ensures, c.is_table.ensures.0 c.if-is_table.true)

pub returns-then-is_in_slice : goal.returns-then-is_in_slice
returns-then-is_in_slice g c = (
  owns_none g.row.B c.args.layout.now c.args.lba c.in-None.ensures,
  λ table. never c.is_table.result (c.is_table.ensures.1 table) c.if-is_table.false,
  inl (c.is_in_slice.ensures.0 c.if-is_in_slice.true),
)

pub returns-then-is_unusable : goal.returns-then-is_unusable
returns-then-is_unusable g c = (
  owns_none g.row.B c.args.layout.now c.args.lba c.in-None.ensures,
  λ table. never c.is_table.result (c.is_table.ensures.1 table) c.if-is_table.false,
  inr (c.is_unusable.ensures.0 c.if-is_unusable.true),
)

pub returns : goal.returns
returns g c = (
  owns_none g.row.B c.args.layout.now c.args.lba c.in-None.ensures,
  λ table. never c.is_table.result (c.is_table.ensures.1 table) c.if-is_table.false,
  neither (λ slice. never c.is_in_slice.result (c.is_in_slice.ensures.1 slice) c.if-is_in_slice.false)
      (λ out. never c.is_unusable.result (c.is_unusable.ensures.1 out) c.if-is_unusable.false),
)

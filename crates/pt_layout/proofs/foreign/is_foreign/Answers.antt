use Rattle.std.proofs.Common.{◌≡◌, ◌∙◌, Bool, true, false, refl, sym}
use Rattle.std.proofs.lemmas.Bool.{false≢true}
use Rattle.pt_bsd.proofs.Terms.{no_label}
use Rattle.pt_layout.proofs.foreign.is_foreign.Goals as goal

not_true : (c : Bool) → c ≡ false → c ≡ true → ⊥
not_true c is so = let e : true ≡ false = sym so ∙ is in cc

pub returns-then-not-bears_magic : goal.returns-then-not-bears_magic
returns-then-not-bears_magic g c = (
  λ is. absurd (false≢true is),
  λ foreign. absurd (not_true c.bears_magic.result c.if-not-bears_magic.true (c.bears_magic.ensures.1 foreign.0)),
)

pub returns-in-Ok : goal.returns-in-Ok
returns-in-Ok g c = (λ is. absurd (false≢true is), λ foreign. absurd (foreign.1 (c.in-Ok.field-0, c.in-Ok.ensures.ok)))

pub returns-in-Err : goal.returns-in-Err
returns-in-Err g c = (
  λ is. (
    c.bears_magic.ensures.0 c.if-not-bears_magic.false,
    no_label c.in-Err.field-0 c.args.slice.first c.args.slice.len c.args.sector.now c.in-Err.ensures.err,
  ),
  λ foreign. refl,
)

use Rattle.std.proofs.Common.{◌≡◌, ◌<◌, ◌==◌, ◌∙◌, ℕ, zero, suc, List, [], ◌∷◌, length, true, false, Vec, inl, inr, sym, refl, ap, arith}
use Rattle.std.proofs.lemmas.Bool.Decides.{Decides-eqb}
use Rattle.std.proofs.lemmas.List.{length-map}
use Rattle.std.proofs.lemmas.Result.{err_from_is_err_and, IfOk-weaker}
use Rattle.std.specs.declared.alloc.Global.{Global}
use Rattle.pt_apply.specs.Plans.{writes_of}
use Rattle.pt_apply.specs.inner.Plans.{phases_in}
use Rattle.pt_apply.specs.declared.plan.Write.{Write}
use Rattle.pt_planner.proofs.phases.turns.two_phases.Goals as goal

nothing : {X : Type 0} (xs : List X) → length xs ≡ 0 → xs ≡ []
nothing [] e = refl
nothing (x ∷ xs) e = absurd (omega (arith, e))

above_zero : (n : ℕ) → (n == 0) ≡ false → 0 < n
above_zero zero e = cc e
above_zero (suc n) e = omega arith

has_none : {b : _} (ws : Vec (Write b) Global) → (ws.len == 0) ≡ true → writes_of ws.items ≡ []
has_none ws none = ap writes_of (nothing ws.items (let zero = (Decides-eqb ws.len 0).0 none in omega (arith, zero, ws.ok.0)))

has_some : {b : _} (ws : Vec (Write b) Global) → (ws.len == 0) ≡ false → ¬ (writes_of ws.items ≡ [])
has_some ws more none =
    let count : length (writes_of ws.items) ≡ length ws.items = length-map ws.items (λ (x : Write _). (x.lba.0, x.bytes)) in
    let some = above_zero ws.len more in
    absurd (omega (arith, count, some, ap length none, ws.ok.0))

pub returns-then-is_empty : goal.returns-then-is_empty
returns-then-is_empty g c =
    IfOk-weaker c.one_phase.result _ _ (λ plan is. inl (has_none c.args.quiet (sym c.is_empty.ensures ∙ c.if-is_empty.true), is))
    c.one_phase.ensures

pub returns-in_err-phase : goal.returns-in_err-phase
returns-in_err-phase g c = let p = err_from_is_err_and c.from_residual.result c.from_residual.ensures.1 in rw p.1 tt

pub returns-in_err-vec : goal.returns-in_err-vec
returns-in_err-vec g c =
    let p = err_from_is_err_and c.from_residual-in_err-vec.result c.from_residual-in_err-vec.ensures.1 in rw p.1 tt

pub returns : goal.returns
returns g c = inr (
  has_some c.args.quiet (sym c.is_empty.ensures ∙ c.if-is_empty.false),
  ap phases_in c.in_ok-vec.ensures.items
      ∙ ap (λ (ws : List (Write g.row.B)). writes_of c.args.quiet.items ∷ writes_of ws ∷ []) c.in_ok-phase.ensures.items,
)

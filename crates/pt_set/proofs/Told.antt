-- What the test of a type tells.
use Rattle.std.specs.Prelude.{◌≡◌, ◌↔◌, ℕ, Bool, true, false, IsTrue}
use Rattle.std.proofs.Common.{refl, sym, arith}
use Rattle.std.proofs.lemmas.Bool.{true≢false}
use Rattle.pt_mbr.specs.Records.{IsExtendedKind, is_extended}

is_kind : (kind : ℕ) → IsExtendedKind kind → is_extended kind ≡ true
is_kind kind is = grind arith

is_other : (kind : ℕ) → ¬ IsExtendedKind kind → is_extended kind ≡ false
is_other kind other = grind arith

-- whether it is an extended partition's
pub told_extended : (told : Bool) (kind : ℕ) → (IsTrue told ↔ IsExtendedKind kind) → told ≡ is_extended kind
told_extended true kind h = sym (is_kind kind (h.0 refl))
told_extended false kind h = sym (is_other kind (λ is. true≢false (sym (h.1 is))))

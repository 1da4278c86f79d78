use Rattle.std.proofs.Common.{◌≡◌, List, ℕ, Option, Some, None, sym}
use Rattle.std.specs.Prelude.{◌≢◌, IfSome, IfNone}
use Rattle.pt_guid.specs.Codes as types
use Rattle.pt_report.specs.Shown.{code_of}
use Rattle.pt_report.proofs.Codes.{code_is, no_code}
use Rattle.pt_report.proofs.layout.code.Goals as goal

by_answer : (kind : List ℕ) (r : Option ℕ) → IfSome r (λ (code : ℕ). types.type_of code ≡ Some kind)
    → IfNone r ((code : ℕ) → types.type_of code ≢ Some kind) → r ≡ code_of kind
by_answer kind None some none = sym (no_code kind none)
by_answer kind (Some code) some none = sym (code_is code kind some)

pub returns : goal.returns
returns c = by_answer c.args.kind.now.0 c.code_of_type.result c.code_of_type.ensures.some c.code_of_type.ensures.none

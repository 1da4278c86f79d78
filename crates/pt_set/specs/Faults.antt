-- What is at fault in a text, and steps of which each may be at fault.
use Rattle.std.specs.Prelude.{ℕ, ◌+◌, Bool, Some, None, Result, Ok, Err, if◌then◌else◌}
use Rattle.pt_drafts.specs.declared.fault.Key.{Key}
use Rattle.pt_drafts.specs.declared.fault.TextFault.{TextFault}

infixl 10 ◌>>=◌
abbrev pub ◌>>=◌ : {A B : Type 0} → Result A TextFault → (A → Result B TextFault) → Result B TextFault
Err e >>= f = Err e
Ok x >>= f = f x

-- what the table itself says
abbrev pub of : Key → TextFault
of key = record { key = key; part = None }

-- what a partition says, which has this place in the list, from 0 on
abbrev pub at : ℕ → Key → TextFault
at k key = record { key = key; part = Some (k + 1) }

abbrev pub fails_if : Bool → TextFault → Result (Unit {0}) TextFault
fails_if is_wrong fault = if is_wrong then Err fault else Ok tt

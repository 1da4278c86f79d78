-- The code of a type.
use Rattle.std.proofs.Common.{◌≡◌, ℕ, List, [], ◌∷◌, ap, ◌∙◌, sym, refl, subst, Option, Some, None, arith}
use Rattle.std.proofs.lemmas.Slice.Eq.{bytes_eq-Decides}
use Rattle.std.specs.Prelude.{◌≢◌, ◌==◌, Bool, true, false, if◌then◌else◌, bytes_eq, find, option_map}
use Rattle.pt_guid.specs.declared.guid.Guid.{Guid}
use Rattle.pt_guid.specs.Codes as types
use Rattle.pt_report.specs.Shown.{code_of}

abbrev first_of : (ℕ × Guid) → ℕ
first_of r = r.0

-- the code of each row's type is the row's, and the type of each row's code
abbrev EachFound : List (ℕ × Guid) → Type 0
EachFound [] = Unit {0}
EachFound (r ∷ rs) = (code_of r.1.0 ≡ Some r.0) × (types.type_of r.0 ≡ Some r.1.0) × EachFound rs

all_found : EachFound types.rows
all_found = (refl, refl, (refl, refl, (refl, refl, (refl, refl, (refl, refl, (refl, refl, tt))))))

same_bytes : (a b : List ℕ) → bytes_eq a b ≡ true → a ≡ b
same_bytes a b e = grind (arith, bytes_eq-Decides)

same_some : (a b : List ℕ) → Some a ≡ Some b → a ≡ b
same_some a b e = cc

same_number : (a b : ℕ) → (a == b) ≡ true → a ≡ b
same_number a b e = grind arith

found_by : (r : ℕ × Guid) (code : ℕ) (kind : List ℕ) (rest : Option (List ℕ)) (b : Bool) → (code == r.0) ≡ b → code_of r.1.0 ≡ Some r.0
    → (rest ≡ Some kind → code_of kind ≡ Some code) → (if b then Some r.1.0 else rest) ≡ Some kind → code_of kind ≡ Some code
found_by r code kind rest true is found more e =
    subst (λ (k : List ℕ). code_of k ≡ Some code) (same_some r.1.0 kind e) (found ∙ ap Some (sym (same_number code r.0 is)))
found_by r code kind rest false is found more e = more e

code_in : (rs : List (ℕ × Guid)) → EachFound rs → (code : ℕ) (kind : List ℕ) → types.type_in rs code ≡ Some kind → code_of kind ≡ Some code
code_in [] found code kind e = cc
code_in (r ∷ rs) found code kind e =
    found_by r code kind (types.type_in rs code) (code == r.0) refl found.0 (λ more. code_in rs found.2 code kind more) e

pub code_is : (code : ℕ) (kind : List ℕ) → types.type_of code ≡ Some kind → code_of kind ≡ Some code
code_is code kind e = code_in types.rows all_found code kind e

none_by : (r : ℕ × Guid) (kind : List ℕ) (rest : Option (ℕ × Guid)) (b : Bool) → bytes_eq r.1.0 kind ≡ b → types.type_of r.0 ≡ Some r.1.0
    → ((code : ℕ) → types.type_of code ≢ Some kind) → option_map first_of rest ≡ None
    → option_map first_of (if b then Some r else rest) ≡ None
none_by r kind rest true is typed none more = absurd (none r.0 (typed ∙ ap Some (same_bytes r.1.0 kind is)))
none_by r kind rest false is typed none more = more

none_in : (rs : List (ℕ × Guid)) → EachFound rs → (kind : List ℕ) → ((code : ℕ) → types.type_of code ≢ Some kind)
    → option_map first_of (find (λ (r : ℕ × Guid). bytes_eq r.1.0 kind) rs) ≡ None
none_in [] found kind none = refl
none_in (r ∷ rs) found kind none =
    none_by r kind (find (λ (q : ℕ × Guid). bytes_eq q.1.0 kind) rs) (bytes_eq r.1.0 kind) refl found.1 none (none_in rs found.2 kind none)

pub no_code : (kind : List ℕ) → ((code : ℕ) → types.type_of code ≢ Some kind) → code_of kind ≡ None
no_code kind none = none_in types.rows all_found kind none

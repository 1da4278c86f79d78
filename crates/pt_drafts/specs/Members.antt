-- Members of objects by their names.
use Rattle.std.specs.Prelude.{ℕ, List, Bool, true, false, Option, Some, None, option_map, option_and_then, is_some, unwrap_or}
use Rattle.std.specs.Prelude.{Result, Ok, Err, bytes_eq, ◌&&◌}
use Rattle.std.specs.List.{list_any}
use Rattle.serde_json.specs.Data.{Data, Members, no_members, member}
use Rattle.serde_json.specs.Find.{as_object, as_str, get}
use Rattle.pt_drafts.specs.declared.fault.Key.{Key}

-- one step after another, up to the first fault
infixl 10 ◌>>=◌
abbrev pub ◌>>=◌ : {A B E : Type 0} → Result A E → (A → Result B E) → Result B E
Ok x >>= f = f x
Err e >>= f = Err e

-- it has to hold
abbrev pub check : Key → Bool → Result (Unit {0}) Key
check key true = Ok tt
check key false = Err key

-- it has to stand for something
abbrev pub has_value : {A : Type 0} → Key → Option A → Result (Option A) Key
has_value key None = Err key
has_value key (Some x) = Ok (Some x)

abbrev pub given_as : {A : Type 0} → (Data → Option A) → Key → Option Data → Result (Option A) Key
given_as f key None = Ok None
given_as f key (Some d) = has_value key (f d)

-- what the member of this name stands for, where the object has one: nothing else may stand there
abbrev pub given : {A : Type 0} → (Data → Option A) → List ℕ → Key → Data → Result (Option A) Key
given f name key d = given_as f key (get name d)

-- what the member of this name stands for, which has to be there
abbrev pub needed : {A : Type 0} → (Data → Option A) → List ℕ → Data → Option A
needed f name d = option_and_then f (get name d)

-- each member has one of these names
abbrev pub is_name : List (List ℕ) → List ℕ → Bool
is_name names name = list_any (λ n. bytes_eq n name) names

unfoldable pub all_named : List (List ℕ) → Members → Bool
all_named names no_members = true
all_named names (member name d ms) = is_name names name && all_named names ms

-- an object whose members all have one of these names
abbrev pub has_only : List (List ℕ) → Data → Bool
has_only names d = unwrap_or (option_map (all_named names) (as_object d)) false

-- what stands under this name, where something does, is a text
abbrev pub is_text_or_none : Option Data → Bool
is_text_or_none None = true
is_text_or_none (Some d) = is_some (as_str d)

abbrev pub is_text : List ℕ → Data → Bool
is_text name d = is_text_or_none (get name d)

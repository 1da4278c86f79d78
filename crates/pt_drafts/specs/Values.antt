-- Which values of JSON stand for a number, a text or a list.
use Rattle.std.specs.Prelude.{ℕ, List, [], ◌∷◌, Option, Some, None, option_map, option_and_then, is_some, if◌then◌else◌, nat_lt, nat_le}
use Rattle.std.specs.Prelude.{◌==◌, length}
use Rattle.std.specs.Result.{result_ok}
use Rattle.hex.specs.Hex.{decode_sized}
use Rattle.serde_json.specs.Data.{Data, Items, no_items, item}
use Rattle.serde_json.specs.Find.{as_array, as_null, as_number, as_str, as_u64}

-- a whole number, from 0 to 2^64 - 1: a larger one isn't read as whole
abbrev pub whole : Data → Option ℕ
whole d = option_and_then as_u64 (as_number d)

abbrev pub if_below : ℕ → ℕ → Option ℕ
if_below most n = if nat_lt n most then Some n else None

-- a whole number below this one
abbrev pub whole_below : ℕ → Data → Option ℕ
whole_below most d = option_and_then (if_below most) (whole d)

-- null says that there is none
abbrev pub if_not_null : {A : Type 0} → (Data → Option A) → Data → Option (Option A)
if_not_null f d = if is_some (as_null d) then Some None else option_map Some (f d)

-- n bytes, each as two hexadecimal digits of either case
abbrev pub hex_bytes : ℕ → Data → Option (List ℕ)
hex_bytes n d = option_and_then (λ text. result_ok (decode_sized text n)) (as_str d)

-- the values of an array in order
abbrev pub list_of : Items → List Data
list_of no_items = []
list_of (item d ds) = d ∷ list_of ds

abbrev pub list_in : Data → Option (List Data)
list_in d = option_map list_of (as_array d)

-- what all of a list stand for, where each of them stands for something
unfoldable pub all_of : {A B : Type 0} → (A → Option B) → List A → Option (List B)
all_of f [] = Some []
all_of f (x ∷ xs) = option_and_then (λ y. option_map (λ ys. y ∷ ys) (all_of f xs)) (f x)

-- what the values of an array of n stand for
abbrev pub if_many : {A B : Type 0} → ℕ → (A → Option B) → List A → Option (List B)
if_many n f xs = if length xs == n then all_of f xs else None

abbrev pub exactly : {A : Type 0} → ℕ → (Data → Option A) → Data → Option (List A)
exactly n f d = option_and_then (if_many n f) (list_in d)

-- what those of an array of n at most stand for
abbrev pub if_few : {A B : Type 0} → ℕ → (A → Option B) → List A → Option (List B)
if_few n f xs = if nat_le (length xs) n then all_of f xs else None

abbrev pub at_most : {A : Type 0} → ℕ → (Data → Option A) → Data → Option (List A)
at_most n f d = option_and_then (if_few n f) (list_in d)

-- what all values of an array stand for
abbrev pub each_of : {A : Type 0} → (Data → Option A) → Data → Option (List A)
each_of f d = option_and_then (all_of f) (list_in d)

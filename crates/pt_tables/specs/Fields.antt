-- Objects and arrays of JSON, by what stands in them.
use Rattle.std.specs.Prelude.{ℕ, List, [], ◌∷◌, ◌++◌, Bool, Option, Some, None, ◌-◌, ◌+◌, ◌^◌, ◌&&◌, if◌then◌else◌, codes, map}
use Rattle.std.specs.Prelude.{nat_le, nat_lt}
use Rattle.serde_json.specs.Data.{Data, number, unsigned, string, array, object, Members, no_members, put}
use Rattle.serde_json.specs.View.{items_of}

-- a name, and what stands under it
abbrev pub Field : Type 0
Field = List ℕ × Data

-- the members of an object that fields are put into
abbrev pub with_fields : List Field → Members → Members
with_fields [] ms = ms
with_fields (f ∷ fs) ms = with_fields fs (put f.0 f.1 ms)

abbrev pub object_of : List Field → Data
object_of fs = object (with_fields fs no_members)

abbrev pub array_of : List Data → Data
array_of ds = array (items_of ds)

abbrev pub num : ℕ → Data
num n = number (unsigned n)

abbrev pub nums : List ℕ → Data
nums ns = array_of (map num ns)

-- what stands for each of a list, the first of which has number n
unfoldable pub numbered : {X : Type 0} → (ℕ → X → List Data) → ℕ → List X → List Data
numbered f n [] = []
numbered f n (x ∷ xs) = f n x ++ numbered f (n + 1) xs

-- ## Where a partition ends.

-- it has as many sectors, which a number of 64 bits can say
abbrev pub has_size : ℕ → ℕ → Bool
has_size first last = nat_le first last && nat_lt (last - first) (2 ^ 64 - 1)

-- how many sectors there are from the first to the last; where that can't be said, the last one
abbrev pub end_field : ℕ → ℕ → Field
end_field first last = if has_size first last then (codes "size", num (last - first + 1)) else (codes "last", num last)

-- ## Names of types.

-- the name that is printed beside a type, where it has one
abbrev pub type_name_fields : Option (List ℕ) → List Field
type_name_fields None = []
type_name_fields (Some name) = (codes "type_name", string name) ∷ []

-- Arrays that are being filled.
use Rattle.std.specs.Prelude.{List, ◌++◌, drop, length, Option, option_map}

-- a list with others written over its beginning
abbrev pub written_over : {A : Type 0} → List A → List A → List A
written_over empty ys = ys ++ drop (length ys) empty

-- what values give, written over the beginning of a list
abbrev pub filled : {A : Type 0} → List A → Option (List A) → Option (List A)
filled empty o = option_map (written_over empty) o

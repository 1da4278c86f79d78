use Rattle.std.proofs.Common.{◌≡◌, ◌+◌, ◌++◌, ℕ, List, [], take, IfSome, Option, Some, None}
use Rattle.std.specs.Option.{option_map}
use Rattle.pt_answers.specs.declared.files.TheConstants.{MOST}
use Rattle.pt_answers.proofs.files.first_bytes.Goals as goal

-- what a reader's first bytes are, where it tells its bytes
first_of : (all : Option (List ℕ)) (n : ℕ) (read : List ℕ) → IfSome (option_map (take n) all) (λ some. read ≡ [] ++ some)
    → IfSome all (λ some. read ≡ take n some)
first_of None n read is = tt
first_of (Some some) n read is = is

pub returns-in-Ok-clause-ok : goal.returns-in-Ok-clause-ok
returns-in-Ok-clause-ok g c =
    first_of _ (MOST + 1) _ (rw (
      c.take-start.ensures.limit,
      c.take-start.ensures.inner,
      c.new-bytes.ensures.items,
    ) at c.in-Ok.ensures.bytes)

-- Entries of a GPT, and their bytes: what private contracts cite.
use Rattle.std.specs.Prelude.{ℕ, ◌+◌, List, ◌++◌, length, take, drop}

-- bytes written from place i on
unfoldable pub put_at : ℕ → List ℕ → List ℕ → List ℕ
put_at i new bytes = take i bytes ++ (new ++ drop (i + length new) bytes)

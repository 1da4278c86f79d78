-- The text of a plan: what private contracts cite.
use Rattle.std.specs.Prelude.{ℕ, List, Bool, ◌≡◌, ◌≢◌, ◌⊎◌, ◌<◌, [], ◌∷◌, ◌++◌, length, slice_index}
use Rattle.pt_apply.specs.PlanTexts.{IsWriteLine, write_line, MayFollow, IsFlushLine, LineItem, Put, Flush}
use Rattle.std.specs.Bool.{MatchBool}
use Rattle.pt_sector.specs.Sectors.{Writes}
use Rattle.pt_apply.specs.Plans.{writes_of}
use Rattle.pt_apply.specs.inner.Plans.{phases_in}
use Rattle.pt_apply.specs.declared.read.Line.{Line}
use Rattle.pt_apply.specs.declared.read.Line.TheVariants as line
use Rattle.pt_apply.specs.declared.read.Partial.{Partial}

-- ## The one text of a plan that has its digits in lower case.

-- a write that a line can hold: a sector's number of 64 bits, and b bytes
abbrev pub HasLine : ℕ → ℕ × List ℕ → Type 0
HasLine b w = IsWriteLine b (write_line w) w

-- ## A text that is being read.

-- the byte stands nowhere in the text
abbrev pub Lacks : ℕ → List ℕ → Type 0
Lacks c text = (i : ℕ) → i < length text → slice_index text i ≢ c

abbrev pub step_of : {b : _} → Line b → LineItem
step_of (line.Write w) = Put (w.lba.0, w.bytes)
step_of line.Flush = Flush

-- a line's step is added
abbrev pub Grows : ℕ → List ℕ → List Writes → Writes → List Writes → Writes → Type 0
Grows b line phases last phases' last' =
    ((w : ℕ × List ℕ) × IsWriteLine b line w × (phases' ≡ phases) × (last' ≡ last ++ w ∷ []))
    ⊎ (IsFlushLine line × (0 < length last) × (phases' ≡ phases ++ last ∷ []) × (last' ≡ []))

abbrev pub phases_read : {b : _} → Partial b → List Writes
phases_read p = phases_in p.phases.items

abbrev pub last_read : {b : _} → Partial b → Writes
last_read p = writes_of p.last.items

-- a line is added where it may come
abbrev pub TakesLine : (b : ℕ) → List ℕ → Partial b → Partial b → Bool → Type 0
TakesLine b line old new good =
    MatchBool good (Grows b line (phases_read old) (last_read old) (phases_read new) (last_read new)) (¬ MayFollow b (last_read old) line)

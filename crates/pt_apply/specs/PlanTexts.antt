-- The text of a plan.
use Rattle.std.specs.Prelude.{◌≡◌, ◌<◌, ◌^◌, ℕ, List, [], ◌∷◌, ◌++◌, Ok, map, length, All, ◌⊎◌, ◌+◌}
use Rattle.std.specs.Fmt.{decimal}
use Rattle.hex.specs.Hex.{decode_sized, encode_lower}
use Rattle.std.specs.List.{concat}
use Rattle.pt_sector.specs.Sectors.{Writes}
use Rattle.pt_apply.specs.declared.error.PlanTextError.{PlanTextError}
use Rattle.pt_apply.specs.declared.error.PlanTextError.TheVariants.{BadLine, NoFinalFlush, Memory}

-- ## The lines of a plan's text.

-- a text: lines, each ended by a newline, and a rest
abbrev pub joined : List (List ℕ) → List ℕ → List ℕ
joined [] rest = rest
joined (line ∷ lines) rest = line ++ 10 ∷ joined lines rest

-- what a line stands for: a write of a sector, or the flush that ends a phase
pub data LineItem : Type 0 where
  Put : ℕ × List ℕ → LineItem
  Flush : LineItem

-- W, the sector in decimal, and its b bytes in hexadecimal digits of either case, with one space between them
pub record IsWriteLine (b : ℕ) (line : List ℕ) (w : ℕ × List ℕ) : Type 0 where
  pub digits : List ℕ
  pub fits : w.0 < 2 ^ 64
  pub bytes : decode_sized digits b ≡ Ok w.1
  pub written : line ≡ 87 ∷ 32 ∷ (decimal w.0 ++ 32 ∷ digits)

-- F alone
abbrev pub IsFlushLine : List ℕ → Type 0
IsFlushLine line = line ≡ 70 ∷ []

abbrev pub IsLine : ℕ → List ℕ → LineItem → Type 0
IsLine b line (Put w) = IsWriteLine b line w
IsLine b line Flush = IsFlushLine line

-- the lines are these steps', one for each
abbrev pub AreLines : ℕ → List (List ℕ) → List LineItem → Type 0
AreLines b [] [] = Unit {0}
AreLines b [] (s ∷ ss) = ⊥
AreLines b (line ∷ lines) [] = ⊥
AreLines b (line ∷ lines) (s ∷ ss) = IsLine b line s × AreLines b lines ss

-- ## The one text of a plan that has its digits in lower case.

abbrev pub write_line : ℕ × List ℕ → List ℕ
write_line w = 87 ∷ 32 ∷ (decimal w.0 ++ 32 ∷ encode_lower w.1)

abbrev pub write_text : ℕ × List ℕ → List ℕ
write_text w = write_line w ++ 10 ∷ []

abbrev pub writes_text : Writes → List ℕ
writes_text ws = concat (map write_text ws)

abbrev pub phase_text : Writes → List ℕ
phase_text p = writes_text p ++ 70 ∷ 10 ∷ []

-- each phase's writes and its flush, in lower case
abbrev pub text_of : List Writes → List ℕ
text_of phases = concat (map phase_text phases)

-- ## Plans as texts.

abbrev pub puts : Writes → List LineItem
puts ws = map Put ws

-- the steps of phases: the writes of each, and the flush that ends it
abbrev pub steps_of : List Writes → List LineItem
steps_of [] = []
steps_of (p ∷ ps) = puts p ++ Flush ∷ steps_of ps

-- each phase has a write
abbrev pub NoneEmpty : List Writes → Type 0
NoneEmpty phases = All (λ (p : Writes). 0 < length p) phases

-- the lines are those of whole phases and then of some writes
pub record Begins (b : ℕ) (lines : List (List ℕ)) (phases : List Writes) (last : Writes) : Type 0 where
  pub some : NoneEmpty phases
  pub each : AreLines b lines (steps_of phases ++ puts last)

-- the text is that of a plan with these phases: whole lines alone, and no phase without its flush
pub record PlanText (b : ℕ) (phases : List Writes) (text : List ℕ) : Type 0 where
  pub lines : List (List ℕ)
  pub whole : text ≡ joined lines []
  pub begins : Begins b lines phases []

-- ## What is wrong with a text that is no plan's.

-- a line that may come after these writes of a phase: a write, or a flush where there is a write
abbrev pub MayFollow : ℕ → Writes → List ℕ → Type 0
MayFollow b last line = ((w : ℕ × List ℕ) × IsWriteLine b line w) ⊎ (IsFlushLine line × (0 < length last))

-- after lines that begin a plan there is more, and no line that may come stands there: this line is the first bad one
pub record IsBadLine (b : ℕ) (text : List ℕ) (n : ℕ) : Type 0 where
  pub lines : List (List ℕ)
  pub phases : List Writes
  pub last : Writes
  pub rest : List ℕ
  pub whole : text ≡ joined lines rest
  pub begins : Begins b lines phases last
  pub number : n ≡ length lines + 1
  pub more : 0 < length rest
  pub bad : (line after : List ℕ) → rest ≡ line ++ 10 ∷ after → ¬ MayFollow b last line

-- each line is good, and the text ends inside a phase
pub record LacksFlush (b : ℕ) (text : List ℕ) : Type 0 where
  pub lines : List (List ℕ)
  pub phases : List Writes
  pub last : Writes
  pub whole : text ≡ joined lines []
  pub begins : Begins b lines phases last
  pub more : 0 < length last

-- the fault of a text; lack of memory is none
abbrev pub IsTextFault : ℕ → List ℕ → PlanTextError → Type 0
IsTextFault b text (BadLine n) = IsBadLine b text n
IsTextFault b text NoFinalFlush = LacksFlush b text
IsTextFault b text Memory = ⊥

-- what an error says of a text
abbrev pub TextRefused : ℕ → List ℕ → PlanTextError → Type 0
TextRefused b text e = (e ≡ Memory) ⊎ IsTextFault b text e

abbrev pub error_number : PlanTextError → ℕ
error_number (BadLine _) = 1
error_number NoFinalFlush = 2
error_number Memory = 3

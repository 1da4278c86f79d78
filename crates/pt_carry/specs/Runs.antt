-- The text of runs of sectors: a line for each, its first sector and its last one, as `ptab free` prints blocks.
use Rattle.std.specs.Prelude.{◌≡◌, ◌==◌, ◌&&◌, if◌then◌else◌, ℕ, List, [], ◌∷◌, ◌+◌, ◌^◌, Option, Some, None, Result, Ok, Err, length}
use Rattle.std.specs.Prelude.{nat_le, nat_lt}
use Rattle.std.specs.Fmt.{decimal}
use Rattle.std.specs.List.{after_first, before_first, slice_split}
use Rattle.std.specs.Str.{bytes_eq}
use Rattle.std.specs.Str.Parse.{digits_value}
use Rattle.pt_sector.specs.declared.address.Extent.{Extent}
use Rattle.pt_carry.specs.declared.run_text.RunsError.{RunsError}
use Rattle.pt_carry.specs.declared.run_text.RunsError.TheVariants.{BadLine, Memory}

-- ## A line.

-- the number of at most 64 bits that a text is, in decimal digits without a zero in front
abbrev pub number_of : List ℕ → Option ℕ
number_of text =
    if nat_lt (digits_value 10 text) (2 ^ 64) && bytes_eq text (decimal (digits_value 10 text)) then Some (digits_value 10 text) else None

-- the two ends of a run, in order, the last below 2^63
abbrev pub run_between : Option ℕ → Option ℕ → Option (ℕ × ℕ)
run_between (Some first) (Some last) = if nat_le first last && nat_lt last (2 ^ 63) then Some (first, last) else None
run_between _ _ = None

-- the run of a line, by the numbers before its first space and behind it
abbrev pub run_of : List ℕ → Option (ℕ × ℕ)
run_of line = run_between (number_of (before_first (λ c. c == 32) line)) (number_of (after_first (λ c. c == 32) line))

-- ## A text.

-- the parts of a text between its newlines: its lines, and what is behind the last newline
abbrev pub parts : List ℕ → List (List ℕ)
parts text = slice_split (λ c. c == 10) text

-- a line's run before those that follow, where all of them are runs; n is the line's number
abbrev pub with_run : ℕ → Option (ℕ × ℕ) → Result (List (ℕ × ℕ)) ℕ → Result (List (ℕ × ℕ)) ℕ
with_run n None more = Err n
with_run n (Some run) (Ok runs) = Ok (run ∷ runs)
with_run n (Some run) (Err bad) = Err bad

-- the runs of these parts, or the number of the first one that is none, where the first of all has the number n; the last part is to
-- be empty
abbrev pub runs_in : ℕ → List (List ℕ) → Result (List (ℕ × ℕ)) ℕ
runs_in n [] = Ok []
runs_in n (rest ∷ []) = if length rest == 0 then Ok [] else Err n
runs_in n (line ∷ next ∷ more) = with_run n (run_of line) (runs_in (n + 1) (next ∷ more))

-- the runs of a text, or the number of its first line, from 1, that isn't a run's, or that no newline ends
abbrev pub runs_of : List ℕ → Result (List (ℕ × ℕ)) ℕ
runs_of text = runs_in 1 (parts text)

-- ## What a call reads.

abbrev pub ends_of : Extent → ℕ × ℕ
ends_of run = (run.first, run.last)

-- why a text gives no runs; memory may always be refused
abbrev pub HasNoRuns : List ℕ → RunsError → Type 0
HasNoRuns text (BadLine n) = runs_of text ≡ Err n
HasNoRuns text Memory = Unit {0}

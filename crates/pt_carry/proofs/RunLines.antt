-- The text of runs, a line at a time.
use Rattle.std.proofs.Common.{◌≡◌, ◌∙◌, ◌<◌, ◌+◌, ◌^◌, ◌&&◌, ◌==◌, ℕ, List, [], ◌∷◌, ◌++◌, length, drop, map, Bool, true, false}
use Rattle.std.proofs.Common.{length-append}
use Rattle.std.proofs.Common.{Option, Some, None, Result, Ok, Err, Bor, refl, sym, ap, arith, lit<, append_assoc, eqb, get_or, ◌≢◌, not}
use Rattle.std.specs.Prelude.{IfNone, IfSome, if◌then◌else◌, nat_lt, count_by}
use Rattle.std.specs.Fmt.{decimal}
use Rattle.std.specs.List.{after_first, before_first, position_or_len}
use Rattle.std.specs.Option.{MatchOption}
use Rattle.std.specs.Str.{bytes_eq}
use Rattle.std.specs.Str.Parse.{digits_value}
use Rattle.std.proofs.lemmas.Bool.{lt-ltb, ltb-true, ne_eqb}
use Rattle.std.proofs.lemmas.Fmt.{decimal_is_IsNumeral, decimal_nonempty}
use Rattle.std.proofs.lemmas.List.{append-nil, drop_all, map-append}
use Rattle.std.proofs.lemmas.List.Elements.{All-from_get_or}
use Rattle.std.proofs.lemmas.List.Splits.{length-slice_split, slice_split_first, slice_split_none}
use Rattle.std.proofs.lemmas.Slice.Eq.{bytes_eq-Decides}
use Rattle.std.proofs.lemmas.Str.Pattern.{IsSplitOnceResult, split_once_first, split_parts}
use Rattle.pt_path.specs.Paths.{IsNumber}
use Rattle.pt_sector.specs.declared.address.Extent.{Extent}
use Rattle.pt_carry.specs.Runs.{ends_of, number_of, parts, run_between, run_of, runs_in, runs_of, with_run}

-- ## A number.

abbrev number_by : List ℕ → ℕ → Option ℕ
number_by text n = if nat_lt n (2 ^ 64) && bytes_eq text (decimal n) then Some n else None

both : (a b : Bool) (n : ℕ) → a ≡ true → b ≡ true → (if a && b then Some n else None) ≡ Some n
both true true n x y = refl
both true false n x y = cc y
both false b n x y = cc x

number_is : (text : List ℕ) (n : ℕ) → IsNumber text n → number_of text ≡ Some n
number_is text n is =
    let value : digits_value 10 text ≡ n = ap (digits_value 10) is.digits ∙ (decimal_is_IsNumeral n is.fits).1 in
    ap (number_by text) value
    ∙ both _ _ n (lt-ltb n (2 ^ 64) is.fits) ((bytes_eq-Decides text (decimal n)).1 is.digits)

no_number_by : (text : List ℕ) (n : ℕ) → ¬ IsNumber text n → number_by text n ≡ None
no_number_by text n none = go (nat_lt n (2 ^ 64)) refl (bytes_eq text (decimal n)) refl
  where
    go : (a : Bool) → nat_lt n (2 ^ 64) ≡ a → (b : Bool) → bytes_eq text (decimal n) ≡ b → (if a && b then Some n else None) ≡ None
    go true fits true same =
        absurd (none (record { fits = ltb-true n (2 ^ 64) fits; digits = (bytes_eq-Decides text (decimal n)).0 same }))
    go true fits false same = refl
    go false fits b same = refl

no_number : (text : List ℕ) → ((n : ℕ) → ¬ IsNumber text n) → number_of text ≡ None
no_number text none = no_number_by text (digits_value 10 text) (none (digits_value 10 text))

pub number_told : (text : List ℕ) (r : Option ℕ) → IfSome r (IsNumber text) → IfNone r ((n : ℕ) → ¬ IsNumber text n)
    → r ≡ number_of text
number_told text (Some n) some none = sym (number_is text n some)
number_told text None some none = sym (no_number text none)

-- ## A line.

no_last : (first : Option ℕ) → run_between first None ≡ None
no_last None = refl
no_last (Some n) = refl

no_digits : number_of [] ≡ None
no_digits = no_number_by [] 0 (λ is.
    let len = ap (λ (t : List ℕ). length t) is.digits in
    let some = decimal_nonempty 0 is.fits in
    omega (arith, len, some))

at_none : (P : Type 0) (Q : Bor (List ℕ) × Bor (List ℕ) → Type 0) → MatchOption None P Q → P
at_none P Q h = h

-- a line without a space is no run
pub no_run : (line : List ℕ) → IsSplitOnceResult 32 line None → run_of line ≡ None
no_run line h =
    let none : position_or_len (λ c. eqb c 32) line ≡ length line = split_once_first 32 line None h (lit< tt) in
    let behind : after_first (λ c. eqb c 32) line ≡ [] =
    ap (λ (i : ℕ). drop (i + 1) line) none ∙ drop_all (length line + 1) line (omega arith) in
    ap (λ (text : List ℕ). run_between (number_of (before_first (λ c. eqb c 32) line)) (number_of text)) behind
    ∙ (ap (run_between _) no_digits ∙ no_last _)

-- ## Lines.

-- what a cut at the first newline says of the parts
abbrev Cut : List ℕ → Option (Bor (List ℕ) × Bor (List ℕ)) → Type 0
Cut text r = MatchOption r (parts text ≡ text ∷ []) (λ x. parts text ≡ x.0.now ∷ parts x.1.now)

cut_by : (text : List ℕ) (r : Option (Bor (List ℕ) × Bor (List ℕ)))
    → MatchOption r (position_or_len (λ b. eqb b 10) text ≡ length text)
    (λ x. (position_or_len (λ b. eqb b 10) text < length text) × (x.0.now ≡ before_first (λ b. eqb b 10) text)
    × (x.1.now ≡ after_first (λ b. eqb b 10) text))
    → MatchOption r ((i : ℕ) → i < length text → get_or text i 0 ≢ 10)
    (λ x. (text ≡ x.0.now ++ 10 ∷ x.1.now) × ((i : ℕ) → i < length x.0.now → get_or x.0.now i 0 ≢ 10)) → Cut text r
cut_by text None h none =
    slice_split_none (λ b. eqb b 10) text (All-from_get_or (λ x. eqb x 10 ≡ false) text 0
    (λ i within. ne_eqb (get_or text i 0) 10 (none i within)))
cut_by text (Some x) h both = slice_split_first (λ b. eqb b 10) text 0 h.0 ∙ (rw (h.1, h.2) refl)

cut : (text : List ℕ) (r : Option (Bor (List ℕ) × Bor (List ℕ))) → IsSplitOnceResult 10 text r → Cut text r
cut text r h = cut_by text r (split_once_first 10 text r h (lit< tt)) (split_parts 10 text r h (lit< tt))

-- a cut leaves a text
pub whole : (text : List ℕ) (line after : Bor (List ℕ)) → IsSplitOnceResult 10 text (Some (line, after)) → text ≡ line.now ++ 10 ∷ after.now
whole text line after h = (split_parts 10 text (Some (line, after)) h (lit< tt)).0

-- runs before what is read behind them
abbrev pub behind : List (ℕ × ℕ) → Result (List (ℕ × ℕ)) ℕ → Result (List (ℕ × ℕ)) ℕ
behind runs (Ok more) = Ok (runs ++ more)
behind runs (Err n) = Err n

-- a text of which these runs were read, and this is left
abbrev pub IsRead : List ℕ → List Extent → List ℕ → Type 0
IsRead text runs rest = runs_of text ≡ behind (map ends_of runs) (runs_in (length runs + 1) (parts rest))

behind_none : (r : Result (List (ℕ × ℕ)) ℕ) → r ≡ behind [] r
behind_none (Ok runs) = refl
behind_none (Err n) = refl

pub begins : (text : List ℕ) → IsRead text [] text
begins text = behind_none (runs_of text)

one_more : (runs : List (ℕ × ℕ)) (n : ℕ) (run : ℕ × ℕ) (r : Result (List (ℕ × ℕ)) ℕ)
    → behind runs (with_run n (Some run) r) ≡ behind (runs ++ run ∷ []) r
one_more runs n run (Ok more) = ap Ok (sym (append_assoc runs (run ∷ []) more))
one_more runs n run (Err m) = refl

first_of : (n k : ℕ) (line : List ℕ) (more : List (List ℕ)) → length more ≡ k + 1
    → runs_in n (line ∷ more) ≡ with_run n (run_of line) (runs_in (n + 1) more)
first_of n k line [] some = absurd (omega (arith, some))
first_of n k line (next ∷ more) some = refl

-- the first of the parts is a line
line_first : (n : ℕ) (text : List ℕ) (line after : Bor (List ℕ)) → IsSplitOnceResult 10 text (Some (line, after))
    → runs_in n (parts text) ≡ with_run n (run_of line.now) (runs_in (n + 1) (parts after.now))
line_first n text line after h =
    ap (runs_in n) (cut text (Some (line, after)) h)
    ∙ first_of n (count_by (λ c. eqb c 10) after.now) line.now (parts after.now) (length-slice_split (λ c. eqb c 10) after.now)

-- a line that is a run's
pub takes : (text rest : List ℕ) (line after : Bor (List ℕ)) (runs new : List Extent) (run : Extent)
    → IsSplitOnceResult 10 rest (Some (line, after)) → Some (ends_of run) ≡ run_of line.now → new ≡ runs ++ run ∷ []
    → IsRead text runs rest → IsRead text new after.now
takes text rest line after runs new run h is pushed read =
    let all = ap (λ (l : List Extent). length l) pushed ∙ length-append runs (run ∷ []) in
    let count : length runs + 1 + 1 ≡ length new + 1 = omega (arith, all) in
    read ∙ (ap (behind (map ends_of runs)) (line_first (length runs + 1) rest line after h
    ∙ ap (λ (o : Option (ℕ × ℕ)). with_run (length runs + 1) o (runs_in (length runs + 1 + 1) (parts after.now))) (sym is))
    ∙ (one_more (map ends_of runs) (length runs + 1) (ends_of run) (runs_in (length runs + 1 + 1) (parts after.now))
    ∙ (ap (λ (l : List (ℕ × ℕ)). behind l (runs_in (length runs + 1 + 1) (parts after.now)))
    (sym (map-append ends_of runs (run ∷ [])) ∙ ap (map ends_of) (sym pushed))
    ∙ ap (λ (n : ℕ). behind (map ends_of new) (runs_in n (parts after.now))) count)))

-- and one that isn't
pub stops : (text rest : List ℕ) (line after : Bor (List ℕ)) (runs : List Extent)
    → IsSplitOnceResult 10 rest (Some (line, after)) → None ≡ run_of line.now → IsRead text runs rest
    → runs_of text ≡ Err (length runs + 1)
stops text rest line after runs h none read =
    read ∙ ap (behind (map ends_of runs)) (line_first (length runs + 1) rest line after h
    ∙ ap (λ (o : Option (ℕ × ℕ)). with_run (length runs + 1) o (runs_in (length runs + 1 + 1) (parts after.now))) (sym none))

-- the end of the text, where no newline is left
pub ends : (text rest : List ℕ) (runs : List Extent) → IsSplitOnceResult 10 rest None → IsRead text runs rest
    → (length rest == 0) ≡ true → runs_of text ≡ Ok (map ends_of runs)
ends text rest runs h read none =
    read ∙ ap (behind (map ends_of runs)) (ap (runs_in (length runs + 1)) (cut rest None h)
    ∙ ap (λ (t : Bool). if t then Ok [] else Err (length runs + 1)) none)
    ∙ ap Ok (append-nil (map ends_of runs))

pub unended : (text rest : List ℕ) (runs : List Extent) → IsSplitOnceResult 10 rest None → IsRead text runs rest
    → (length rest == 0) ≡ false → runs_of text ≡ Err (length runs + 1)
unended text rest runs h read more =
    read ∙ ap (behind (map ends_of runs)) (ap (runs_in (length runs + 1)) (cut rest None h)
    ∙ ap (λ (t : Bool). if t then Ok [] else Err (length runs + 1)) more)

-- what was pushed, where memory wasn't refused
if_yes : (ok : Bool) (old more : List Extent) → ok ≡ true → (if ok then more else old) ≡ more
if_yes true old more is = refl
if_yes false old more is = cc is

pub pushed : (ok failed : Bool) (old more new : List Extent) → ok ≡ not failed → failed ≡ false → new ≡ (if ok then more else old)
    → new ≡ more
pushed ok failed old more new told none grown = grown ∙ if_yes ok old more (told ∙ ap not none)

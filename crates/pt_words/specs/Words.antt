-- Words of an edit: what they mean, and their texts.
use Rattle.std.specs.Prelude.{ℕ, ◌≡◌, ◌-◌, ◌^◌, ◌==◌, ◌&&◌, nat_le, nat_lt, not, if◌then◌else◌, List, [], ◌∷◌, length, drop, slice_index}
use Rattle.std.specs.Prelude.{codes, Option, Some, None, ok_or, Result, Ok, Err}
use Rattle.std.specs.Char.{digit_value}
use Rattle.std.specs.Fmt.{decimal}
use Rattle.std.specs.List.{slice_split, join_with_byte, list_all}
use Rattle.std.specs.Str.{byte, bytes_eq}
use Rattle.std.specs.Str.Parse.{digits_value}
use Rattle.std.specs.String.{string_bytes}
use Rattle.pt_guid.specs.Guids.{stored_of}
use Rattle.pt_guid.specs.declared.guid.Guid.{Guid}
use Rattle.pt_path.specs.declared.path.Path.{Path}
use Rattle.pt_words.specs.declared.error.EditError.{EditError}
use Rattle.pt_words.specs.declared.error.EditError.TheVariants.{UnknownLetter, FieldCount, NotANumber, NotAGuid, NotACode}
use Rattle.pt_words.specs.declared.error.EditError.TheVariants as error
use Rattle.pt_words.specs.declared.error.Refusal.{Refusal}
use Rattle.pt_words.specs.declared.error.Refusal.TheVariants as refusal
use Rattle.pt_words.specs.declared.word.Code.{Code}
use Rattle.pt_words.specs.declared.word.Code.TheVariants.{Two, Four}
use Rattle.pt_words.specs.declared.word.Edit.{Edit}
use Rattle.pt_words.specs.declared.word.Edit.TheVariants.{Align, New, Delete, SetKind, SetName, SetUnique, SetDisk, SetBit, Extend, ToGpt}
use Rattle.pt_words.specs.declared.word.Edit.TheVariants.{Empty}
use Rattle.pt_words.specs.declared.word.End.{End}
use Rattle.pt_words.specs.declared.word.End.TheVariants.{Block, Length, At}

-- ## The numbers that stand for errors and refusals in what is printed.

abbrev pub error_number : EditError → ℕ
error_number UnknownLetter = 1
error_number FieldCount = 2
error_number NotANumber = 3
error_number NotAGuid = 4
error_number NotACode = 5
error_number error.Memory = 6

abbrev pub refusal_number : Refusal → ℕ
refusal_number refusal.NoSuchPartition = 1
refusal_number refusal.NumberTaken = 2
refusal_number refusal.NoSpace = 3
refusal_number refusal.OutsideUsable = 4
refusal_number refusal.Overlap = 5
refusal_number refusal.UnknownCode = 6
refusal_number refusal.NameTooLong = 7
refusal_number refusal.ContainerType = 8
refusal_number refusal.NotForThisTable = 9
refusal_number refusal.NoFreshGuid = 10
refusal_number refusal.SameGuid = 11
refusal_number refusal.NoRoomForGpt = 12
refusal_number refusal.ForeignLabel = 13
refusal_number refusal.Memory = 14
refusal_number refusal.LabelOffset = 15

-- ## Edit words as texts: their fields stand between colons, the first is a letter.

-- the parts of a text between its colons
abbrev pub fields : List ℕ → List (List ℕ)
fields text = slice_split (λ b. b == byte ":") text

-- an error ends the reading of a word
infixl 10 ◌>>=◌
abbrev pub ◌>>=◌ : {A B : Type 0} → Result A EditError → (A → Result B EditError) → Result B EditError
Err e >>= f = Err e
Ok x >>= f = f x

-- ## What a field says, or the error that it is.

-- the greatest number of 64 bits
abbrev pub greatest : ℕ
greatest = 2 ^ 64 - 1

-- a number in a range, in decimal digits without a zero in front
unfoldable pub number_in : ℕ → ℕ → List ℕ → Result ℕ EditError
number_in least most text =
    let n = digits_value 10 text in if bytes_eq text (decimal n) && (nat_le least n && nat_le n most) then Ok n else Err NotANumber

-- a letter from a to h, as the number from 0 to 7
unfoldable pub letter_in : List ℕ → Result ℕ EditError
letter_in (l ∷ []) = if nat_le (byte "a") l && nat_le l (byte "h") then Ok (l - byte "a") else Err NotANumber
letter_in _ = Err NotANumber

-- by its parts: a number, or a number and a letter
unfoldable pub path_of : List (List ℕ) → Result Path EditError
path_of (digits ∷ []) = do
  number ← number_in 1 greatest digits
  Ok (record { number = number; letter = None })
path_of (digits ∷ letter ∷ []) = do
  number ← number_in 1 greatest digits
  l ← letter_in letter
  Ok (record { number = number; letter = Some l })
path_of _ = Err NotANumber

-- a path; a dot stands before its letter
unfoldable pub path_in : List ℕ → Result Path EditError
path_in text = path_of (slice_split (λ b. b == byte ".") text)

-- the number of a new partition: a path, or 0 for the lowest that is free
unfoldable pub new_path_in : List ℕ → Result Path EditError
new_path_in text = if bytes_eq text (codes "0") then Ok (record { number = 0; letter = None }) else path_in text

-- where a new partition ends: 0 for the block's end, a plus and a length, or a sector
unfoldable pub end_in : List ℕ → Result End EditError
end_in text =
    if bytes_eq text (codes "0") then Ok Block
    else if slice_index text 0 == byte "+" then (number_in 1 greatest (drop 1 text) >>= λ count. Ok (Length count))
    else (number_in 1 greatest text >>= λ sector. Ok (At sector))

-- a type's code: two hexadecimal digits of either case, or four
unfoldable pub code_in : List ℕ → Result Code EditError
code_in text =
    if not (list_all (λ c. nat_lt (digit_value c) 16) text) then Err NotACode
    else if length text == 2 then Ok (Two (digits_value 16 text))
    else if length text == 4 then Ok (Four (digits_value 16 text))
    else Err NotACode

unfoldable pub guid_in : List ℕ → Result Guid EditError
guid_in text = do
  stored ← ok_or (stored_of text) NotAGuid
  Ok (record { 0 = stored })

-- ## So many fields, and no others.

abbrev pub one_of : List (List ℕ) → Result (List ℕ) EditError
one_of (f ∷ []) = Ok f
one_of _ = Err FieldCount

abbrev pub two_of : List (List ℕ) → Result (List ℕ × List ℕ) EditError
two_of (f ∷ g ∷ []) = Ok (f, g)
two_of _ = Err FieldCount

abbrev pub three_of : List (List ℕ) → Result (List ℕ × List ℕ × List ℕ) EditError
three_of (f ∷ g ∷ h ∷ []) = Ok (f, g, h)
three_of _ = Err FieldCount

-- ## What the fields behind a letter say: first how many there are is judged, and then each from the left.

-- what a word says: where it names a partition its number and the bytes of the name, wherever in memory these lie, else the word itself
pub data Said : Type 0 where
  naming : ℕ → List ℕ → Said
  plain : Edit → Said

abbrev pub said : Edit → Said
said (SetName number name) = naming number (string_bytes name)
said w = plain w

-- `a:K`
unfoldable pub align_of : List (List ℕ) → Result Said EditError
align_of rest = do
  f ← one_of rest
  sectors ← number_in 1 65536 f
  Ok (plain (Align sectors))

-- `n:NUM:START:END[:CODE]`
abbrev pub place_of : List (List ℕ) → Result (List ℕ × List ℕ × List ℕ × Option (List ℕ)) EditError
place_of (f ∷ g ∷ h ∷ []) = Ok (f, g, h, None)
place_of (f ∷ g ∷ h ∷ i ∷ []) = Ok (f, g, h, Some i)
place_of _ = Err FieldCount

unfoldable pub code_or_none : Option (List ℕ) → Result (Option Code) EditError
code_or_none None = Ok None
code_or_none (Some f) = do
  code ← code_in f
  Ok (Some code)

unfoldable pub new_of : List (List ℕ) → Result Said EditError
new_of rest = do
  (p, s, e, c) ← place_of rest
  path ← new_path_in p
  start ← number_in 0 greatest s
  end ← end_in e
  code ← code_or_none c
  Ok (plain (New path start end code))

-- `d:PATH`
unfoldable pub delete_of : List (List ℕ) → Result Said EditError
delete_of rest = do
  f ← one_of rest
  path ← path_in f
  Ok (plain (Delete path))

-- `t:PATH:CODE`
unfoldable pub kind_of : List (List ℕ) → Result Said EditError
kind_of rest = do
  (f, g) ← two_of rest
  path ← path_in f
  code ← code_in g
  Ok (plain (SetKind path code))

-- `c:NUM:NAME`: the name is the rest of the text, colons too
abbrev pub named_of : List (List ℕ) → Result (List ℕ × List ℕ) EditError
named_of (f ∷ g ∷ others) = Ok (f, join_with_byte (byte ":") (g ∷ others))
named_of _ = Err FieldCount

unfoldable pub name_of : List (List ℕ) → Result Said EditError
name_of rest = do
  (f, name) ← named_of rest
  number ← number_in 1 greatest f
  Ok (naming number name)

-- `u:NUM:GUID`
unfoldable pub unique_of : List (List ℕ) → Result Said EditError
unique_of rest = do
  (f, g) ← two_of rest
  number ← number_in 1 greatest f
  guid ← guid_in g
  Ok (plain (SetUnique number guid))

-- `U:GUID`
unfoldable pub disk_of : List (List ℕ) → Result Said EditError
disk_of rest = do
  f ← one_of rest
  guid ← guid_in f
  Ok (plain (SetDisk guid))

-- `A:NUM:BIT:V`
unfoldable pub bit_of : List (List ℕ) → Result Said EditError
bit_of rest = do
  (f, g, h) ← three_of rest
  number ← number_in 1 greatest f
  bit ← number_in 0 63 g
  value ← number_in 0 1 h
  Ok (plain (SetBit number bit (value == 1)))

-- `e`, `g` and `o`: the letter stands alone
unfoldable pub alone : Edit → List (List ℕ) → Result Said EditError
alone w [] = Ok (said w)
alone w _ = Err FieldCount

-- ## What a text says by its fields: the letter is judged before the fields behind it.

unfoldable pub word_with : ℕ → List (List ℕ) → Result Said EditError
word_with letter rest =
    if letter == byte "a" then align_of rest
    else if letter == byte "n" then new_of rest
    else if letter == byte "d" then delete_of rest
    else if letter == byte "t" then kind_of rest
    else if letter == byte "c" then name_of rest
    else if letter == byte "u" then unique_of rest
    else if letter == byte "U" then disk_of rest
    else if letter == byte "A" then bit_of rest
    else if letter == byte "e" then alone Extend rest
    else if letter == byte "g" then alone ToGpt rest
    else if letter == byte "o" then alone Empty rest
    else Err UnknownLetter

-- the word that a text with these fields is, or the error that is reported
unfoldable pub word_of : List (List ℕ) → Result Said EditError
word_of ((letter ∷ []) ∷ rest) = word_with letter rest
word_of _ = Err UnknownLetter

-- the fields are this word's
abbrev pub IsWord : List (List ℕ) → Edit → Type 0
IsWord fs w = word_of fs ≡ Ok (said w)

-- a text with these fields is no word for this reason
abbrev pub IsWordFault : List (List ℕ) → EditError → Type 0
IsWordFault fs e = word_of fs ≡ Err e

-- the word names a partition, which takes memory
abbrev pub IsNaming : Result Said EditError → Type 0
IsNaming meant = (number : ℕ) × (name : List ℕ) × (meant ≡ Ok (naming number name))

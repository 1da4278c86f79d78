-- No text's fault is lack of memory.
use Rattle.std.specs.Prelude.{◌≡◌, ℕ, Bool, true, false, cond, List, [], ◌∷◌, Option, Some, None, ok_or, Result, Ok, Err}
use Rattle.std.specs.Prelude.{not}
use Rattle.std.proofs.Common.{ap}
use Rattle.pt_words.specs.Words.{◌>>=◌, number_in, letter_in, path_of, path_in, new_path_in, end_in, code_in, guid_in, one_of, two_of}
use Rattle.pt_words.specs.Words.{three_of, align_of, place_of, code_or_none, new_of, delete_of, kind_of, named_of, name_of, unique_of}
use Rattle.pt_words.specs.Words.{disk_of, bit_of, alone, word_with, word_of, IsWordFault}
use Rattle.pt_words.specs.declared.error.EditError.{EditError}
use Rattle.pt_words.specs.declared.error.EditError.TheVariants.{Memory, UnknownLetter, FieldCount, NotANumber, NotAGuid, NotACode}
use Rattle.pt_words.specs.declared.word.Edit.{Edit}

-- it isn't lack of memory
record Real {A : Type 0} (r : Result A EditError) : Type 0 where
  pub not : r ≡ Err Memory → ⊥

of : {A : Type 0} (x : A) → Real (Ok x)
of x = record { not = λ is. absurd cc }

refused : {A : Type 0} (e : EditError) → (e ≡ Memory → ⊥) → Real {A = A} (Err e)
refused e not = record { not = λ is. not cc }

steps : {A B : Type 0} (r : Result A EditError) (f : A → Result B EditError) → Real r → ((x : A) → Real (f x)) → Real (r >>= f)
steps (Ok x) f now next = next x
steps {A} (Err e) f now next = refused e (λ same. now.not (ap (λ (x : EditError). Err x) same))

given : {A : Type 0} (o : Option A) (e : EditError) → (e ≡ Memory → ⊥) → Real (ok_or o e)
given None e not = refused e not
given (Some x) e not = of x

either : {A : Type 0} (b : Bool) (r q : Result A EditError) → Real r → Real q → Real (cond b r q)
either true r q one two = one
either false r q one two = two

letter : UnknownLetter ≡ Memory → ⊥
letter e = absurd cc

count : FieldCount ≡ Memory → ⊥
count e = absurd cc

number : NotANumber ≡ Memory → ⊥
number e = absurd cc

guid : NotAGuid ≡ Memory → ⊥
guid e = absurd cc

code : NotACode ≡ Memory → ⊥
code e = absurd cc

ruleset real = (steps, given, either, of, refused, letter, count, number, guid, code)

number_real : (least most : ℕ) (text : List ℕ) → Real (number_in least most text)
unfolding number_in
number_real least most text = search real

letter_real : (text : List ℕ) → Real (letter_in text)
unfolding letter_in
letter_real [] = search real
letter_real (c ∷ []) = search real
letter_real (c ∷ d ∷ bytes) = search real

path_real : (parts : List (List ℕ)) → Real (path_of parts)
unfolding path_of
path_real [] = search real
path_real (f ∷ []) = search (real, number_real)
path_real (f ∷ g ∷ []) = search (real, number_real, letter_real)
path_real (f ∷ g ∷ h ∷ parts) = search real

path_in_real : (text : List ℕ) → Real (path_in text)
unfolding path_in
path_in_real text = path_real _

new_path_real : (text : List ℕ) → Real (new_path_in text)
unfolding new_path_in
new_path_real text = search (real, path_in_real)

end_real : (text : List ℕ) → Real (end_in text)
unfolding end_in
end_real text = search (real, number_real) depth 30

code_real : (text : List ℕ) → Real (code_in text)
unfolding code_in
code_real text = search real depth 30

guid_real : (text : List ℕ) → Real (guid_in text)
unfolding guid_in
guid_real text = search real

one_real : (fs : List (List ℕ)) → Real (one_of fs)
one_real [] = search real
one_real (f ∷ []) = search real
one_real (f ∷ g ∷ fs) = search real

two_real : (fs : List (List ℕ)) → Real (two_of fs)
two_real [] = search real
two_real (f ∷ []) = search real
two_real (f ∷ g ∷ []) = search real
two_real (f ∷ g ∷ h ∷ fs) = search real

three_real : (fs : List (List ℕ)) → Real (three_of fs)
three_real [] = search real
three_real (f ∷ []) = search real
three_real (f ∷ g ∷ []) = search real
three_real (f ∷ g ∷ h ∷ []) = search real
three_real (f ∷ g ∷ h ∷ i ∷ fs) = search real

place_real : (fs : List (List ℕ)) → Real (place_of fs)
place_real [] = search real
place_real (f ∷ []) = search real
place_real (f ∷ g ∷ []) = search real
place_real (f ∷ g ∷ h ∷ []) = search real
place_real (f ∷ g ∷ h ∷ i ∷ []) = search real
place_real (f ∷ g ∷ h ∷ i ∷ j ∷ fs) = search real

named_real : (fs : List (List ℕ)) → Real (named_of fs)
named_real [] = search real
named_real (f ∷ []) = search real
named_real (f ∷ g ∷ fs) = search real

or_none_real : (o : Option (List ℕ)) → Real (code_or_none o)
unfolding code_or_none
or_none_real None = search real
or_none_real (Some f) = search (real, code_real)

alone_real : (w : Edit) (fs : List (List ℕ)) → Real (alone w fs)
unfolding alone
alone_real w [] = search real
alone_real w (f ∷ fs) = search real

ruleset parts = (
  number_real,
  path_in_real,
  new_path_real,
  end_real,
  code_real,
  guid_real,
  one_real,
  two_real,
  three_real,
  place_real,
  named_real,
  or_none_real,
  alone_real,
)

with_real : (l : ℕ) (rest : List (List ℕ)) → Real (word_with l rest)
unfolding word_with align_of new_of delete_of kind_of name_of unique_of disk_of bit_of
with_real l rest = search (real, parts) depth 60 fits 8000

word_real : (fs : List (List ℕ)) → Real (word_of fs)
unfolding word_of
word_real [] = search real
word_real ([] ∷ rest) = search real
word_real ((l ∷ []) ∷ rest) = with_real l rest
word_real ((l ∷ m ∷ bytes) ∷ rest) = search real

pub memory_is_no_fault_lem : (fs : List (List ℕ)) → ¬ IsWordFault fs Memory
memory_is_no_fault_lem fs = (word_real fs).not

-- What is printed of a text that is no word, and of a word that is refused.
use Rattle.std.specs.Prelude.{ℕ, List, codes}
use Rattle.pt_words.specs.declared.error.EditError.{EditError}
use Rattle.pt_words.specs.declared.error.EditError.TheVariants as error
use Rattle.pt_words.specs.declared.error.Refusal.{Refusal}
use Rattle.pt_words.specs.declared.error.Refusal.TheVariants as refused

abbrev pub edit_error_sentence : EditError → List ℕ
edit_error_sentence error.UnknownLetter = codes "another letter than a word's"
edit_error_sentence error.FieldCount = codes "another number of fields"
edit_error_sentence error.NotANumber = codes "a number or a path that is none, or out of range"
edit_error_sentence error.NotAGuid = codes "not a GUID"
edit_error_sentence error.NotACode = codes "a code that isn't two or four hexadecimal digits"
edit_error_sentence error.Memory = codes "out of memory"

abbrev pub refusal_sentence : Refusal → List ℕ
refusal_sentence refused.NoSuchPartition = codes "no such partition"
refusal_sentence refused.NumberTaken = codes "the number is taken"
refusal_sentence refused.NoSpace = codes "no space"
refusal_sentence refused.OutsideUsable = codes "outside the usable sectors"
refusal_sentence refused.Overlap = codes "it would share a sector with another"
refusal_sentence refused.UnknownCode = codes "not a type code there"
refusal_sentence refused.NameTooLong = codes "a name over 36 units"
refusal_sentence refused.ContainerType = codes "not with a container"
refusal_sentence refused.NotForThisTable = codes "the word isn't for this kind of table"
refusal_sentence refused.NoFreshGuid = codes "no fresh GUID is left"
refusal_sentence refused.SameGuid = codes "another partition has this GUID"
refusal_sentence refused.NoRoomForGpt = codes "the disk has no room for a GPT"
refusal_sentence refused.ForeignLabel = codes "a letter in a slice without a label"
refusal_sentence refused.Memory = codes "out of memory"
refusal_sentence refused.LabelOffset = codes "the offset doesn't fit a label that counts sectors of the disk"

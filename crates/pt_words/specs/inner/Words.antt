-- Words of an edit: what they mean, and their texts: what private contracts cite.
use Rattle.std.specs.Prelude.{◌≡◌, ◌⊎◌, ℕ, List, [], Option, Some, None, Result, Ok, Err}
use Rattle.pt_words.specs.Words.{fields, Said, said, IsNaming}
use Rattle.pt_words.specs.declared.error.EditError.{EditError}
use Rattle.pt_words.specs.declared.error.EditError.TheVariants.{Memory}
use Rattle.pt_words.specs.declared.word.Edit.{Edit}

-- the fields of a text where there may be none, and then no field
abbrev pub fields_after : Option (List ℕ) → List (List ℕ)
fields_after None = []
fields_after (Some text) = fields text

-- the answer is what is meant, or there was no memory for the name that is meant
abbrev pub Answers : Result Said EditError → Result Edit EditError → Type 0
Answers meant (Ok w) = meant ≡ Ok (said w)
Answers meant (Err e) = (meant ≡ Err e) ⊎ ((e ≡ Memory) × IsNaming meant)

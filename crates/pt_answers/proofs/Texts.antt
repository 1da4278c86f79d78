-- What is said: the answer to a plan that was made, its text or lack of memory for it; and nothing.
use Rattle.std.proofs.Common.{◌≡◌, ◌∙◌, ◌++◌, List, ℕ, ap, append_assoc, codes, sym, refl, Ok, Err, Some, None}
use Rattle.std.specs.Prelude.{IfSome, Option, Result, decimal}
use Rattle.std.specs.Io.KnownBytes.{Appends, Keeps}
use Rattle.std.specs.Option.{option_map}
use Rattle.std.proofs.KnownBytes.{Appends-trans}
use Rattle.pt_sector.specs.Sectors.{Writes}
use Rattle.pt_report.specs.declared.reply.Reply.{Reply}
use Rattle.pt_answers.specs.inner.Answers.{IsTextOrMemory}
use Rattle.pt_answers.specs.Answers.{Plans}
use Rattle.pt_answers.specs.Sentences.{bad_line_sentence}
use Rattle.pt_answers.specs.declared.failure.Failure.{Failure}
use Rattle.pt_answers.specs.declared.failure.Failure.TheVariants.{Memory}

pub text_told : {E : Type 0} (b : ℕ) (Holds : List Writes → Type 0) (Explains : E → Type 0) (told : E
    → Failure) (e : E) (phases : List Writes)
    (r : Result Reply Failure) → Holds phases → Explains e → told e ≡ Memory → IsTextOrMemory b phases r → Plans b Holds Explains told r
text_told b Holds Explains told e phases (Ok reply) holds explains same is = (phases, holds, is)
text_told b Holds Explains told e phases (Err failure) holds explains same is = (e, explains, is ∙ sym same)

-- a line of a plan's text that is none, and the end of what is printed of it
pub bad_line : (n : ℕ) → bad_line_sentence n ++ codes "\n"
    ≡ codes "line " ++ (decimal n ++ codes " is not a plan's, or the text ends without the F of its last phase\n")
bad_line n = ap (λ (t : List ℕ). codes "line " ++ t)
    (append_assoc (decimal n) (codes " is not a plan's, or the text ends without the F of its last phase") (codes "\n"))

-- a writer to which nothing was written
pub kept : (held : Option (List ℕ)) → Keeps held held
kept None = tt
kept (Some bytes) = refl

-- a line, where something is said of it, and a sentence behind it
pub told_both : (o : Option (List ℕ)) (s : List ℕ) (old mid new : Option (List ℕ)) → IfSome o (Appends old mid) → Appends mid new s
    → IfSome (option_map (λ (text : List ℕ). text ++ s) o) (Appends old new)
told_both None s old mid new line sentence = tt
told_both (Some text) s old mid new line sentence = Appends-trans _ _ _ _ _ line sentence

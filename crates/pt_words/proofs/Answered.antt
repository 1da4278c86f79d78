-- What is answered where something is meant.
use Rattle.std.proofs.Common.{◌≡◌, ◌≢◌, ℕ, List, Result, Ok, Err, IfOk, IfErr, subst, inl, inr}
use Rattle.pt_words.specs.Words.{Said, said, word_of, IsNaming}
use Rattle.pt_words.specs.inner.Words.{Answers}
use Rattle.pt_words.specs.declared.error.EditError.{EditError}
use Rattle.pt_words.specs.declared.error.EditError.TheVariants.{Memory}
use Rattle.pt_words.specs.declared.word.Edit.{Edit}
use Rattle.pt_words.proofs.NoMemory.{memory_is_no_fault_lem}

pub ok_answer : (r : Result Edit EditError) (meant : Result Said EditError) → Answers meant r → IfOk r (λ w. meant ≡ Ok (said w))
ok_answer (Ok w) meant h = h
ok_answer (Err e) meant h = tt

pub err_answer : (r : Result Edit EditError) (meant : Result Said EditError) → Answers meant r
    → IfErr r (λ e. e ≢ Memory → meant ≡ Err e)
err_answer (Ok w) meant h = tt
err_answer (Err e) meant (inl is) = λ _. is
err_answer (Err e) meant (inr lack) = λ other. absurd (other lack.0)

pub memory_answer : (r : Result Edit EditError) (fs : List (List ℕ)) → Answers (word_of fs) r
    → IfErr r (λ e. e ≡ Memory → IsNaming (word_of fs))
memory_answer (Ok w) fs h = tt
memory_answer (Err e) fs (inl is) = λ same. absurd (memory_is_no_fault_lem fs (subst (λ (x : EditError). word_of fs ≡ Err x) same is))
memory_answer (Err e) fs (inr lack) = λ _. lack.1

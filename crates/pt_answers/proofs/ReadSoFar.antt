-- Words and plans, as far as they are read.
use Rattle.std.proofs.Common.{◌≡◌, ◌≢◌, min, ◌+◌, ◌<◌, ◌≤◌, ◌⊎◌, ◌∷◌, [], ◌++◌, ◌∙◌, List, ℕ, ap, sym, subst, take, drop, length}
use Rattle.std.proofs.Common.{get_or, refl, inl, inr, arith}
use Rattle.std.proofs.Common.{Some, None, Ok, Err, suc, Bool, true, false, nat_lt}
use Rattle.std.specs.Prelude.{Option, Result, IfSome, IsUtf8}
use Rattle.std.proofs.Math.Seq.{take-suc, split_at}
use Rattle.std.proofs.lemmas.List.{length-take, take_all}
use Rattle.pt_apply.specs.declared.plan.Plan.{Plan}
use Rattle.pt_guid.specs.declared.guid.Guid.{Guid}
use Rattle.pt_words.specs.Words.{fields, IsWord, IsWordFault}
use Rattle.pt_words.specs.declared.error.EditError.{EditError}
use Rattle.pt_words.specs.declared.error.EditError.TheVariants as edit_error
use Rattle.pt_words.specs.declared.word.Edit.{Edit}
use Rattle.pt_answers.specs.Images.{Call, Doing, IsPlanAt, ReadsPlan, WithPlan, most_text}
use Rattle.pt_answers.specs.Wanted.{AreEdits, AreGiven, IsFirstBad, IsWanted}
use Rattle.pt_answers.specs.declared.failure.Failure.{Failure}
use Rattle.pt_answers.specs.declared.failure.Failure.TheVariants as failure
use Rattle.pt_answers.specs.declared.failure.NoText.{NoText}
use Rattle.pt_answers.specs.declared.failure.NoText.TheVariants.{Unreadable, TooLong, NotUtf8}
use Rattle.pt_report.specs.declared.reply.Reply.{Reply}
use Rattle.pt_answers.specs.inner.Answers.{IsNoText}
use Rattle.pt_answers.specs.inner.Wanted.{IsBadOr, IsNamed, IsUnread}

-- ## Words.

pub none_read : (edits : List Edit) → edits ≡ [] → AreEdits [] edits
unfolding AreEdits
none_read edits none = subst (AreEdits []) (sym none) tt

-- one more word behind those that are read
pub one_more : (words : List (List ℕ)) (edits : List Edit) (word : List ℕ) (edit : Edit) → AreEdits words edits → IsWord (fields word) edit
    → AreEdits (words ++ word ∷ []) (edits ++ edit ∷ [])
unfolding AreEdits
one_more [] [] word edit read is = (is, tt)
one_more [] (e ∷ edits) word edit read is = absurd read
one_more (w ∷ words) [] word edit read is = absurd read
one_more (w ∷ words) (e ∷ edits) word edit read is = (read.0, one_more words edits word edit read.1 is)

one_step : (words : List (List ℕ)) (k : ℕ) → k < length words → take (k + 1) words ≡ take k words ++ get_or words k [] ∷ []
one_step words k within =
    let one : k + 1 ≡ suc k = omega arith in
    ap (λ (n : ℕ). take n words) one ∙ take-suc words k [] within

-- a text that is the word in a place
abbrev InPlace : List (List ℕ) → ℕ → List ℕ → Type 0
InPlace words k text = (k < length words) × (text ≡ get_or words k [])

pub next_read : (words : List (List ℕ)) (k : ℕ) (text : List ℕ) (edits after : List Edit) (edit : Edit)
    → InPlace words k text → AreEdits (take k words) edits → IsWord (fields text) edit → after ≡ edits ++ edit ∷ []
    → AreEdits (take (k + 1) words) after
next_read words k text edits after edit place read is grown =
    subst (AreEdits (take (k + 1) words)) (sym grown)
    (subst (λ (ws : List (List ℕ)). AreEdits ws (edits ++ edit ∷ [])) (sym (one_step words k place.0))
    (one_more (take k words) edits (get_or words k []) edit read
    (subst (λ (t : List ℕ). IsWord (fields t) edit) place.1 is)))

pub first_bad : (words : List (List ℕ)) (k : ℕ) (edits : List Edit) (why : EditError) → k < length words
    → AreEdits (take k words) edits → IsWordFault (fields (get_or words k [])) why → IsFirstBad words (get_or words k [])
first_bad words k edits why within read fault = record {
  before = take k words;
  after = drop (suc k) words;
  edits = edits;
  split = split_at words k [] within;
  read = read;
  why = why;
  fault = fault;
}

pub bad_told : (words : List (List ℕ)) (text : List ℕ) (told : Failure) → IsFirstBad words text → IsNamed text told → IsBadOr words told
bad_told words text told bad (inl memory) = inl memory
bad_told words text told bad (inr named) = inr (named.0, named.1, subst (IsFirstBad words) (sym named.2) bad)

pub bad_next : (words : List (List ℕ)) (k : ℕ) (text : List ℕ) (edits : List Edit) (why : EditError) (told : Failure)
    → InPlace words k text → AreEdits (take k words) edits → (why ≢ edit_error.Memory → IsWordFault (fields text) why)
    → IsUnread why text told → IsBadOr words told
bad_next words k text edits why told place read fault (inl memory) = inl memory
bad_next words k text edits why told place read fault (inr unread) =
    bad_told words (get_or words k []) told (first_bad words k edits why place.0 read
    (subst (λ (t : List ℕ). IsWordFault (fields t) why) place.1 (fault unread.0))) (subst (λ (t : List ℕ). IsNamed t told) place.1 unread.1)

pub wanted_bad : (fresh : Option (List ℕ)) (words : List (List ℕ)) (guids : List Guid) (why : Failure) → AreGiven fresh guids
    → IsBadOr words why
    → IsWanted fresh words (Err why)
wanted_bad fresh words guids why given (inl memory) = inl memory
wanted_bad fresh words guids why given (inr bad) = inr (inr (bad.0, bad.1, (guids, given), bad.2))

-- ## Plans.

-- bytes that are no more than a text may have are all of them
within : (all bytes : List ℕ) → bytes ≡ take (most_text + 1) all → length bytes ≤ most_text → length all ≤ most_text
within all bytes is short =
    let len : length bytes ≡ min (most_text + 1) (length all) = ap (λ (t : List ℕ). length t) is ∙ length-take (most_text + 1) all in
    omega (arith, len, short)

long_or_not : (m n : ℕ) (long : Bool) → nat_lt m n ≡ long → (m < n) ⊎ (n ≤ m)
long_or_not m n true same = inl (grind (arith, same))
long_or_not m n false same = inr (grind (arith, same))

if_long : (all bytes : List ℕ) → bytes ≡ take (most_text + 1) all → ¬ IsUtf8 bytes → (most_text < length all) ⊎ (length all ≤ most_text)
    → (most_text < length all) ⊎ (¬ IsUtf8 all)
if_long all bytes is bad (inl long) = inl long
if_long all bytes is bad (inr short) =
    let whole : bytes ≡ all = is ∙ take_all (most_text + 1) all (omega (arith, short)) in inr (subst (λ (t : List ℕ). ¬ IsUtf8 t) whole bad)

no_whole : (all bytes : List ℕ) → bytes ≡ take (most_text + 1) all → (most_text < length bytes) ⊎ (¬ IsUtf8 bytes)
    → (most_text < length all) ⊎ (¬ IsUtf8 all)
no_whole all bytes is (inl long) =
    let len : length bytes ≡ min (most_text + 1) (length all) = ap (λ (t : List ℕ). length t) is ∙ length-take (most_text + 1) all in
    inl (omega (arith, len, long))
no_whole all bytes is (inr bad) = if_long all bytes is bad (long_or_not most_text (length all) _ refl)

-- what is read of known bytes is read of a file that begins with them
pub of_bytes : (b : ℕ) (known : Option (List ℕ)) (bytes : List ℕ) (plan : Result (Plan b) Failure)
    → IfSome known (λ all. bytes ≡ take (most_text + 1) all) → length bytes ≤ most_text → ReadsPlan b (Some bytes) plan
    → ReadsPlan b known plan
of_bytes b None bytes (Ok plan) is short read = tt
of_bytes b None bytes (Err why) is short (inl device) = inl device
of_bytes b None bytes (Err why) is short (inr (inl memory)) = inr (inl memory)
of_bytes b None bytes (Err why) is short (inr (inr text)) = inr (inr (text.0, text.1, tt))
of_bytes b (Some all) bytes plan is short read = subst (λ (t : List ℕ). ReadsPlan b (Some t) plan) (is
    ∙ take_all (most_text + 1) all (let short_all = within all bytes is short in omega (arith, short_all))) read

pub no_text : (b : ℕ) (known : Option (List ℕ)) (bytes : List ℕ) (why : NoText)
    → IfSome known (λ all. bytes ≡ take (most_text + 1) all) → IsNoText bytes why → ReadsPlan b known (Err (failure.PlanText 0))
no_text b None bytes why is none = inr (inr (0, refl, tt))
no_text b (Some all) bytes Unreadable is none = absurd none
no_text b (Some all) bytes TooLong is long = inr (inr (0, refl, inl (refl, no_whole all bytes is (inl long))))
no_text b (Some all) bytes NotUtf8 is bad = inr (inr (0, refl, inl (refl, no_whole all bytes is (inr bad.1))))

pub plan_then : {D T : Type 0} (b : ℕ) (remaining : T → Option (List ℕ)) (path : List ℕ) (Next : Plan b → Doing (Call D T))
    (old between new : List (Call D T)) (read : Result (Plan b) Failure) (plan : Plan b) (answer : Result Reply Failure)
    → read ≡ Ok plan → IsPlanAt b remaining path old between read → Next plan between new answer
    → WithPlan b remaining path Next old new answer
plan_then b remaining path Next old between new read plan answer is at next =
    (between, Ok plan, subst (IsPlanAt b remaining path old between) is at, next)

pub plan_failed : {D T : Type 0} (b : ℕ) (remaining : T → Option (List ℕ)) (path : List ℕ) (Next : Plan b → Doing (Call D T))
    (old new : List (Call D T)) (read : Result (Plan b) Failure) (why : Failure) (answer : Result Reply Failure)
    → read ≡ Err why → IsPlanAt b remaining path old new read → answer ≡ Err why → WithPlan b remaining path Next old new answer
plan_failed b remaining path Next old new read why answer is at told =
    (new, Err why, subst (IsPlanAt b remaining path old new) is at, (refl, told))

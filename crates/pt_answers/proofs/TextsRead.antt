-- Texts in files, as far as they are read.
use Rattle.std.proofs.Common.{◌≡◌, ◌∙◌, ◌+◌, ◌≤◌, ℕ, List, ap, inl, inr, subst, sym, take, length, refl, min, arith, Some, None, Ok, Err}
use Rattle.std.proofs.Common.{string_bytes}
use Rattle.std.specs.Prelude.{IfSome, IsUtf8, Option, Result, String, Vec}
use Rattle.std.specs.declared.alloc.Global.{Global}
use Rattle.std.proofs.lemmas.List.{length-take, take_all}
use Rattle.pt_drafts.specs.declared.draft.Draft.{Draft}
use Rattle.pt_guid.specs.declared.guid.Guid.{Guid}
use Rattle.pt_sector.specs.declared.address.Extent.{Extent}
use Rattle.pt_answers.specs.Data.{ReadsRuns}
use Rattle.pt_answers.specs.Images.{Call, Doing, most_text}
use Rattle.pt_answers.specs.Sets.{AreRead, ReadsDraft, WithFresh}
use Rattle.pt_answers.specs.Texts.{IsTextAt, IsUnread, WithText}
use Rattle.pt_answers.specs.inner.Answers.{IsNoText, ReadsText}
use Rattle.pt_answers.specs.declared.failure.Failure.{Failure}
use Rattle.pt_answers.specs.declared.failure.Failure.TheVariants as failure
use Rattle.pt_answers.specs.declared.failure.NoText.{NoText}
use Rattle.pt_answers.specs.declared.failure.NoText.TheVariants.{Unreadable, TooLong, NotUtf8}
use Rattle.pt_answers.specs.declared.failure.TextOf.{TextOf}
use Rattle.pt_answers.specs.declared.failure.TextOf.TheVariants.{Data, Table}
use Rattle.pt_report.specs.declared.reply.Reply.{Reply}

begins : (all bytes : List ℕ) → bytes ≡ take (most_text + 1) all → length bytes ≡ min (most_text + 1) (length all)
begins all bytes is = ap (λ (t : List ℕ). length t) is ∙ length-take (most_text + 1) all

-- bytes that are no more than a text may have are all of them
whole : (all bytes : List ℕ) → bytes ≡ take (most_text + 1) all → length bytes ≤ most_text → bytes ≡ all
whole all bytes is short =
    let len = begins all bytes is in
    is ∙ take_all (most_text + 1) all (omega (arith, len, short))

unread : (why : NoText) → IsUnread None why
unread Unreadable = tt
unread TooLong = tt
unread NotUtf8 = tt

-- what is read of the first bytes of a file is read of the file
pub text_read : (of : TextOf) (known : Option (List ℕ)) (bytes : List ℕ) (text : String Global)
    → IfSome known (λ all. bytes ≡ take (most_text + 1) all) → string_bytes text ≡ bytes → length bytes ≤ most_text
    → ReadsText of known (Ok text)
text_read of None bytes text is same short = tt
text_read of (Some all) bytes text is same short = same ∙ whole all bytes is short

pub not_read : (of : TextOf) (known : Option (List ℕ)) (bytes : List ℕ) (why : NoText)
    → IfSome known (λ all. bytes ≡ take (most_text + 1) all) → IsNoText bytes why → ReadsText of known (Err (failure.NoText of why))
not_read of None bytes why is none = (refl, unread why)
not_read of (Some all) bytes Unreadable is none = absurd none
not_read of (Some all) bytes TooLong is long = let len = begins all bytes is in (refl, omega (arith, len, long))
not_read of (Some all) bytes NotUtf8 is bad =
    (refl, subst (λ (t : List ℕ). (length t ≤ most_text) × ¬ IsUtf8 t) (whole all bytes is bad.0) bad)

pub not_long : (bytes : List ℕ) (text : String Global) → string_bytes text ≡ bytes → length bytes ≤ most_text
    → length (string_bytes text) ≤ most_text
not_long bytes text same short = subst (λ (t : List ℕ). length t ≤ most_text) (sym same) short

-- a text that was read gives a draft, or none
pub draft_of_text : (known : Option (List ℕ)) (text : List ℕ) (draft : Result Draft Failure) → IfSome known (λ bytes. text ≡ bytes)
    → ReadsDraft (Some text) draft → ReadsDraft known draft
draft_of_text (Some all) text draft is read = subst (λ (t : List ℕ). ReadsDraft (Some t) draft) is read
draft_of_text None text (Ok draft) is read = tt
draft_of_text None text (Err (failure.Table fault)) is read = tt
draft_of_text None text (Err (failure.NoText Table why)) is read = unread why
draft_of_text None text (Err failure.Memory) is read = tt
draft_of_text None text (Err _) is read = read

pub no_draft : (known : Option (List ℕ)) (why : Failure) → ReadsText Table known (Err why) → ReadsDraft known (Err why)
no_draft known (failure.NoText Table why) read = read.1
no_draft known (failure.NoText Data why) read = cc (read.0)
no_draft known failure.Memory read = tt
no_draft known _ read = absurd read

-- the same of runs
pub runs_of_text : (known : Option (List ℕ)) (text : List ℕ) (runs : Result (Vec Extent Global) Failure)
    → IfSome known (λ bytes. text ≡ bytes) → ReadsRuns (Some text) runs → ReadsRuns known runs
runs_of_text (Some all) text runs is read = subst (λ (t : List ℕ). ReadsRuns (Some t) runs) is read
runs_of_text None text (Ok runs) is read = tt
runs_of_text None text (Err (failure.BadData n)) is read = tt
runs_of_text None text (Err (failure.NoText Data why)) is read = unread why
runs_of_text None text (Err failure.Memory) is read = tt
runs_of_text None text (Err _) is read = read

pub no_runs : (known : Option (List ℕ)) (why : Failure) → ReadsText Data known (Err why) → ReadsRuns known (Err why)
no_runs known (failure.NoText Data why) read = read.1
no_runs known (failure.NoText Table why) read = cc (read.0)
no_runs known failure.Memory read = tt
no_runs known _ read = absurd read

pub fresh_failed : {C : Type 0} (text : Option (List ℕ)) (Next : List Guid → Doing C) (old : List C) (why : Failure)
    (answer : Result Reply Failure) → AreRead text (Err why) → answer ≡ Err why → WithFresh text Next old old answer
fresh_failed text Next old why answer read told = (Err why, read, (refl, told))

pub fresh_then : {C : Type 0} (text : Option (List ℕ)) (Next : List Guid → Doing C) (old new : List C) (guids : List Guid)
    (answer : Result Reply Failure) → AreRead text (Ok guids) → Next guids old new answer → WithFresh text Next old new answer
fresh_then text Next old new guids answer read next = (Ok guids, read, next)

pub text_then : {D T X : Type 0} (Reads : Option (List ℕ) → Result X Failure → Type 0) (of : TextOf) (remaining : T → Option (List ℕ))
    (path : List ℕ) (Next : X → Doing (Call D T)) (old between new : List (Call D T)) (read : Result X Failure) (x : X)
    (answer : Result Reply Failure)
    → read ≡ Ok x → IsTextAt Reads of remaining path old between read → Next x between new answer
    → WithText Reads of remaining path Next old new answer
text_then Reads of remaining path Next old between new read x answer is at next =
    (between, Ok x, subst (IsTextAt Reads of remaining path old between) is at, next)

pub text_failed : {D T X : Type 0} (Reads : Option (List ℕ) → Result X Failure → Type 0) (of : TextOf) (remaining : T → Option (List ℕ))
    (path : List ℕ) (Next : X → Doing (Call D T)) (old new : List (Call D T)) (read : Result X Failure) (why : Failure)
    (answer : Result Reply Failure)
    → read ≡ Err why → IsTextAt Reads of remaining path old new read → answer ≡ Err why
    → WithText Reads of remaining path Next old new answer
text_failed Reads of remaining path Next old new read why answer is at told =
    (new, Err why, subst (IsTextAt Reads of remaining path old new) is at, (refl, told))

use Rattle.std.proofs.Common.{◌≡◌, ◌+◌, ◌∙◌, refl, subst, lit<, arith, sym, ap, length, List, ℕ, rules}
use Rattle.std.proofs.lemmas.Str.Pattern.{split_parts}
use Rattle.pt_replay.proofs.Asked.{Cut, none_read, one_more, all_read, onward_first, onward_next, no_word, no_end, no_first, utf8_after}
use Rattle.pt_replay.proofs.Asked.{no_rest}
use Rattle.pt_replay.specs.Replies.{bad_word}
use Rattle.pt_words.specs.declared.word.Edit.{Edit}
use Rattle.pt_replay.specs.inner.Wanted.{IsUnasked, NoWords}
use Rattle.pt_replay.specs.declared.answers.Answer.{Answer}
use Rattle.pt_replay.proofs.Saying.{unasked_on}
use Rattle.pt_replay.proofs.asking.edits_of.Goals as goal

pub loop-word-init : goal.loop-word-init
loop-word-init c = (
  none_read c.args.words.now c.in-Ok.text.now c.new-edits.result.items c.in-Ok.ensures.cases.0 c.new-edits.ensures.items,
  onward_first c.args.words.now c.in-Ok.text.now c.in-Ok.ensures.cases.0,
  search rules,
)

pub loop-word-preserved : goal.loop-word-preserved
loop-word-preserved c =
    let rest = c.loop-word.rest.now in
    let cut = subst (Cut rest) c.in-Some.is (split_parts 0 rest c.split_once.result c.split_once.ensures.cases (lit< tt)) in (
      one_more c.args.words.now rest c.in-Some.word.now c.in-Some.after.now c.loop-word.edits.items c.push.new.self.items
          c.in-Ok-parse_edit.edit c.loop-word.invariant.0 cut.0 cut.1
          c.in-Ok-parse_edit.ensures.ok c.in-Ok-push.ensures.items,
      onward_next c.args.words.now rest c.in-Some.word.now c.in-Some.after.now c.loop-word.invariant.1 cut.0 cut.1,
      utf8_after rest c.in-Some.word.now c.in-Some.after.now cut.0 c.loop-word.invariant.2,
    )

pub returns-in-Err-parse_edit-clause-err : goal.returns-in-Err-parse_edit-clause-err
returns-in-Err-parse_edit-clause-err c =
    let rest = c.loop-word.rest.now in
    let cut = subst (Cut rest) c.in-Some.is (split_parts 0 rest c.split_once.result c.split_once.ensures.cases (lit< tt)) in
    let at : c.len.result + 1 ≡ length c.loop-word.edits.items + 1 =
    let e = c.len.ensures in let ok = c.loop-word.edits.ok.0 in omega (arith, e, ok) in
    unasked_on (λ r told. no_word c.args.words.now rest c.in-Some.word.now c.in-Some.after.now c.loop-word.edits.items
    c.in-Err-parse_edit.error r c.in-Ok.ensures.cases.1 c.loop-word.invariant.0 c.loop-word.invariant.1 cut.0 cut.1
    (c.in-Err-parse_edit.ensures.err told.0) (told.1 ∙ ap (λ (n : ℕ). bad_word n c.in-Err-parse_edit.error) at))
    c.no_word.result.status c.no_word.result.reply c.no_word.ensures.told

pub returns-then-is_empty-clause-err : goal.returns-then-is_empty-clause-err
returns-then-is_empty-clause-err c =
    let rest = c.loop-word.rest.now in
    let clean = subst (Cut rest) c.in_default.is (split_parts 0 rest c.split_once.result c.split_once.ensures.cases (lit< tt)) in
    let none : length c.loop-word.edits.items ≡ 0 =
    let e = c.is_empty.ensures in let f = c.if-is_empty.true in let ok = c.loop-word.edits.ok.0 in grind (arith, e, f, ok) in
    subst (λ (a : Answer). IsUnasked (NoWords c.args.words.now) a.status a.reply) (sym c.bad_argument-then-is_empty.ensures.told)
    (no_first c.args.words.now rest c.loop-word.edits.items _ c.loop-word.invariant.0 none clean refl)

pub returns-then-not-is_empty-clause-err : goal.returns-then-not-is_empty-clause-err
returns-then-not-is_empty-clause-err c =
    let rest = c.loop-word.rest.now in
    let clean = subst (Cut rest) c.in_default.is (split_parts 0 rest c.split_once.result c.split_once.ensures.cases (lit< tt)) in
    subst (λ (a : Answer). IsUnasked (NoWords c.args.words.now) a.status a.reply) (sym c.bad_argument-then-not-is_empty.ensures.told)
    (no_end c.args.words.now rest c.loop-word.edits.items _ c.loop-word.invariant.0 c.loop-word.invariant.1 clean
    (λ none. let e = c.is_empty-2.ensures in let f = c.if-not-is_empty.true in let len = ap (λ (l : List ℕ). length l) none in
    grind (arith, e, f, len)) refl)

pub returns-clause-ok : goal.returns-clause-ok
returns-clause-ok c = record {
  text = c.in-Ok.ensures.cases.1;
  some = λ none. let len = ap (λ (l : List Edit). length l) none in
      let e = c.is_empty.ensures in let f = c.if-is_empty.false in let ok = c.loop-word.edits.ok.0 in grind (arith, e, f, ok, len);
  words_are = all_read c.args.words.now c.loop-word.rest.now c.loop-word.edits.items c.loop-word.invariant.0
      (no_rest c.loop-word.rest.now (let e = c.is_empty-2.ensures in let f = c.if-not-is_empty.false in grind (arith, e, f)));
}

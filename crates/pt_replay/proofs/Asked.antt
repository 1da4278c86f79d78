-- Words that are cut out of a text.
use Rattle.std.proofs.Common.{◌≡◌, ◌≢◌, ◌<◌, ◌≤◌, ◌+◌, ℕ, suc, List, [], ◌∷◌, ◌++◌, length, drop, get_or, sym, ap, ◌∙◌, subst, arith}
use Rattle.std.proofs.Common.{append_assoc, length-append, map, take, refl, Option, Bor, inl, inr}
use Rattle.std.proofs.lemmas.List.{append-nil, map-append, take_more}
use Rattle.std.proofs.Math.Seq.{get_or-append_seam}
use Rattle.std.specs.Prelude.{MatchOption}
use Rattle.std.specs.Str.{IsUtf8}
use Rattle.std.proofs.lemmas.Str.{IsUtf8-drop, IsCharBoundary-after_ascii}
use Rattle.pt_words.specs.declared.word.Edit.{Edit}
use Rattle.pt_words.specs.Words.{fields, IsWord, IsWordFault}
use Rattle.pt_words.specs.declared.error.EditError.{EditError}
use Rattle.pt_replay.specs.Replies.{the_words, bad_argument, bad_word}
use Rattle.pt_replay.specs.Given.{AreWords, AreEdits, HasNoZero}
use Rattle.pt_replay.specs.inner.Wanted.{NoWords}
use Rattle.pt_replay.specs.declared.answers.Reply.{Reply}

-- a cut at the first zero byte
abbrev pub Cut : List ℕ → Option (Bor (List ℕ) × Bor (List ℕ)) → Type 0
Cut text r = MatchOption r ((i : ℕ) → i < length text → get_or text i 0 ≢ 0) (λ x. (text ≡ x.0.now ++ 0 ∷ x.1.now)
    × ((i : ℕ) → i < length x.0.now → get_or x.0.now i 0 ≢ 0))

-- what stands before the rest are these words
pub record IsReadTo (bytes rest : List ℕ) (es : List Edit) : Type 0 where
  pub front : List ℕ
  pub split : bytes ≡ front ++ rest
  pub read : AreWords front es

pub none_read : (bytes rest : List ℕ) (es : List Edit) → rest ≡ bytes → es ≡ [] → IsReadTo bytes rest es
unfolding AreWords
none_read bytes rest es same none =
    subst (λ (x : List Edit). IsReadTo bytes rest x) (sym none) (record { front = []; split = sym same; read = refl })

-- one word more
words_more : (front word : List ℕ) (es : List Edit) (e : Edit) → AreWords front es → HasNoZero word → IsWord (fields word) e
    → AreWords (front ++ (word ++ 0 ∷ [])) (es ++ e ∷ [])
unfolding AreWords
words_more front word [] e none clean is = (word, [], ap (λ (t : List ℕ). t ++ (word ++ 0 ∷ [])) none, clean, is, refl)
words_more front word (x ∷ xs) e (w, rest, cut, ended, first, more) clean is = (
  w,
  rest ++ (word ++ 0 ∷ []),
  ap (λ (t : List ℕ). t ++ (word ++ 0 ∷ [])) cut ∙ append_assoc w (0 ∷ rest) (word ++ 0 ∷ []),
  ended,
  first,
  words_more rest word xs e more clean is,
)

pub one_more : (bytes rest word after : List ℕ) (es later : List Edit) (e : Edit) → IsReadTo bytes rest es → rest ≡ word ++ 0 ∷ after
    → HasNoZero word → IsWord (fields word) e
    → later ≡ es ++ e ∷ [] → IsReadTo bytes after later
one_more bytes rest word after es later e so_far cut clean is grown =
    subst (λ (x : List Edit). IsReadTo bytes after x) (sym grown) (record {
      front = so_far.front ++ (word ++ 0 ∷ []);
      split = so_far.split ∙ (ap (λ (t : List ℕ). so_far.front ++ t) (cut ∙ sym (append_assoc word (0 ∷ []) after))
          ∙ sym (append_assoc so_far.front (word ++ 0 ∷ []) after));
      read = words_more so_far.front word es e so_far.read clean is;
    })

pub all_read : (bytes rest : List ℕ) (es : List Edit) → IsReadTo bytes rest es → rest ≡ [] → AreWords bytes es
all_read bytes rest es so_far none =
    subst (λ (t : List ℕ). AreWords t es)
    (sym (so_far.split ∙ (ap (λ (t : List ℕ). so_far.front ++ t) none ∙ append-nil so_far.front))) so_far.read

-- the bytes are no words
abbrev pub AreNoEdits : List ℕ → Type 0
AreNoEdits bytes = (edits : List Edit) → ¬ AreEdits bytes edits

-- whatever words the bytes are, the rest are words
abbrev pub Onward : List ℕ → List ℕ → Type 0
Onward bytes rest = (all : List Edit) → AreWords bytes all → (more : List Edit) × AreWords rest more

pub onward_first : (bytes rest : List ℕ) → rest ≡ bytes → Onward bytes rest
onward_first bytes rest same all are = (all, subst (λ (t : List ℕ). AreWords t all) (sym same) are)

tail_clean : (x : ℕ) (xs : List ℕ) → HasNoZero (x ∷ xs) → HasNoZero xs
tail_clean x xs clean i lt = clean (suc i) (omega (arith, lt))

-- a text is cut at its first zero byte in one way
one_cut : (w v x y : List ℕ) → HasNoZero w → HasNoZero v → w ++ 0 ∷ x ≡ v ++ 0 ∷ y → (w ≡ v) × (x ≡ y)
one_cut [] [] x y a b same = (refl, ap (λ (t : List ℕ). drop 1 t) same)
one_cut [] (c ∷ v) x y a b same = absurd (b 0 (omega arith) (sym (ap (λ (t : List ℕ). get_or t 0 0) same)))
one_cut (c ∷ w) [] x y a b same = absurd (a 0 (omega arith) (ap (λ (t : List ℕ). get_or t 0 0) same))
one_cut (c ∷ w) (e ∷ v) x y a b same =
    let on = one_cut w v x y (tail_clean c w a) (tail_clean e v b) (ap (λ (t : List ℕ). drop 1 t) same) in
    (ap (λ (h : ℕ). h ∷ w) (ap (λ (t : List ℕ). get_or t 0 0) same) ∙ ap (λ (t : List ℕ). e ∷ t) on.0, on.1)

not_empty : (w x : List ℕ) → [] ≡ w ++ 0 ∷ x → ⊥
not_empty w x same = let len = length-append w (0 ∷ x) in let e = ap (λ (t : List ℕ). length t) same in omega (arith, len, e)

onward_in : (rest word after : List ℕ) (more : List Edit) → rest ≡ word ++ 0 ∷ after → HasNoZero word → AreWords rest more
    → (later : List Edit) × AreWords after later
unfolding AreWords
onward_in rest word after [] cut clean are = absurd (not_empty word after (sym are ∙ cut))
onward_in rest word after (e ∷ es) cut clean are =
    (es, subst (λ (t : List ℕ). AreWords t es) (sym (one_cut word are.0 after are.1 clean are.3 (sym cut ∙ are.2)).1) are.5)

-- one word on
pub onward_next : (bytes rest word after : List ℕ) → Onward bytes rest → rest ≡ word ++ 0 ∷ after → HasNoZero word → Onward bytes after
onward_next bytes rest word after on cut clean all are =
    let now = on all are in onward_in rest word after now.0 cut clean now.1

no_word_in : (rest word after : List ℕ) (more : List Edit) (f : EditError) → rest ≡ word ++ 0 ∷ after → HasNoZero word
    → IsWordFault (fields word) f → ¬ AreWords rest more
unfolding AreWords
no_word_in rest word after [] f cut clean fault are = not_empty word after (sym are ∙ cut)
no_word_in rest word after (e ∷ es) f cut clean fault are =
    let same = (one_cut word are.0 after are.1 clean are.3 (sym cut ∙ are.2)).0 in
    let is = subst (λ (t : List ℕ). IsWord (fields t) e) (sym same) are.4 in absurd cc

-- where one of them is no word, the bytes are no edits, and it is reported by its number
pub no_word : (bytes rest word after : List ℕ) (es : List Edit) (f : EditError) (r : Reply) → IsUtf8 bytes → IsReadTo bytes rest es
    → Onward bytes rest → rest ≡ word ++ 0 ∷ after → HasNoZero word → IsWordFault (fields word) f → r ≡ bad_word (length es + 1) f
    → NoWords bytes r
no_word bytes rest word after es f r utf8 so_far on cut clean fault told = (
  λ all. let now = on all.0 all.1.words_are in no_word_in rest word after now.0 f cut clean fault now.1,
  inr (
    length es + 1,
    f,
    record {
      text = utf8;
      front = so_far.front;
      word = word;
      rest = after;
      before = es;
      split = so_far.split ∙ ap (λ (t : List ℕ). so_far.front ++ t) cut;
      read = so_far.read;
      ended = clean;
      fault = fault;
      place = refl;
    },
    told,
  ),
)

no_end_in : (rest : List ℕ) (more : List Edit) → HasNoZero rest → AreWords rest more → more ≡ []
unfolding AreWords
no_end_in rest [] clean are = refl
no_end_in rest (e ∷ es) clean are =
    let within : length are.0 < length rest = rw are.2 (let len = length-append are.0 (0 ∷ are.1) in omega (arith, len)) in
    absurd (clean (length are.0) within (rw are.2 (get_or-append_seam are.0 0 are.1 0)))

empty_in : (rest : List ℕ) (more : List Edit) → more ≡ [] → AreWords rest more → rest ≡ []
unfolding AreWords
empty_in rest [] none are = are
empty_in rest (e ∷ es) none are =
    absurd (let len = ap (λ (t : List Edit). length t) none in omega (arith, len))

no_more : (bytes rest : List ℕ) → Onward bytes rest → HasNoZero rest → rest ≢ [] → AreNoEdits bytes
no_more bytes rest on clean some edits are =
    let now = on edits are.words_are in some (empty_in rest now.0 (no_end_in rest now.0 clean now.1) now.1)

-- where a text behind the last zero byte isn't empty
pub no_end : (bytes rest : List ℕ) (es : List Edit) (r : Reply) → IsReadTo bytes rest es → Onward bytes rest → HasNoZero rest
    → rest ≢ [] → r ≡ bad_argument the_words → NoWords bytes r
no_end bytes rest es r so_far on clean some told = (
  λ all. no_more bytes rest on clean some all.0 all.1,
  inl (
    inr (inr (record {
      front = so_far.front;
      rest = rest;
      before = es;
      split = so_far.split;
      read = so_far.read;
      unended = clean;
      some = some;
    })),
    told,
  ),
)

-- where there is no zero byte
no_first_in : (bytes : List ℕ) (r : Reply) → HasNoZero bytes → r ≡ bad_argument the_words → NoWords bytes r
unfolding AreWords
no_first_in [] r clean told = (λ all. all.1.some (no_end_in [] all.0 clean all.1.words_are), inl (inr (inl refl), told))
no_first_in (x ∷ bytes) r clean told =
    no_end (x ∷ bytes) (x ∷ bytes) [] r (record { front = []; split = refl; read = refl }) (onward_first (x ∷ bytes) (x ∷ bytes) refl)
    clean (λ none. let len = ap (λ (t : List ℕ). length t) none in omega (arith, len)) told

pub no_first : (bytes rest : List ℕ) (es : List Edit) (r : Reply) → IsReadTo bytes rest es → length es ≡ 0 → HasNoZero rest
    → r ≡ bad_argument the_words → NoWords bytes r
unfolding AreWords
no_first bytes rest [] r so_far none clean told =
    let same : bytes ≡ rest = so_far.split ∙ ap (λ (t : List ℕ). t ++ rest) so_far.read in
    no_first_in bytes r (subst HasNoZero (sym same) clean) told
no_first bytes rest (e ∷ es) r so_far none clean told = absurd (omega (arith, none))

-- where the bytes are no text
pub no_text : (bytes : List ℕ) (r : Reply) → ¬ IsUtf8 bytes → r ≡ bad_argument the_words → NoWords bytes r
no_text bytes r not told = (λ all. not all.1.text, inl (inl not, told))

drop_seam : (xs : List ℕ) (c : ℕ) (ys : List ℕ) → drop (suc (length xs)) (xs ++ c ∷ ys) ≡ ys
drop_seam [] c ys = refl
drop_seam (x ∷ xs) c ys = drop_seam xs c ys

-- one edit more
pub some_edits : (es later : List Edit) (e : Edit) → later ≡ es ++ e ∷ [] → 1 ≤ length later
some_edits es later e is =
    let len = length-append es (e ∷ []) in let on = ap (λ (t : List Edit). length t) is in omega (arith, len, on)

pub utf8_after : (rest line after : List ℕ) → rest ≡ line ++ 0 ∷ after → IsUtf8 rest → IsUtf8 after
utf8_after rest line after e utf8 =
    let within : length line < length rest = rw e (let len = length-append line (0 ∷ after) in omega (arith, len)) in
    let at : get_or rest (length line) 0 ≡ 0 = rw e (get_or-append_seam line 0 after 0) in
    let ascii : get_or rest (length line) 0 < 128 = omega (arith, at) in
    let one : length line + 1 ≡ suc (length line) = omega arith in
    let behind : drop (length line + 1) rest ≡ after = ap (λ (t : List ℕ). drop (length line + 1) t) e
    ∙ (ap (λ (n : ℕ). drop n (line ++ 0 ∷ after)) one ∙ drop_seam line 0 after) in
    subst IsUtf8 behind (IsUtf8-drop rest (length line + 1) utf8 (IsCharBoundary-after_ascii rest (length line) utf8 within ascii))

pub no_rest : (rest : List ℕ) → length rest ≡ 0 → rest ≡ []
no_rest [] none = refl
no_rest (x ∷ rest) none = absurd (omega (arith, none))

-- one more of a list that is mapped
pub map_more : {X Y : Type 0} (f : X → Y) (xs : List X) (k : ℕ) (x : X) → k < length xs → x ≡ get_or xs k x
    → map f (take (k + 1) xs) ≡ map f (take k xs) ++ f x ∷ []
map_more f xs k x within is =
    ap (λ (t : List _). map f t) (take_more xs k x within ∙ ap (λ (y : _). take k xs ++ y ∷ []) (sym is))
    ∙ map-append f (take k xs) (x ∷ [])

pub map_at : {X Y : Type 0} (f : X → Y) (xs : List X) (k : ℕ) (d : X) → k < length xs → map f (take (k + 1) xs) ≡ map f (take k xs)
    ++ f (get_or xs k d) ∷ []
map_at f xs k d within = ap (λ (t : List _). map f t) (take_more xs k d within) ∙ map-append f (take k xs) (get_or xs k d ∷ [])

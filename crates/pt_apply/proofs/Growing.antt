-- Lines that are added to those that were read.
use Rattle.std.proofs.Common.{◌≡◌, inl, inr, ◌<◌, ◌≤◌, ◌+◌, ℕ, zero, suc, List, [], ◌∷◌, ◌++◌, length, refl, sym, ap, ◌∙◌, subst, arith}
use Rattle.std.proofs.Common.{length-append, append_assoc, drop, get_or, true, false, ◌==◌, Vec}
use Rattle.std.proofs.lemmas.List.{append-nil, length-map, map-append}
use Rattle.std.proofs.Math.Seq.{get_or-append_seam}
use Rattle.std.proofs.lemmas.List.Elements.{All-nil, All-cons, All-head, All-tail}
use Rattle.std.specs.Str.{IsUtf8}
use Rattle.std.proofs.lemmas.Bool.Decides.{Decides-eqb}
use Rattle.std.specs.declared.alloc.Global.{Global}
use Rattle.std.proofs.lemmas.Str.{IsUtf8-drop, IsCharBoundary-after_ascii}
use Rattle.pt_sector.specs.Sectors.{Writes}
use Rattle.pt_apply.specs.PlanTexts.{joined, LineItem, Put, Flush, IsLine, IsWriteLine, IsFlushLine, AreLines, Begins, PlanText, steps_of}
use Rattle.pt_apply.specs.PlanTexts.{puts, NoneEmpty, MayFollow, IsBadLine, LacksFlush}
use Rattle.pt_apply.specs.Plans.{writes_of}
use Rattle.pt_apply.specs.inner.Plans.{phases_in}
use Rattle.pt_apply.specs.declared.plan.Write.{Write}
use Rattle.pt_apply.specs.inner.PlanTexts.{Grows, Lacks}
use Rattle.pt_apply.proofs.Cuts.{one_cut, lacks_cons, lacks_nil, write_lineless, write_no_flush}

-- what a line adds: a write to the last phase
pub grows_write : {b : _} (line : List ℕ) (phases : List Writes) (last new : List (Write b)) (w : Write b)
    → IsWriteLine b line (w.lba.0, w.bytes) → new ≡ last ++ w ∷ [] → Grows b line phases (writes_of last) phases (writes_of new)
grows_write line phases last new w is pushed =
    inl ((w.lba.0, w.bytes), is, refl, ap writes_of pushed ∙ map-append (λ (x : Write _). (x.lba.0, x.bytes)) last (w ∷ []))

nothing : {X : Type 0} (xs : List X) → length xs ≡ 0 → xs ≡ []
nothing [] e = refl
nothing (x ∷ xs) e = absurd (omega (arith, e))

above_zero : (n : ℕ) → (n == 0) ≡ false → 0 < n
above_zero zero e = cc e
above_zero (suc n) e = omega arith

pub has_writes : {b : _} (last : Vec (Write b) Global) → (last.len == 0) ≡ false → 0 < length (writes_of last.items)
has_writes last more =
    let count : length (writes_of last.items) ≡ length last.items = length-map last.items (λ (x : Write _). (x.lba.0, x.bytes)) in
    let some = above_zero last.len more in
    omega (arith, count, some, last.ok.0)

pub has_none : {b : _} (last : Vec (Write b) Global) → (last.len == 0) ≡ true → writes_of last.items ≡ []
has_none last none = ap writes_of (nothing last.items (let zero = (Decides-eqb last.len 0).0 none in omega (arith, zero, last.ok.0)))

-- or the last phase to the phases
pub grows_flush : {b : _} (line : List ℕ) (phases : List (Vec (Write b) Global)) (last out : Vec (Write b) Global)
    (new : List (Vec (Write b) Global)) (left none : Vec (Write b) Global)
    → IsFlushLine line → (last.len == 0) ≡ false → out ≡ last → new ≡ phases ++ out ∷ [] → left ≡ none → none.items ≡ []
    → Grows b line (phases_in phases) (writes_of last.items) (phases_in new) (writes_of left.items)
grows_flush line phases last out new left none is more same pushed after empty =
    inr (
      is,
      has_writes last more,
      ap phases_in pushed ∙ map-append (λ (x : Vec (Write _) Global). writes_of x.items) phases (out ∷ [])
          ∙ ap (λ (v : Vec (Write _) Global). phases_in phases ++ writes_of v.items ∷ []) same,
      ap (λ (v : Vec (Write _) Global). writes_of v.items) after ∙ ap writes_of empty,
    )

-- an `F` with no write before it may not come
pub no_flush_yet : {b : _} (last : Vec (Write b) Global) (line : List ℕ) → IsFlushLine line → (last.len == 0) ≡ true
    → ¬ MayFollow b (writes_of last.items) line
no_flush_yet {b = b} last line is none (inl w) = write_no_flush b line w.0 w.1 is
no_flush_yet last line is none (inr f) = absurd (omega (arith, f.1, ap length (has_none last none)))

-- the lines so far, and what is left
pub record IsReading (b : ℕ) (text rest : List ℕ) (n : ℕ) (phases : List Writes) (last : Writes) : Type 0 where
  pub lines : List (List ℕ)
  pub whole : text ≡ joined lines rest
  pub begins : Begins b lines phases last
  pub number : n ≡ length lines + 1

pub joined_append : (a c : List (List ℕ)) (rest : List ℕ) → joined (a ++ c) rest ≡ joined a (joined c rest)
joined_append [] c rest = refl
joined_append (line ∷ a) c rest = ap (λ (t : List ℕ). line ++ 10 ∷ t) (joined_append a c rest)

pub length_joined : (lines : List (List ℕ)) (rest : List ℕ) → length lines + length rest ≤ length (joined lines rest)
length_joined [] rest = omega arith
length_joined (line ∷ lines) rest =
    let more = length_joined lines rest in
    let len = length-append line (10 ∷ joined lines rest) in
    omega (arith, more, len)

pub lines_append : (b : ℕ) (a c : List (List ℕ)) (s t : List LineItem) → AreLines b a s → AreLines b c t → AreLines b (a ++ c) (s ++ t)
lines_append b [] c [] t ha hc = hc
lines_append b [] c (x ∷ s) t ha hc = absurd ha
lines_append b (line ∷ a) c [] t ha hc = absurd ha
lines_append b (line ∷ a) c (x ∷ s) t ha hc = (ha.0, lines_append b a c s t ha.1 hc)

one_line : (b : ℕ) (line : List ℕ) (s : LineItem) → IsLine b line s → AreLines b (line ∷ []) (s ∷ [])
one_line b line s is = (is, tt)

steps_more : (phases : List Writes) (p : Writes) → steps_of (phases ++ p ∷ []) ≡ steps_of phases ++ (puts p ++ Flush ∷ [])
steps_more [] p = refl
steps_more (q ∷ phases) p =
    ap (λ (t : List LineItem). puts q ++ Flush ∷ t) (steps_more phases p)
    ∙ sym (append_assoc (puts q) (Flush ∷ steps_of phases) (puts p ++ Flush ∷ []))

with_write : (phases : List Writes) (last : Writes) (w : ℕ × List ℕ)
    → (steps_of phases ++ puts last) ++ Put w ∷ [] ≡ steps_of phases ++ puts (last ++ w ∷ [])
with_write phases last w =
    append_assoc (steps_of phases) (puts last) (Put w ∷ [])
    ∙ ap (λ (t : List LineItem). steps_of phases ++ t) (sym (map-append Put last (w ∷ [])))

with_flush : (phases : List Writes) (last : Writes)
    → (steps_of phases ++ puts last) ++ Flush ∷ [] ≡ steps_of (phases ++ last ∷ []) ++ puts []
with_flush phases last =
    append_assoc (steps_of phases) (puts last) (Flush ∷ [])
    ∙ (sym (steps_more phases last) ∙ sym (append-nil (steps_of (phases ++ last ∷ []))))

some_more : (phases : List Writes) (p : Writes) → NoneEmpty phases → 0 < length p → NoneEmpty (phases ++ p ∷ [])
some_more [] p all is = All-cons (λ (q : Writes). 0 < length q) p [] is (All-nil (λ (q : Writes). 0 < length q))
some_more (q ∷ phases) p all is =
    All-cons (λ (r : Writes). 0 < length r) q (phases ++ p ∷ []) (All-head (λ (r : Writes). 0 < length r) q phases all)
    (some_more phases p (All-tail (λ (r : Writes). 0 < length r) q phases all) is)

pub begins_more : (b : ℕ) (lines : List (List ℕ)) (line : List ℕ) (phases : List Writes) (last : Writes) (phases' : List Writes)
    (last' : Writes)
    → Begins b lines phases last → Grows b line phases last phases' last' → Begins b (lines ++ line ∷ []) phases' last'
begins_more b lines line phases last phases' last' h (inl (w, is, ep, el)) =
    rw (ep, el) (record {
      some = h.some;
      each = subst (AreLines b (lines ++ line ∷ [])) (with_write phases last w)
          (lines_append b lines (line ∷ []) _ (Put w ∷ []) h.each (is, tt));
    })
begins_more b lines line phases last phases' last' h (inr (is, more, ep, el)) =
    rw (ep, el) (record {
      some = some_more phases last h.some more;
      each = subst (AreLines b (lines ++ line ∷ [])) (with_flush phases last)
          (lines_append b lines (line ∷ []) _ (Flush ∷ []) h.each (is, tt));
    })

pub reading_begins : (b : ℕ) (text : List ℕ) → IsReading b text text 1 [] []
reading_begins b text =
    record { lines = []; whole = refl; begins = record { some = All-nil (λ (q : Writes). 0 < length q); each = tt }; number = refl }

pub reading_more : (b : ℕ) (text line after : List ℕ) (n : ℕ) (phases : List Writes) (last : Writes) (phases' : List Writes)
    (last' : Writes)
    → IsReading b text (line ++ 10 ∷ after) n phases last → Grows b line phases last phases' last'
    → IsReading b text after (n + 1) phases' last'
reading_more b text line after n phases last phases' last' h grows = record {
  lines = h.lines ++ line ∷ [];
  whole = h.whole ∙ sym (joined_append h.lines (line ∷ []) after);
  begins = begins_more b h.lines line phases last phases' last' h.begins grows;
  number = let len = length-append h.lines (line ∷ []) in let is = h.number in omega (arith, len, is);
}

pub reading_fits : (b : ℕ) (text rest : List ℕ) (n : ℕ) (phases : List Writes) (last : Writes) → IsReading b text rest n phases last
    → n + length rest ≤ length text + 1
reading_fits b text rest n phases last h =
    let len = length_joined h.lines rest in
    let whole = ap (λ (t : List ℕ). length t) h.whole in
    let is = h.number in
    omega (arith, len, whole, is)

pub fits_lineless : (b : ℕ) (last : Writes) (line : List ℕ) → MayFollow b last line → Lacks 10 line
fits_lineless b last line (inl is) = write_lineless b line is.0 is.1
fits_lineless b last line (inr is) = subst (Lacks 10) (sym is.0) (lacks_cons 10 70 [] (λ e. cc e) (lacks_nil 10))

-- a line that may not come
pub reading_bad : (b : ℕ) (text line after : List ℕ) (n : ℕ) (phases : List Writes) (last : Writes)
    → IsReading b text (line ++ 10 ∷ after) n phases last → Lacks 10 line → ¬ MayFollow b last line → IsBadLine b text n
reading_bad b text line after n phases last h lineless not = record {
  lines = h.lines;
  phases = phases;
  last = last;
  rest = line ++ 10 ∷ after;
  whole = h.whole;
  begins = h.begins;
  number = h.number;
  more = let len = length-append line (10 ∷ after) in omega (arith, len);
  bad = λ l a is fits. not (subst (MayFollow b last) (one_cut 10 l line a after (fits_lineless b last l fits) lineless (sym is)).0 fits);
}

-- a last line that no newline ends
pub reading_unended : (b : ℕ) (text rest : List ℕ) (n : ℕ) (phases : List Writes) (last : Writes)
    → IsReading b text rest n phases last → Lacks 10 rest → 0 < length rest → IsBadLine b text n
reading_unended b text rest n phases last h lineless more = record {
  lines = h.lines;
  phases = phases;
  last = last;
  rest = rest;
  whole = h.whole;
  begins = h.begins;
  number = h.number;
  more = more;
  bad = λ l a is fits.
      let within : length l < length rest = rw is (let len = length-append l (10 ∷ a) in omega (arith, len)) in
      lineless (length l) within (rw is (get_or-append_seam l 10 a 0));
}

pub reading_unflushed : (b : ℕ) (text : List ℕ) (n : ℕ) (phases : List Writes) (last : Writes) → IsReading b text [] n phases last
    → 0 < length last → LacksFlush b text
reading_unflushed b text n phases last h more =
    record { lines = h.lines; phases = phases; last = last; whole = h.whole; begins = h.begins; more = more }

pub reading_done : (b : ℕ) (text : List ℕ) (n : ℕ) (phases : List Writes) → IsReading b text [] n phases [] → PlanText b phases text
reading_done b text n phases h = record { lines = h.lines; whole = h.whole; begins = h.begins }

-- where nothing is left
pub reading_ends : (b : ℕ) (text rest : List ℕ) (n : ℕ) (phases : List Writes) (last : Writes) → IsReading b text rest n phases last
    → (length rest == 0) ≡ true → IsReading b text [] n phases last
reading_ends b text rest n phases last h none =
    subst (λ (r : List ℕ). IsReading b text r n phases last) (nothing rest ((Decides-eqb (length rest) 0).0 none)) h

pub shorter : (rest line after : List ℕ) → rest ≡ line ++ 10 ∷ after → length after < length rest
shorter rest line after e = rw e (let len = length-append line (10 ∷ after) in omega (arith, len))

drop_seam : (xs : List ℕ) (c : ℕ) (ys : List ℕ) → drop (suc (length xs)) (xs ++ c ∷ ys) ≡ ys
drop_seam [] c ys = refl
drop_seam (x ∷ xs) c ys = drop_seam xs c ys

pub utf8_after : (rest line after : List ℕ) → rest ≡ line ++ 10 ∷ after → IsUtf8 rest → IsUtf8 after
utf8_after rest line after e utf8 =
    let within : length line < length rest = rw e (let len = length-append line (10 ∷ after) in omega (arith, len)) in
    let at : get_or rest (length line) 0 ≡ 10 = rw e (get_or-append_seam line 10 after 0) in
    let ascii : get_or rest (length line) 0 < 128 = omega (arith, at) in
    let one : length line + 1 ≡ suc (length line) = omega arith in
    let behind : drop (length line + 1) rest ≡ after =
    ap (λ (t : List ℕ). drop (length line + 1) t) e ∙ (ap (λ (n : ℕ). drop n (line ++ 10 ∷ after)) one ∙ drop_seam line 10 after) in
    subst IsUtf8 behind (IsUtf8-drop rest (length line + 1) utf8 (IsCharBoundary-after_ascii rest (length line) utf8 within ascii))

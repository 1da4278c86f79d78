-- A text has one reading.
use Rattle.std.proofs.Common.{◌≡◌, ◌⊎◌, inl, inr, ◌<◌, ◌+◌, ℕ, suc, Bool, true, false, List, [], ◌∷◌, ◌++◌, length, refl, sym, ap, ◌∙◌}
use Rattle.std.proofs.Common.{subst, arith, append_assoc}
use Rattle.std.proofs.lemmas.List.{append-nil}
use Rattle.std.proofs.lemmas.List.Elements.{All-head, All-tail}
use Rattle.pt_sector.specs.Sectors.{Writes}
use Rattle.pt_apply.specs.PlanTexts.{joined, IsWriteLine, IsFlushLine, LineItem, Put, Flush, IsLine, AreLines, PlanText, steps_of, puts}
use Rattle.pt_apply.specs.PlanTexts.{NoneEmpty, MayFollow, IsBadLine, LacksFlush, IsTextFault}
use Rattle.pt_apply.specs.declared.error.PlanTextError.{PlanTextError}
use Rattle.pt_apply.specs.declared.error.PlanTextError.TheVariants.{BadLine, NoFinalFlush, Memory}
use Rattle.pt_apply.proofs.Cuts.{one_cut, line_lineless, step_one}

-- the phases of steps, after these writes of the first
phases_back : Writes → List LineItem → List Writes
phases_back last [] = []
phases_back last (Put w ∷ ss) = phases_back (last ++ w ∷ []) ss
phases_back last (Flush ∷ ss) = last ∷ phases_back [] ss

back_puts : (p last : Writes) (ss : List LineItem) → phases_back last (puts p ++ ss) ≡ phases_back (last ++ p) ss
unfolding phases_back
back_puts [] last ss = ap (λ (t : Writes). phases_back t ss) (sym (append-nil last))
back_puts (w ∷ p) last ss = back_puts p (last ++ w ∷ []) ss ∙ ap (λ (t : Writes). phases_back t ss) (append_assoc last (w ∷ []) p)

back_steps : (phases : List Writes) → phases_back [] (steps_of phases) ≡ phases
unfolding phases_back
back_steps [] = refl
back_steps (p ∷ ps) = back_puts p [] (Flush ∷ steps_of ps) ∙ ap (λ (t : List Writes). p ∷ t) (back_steps ps)

-- whether the phase has a write after these steps
abbrev Goes : Bool → List LineItem → Bool → Type 0
Goes s [] t = s ≡ t
Goes s (Put w ∷ ss) t = Goes true ss t
Goes s (Flush ∷ ss) t = (s ≡ true) × Goes false ss t

abbrev has : Writes → Bool
has [] = false
has (w ∷ ws) = true

goes_true : (p : Writes) (ss : List LineItem) (t : Bool) → Goes true ss t → Goes true (puts p ++ ss) t
goes_true [] ss t h = h
goes_true (w ∷ p) ss t h = goes_true p ss t h

goes_puts : (p : Writes) (s : Bool) (ss : List LineItem) (t : Bool) → 0 < length p → Goes true ss t → Goes s (puts p ++ ss) t
goes_puts [] s ss t some h = absurd (omega arith)
goes_puts (w ∷ p) s ss t some h = goes_true p ss t h

goes_on : (p : Writes) → Goes true (puts p) true
goes_on [] = refl
goes_on (w ∷ p) = goes_on p

goes_last : (p : Writes) → Goes false (puts p) (has p)
goes_last [] = refl
goes_last (w ∷ p) = goes_on p

goes_plan : (phases : List Writes) (last : Writes) → NoneEmpty phases → Goes false (steps_of phases ++ puts last) (has last)
goes_plan [] last some = goes_last last
goes_plan (p ∷ ps) last some =
    subst (λ (ss : List LineItem). Goes false ss (has last)) (sym (append_assoc (puts p) (Flush ∷ steps_of ps) (puts last)))
    (goes_puts p false (Flush ∷ (steps_of ps ++ puts last)) (has last) (All-head (λ (q : Writes). 0 < length q) p ps some)
    (refl, goes_plan ps last (All-tail (λ (q : Writes). 0 < length q) p ps some)))

-- no line that may come stands at the head of the rest
abbrev Stuck : ℕ → Bool → List ℕ → Type 0
Stuck b t rest =
    (line after : List ℕ) → rest ≡ line ++ 10 ∷ after → ¬ (((w : ℕ × List ℕ) × IsWriteLine b line w) ⊎ (IsFlushLine line × (t ≡ true)))

pub record Same (ss ss' : List LineItem) (lines lines' : List (List ℕ)) (r r' : List ℕ) (t t' : Bool) : Type 0 where
  pub steps : ss ≡ ss'
  pub count : length lines ≡ length lines'
  pub rest : r ≡ r'
  pub state : t ≡ t'

not_stuck : (b : ℕ) (s : Bool) (step : LineItem) (ss : List LineItem) (t : Bool) (line rest more : List ℕ) → IsLine b line step
    → Goes s (step ∷ ss) t → rest ≡ line ++ 10 ∷ more → Stuck b s rest → ⊥
not_stuck b s (Put w) ss t line rest more is goes e stuck = stuck line more e (inl (w, is))
not_stuck b s Flush ss t line rest more is goes e stuck = stuck line more e (inr (is, goes.0))

next : LineItem → Bool
next (Put w) = true
next Flush = false

goes_next : (s : Bool) (step : LineItem) (ss : List LineItem) (t : Bool) → Goes s (step ∷ ss) t → Goes (next step) ss t
unfolding next
goes_next s (Put w) ss t h = h
goes_next s Flush ss t h = h.1

one_reading : (b : ℕ) (lines lines' : List (List ℕ)) (ss ss' : List LineItem) (s t t' : Bool) (rest rest' : List ℕ)
    → AreLines b lines ss → AreLines b lines' ss' → Goes s ss t → Goes s ss' t' → joined lines rest ≡ joined lines' rest'
    → Stuck b t rest → Stuck b t' rest' → Same ss ss' lines lines' rest rest' t t'
one_reading b [] [] [] [] s t t' rest rest' h h' g g' e stuck stuck' = record { steps = refl; count = refl; rest = e; state = sym g ∙ g' }
one_reading b [] lines' (x ∷ ss) ss' s t t' rest rest' h h' g g' e stuck stuck' = absurd h
one_reading b (l ∷ lines) lines' [] ss' s t t' rest rest' h h' g g' e stuck stuck' = absurd h
one_reading b [] [] [] (y ∷ ss') s t t' rest rest' h h' g g' e stuck stuck' = absurd h'
one_reading b [] (m ∷ lines') [] [] s t t' rest rest' h h' g g' e stuck stuck' = absurd h'
one_reading b [] (m ∷ lines') [] (y ∷ ss') s t t' rest rest' h h' g g' e stuck stuck' =
    absurd (not_stuck b s y ss' t' m rest (joined lines' rest') h'.0 g' e (subst (λ (u : Bool). Stuck b u rest) (sym g) stuck))
one_reading b (l ∷ lines) [] (x ∷ ss) [] s t t' rest rest' h h' g g' e stuck stuck' =
    absurd (not_stuck b s x ss t l rest' (joined lines rest) h.0 g (sym e) (subst (λ (u : Bool). Stuck b u rest') (sym g') stuck'))
one_reading b (l ∷ lines) [] (x ∷ ss) (y ∷ ss') s t t' rest rest' h h' g g' e stuck stuck' = absurd h'
one_reading b (l ∷ lines) (m ∷ lines') (x ∷ ss) [] s t t' rest rest' h h' g g' e stuck stuck' = absurd h'
one_reading b (l ∷ lines) (m ∷ lines') (x ∷ ss) (y ∷ ss') s t t' rest rest' h h' g g' e stuck stuck' =
    let cut = one_cut 10 l m (joined lines rest) (joined lines' rest') (line_lineless b l x h.0) (line_lineless b m y h'.0) e in
    let step = step_one b m x y (subst (λ (k : List ℕ). IsLine b k x) cut.0 h.0) h'.0 in
    let state = subst (λ (z : LineItem). Goes (next z) ss' t') (sym step) (goes_next s y ss' t' g') in
    let more = one_reading b lines lines' ss ss' (next x) t t' rest rest' h.1 h'.1 (goes_next s x ss t g) state cut.1 stuck stuck' in
    record {
      steps = ap (λ (z : LineItem). z ∷ ss) step ∙ ap (λ (zs : List LineItem). y ∷ zs) more.steps;
      count = ap suc more.count;
      rest = more.rest;
      state = more.state;
    }

empty_stuck : (b : ℕ) (t : Bool) → Stuck b t []
empty_stuck b t [] after e fits = cc e
empty_stuck b t (x ∷ line) after e fits = cc e

has_some : (last : Writes) → has last ≡ true → 0 < length last
has_some [] e = cc e
has_some (w ∷ ws) e = omega arith

some_has : (last : Writes) → 0 < length last → has last ≡ true
some_has [] some = absurd (omega arith)
some_has (w ∷ ws) some = refl

fits_of : (b : ℕ) (last : Writes) (line : List ℕ)
    → ((w : ℕ × List ℕ) × IsWriteLine b line w) ⊎ (IsFlushLine line × (has last ≡ true)) → MayFollow b last line
fits_of b last line (inl is) = inl is
fits_of b last line (inr is) = inr (is.0, has_some last is.1)

-- lines that begin a plan up to where no line may come
record Reads (b : ℕ) (text : List ℕ) (lines : List (List ℕ)) (steps : List LineItem) (rest : List ℕ) (t : Bool) : Type 0 where
  pub whole : text ≡ joined lines rest
  pub each : AreLines b lines steps
  pub goes : Goes false steps t
  pub stuck : Stuck b t rest

same_reads : (b : ℕ) (text : List ℕ) (lines lines' : List (List ℕ)) (ss ss' : List LineItem) (rest rest' : List ℕ) (t t' : Bool)
    → Reads b text lines ss rest t → Reads b text lines' ss' rest' t' → Same ss ss' lines lines' rest rest' t t'
same_reads b text lines lines' ss ss' rest rest' t t' h k =
    one_reading b lines lines' ss ss' false t t' rest rest' h.each k.each h.goes k.goes (sym h.whole ∙ k.whole) h.stuck k.stuck

reads_plan : (b : ℕ) (phases : List Writes) (text : List ℕ) (h : PlanText b phases text) → Reads b text h.lines (steps_of phases) [] false
reads_plan b phases text h =
    let e = append-nil (steps_of phases) in
    record {
      whole = h.whole;
      each = subst (AreLines b h.lines) e h.begins.each;
      goes = subst (λ (ss : List LineItem). Goes false ss false) e (goes_plan phases [] h.begins.some);
      stuck = empty_stuck b false;
    }

reads_bad : (b : ℕ) (text : List ℕ) (n : ℕ) (h : IsBadLine b text n)
    → Reads b text h.lines (steps_of h.phases ++ puts h.last) h.rest (has h.last)
reads_bad b text n h = record {
  whole = h.whole;
  each = h.begins.each;
  goes = goes_plan h.phases h.last h.begins.some;
  stuck = λ line after e may. h.bad line after e (fits_of b h.last line may);
}

reads_open : (b : ℕ) (text : List ℕ) (h : LacksFlush b text) → Reads b text h.lines (steps_of h.phases ++ puts h.last) [] (has h.last)
reads_open b text h = record {
  whole = h.whole;
  each = h.begins.each;
  goes = goes_plan h.phases h.last h.begins.some;
  stuck = empty_stuck b (has h.last);
}

pub plan_one : (b : ℕ) (p q : List Writes) (text : List ℕ) → PlanText b p text → PlanText b q text → p ≡ q
plan_one b p q text h k =
    let same =
    same_reads b text h.lines k.lines (steps_of p) (steps_of q) [] [] false false (reads_plan b p text h) (reads_plan b q text k) in
    sym (back_steps p) ∙ (ap (phases_back []) same.steps ∙ back_steps q)

pub plan_faultless : (b : ℕ) (p : List Writes) (text : List ℕ) (e : PlanTextError) → PlanText b p text → ¬ IsTextFault b text e
plan_faultless b p text (BadLine n) h k =
    let same = same_reads b text h.lines k.lines _ _ [] k.rest false (has k.last) (reads_plan b p text h) (reads_bad b text n k) in
    let some = k.more in
    let len = ap (λ (t : List ℕ). length t) same.rest in
    absurd (omega (arith, some, len))
plan_faultless b p text NoFinalFlush h k =
    let same = same_reads b text h.lines k.lines _ _ [] [] false (has k.last) (reads_plan b p text h) (reads_open b text k) in
    let no : false ≡ true = same.state ∙ some_has k.last k.more in cc no
plan_faultless b p text Memory h k = k

bad_not_open : (b : ℕ) (text : List ℕ) (n : ℕ) → IsBadLine b text n → LacksFlush b text → ⊥
bad_not_open b text n h k =
    let same = same_reads b text k.lines h.lines _ _ [] h.rest (has k.last) (has h.last) (reads_open b text k) (reads_bad b text n h) in
    let some = h.more in
    let len = ap (λ (t : List ℕ). length t) same.rest in
    omega (arith, some, len)

bad_one : (b : ℕ) (text : List ℕ) (m n : ℕ) → IsBadLine b text m → IsBadLine b text n → m ≡ n
bad_one b text m n h k =
    let same =
    same_reads b text h.lines k.lines _ _ h.rest k.rest (has h.last) (has k.last) (reads_bad b text m h) (reads_bad b text n k) in
    h.number ∙ (ap (λ (c : ℕ). c + 1) same.count ∙ sym k.number)

pub fault_one : (b : ℕ) (text : List ℕ) (e f : PlanTextError) → IsTextFault b text e → IsTextFault b text f → e ≡ f
fault_one b text (BadLine m) (BadLine n) h k = ap BadLine (bad_one b text m n h k)
fault_one b text (BadLine m) NoFinalFlush h k = absurd (bad_not_open b text m h k)
fault_one b text NoFinalFlush (BadLine n) h k = absurd (bad_not_open b text n k h)
fault_one b text NoFinalFlush NoFinalFlush h k = refl
fault_one b text Memory f h k = absurd h
fault_one b text (BadLine m) Memory h k = absurd k
fault_one b text NoFinalFlush Memory h k = absurd k

-- The canonical text is the plan's.
use Rattle.std.proofs.Common.{◌≡◌, ◌<◌, ◌^◌, ◌+◌, ℕ, List, [], ◌∷◌, ◌++◌, length, map, refl, sym, ap, ◌∙◌, subst, arith, append_assoc}
use Rattle.std.proofs.Common.{◌≤◌, get_or, take, Result, Ok, Err}
use Rattle.std.proofs.lemmas.List.{append-nil, map-append, take_more, take_all, length-map}
use Rattle.std.proofs.lemmas.List.Elements.{All-nil, All-cons, All-head, All-tail}
use Rattle.std.specs.Prelude.{All, OnOk, Vec}
use Rattle.std.specs.declared.alloc.Global.{Global}
use Rattle.pt_apply.specs.declared.plan.Write.{Write}
use Rattle.pt_apply.specs.Plans.{writes_of}
use Rattle.pt_apply.specs.inner.Plans.{phases_in}
use Rattle.pt_sector.specs.Sectors.{Writes}
use Rattle.pt_apply.specs.PlanTexts.{joined, Flush, AreLines, PlanText, steps_of, puts, NoneEmpty, write_line, writes_text, text_of}
use Rattle.pt_apply.specs.inner.PlanTexts.{HasLine}
use Rattle.pt_apply.proofs.CanonicalLemmas.{HaveLines}
use Rattle.hex.specs.Hex.{encode_lower, IsBytes}
use Rattle.hex.proofs.HexLemmas.{decode_sized-encode_lower}
use Rattle.std.specs.List.{concat}
use Rattle.pt_apply.proofs.Growing.{lines_append}

lines_of : List Writes → List (List ℕ)
lines_of [] = []
lines_of (p ∷ ps) = map write_line p ++ (70 ∷ []) ∷ lines_of ps

joined_phase : (p : Writes) (lines : List (List ℕ)) (rest : List ℕ)
    → joined (map write_line p ++ (70 ∷ []) ∷ lines) rest ≡ writes_text p ++ (70 ∷ 10 ∷ joined lines rest)
joined_phase [] lines rest = refl
joined_phase (w ∷ p) lines rest =
    ap (λ (t : List ℕ). write_line w ++ 10 ∷ t) (joined_phase p lines rest)
    ∙ (sym (append_assoc (write_line w) (10 ∷ []) (writes_text p ++ (70 ∷ 10 ∷ joined lines rest)))
    ∙ sym (append_assoc (write_line w ++ 10 ∷ []) (writes_text p) (70 ∷ 10 ∷ joined lines rest)))

joined_text : (phases : List Writes) → text_of phases ≡ joined (lines_of phases) []
unfolding lines_of
joined_text [] = refl
joined_text (p ∷ ps) =
    append_assoc (writes_text p) (70 ∷ 10 ∷ []) (text_of ps)
    ∙ (ap (λ (t : List ℕ). writes_text p ++ (70 ∷ 10 ∷ t)) (joined_text ps) ∙ sym (joined_phase p (lines_of ps) []))

phase_lines : (b : ℕ) (p : Writes) → All (HasLine b) p → AreLines b (map write_line p) (puts p)
phase_lines b [] all = tt
phase_lines b (w ∷ p) all = (All-head (HasLine b) w p all, phase_lines b p (All-tail (HasLine b) w p all))

plan_lines : (b : ℕ) (phases : List Writes) → HaveLines b phases → AreLines b (lines_of phases) (steps_of phases)
unfolding lines_of
plan_lines b [] all = tt
plan_lines b (p ∷ ps) all =
    let P : Writes → Type 0 = λ q. All (HasLine b) q in
    lines_append b (map write_line p) ((70 ∷ []) ∷ lines_of ps) (puts p) (Flush ∷ steps_of ps) (phase_lines b p (All-head P p ps all))
    (refl, plan_lines b ps (All-tail P p ps all))

pub canonical : (b : ℕ) (phases : List Writes) (text : List ℕ) → text ≡ text_of phases → NoneEmpty phases → HaveLines b phases
    → PlanText b phases text
canonical b phases text is some all = record {
  lines = lines_of phases;
  whole = is ∙ joined_text phases;
  begins =
      record { some = some; each = subst (AreLines b (lines_of phases)) (sym (append-nil (steps_of phases))) (plan_lines b phases all) };
}

-- one more of the pieces of a text
pub concat_more : {X : Type 0} (f : X → List ℕ) (xs : List X) (x : X) → concat (map f (xs ++ x ∷ [])) ≡ concat (map f xs) ++ f x
concat_more f [] x = append-nil (f x)
concat_more f (y ∷ xs) x = ap (λ (t : List ℕ). f y ++ t) (concat_more f xs x) ∙ sym (append_assoc (f y) (concat (map f xs)) (f x))

pub has_line : (b n : ℕ) (bytes : List ℕ) → n < 2 ^ 64 → length bytes ≡ b → IsBytes bytes → HasLine b (n, bytes)
has_line b n bytes fits size are =
    record { digits = encode_lower bytes; fits = fits; bytes = decode_sized-encode_lower bytes b size are; written = refl }

all_more : {X : Type 0} (P : X → Type 0) (xs : List X) (x : X) → All P xs → P x → All P (xs ++ x ∷ [])
all_more P [] x all is = All-cons P x [] is (All-nil P)
all_more P (y ∷ xs) x all is = All-cons P y (xs ++ x ∷ []) (All-head P y xs all) (all_more P xs x (All-tail P y xs all) is)

taken_more : {X Y : Type 0} (g : X → Y) (xs : List X) (i : ℕ) (x : X) → i < length xs → x ≡ get_or xs i x
    → map g (take (i + 1) xs) ≡ map g (take i xs) ++ g x ∷ []
taken_more g xs i x within is =
    ap (λ (t : List _). map g t) (take_more xs i x within ∙ ap (λ (y : _). take i xs ++ y ∷ []) (sym is))
    ∙ map-append g (take i xs) (x ∷ [])

-- the text once one more item is written
pub text_more : {X Y : Type 0} (f : Y → List ℕ) (g : X → Y) (xs : List X) (i : ℕ) (x : X) (start old new : List ℕ) → i < length xs
    → x ≡ get_or xs i x
    → old ≡ start ++ concat (map f (map g (take i xs))) → new ≡ old ++ f (g x) → new ≡ start ++ concat (map f (map g (take (i + 1) xs)))
text_more f g xs i x start old new within is before more =
    more ∙ (ap (λ (t : List ℕ). t ++ f (g x)) before
    ∙ (append_assoc start (concat (map f (map g (take i xs)))) (f (g x))
    ∙ ap (λ (t : List ℕ). start ++ t) (sym (concat_more f (map g (take i xs)) (g x))
    ∙ ap (λ (t : List _). concat (map f t)) (sym (taken_more g xs i x within is)))))

pub held_more : {X Y : Type 0} (P : Y → Type 0) (g : X → Y) (xs : List X) (i : ℕ) (x : X) → i < length xs → x ≡ get_or xs i x
    → All P (map g (take i xs)) → P (g x) → All P (map g (take (i + 1) xs))
held_more P g xs i x within is all at =
    subst (λ (t : List _). All P t) (sym (taken_more g xs i x within is)) (all_more P (map g (take i xs)) (g x) all at)

pub all_taken : {X Y : Type 0} (P : Y → Type 0) (g : X → Y) (xs : List X) (i : ℕ) → length xs ≤ i → All P (map g (take i xs))
    → All P (map g xs)
all_taken P g xs i past all = subst (λ (t : List _). All P (map g t)) (take_all i xs past) all

pub on_ok : {T E : Type 0} (r : Result T E) (P : Type 0) → P → OnOk r P
on_ok (Ok x) P h = h
on_ok (Err e) P h = tt

abbrev HasWrites : {b : ℕ} → Vec (Write b) Global → Type 0
HasWrites p = 0 < length p.items

pub none_empty : {b : ℕ} (items : List (Vec (Write b) Global)) → All (λ (p : Vec (Write b) Global). 0 < length p.items) items
    → NoneEmpty (phases_in items)
none_empty [] all = All-nil (λ (q : Writes). 0 < length q)
none_empty (p ∷ items) all =
    All-cons (λ (q : Writes). 0 < length q) (writes_of p.items) (phases_in items)
    (let some = All-head HasWrites p items all in let len = length-map {B = ℕ × List ℕ} p.items
    (λ (w : Write _). (w.lba.0, w.bytes)) in omega (arith, some, len))
    (none_empty items (All-tail HasWrites p items all))

pub phases_some : {b : ℕ} (items : List (Vec (Write b) Global)) → NoneEmpty (phases_in items)
    → All (λ (p : Vec (Write b) Global). 0 < length p.items) items
phases_some [] all = All-nil HasWrites
phases_some (p ∷ items) all =
    All-cons HasWrites p items
    (let some = All-head (λ (q : Writes). 0 < length q) (writes_of p.items) (phases_in items) all in
    let len = length-map {B = ℕ × List ℕ} p.items (λ (w : Write _). (w.lba.0, w.bytes)) in omega (arith, some, len))
    (phases_some items (All-tail (λ (q : Writes). 0 < length q) (writes_of p.items) (phases_in items) all))

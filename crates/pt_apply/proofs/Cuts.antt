-- Texts that are cut at a byte, and the bytes that a line lacks.
use Rattle.std.proofs.Common.{◌≡◌, ◌≢◌, inl, inr, ◌<◌, ◌^◌, ℕ, zero, suc, List, [], ◌∷◌, ◌++◌, length, Bool, true, false, refl, sym, ap}
use Rattle.std.proofs.Common.{◌∙◌, subst, arith, Result, Option, Some, None, Bor, IfNone, length-append}
use Rattle.std.specs.Fmt.{decimal}
use Rattle.std.proofs.lemmas.Fmt.{decimal_injective}
use Rattle.std.proofs.lemmas.List.Elements.{All-head, All-tail}
use Rattle.std.specs.List.{AllPass}
use Rattle.std.specs.Prelude.{IsOk, IfSome}
use Rattle.std.specs.Option.{MatchOption}
use Rattle.std.specs.Bool.{MatchBool}
use Rattle.std.proofs.Math.Seq.{get_or-append_seam}
use Rattle.pt_sector.specs.Sectors.{Writes}
use Rattle.pt_apply.specs.PlanTexts.{MayFollow, IsWriteLine, IsFlushLine, LineItem, Put, Flush, IsLine}
use Rattle.std.specs.Result.{result_unwrap_or}
use Rattle.hex.specs.Hex.{decode_sized, is_hex_digit}
use Rattle.hex.specs.declared.error.FromHexError.{FromHexError}
use Rattle.hex.proofs.HexLemmas.{IsOk-decode_sized}
use Rattle.pt_path.proofs.Numbers.{lacks}
use Rattle.pt_apply.specs.inner.PlanTexts.{Lacks}

-- what holds anyway is said of none
pub if_none : {X P : Type 0} (found : Option X) → P → IfNone found P
if_none None p = p
if_none (Some x) p = tt

pub lacks_nil : (c : ℕ) → Lacks c []
lacks_nil c i within = absurd (omega arith)

pub lacks_cons : (c x : ℕ) (xs : List ℕ) → x ≢ c → Lacks c xs → Lacks c (x ∷ xs)
lacks_cons c x xs not rest zero within = not
lacks_cons c x xs not rest (suc i) within = rest i (omega (arith, within))

pub lacks_tail : (c x : ℕ) (xs : List ℕ) → Lacks c (x ∷ xs) → Lacks c xs
lacks_tail c x xs h i within = h (suc i) (omega (arith, within))

pub lacks_append : (c : ℕ) (xs ys : List ℕ) → Lacks c xs → Lacks c ys → Lacks c (xs ++ ys)
lacks_append c [] ys hx hy = hy
lacks_append c (x ∷ xs) ys hx hy = lacks_cons c x (xs ++ ys) (hx 0 (omega arith)) (lacks_append c xs ys (lacks_tail c x xs hx) hy)

head_of : List ℕ → ℕ
head_of [] = 0
head_of (x ∷ xs) = x

tail_of : List ℕ → List ℕ
tail_of [] = []
tail_of (x ∷ xs) = xs

same_head : (x y : ℕ) (xs ys : List ℕ) → x ∷ xs ≡ y ∷ ys → x ≡ y
unfolding head_of
same_head x y xs ys e = ap head_of e

same_tail : (x y : ℕ) (xs ys : List ℕ) → x ∷ xs ≡ y ∷ ys → xs ≡ ys
unfolding tail_of
same_tail x y xs ys e = ap tail_of e

-- a text has one first place of a byte
pub one_cut : (c : ℕ) (a b x y : List ℕ) → Lacks c a → Lacks c b → a ++ c ∷ x ≡ b ++ c ∷ y → (a ≡ b) × (x ≡ y)
one_cut c [] [] x y ha hb e = (refl, same_tail c c x y e)
one_cut c [] (n ∷ b) x y ha hb e = absurd (hb 0 (omega arith) (sym (same_head c n x (b ++ c ∷ y) e)))
one_cut c (m ∷ a) [] x y ha hb e = absurd (ha 0 (omega arith) (same_head m c (a ++ c ∷ x) y e))
one_cut c (m ∷ a) (n ∷ b) x y ha hb e =
    let rest = one_cut c a b x y (lacks_tail c m a ha) (lacks_tail c n b hb) (same_tail m n (a ++ c ∷ x) (b ++ c ∷ y) e) in
    let first = same_head m n (a ++ c ∷ x) (b ++ c ∷ y) e in
    (ap (λ (k : ℕ). k ∷ a) first ∙ ap (λ (t : List ℕ). n ∷ t) rest.0, rest.1)

-- the numbers' texts have neither spaces nor newlines
pub decimal_spaceless : (n : ℕ) → n < 2 ^ 64 → Lacks 32 (decimal n)
decimal_spaceless n fits i within = lacks n 32 i fits (λ h. omega (arith, h.0, h.1)) within

decimal_lineless : (n : ℕ) → n < 2 ^ 64 → Lacks 10 (decimal n)
decimal_lineless n fits i within = lacks n 10 i fits (λ h. omega (arith, h.0, h.1)) within

abbrev Digit : ℕ → Type 0
Digit c = is_hex_digit c ≡ true

hex_lineless : (digits : List ℕ) → AllPass is_hex_digit digits → Lacks 10 digits
hex_lineless [] all = lacks_nil 10
hex_lineless (x ∷ digits) all =
    lacks_cons 10 x digits (λ e. let at = All-head Digit x digits all in let no : is_hex_digit 10 ≡ true = subst Digit e at in cc no)
    (hex_lineless digits (All-tail Digit x digits all))

pub write_lineless : (b : ℕ) (line : List ℕ) (w : ℕ × List ℕ) → IsWriteLine b line w → Lacks 10 line
write_lineless b line w is =
    let ok : IsOk (decode_sized is.digits b) = rw is.bytes refl in
    let all = ((IsOk-decode_sized is.digits b).0 ok).1 in
    let rest = lacks_cons 10 32 is.digits (λ e. cc e) (hex_lineless is.digits all) in
    let behind = lacks_append 10 (decimal w.0) (32 ∷ is.digits) (decimal_lineless w.0 is.fits) rest in
    subst (Lacks 10) (sym is.written)
    (lacks_cons 10 87 (32 ∷ (decimal w.0 ++ 32 ∷ is.digits)) (λ e. cc e)
    (lacks_cons 10 32 (decimal w.0 ++ 32 ∷ is.digits) (λ e. cc e) behind))

pub line_lineless : (b : ℕ) (line : List ℕ) (s : LineItem) → IsLine b line s → Lacks 10 line
line_lineless b line (Put w) is = write_lineless b line w is
line_lineless b line Flush is = subst (Lacks 10) (sym is) (lacks_cons 10 70 [] (λ e. cc e) (lacks_nil 10))

-- a line stands for one write, and for no flush then
pub write_one : (b : ℕ) (line : List ℕ) (v w : ℕ × List ℕ) → IsWriteLine b line v → IsWriteLine b line w → v ≡ w
write_one b line v w hv hw =
    let e = sym hv.written ∙ hw.written in
    let inner = same_tail 32 32 _ _ (same_tail 87 87 _ _ e) in
    let parts =
    one_cut 32 (decimal v.0) (decimal w.0) hv.digits hw.digits (decimal_spaceless v.0 hv.fits) (decimal_spaceless w.0 hw.fits) inner in
    let number = decimal_injective v.0 w.0 hv.fits hw.fits parts.0 in
    let bytes : v.1 ≡ w.1 =
    ap (λ (r : Result (List ℕ) FromHexError). result_unwrap_or r [])
    (sym hv.bytes ∙ (ap (λ (d : List ℕ). decode_sized d b) parts.1 ∙ hw.bytes)) in
    ap (λ (n : ℕ). (n, v.1)) number ∙ ap (λ (t : List ℕ). (w.0, t)) bytes

pub write_no_flush : (b : ℕ) (line : List ℕ) (w : ℕ × List ℕ) → IsWriteLine b line w → IsFlushLine line → ⊥
write_no_flush b line w is flush = let e = same_head 87 70 _ _ (sym is.written ∙ flush) in cc e

pub step_one : (b : ℕ) (line : List ℕ) (s t : LineItem) → IsLine b line s → IsLine b line t → s ≡ t
step_one b line (Put v) (Put w) hs ht = ap Put (write_one b line v w hs ht)
step_one b line (Put v) Flush hs ht = absurd (write_no_flush b line v hs ht)
step_one b line Flush (Put w) hs ht = absurd (write_no_flush b line w ht hs)
step_one b line Flush Flush hs ht = refl

-- what a cut at the first c says of a text
abbrev pub Parts : ℕ → List ℕ → Option (Bor (List ℕ) × Bor (List ℕ)) → Type 0
Parts c text r = MatchOption r (Lacks c text) (λ x. (text ≡ x.0.now ++ c ∷ x.1.now) × Lacks c x.0.now)

pub fields_found : (text letter rest : List ℕ) (r : Option (Bor (List ℕ) × Bor (List ℕ))) → text ≡ letter ++ 32 ∷ rest
    → letter ≡ 87 ∷ [] → Parts 32 rest r
    → IfSome r (λ x. (text ≡ 87 ∷ 32 ∷ (x.0.now ++ 32 ∷ x.1.now)) × Lacks 32 x.0.now)
fields_found text letter rest None whole is parts = tt
fields_found text letter rest (Some x) whole is parts =
    (whole ∙ (ap (λ (t : List ℕ). t ++ 32 ∷ rest) is ∙ ap (λ (t : List ℕ). 87 ∷ 32 ∷ t) parts.0), parts.1)

pub fields_missing : (text letter rest : List ℕ) (r : Option (Bor (List ℕ) × Bor (List ℕ))) → text ≡ letter ++ 32 ∷ rest
    → letter ≡ 87 ∷ [] → Parts 32 rest r
    → IfNone r ((number digits : List ℕ) → Lacks 32 number → text ≢ 87 ∷ 32 ∷ (number ++ 32 ∷ digits))
fields_missing text letter rest (Some x) whole is parts = tt
fields_missing text letter rest None whole is parts = λ number digits lack e.
    let start = whole ∙ ap (λ (t : List ℕ). t ++ 32 ∷ rest) is in
    let same = same_tail 32 32 _ _ (same_tail 87 87 _ _ (sym start ∙ e)) in
    let within : length number < length rest = rw same (let len = length-append number (32 ∷ digits) in omega (arith, len)) in
    parts (length number) within (rw same (get_or-append_seam number 32 digits 0))

-- the fields of the line of a write
pub fields_one : (b : ℕ) (line number digits : List ℕ) (w : ℕ × List ℕ) → line ≡ 87 ∷ 32 ∷ (number ++ 32 ∷ digits) → Lacks 32 number
    → (is : IsWriteLine b line w) → (number ≡ decimal w.0) × (digits ≡ is.digits)
fields_one b line number digits w whole lack is =
    one_cut 32 number (decimal w.0) digits is.digits lack (decimal_spaceless w.0 is.fits)
    (same_tail 32 32 _ _ (same_tail 87 87 _ _ (sym whole ∙ is.written)))

pub no_fit : (b : ℕ) (last : Writes) (line : List ℕ) → ((s : LineItem) → ¬ IsLine b line s) → ¬ MayFollow b last line
no_fit b last line none (inl is) = none (Put is.0) is.1
no_fit b last line none (inr is) = none Flush is.0

pub when_true : (t : Bool) (P Q : Type 0) → t ≡ true → MatchBool t P Q → P
when_true true P Q e h = h
when_true false P Q e h = cc e

pub when_false : (t : Bool) (P Q : Type 0) → t ≡ false → MatchBool t P Q → Q
when_false true P Q e h = cc e
when_false false P Q e h = h

-- Bytes of which a part changes.
use Rattle.std.proofs.Common.{◌≡◌, ◌⊎◌, ℕ, ◌+◌, ◌-◌, ◌≤◌, List, [], ◌++◌, length, take, drop, refl, sym, ap, ◌∙◌, arith, inl, inr}
use Rattle.std.proofs.Common.{append_assoc, length-append, length-drop}
use Rattle.std.specs.Prelude.{slice_range}
use Rattle.std.proofs.lemmas.List.{take-take, drop-drop, drop-take, drop_at, take_at, length-take-le}
use Rattle.pt_bsd.specs.inner.Labels.{put_at, ChangesOnly}

-- a part behind what stands already
pub put_next : (i : ℕ) (part front behind : List ℕ) → length front ≡ i
    → put_at i part (front ++ behind) ≡ front ++ (part ++ drop (length part) behind)
unfolding put_at
put_next i part front behind long =
    let rest : drop (i + length part) (front ++ behind) ≡ drop (length part) behind =
    sym (drop-drop (length part) i (front ++ behind)) ∙ ap (drop (length part)) (drop_at front behind i long) in
    rw (take_at front behind i long, rest) refl

-- three parts, one behind the other
pub put_three : (j k : ℕ) (a b c bytes : List ℕ) → length a ≡ j → length a + length b ≡ k
    → put_at k c (put_at j b (put_at 0 a bytes)) ≡ a ++ (b ++ (c ++ drop (length c) (drop (length b) (drop (length a) bytes))))
put_three j k a b c bytes first second =
    let rest = drop (length b) (drop (length a) bytes) in
    ap (λ (x : List ℕ). put_at k c (put_at j b x)) (put_next 0 a [] bytes refl)
    ∙ ap (put_at k c) (put_next j b a (drop (length a) bytes) first)
    ∙ ap (put_at k c) (sym (append_assoc a b rest))
    ∙ put_next k c (a ++ b) rest (length-append a b ∙ second)
    ∙ append_assoc a b (c ++ drop (length c) rest)

pub length-put_at : (i : ℕ) (part bytes : List ℕ) → i + length part ≤ length bytes → length (put_at i part bytes) ≡ length bytes
unfolding put_at
length-put_at i part bytes within =
    let front = length-take-le i bytes (omega arith) in
    let behind = length-drop (i + length part) bytes in
    let two = length-append part (drop (i + length part) bytes) in
    length-append (take i bytes) (part ++ drop (i + length part) bytes) ∙ omega (arith, front, behind, two)

take-put_at : (i : ℕ) (part bytes : List ℕ) → i + length part ≤ length bytes → take i (put_at i part bytes) ≡ take i bytes
unfolding put_at
take-put_at i part bytes within = take_at (take i bytes) (part ++ drop (i + length part) bytes) i (length-take-le i bytes (omega arith))

drop-put_at : (i : ℕ) (part bytes : List ℕ) → i + length part ≤ length bytes
    → drop (i + length part) (put_at i part bytes) ≡ drop (i + length part) bytes
unfolding put_at
drop-put_at i part bytes within =
    let behind = drop (i + length part) bytes in
    sym (drop-drop (length part) i (take i bytes ++ (part ++ behind)))
    ∙ ap (drop (length part)) (drop_at (take i bytes) (part ++ behind) i (length-take-le i bytes (omega arith)))
    ∙ drop_at part behind (length part) refl

-- a part that is put changes its own place only
pub put_changes : (i j : ℕ) (part bytes : List ℕ) → i + length part ≡ j → j ≤ length bytes → ChangesOnly i j bytes (put_at i part bytes)
put_changes i j part bytes end within =
    let inside : i + length part ≤ length bytes = omega arith in
    record {
      count = length-put_at i part bytes inside;
      before = take-put_at i part bytes inside;
      behind = rw end at (drop-put_at i part bytes inside);
    }

take_less : (m n : ℕ) (a b : List ℕ) → m ≤ n → take n a ≡ take n b → take m a ≡ take m b
take_less m n a b le same = sym (take-take m n a le) ∙ ap (take m) same ∙ take-take m n b le

drop_further : (m n : ℕ) (a b : List ℕ) → n ≤ m → drop n a ≡ drop n b → drop m a ≡ drop m b
drop_further m n a b le same =
    let at : n + (m - n) ≡ m = omega arith in
    let all : drop (n + (m - n)) a ≡ drop (n + (m - n)) b = sym (drop-drop (m - n) n a) ∙ ap (drop (m - n)) same ∙ drop-drop (m - n) n b in
    rw at at all

-- a change within less is one within more
pub changes_wider : (i j m n : ℕ) (a b : List ℕ) → m ≤ i → j ≤ n → ChangesOnly i j a b → ChangesOnly m n a b
changes_wider i j m n a b low high only = record {
  count = only.count;
  before = take_less m i b a low only.before;
  behind = drop_further n j b a high only.behind;
}

pub changes_none : (i j : ℕ) (a : List ℕ) → ChangesOnly i j a a
changes_none i j a = record { count = refl; before = refl; behind = refl }

pub changes_both : (i j : ℕ) (a b c : List ℕ) → ChangesOnly i j a b → ChangesOnly i j b c → ChangesOnly i j a c
changes_both i j a b c first second =
    record { count = second.count ∙ first.count; before = second.before ∙ first.before; behind = second.behind ∙ first.behind }

-- what doesn't meet the change stays
pub range_kept : (i j p q : ℕ) (old new : List ℕ) → ChangesOnly i j old new → p ≤ q → (q ≤ i) ⊎ (j ≤ p)
    → slice_range new p q ≡ slice_range old p q
range_kept i j p q old new only up (inl before) =
    let at : p + (q - p) ≡ q = omega arith in
    sym (drop-take p (q - p) new) ∙ ap (drop p) (take_less (p + (q - p)) i new old (omega arith) only.before) ∙ drop-take p (q - p) old
range_kept i j p q old new only up (inr behind) = ap (take (q - p)) (drop_further p j new old behind only.behind)

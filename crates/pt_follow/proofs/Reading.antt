-- What was read of an array after some of its sectors.
use Rattle.std.specs.Prelude.{◌≡◌, ◌<◌, ◌≤◌, ◌↔◌, ℕ, ◌+◌, ◌-◌, ◌*◌, List, [], ◌∷◌, ◌++◌, length, take, slice_index_or, Option}
use Rattle.std.specs.Prelude.{IsTrue, Bool, false}
use Rattle.pt_sum.specs.Sums.{crc_of}
use Rattle.std.proofs.Common.{sym, ap, ◌∙◌, subst, arith, inl, inr, min}
use Rattle.std.proofs.lemmas.Bool.{cases_lt}
use Rattle.std.proofs.lemmas.List.{get_or_append_left, get_or_push, take_min}
use Rattle.pt_sector.specs.Sectors.{Sectors, sector}
use Rattle.pt_gpt.specs.Copies.{counted}
use Rattle.pt_gpt.specs.declared.entry.Entry.{Entry}
use Rattle.pt_gpt.proofs.Parts.{Streamed, streamed_none, streamed_more}
use Rattle.pt_follow.specs.Follow.{SectorHas}
use Rattle.pt_follow.specs.inner.Follow.{ReadArray}

-- the bytes of those of an array's m that lie in sector k
abbrev part : ℕ → Sectors → ℕ → ℕ → ℕ → List ℕ
part b d at m k = take (m - k * b) (sector d (at + k))

-- the entries' bytes, of m that count, and the sums and flags of the sectors so far
pub record ReadSoFar (b m at i : ℕ) (d : Sectors) (es : List (Option Entry)) (bytes sums : List ℕ) (flags : List Bool) : Type 0 where
  pub streamed : Streamed b m at i d bytes
  pub whole : (j : ℕ) → j < i → length (sector d (at + j)) ≡ b
  pub sums_are : (j : ℕ) → j < i → slice_index_or sums j 0 ≡ crc_of (part b d at m j)
  pub same : (j : ℕ) → j < i → IsTrue (slice_index_or flags j false) ↔ SectorHas b es j (sector d (at + j))

pub read_none : (b m at : ℕ) (d : Sectors) (es : List (Option Entry)) (sums : List ℕ) (flags : List Bool)
    → ReadSoFar b m at 0 d es [] sums flags
read_none b m at d es sums flags = record {
  streamed = streamed_none b m at d;
  whole = λ j lt. absurd (omega arith);
  sums_are = λ j lt. absurd (omega arith);
  same = λ j lt. absurd (omega arith);
}

-- one sector more
pub record NextSector (b m at i left : ℕ) (d : Sectors) (es : List (Option Entry)) (s : List ℕ) (sum : ℕ) (flag : Bool) : Type 0 where
  pub within : i * b ≤ m
  pub rest : left ≡ m - i * b
  pub read : s ≡ sector d (at + i)
  pub long : length s ≡ b
  pub sum_is : sum ≡ crc_of (take (min left b) s)
  pub has : IsTrue flag ↔ SectorHas b es i s

-- what is said of each place of a list, and of one that is put behind it
each_next : {X : Type 0} (i : ℕ) (xs : List X) (x z : X) (P : ℕ → X → Type 0) → length xs ≡ i
    → ((j : ℕ) → j < i → P j (slice_index_or xs j z)) → P i x
    → (j : ℕ) → j < i + 1 → P j (slice_index_or (xs ++ x ∷ []) j z)
each_next i xs x z P long before here j lt = elim (cases_lt j i) [
  | inl below ↦
      let e = get_or_append_left xs (x ∷ []) z j (omega arith) in
      rw e (before j below)
  | inr above ↦
      let at : i ≡ j = omega arith in
      let e = get_or_push xs x z j (long ∙ at) in
      rw (e, ← at) here
]

pub read_more : (b m at i left : ℕ) (d : Sectors) (es : List (Option Entry)) (bytes sums : List ℕ) (flags : List Bool) (sum : ℕ)
    (flag : Bool) (s : List ℕ) → ReadSoFar b m at i d es bytes sums flags → NextSector b m at i left d es s sum flag → length sums ≡ i
    → length flags ≡ i → ReadSoFar b m at (i + 1) d es (bytes ++ take (min left b) s) (sums ++ sum ∷ []) (flags ++ flag ∷ [])
read_more b m at i left d es bytes sums flags sum flag s before one many long =
    let here : IsTrue flag ↔ SectorHas b es i (sector d (at + i)) =
    subst (λ (t : List ℕ). IsTrue flag ↔ SectorHas b es i t) one.read one.has in
    let cut : take (min left b) s ≡ take (m - i * b) s =
    ap (λ (n : ℕ). take (min left n) s) (sym one.long) ∙ take_min left s ∙ ap (λ (n : ℕ). take n s) one.rest in
    let summed : sum ≡ crc_of (part b d at m i) =
    one.sum_is ∙ ap crc_of (cut ∙ ap (λ (t : List ℕ). take (m - i * b) t) one.read) in
    record {
      streamed = streamed_more b m at i left d bytes s before.streamed one.within one.rest one.read one.long;
      whole = λ j lt. elim (cases_lt j i) [
        | inl below ↦ before.whole j below
        | inr above ↦
            let e : j ≡ i = omega arith in
            rw e (ap (λ (t : List ℕ). length t) (sym one.read) ∙ one.long)
      ];
      sums_are = each_next i sums sum 0 (λ j x. x ≡ crc_of (part b d at m j)) many before.sums_are summed;
      same = each_next i flags flag false (λ j x. IsTrue x ↔ SectorHas b es j (sector d (at + j))) long before.same here;
    }

pub read_all : (b at count i : ℕ) (d : Sectors) (es : List (Option Entry)) (bytes sums : List ℕ) (flags : List Bool)
    → ReadSoFar b (count * 128) at i d es bytes sums flags → i ≡ counted b count → length sums ≡ i → length flags ≡ i
    → ReadArray b d at count es bytes sums flags
read_all b at count i d es bytes sums flags all last many long =
    let whole = subst (λ (n : ℕ). ReadSoFar b (count * 128) at n d es bytes sums flags) last all in
    record {
      bytes_are = whole.streamed.taken;
      whole = whole.whole;
      parts = many ∙ last;
      sums_are = whole.sums_are;
      long = long ∙ last;
      same = whole.same;
    }

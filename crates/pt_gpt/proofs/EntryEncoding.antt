-- The fields that are put one by one are an entry's bytes.
use Rattle.std.proofs.Common.{◌≡◌, ℕ, ◌+◌, ◌*◌, List, [], ◌∷◌, ◌++◌, length, take, drop, replicate, refl, ap, ◌∙◌, arith}
use Rattle.std.specs.List.{flat_map}
use Rattle.std.proofs.lemmas.List.{append-nil, drop_all}
use Rattle.byteorder.specs.Endian.{little_bytes}
use Rattle.pt_gpt.specs.inner.Entries.{put_at}
use Rattle.pt_gpt.specs.Entries.{EntryFits, used_bytes}
use Rattle.pt_gpt.specs.declared.entry.Entry.{Entry}
use Rattle.pt_gpt.proofs.Written.{laid, length_units}

put_last : (i : ℕ) (units x : List ℕ) → length units ≡ 72 → length x ≡ i + 72 → put_at i units x ≡ take i x ++ units
unfolding put_at
put_last i units x long same =
    let none : drop (i + length units) x ≡ [] = drop_all (i + length units) x (omega arith) in
    ap (λ (t : List ℕ). take i x ++ (units ++ t)) none ∙ ap (λ (t : List ℕ). take i x ++ t) (append-nil units)

-- the GUIDs' bytes are named, so that they can be taken apart
put_all : (e : Entry) (a b : List ℕ) → length a ≡ 16 → length b ≡ 16 → length e.name ≡ 36
    → put_at 56 (flat_map (little_bytes 2) e.name) (put_at 48 (little_bytes 8 e.attributes)
    (put_at 40 (little_bytes 8 e.last) (put_at 32 (little_bytes 8 e.first) (put_at 16 b (put_at 0 a (replicate 128 0))))))
    ≡ laid e a b
unfolding put_at
put_all e (x0 ∷ x1 ∷ x2 ∷ x3 ∷ x4 ∷ x5 ∷ x6 ∷ x7 ∷ x8 ∷ x9 ∷ xa ∷ xb ∷ xc ∷ xd ∷ xe ∷ xf ∷ [])
    (y0 ∷ y1 ∷ y2 ∷ y3 ∷ y4 ∷ y5 ∷ y6 ∷ y7 ∷ y8 ∷ y9 ∷ ya ∷ yb ∷ yc ∷ yd ∷ ye ∷ yf ∷ []) la lb name =
    let a : List ℕ = x0 ∷ x1 ∷ x2 ∷ x3 ∷ x4 ∷ x5 ∷ x6 ∷ x7 ∷ x8 ∷ x9 ∷ xa ∷ xb ∷ xc ∷ xd ∷ xe ∷ xf ∷ [] in
    let b : List ℕ = y0 ∷ y1 ∷ y2 ∷ y3 ∷ y4 ∷ y5 ∷ y6 ∷ y7 ∷ y8 ∷ y9 ∷ ya ∷ yb ∷ yc ∷ yd ∷ ye ∷ yf ∷ [] in
    let under =
    put_at 48 (little_bytes 8 e.attributes) (put_at 40 (little_bytes 8 e.last)
    (put_at 32 (little_bytes 8 e.first) (put_at 16 b (put_at 0 a (replicate 128 0))))) in
    put_last 56 (flat_map (little_bytes 2) e.name) under (length_units e.name ∙ ap (λ (n : ℕ). 2 * n) name) refl
put_all e a b la lb name = absurd (omega arith)

-- the same, of an entry
pub put_used : (e : Entry) → EntryFits e
    → put_at 56 (flat_map (little_bytes 2) e.name) (put_at 48 (little_bytes 8 e.attributes)
    (put_at 40 (little_bytes 8 e.last) (put_at 32 (little_bytes 8 e.first) (put_at 16 e.unique.0 (put_at 0 e.kind.0 (replicate 128 0))))))
    ≡ used_bytes e
unfolding used_bytes
put_used e fits = put_all e e.kind.0 e.unique.0 fits.kind fits.unique fits.name

-- The sum of the first entries of a copy that is followed.
use Rattle.std.specs.Prelude.{◌≡◌, ◌<◌, ◌≤◌, ℕ, ◌+◌, ◌-◌, ◌*◌, ◌/◌, List, ◌++◌, length, take, slice_range, slice_index_or}
use Rattle.std.proofs.Common.{refl, sym, ap, ◌∙◌, arith, inl, inr, drop, append_assoc, length-append}
use Rattle.std.proofs.lemmas.List.{take_all, length-take, length-drop, take_at}
use Rattle.std.proofs.lemmas.List.Edits.{split_between}
use Rattle.pt_sum.specs.Sums.{crc_of}
use Rattle.pt_sector.specs.Sectors.{Sectors, IsSectorSize}
use Rattle.pt_gpt.specs.Copies.{counted, array_place, bytes_from}
use Rattle.pt_gpt.specs.declared.table.Side.{Side}
use Rattle.pt_gpt.specs.declared.table.Table.{Table}
use Rattle.pt_follow.specs.declared.copy.FollowedCopy.{FollowedCopy}
use Rattle.pt_follow.specs.Follow.{Follows, entries_at, sector_in}
use Rattle.pt_follow.proofs.Splits.{bytes_next, array_long, first_entries, first_sectors}

-- no bytes, no sum
pub sum_none : (d : Sectors) (at : ℕ) → 0 ≡ crc_of (bytes_from d at 0)
unfolding bytes_from
sum_none d at = refl

-- ## One sector more.

pub record Next (b known k : ℕ) : Type 0 where
  pub low : k < counted b known
  pub full : b ≤ known * 128 - k * b
  pub entries : b ≡ 128 * (b / 128)

pub next_sector : (b known k : ℕ) → IsSectorSize b → (k + 1) * b ≤ known * 128 → Next b known k
next_sector b known k (inl e) fit = let h = rw e at fit in rw e (record { low = omega arith; full = omega arith; entries = omega arith })
next_sector b known k (inr e) fit = let h = rw e at fit in rw e (record { low = omega arith; full = omega arith; entries = omega arith })

pub fit_next : (b count known k : ℕ) → IsSectorSize b → k < count → count * b ≤ known * 128 → (k + 1) * b ≤ known * 128
fit_next b count known k (inl e) lt fit = let h = rw e at fit in rw e (omega arith)
fit_next b count known k (inr e) lt fit = let h = rw e at fit in rw e (omega arith)

pub sum_more : (b : ℕ) (d : Sectors) (side : Side) (t : Table) (f : FollowedCopy) (k sum next : ℕ) → IsSectorSize b → Follows b d side t f
    → (k + 1) * b ≤ f.known * 128 → sum ≡ crc_of (bytes_from d (array_place b side (length d)) k)
    → ((x y : List ℕ) → length y ≡ 128 * (b / 128) → sum ≡ crc_of x → slice_index_or f.sums.items k 0 ≡ crc_of y → next ≡ crc_of (x ++ y))
    → next ≡ crc_of (bytes_from d (array_place b side (length d)) (k + 1))
sum_more b d side t f k sum next size is fit before join =
    let at = array_place b side (length d) in
    let s = sector_in b d side k in
    let n = next_sector b f.known k size fit in
    let long : length s ≡ b = is.whole k n.low in
    let all : take (f.known * 128 - k * b) s ≡ s = take_all (f.known * 128 - k * b) s (omega (arith, long, n.full)) in
    join (bytes_from d at k) s (long ∙ n.entries) before (is.sums k n.low ∙ ap crc_of all) ∙ ap crc_of (sym (bytes_next d at k))

-- ## The entries behind the last whole sector.

-- what is taken up to a place before the end
first_two : (i j : ℕ) (x : List ℕ) → i ≤ j → j ≤ length x → take j x ≡ take i x ++ slice_range x i j
first_two i j x low within =
    let front = take i x in
    let part = slice_range x i j in
    let long_front : length front ≡ i = omega (arith, length-take i x, low, within) in
    let long : length (front ++ part) ≡ j =
    omega (arith, length-append front part, long_front, length-take (j - i) (drop i x), length-drop i x, low, within) in
    ap (λ (z : List ℕ). take j z) (split_between x i j low ∙ sym (append_assoc front part (drop j x)))
    ∙ take_at (front ++ part) (drop j x) j long

record Rest (b count sectors : ℕ) : Type 0 where
  fit : sectors * b ≤ count * 128
  entries : count * 128 - sectors * b ≡ 128 * ((count * 128 - sectors * b) / 128)

rest_of : (b count : ℕ) → IsSectorSize b → Rest b count (count * 128 / b)
rest_of b count (inl e) = rw e (record { fit = omega arith; entries = omega arith })
rest_of b count (inr e) = rw e (record { fit = omega arith; entries = omega arith })

pub sum_first : (b : ℕ) (d : Sectors) (side : Side) (t : Table) (f : FollowedCopy) (count sum next : ℕ) → IsSectorSize b
    → Follows b d side t f → count ≤ f.known → sum ≡ crc_of (bytes_from d (array_place b side (length d)) (count * 128 / b))
    → ((x y : List ℕ) → length y ≡ 128 * ((count * 128 - count * 128 / b * b) / 128) → sum ≡ crc_of x
    → crc_of (slice_range f.bytes.items (count * 128 / b * b) (count * 128)) ≡ crc_of y → next ≡ crc_of (x ++ y))
    → next ≡ crc_of (entries_at b d side count)
sum_first b d side t f count sum next size is le before join =
    let at = array_place b side (length d) in
    let k = count * 128 / b in
    let z = entries_at b d side f.known in
    let r = rest_of b count size in
    let rest = slice_range z (k * b) (count * 128) in
    let long : length z ≡ f.known * 128 = array_long b d at f.known size is.whole in
    let long_rest : length rest ≡ count * 128 - k * b =
    omega (arith, length-take (count * 128 - k * b) (drop (k * b) z), length-drop (k * b) z, long, le, r.fit) in
    let front : take (k * b) z ≡ bytes_from d at k = first_sectors b d at f.known k size is.whole (omega (arith, r.fit, le)) in
    let cut : take (count * 128) z ≡ take (k * b) z ++ rest = first_two (k * b) (count * 128) z r.fit (omega (arith, long, le)) in
    join (bytes_from d at k) rest (long_rest ∙ r.entries) before
    (ap (λ (x : List ℕ). crc_of (slice_range x (k * b) (count * 128))) is.bytes)
    ∙ ap (λ (x : List ℕ). crc_of (x ++ rest)) (sym front)
    ∙ ap crc_of (sym cut ∙ first_entries b d at count f.known size is.whole le)

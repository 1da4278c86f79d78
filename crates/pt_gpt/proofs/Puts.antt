-- What is written into a part of some bytes.
use Rattle.std.proofs.Common.{◌≡◌, ◌≤◌, ℕ, ◌+◌, ◌-◌, List, [], ◌++◌, length, take, drop, refl, ap, ◌∙◌, arith, length-drop}
use Rattle.std.proofs.lemmas.List.{append-nil, drop-drop, drop_all, length-take-le}
use Rattle.pt_gpt.specs.inner.Entries.{put_at}
use borrow.Rule.Slice.PartMut.{put_mid}

pub part_long : (at n : ℕ) (bytes : List ℕ) → at + n ≤ length bytes → length (take (at + n - at) (drop at bytes)) ≡ n
part_long at n bytes within =
    let long = length-take-le (at + n - at) (drop at bytes) (omega (arith, within, length-drop at bytes)) in omega (arith, long)

pub put_part : (at n : ℕ) (bytes now new : List ℕ) → now ≡ new → length new ≡ n → put_mid at (at + n - at) bytes now ≡ put_at at new bytes
unfolding put_at
put_part at n bytes now new same long =
    let place : at + (at + n - at) ≡ at + length new = omega (arith, long) in
    let rest : drop (at + n - at) (drop at bytes) ≡ drop (at + length new) bytes =
    drop-drop (at + n - at) at bytes ∙ ap (λ (k : ℕ). drop k bytes) place in
    rw (same, rest) refl

-- the same of a call that leaves what lies behind its bytes in the part, where nothing does
pub put_front : (at n : ℕ) (bytes now new : List ℕ) → at + n ≤ length bytes
    → now ≡ new ++ drop n (take (at + n - at) (drop at bytes)) → length new ≡ n → put_mid at (at + n - at) bytes now ≡ put_at at new bytes
put_front at n bytes now new within is long =
    let none : drop n (take (at + n - at) (drop at bytes)) ≡ [] = drop_all n _ (omega (arith, part_long at n bytes within)) in
    put_part at n bytes now new (is ∙ ap (λ (t : List ℕ). new ++ t) none ∙ append-nil new) long

use Rattle.std.proofs.Common.{◌≡◌, ◌≤◌, ◌∙◌, ℕ, List, length, refl, ap, arith}
use Rattle.pt_bsd.specs.inner.Labels.{put_at, ChangesOnly}
use Rattle.pt_bsd.proofs.Parts.{put_three, put_changes, length-put_at, changes_wider, changes_both}
use Rattle.pt_bsd.proofs.Front.{is_front}
use Rattle.pt_bsd.proofs.encode.put_front.Goals as goal

three_changes : (a b c old x y z : List ℕ) → length a ≡ 64 → length b ≡ 68 → length c ≡ 16 → 512 ≤ length old → x ≡ put_at 0 a old
    → y ≡ put_at 64 b x → z ≡ put_at 132 c y → ChangesOnly 0 148 old z
three_changes a b c old x y z la lb lc long ex ey ez =
    let lx = ap length ex ∙ length-put_at 0 a old (omega arith) in
    let ly = ap length ey ∙ length-put_at 64 b x (omega (arith, lx)) in
    let first =
    changes_wider 0 64 0 148 old (put_at 0 a old) (omega arith) (omega arith) (put_changes 0 64 a old (omega arith) (omega arith)) in
    let second =
    changes_wider 64 132 0 148 x (put_at 64 b x) (omega arith) (omega arith) (put_changes 64 132 b x (omega arith) (omega (arith, lx))) in
    let third =
    changes_wider 132 148 0 148 y (put_at 132 c y) (omega arith) (omega arith)
    (put_changes 132 148 c y (omega arith) (omega (arith, ly))) in
    changes_both 0 148 old x z (rw ex first) (changes_both 0 148 x y z (rw ey second) (rw ez third))

pub returns-clause-front : goal.returns-clause-front
returns-clause-front c =
    let l = c.args.label.now in
    let h = c.head.result in
    let t = c.tail.result in
    let lh : length h ≡ 64 = omega arith in
    let whole = put_three 64 132 h l.kept t c.args.bytes.now lh (omega (arith, lh, c.put_kept.ensures.fits)) in
    rw (c.put-2.ensures, c.put_kept.ensures.put, c.put.ensures, whole, c.head.ensures.bytes, c.tail.ensures.bytes)
    (is_front l c.args.count l.type_name l.pack_name l.geometry l.kept _ refl refl refl refl c.put_kept.ensures.fits
    c.head.ensures.fits.numbers c.head.ensures.fits c.tail.ensures.fits c.ranges.count.fits)

pub returns-clause-only : goal.returns-clause-only
returns-clause-only c =
    three_changes c.head.result c.args.label.now.kept c.tail.result c.args.bytes.now c.put.new.bytes c.put_kept.new.bytes
    c.put-2.new.bytes (omega arith) c.put_kept.ensures.fits (omega arith) (omega arith) c.put.ensures c.put_kept.ensures.put c.put-2.ensures

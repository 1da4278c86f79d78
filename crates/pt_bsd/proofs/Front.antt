-- What is written first is the front of a label.
use Rattle.std.proofs.Common.{◌≡◌, ℕ, ◌+◌, ◌<◌, ◌^◌, List, [], ◌∷◌, ◌++◌, length, take, drop, refl, sym, ap, ◌∙◌, arith, append-nil}
use Rattle.std.specs.Prelude.{slice_index}
use Rattle.std.proofs.lemmas.List.{take_at}
use Rattle.std.proofs.Math.Seq.{drop-append-add}
use Rattle.byteorder.specs.Endian.{little_number, little_bytes}
use Rattle.byteorder.specs.Numbers.{little_number-reads_back}
use Rattle.pt_bsd.specs.inner.Labels.{put_at, head_from, HeadFits, tail_from, TailFits, HasFront}
use Rattle.pt_bsd.specs.declared.label.Label.{Label}

pub read_back : (n x : ℕ) → x < 256 ^ n → little_number n (little_bytes n x) ≡ x
read_back n x small = ap (little_number n) (sym (append-nil (little_bytes n x))) ∙ little_number-reads_back n x [] small

-- what stands behind the 68 bytes that are kept
behind_kept : (i : ℕ) (kept rest : List ℕ) → length kept ≡ 68 → drop (68 + i) (kept ++ rest) ≡ drop i rest
behind_kept i kept rest long = rw long at (drop-append-add {A = ℕ} kept rest i)

four : (a b c d w x y z : ℕ) → w ≡ a → x ≡ b → y ≡ c → z ≡ d → w ∷ x ∷ y ∷ z ∷ [] ≡ a ∷ b ∷ c ∷ d ∷ []
four a b c d w x y z e f g h = λ i. e i ∷ f i ∷ g i ∷ h i ∷ []

pub is_front : (l : Label) (n : ℕ) (a b g kept rest : List ℕ) → a ≡ l.type_name → b ≡ l.pack_name → g ≡ l.geometry → kept ≡ l.kept
    → length kept ≡ 68
    → ((i : ℕ) → slice_index g i < 2 ^ 32) → HeadFits l → TailFits l → n < 2 ^ 16
    → HasFront l n (head_from l a b g ++ (kept ++ (tail_from l n ++ rest)))
unfolding head_from tail_from put_at
is_front l n (x0 ∷ x1 ∷ x2 ∷ x3 ∷ x4 ∷ x5 ∷ x6 ∷ x7 ∷ x8 ∷ x9 ∷ xa ∷ xb ∷ xc ∷ xd ∷ xe ∷ xf ∷ [])
    (y0 ∷ y1 ∷ y2 ∷ y3 ∷ y4 ∷ y5 ∷ y6 ∷ y7 ∷ y8 ∷ y9 ∷ ya ∷ yb ∷ yc ∷ yd ∷ ye ∷ yf ∷ [])
    (g0 ∷ g1 ∷ g2 ∷ g3 ∷ []) kept rest ea eb eg ek long numbers fits ends small =
    let tail = tail_from l n in
    record {
      magics = record { first = refl; second = ap (λ (t : List ℕ). little_number 4 (take 4 t)) (behind_kept 0 kept (tail ++ rest) long) };
      count = ap (λ (t : List ℕ). little_number 2 (take 2 t)) (behind_kept 6 kept (tail ++ rest) long) ∙ read_back 2 n small;
      sum = ap (λ (t : List ℕ). little_number 2 (take 2 t)) (behind_kept 4 kept (tail ++ rest) long);
      sector_size = refl;
      fields = record {
        kind = read_back 2 l.kind fits.kind;
        subtype = read_back 2 l.subtype fits.subtype;
        type_name = ea;
        pack_name = eb;
        geometry =
            four g0 g1 g2 g3 _ _ _ _ (read_back 4 g0 (numbers 0)) (read_back 4 g1 (numbers 1)) (read_back 4 g2 (numbers 2))
            (read_back 4 g3 (numbers 3)) ∙ eg;
        unit = read_back 4 l.unit fits.unit;
        kept = take_at kept (tail ++ rest) 68 long ∙ ek;
        bbsize =
            ap (λ (t : List ℕ). little_number 4 (take 4 t)) (behind_kept 8 kept (tail ++ rest) long) ∙ read_back 4 l.bbsize ends.bbsize;
        sbsize =
            ap (λ (t : List ℕ). little_number 4 (take 4 t)) (behind_kept 12 kept (tail ++ rest) long) ∙ read_back 4 l.sbsize ends.sbsize;
      };
    }
is_front l n a b g kept rest ea eb eg ek long numbers fits ends small =
    absurd (omega (arith, ap length ea, ap length eb, ap length eg, fits.type_name, fits.pack_name, fits.geometry))

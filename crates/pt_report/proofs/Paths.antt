-- What is printed of a path is read as that path.
use Rattle.std.proofs.Common.{◌≡◌, ℕ, ◌+◌, ◌<◌, ◌≤◌, ◌^◌, List, ◌++◌, ap, ◌∙◌, refl, Option, Some, None, arith}
use Rattle.std.specs.Prelude.{codes, decimal, encode_utf8, min}
use Rattle.std.proofs.lemmas.Str.{encode_ascii}
use Rattle.pt_path.specs.declared.path.Path.{Path}
use Rattle.pt_path.specs.Paths.{IsLetter, IsPath, letter_text as letter_read}
use Rattle.pt_report.specs.Shown.{letter_text, path_text}

lettered : (l : Option ℕ) → IsLetter l → letter_text l ≡ letter_read l
lettered None letter = refl
lettered (Some k) letter =
    let within : min (97 + k) 255 ≡ 97 + k = omega (arith, letter) in
    ap (λ (bs : List ℕ). codes "." ++ bs) (ap encode_utf8 within ∙ encode_ascii (97 + k) (omega (arith, letter)))

pub path_reads_lem : (p : Path) → 1 ≤ p.number → p.number < 2 ^ 64 → IsLetter p.letter → IsPath (path_text p) p
path_reads_lem p first fits letter = record {
  first = first;
  fits = fits;
  letter = letter;
  written = ap (λ (bs : List ℕ). decimal p.number ++ bs) (lettered p.letter letter);
}

-- What `==` says of entries that may be none.
use Rattle.std.proofs.Common.{◌≡◌, refl, ap, rules}
use Rattle.std.specs.Prelude.{Option, Some, None, Bool, ◌&&◌, ◌==◌}
use Rattle.std.specs.Bool.{Decides}
use Rattle.std.specs.Option.{option_eq}
use Rattle.std.specs.Str.{bytes_eq}
use Rattle.std.proofs.lemmas.Bool.Decides.{Decides-and, Decides-eqb}
use Rattle.std.proofs.lemmas.Slice.Eq.{bytes_eq-Decides}
use Rattle.pt_gpt.proofs.Terms.{entry_ext}
use Rattle.pt_gpt.specs.declared.entry.Entry.{Entry}

abbrev just : Entry → Option Entry
just e = Some e

pub options_decide : {E : Entry → Entry → Bool} → ((a b : Entry) → Decides (E a b) (a ≡ b)) → (a b : Option Entry)
    → Decides (option_eq E a b) (a ≡ b)
options_decide each None None = (λ t. refl, λ e. refl)
options_decide each None (Some b) = (λ t. absurd (search rules), λ e. search rules)
options_decide each (Some a) None = (λ t. absurd (search rules), λ e. search rules)
options_decide each (Some a) (Some b) = (λ t. ap (λ (x : Entry). just x) ((each a b).0 t), λ e. (each a b).1 (search rules))

-- field by field
pub entries_decide : (e f : Entry)
    → Decides (bytes_eq e.kind.0 f.kind.0 && (bytes_eq e.unique.0 f.unique.0 &&
    ((e.first == f.first) && ((e.last == f.last) && ((e.attributes == f.attributes) && bytes_eq e.name f.name))))) (e ≡ f)
entries_decide e f =
    let d = Decides-and _ _ (bytes_eq-Decides e.kind.0 f.kind.0)
    (Decides-and _ _ (bytes_eq-Decides e.unique.0 f.unique.0) (Decides-and _ _ (Decides-eqb e.first f.first)
    (Decides-and _ _ (Decides-eqb e.last f.last) (Decides-and _ _ (Decides-eqb e.attributes f.attributes)
    (bytes_eq-Decides e.name f.name))))) in (
      λ t. let p = d.0 t in entry_ext e f p.0 p.1.0 p.1.1.0 p.1.1.1.0 p.1.1.1.1.0 p.1.1.1.1.1,
      λ same. d.1 (
        ap (λ (x : Entry). x.kind.0) same,
        (
          ap (λ (x : Entry). x.unique.0) same,
          (
            ap (λ (x : Entry). x.first) same,
            (ap (λ (x : Entry). x.last) same, (ap (λ (x : Entry). x.attributes) same, ap (λ (x : Entry). x.name) same)),
          ),
        ),
      ),
    )

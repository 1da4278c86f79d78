-- Groups, and the logical partitions that no extended one holds.
use Rattle.std.proofs.Common.{◌≡◌, ℕ, List, [], ◌∷◌, Option, refl, sym, ap, ◌∙◌, true, false}
use Rattle.pt_mbr.specs.declared.record.Record.{Record}
use Rattle.pt_mbr.specs.Records.{extended_of}
use Rattle.pt_mbr.specs.declared.ebr.Ebr.{Ebr}
use Rattle.pt_gpt.specs.declared.table.Table.{Table}
use Rattle.pt_members.specs.declared.layout.Body.TheVariants.{Mbr, Gpt}
use Rattle.pt_members.specs.Members.{group_of, strays, present, logicals}
use Rattle.pt_layout.specs.inner.Sound.{has_any}

pub stray_gpt : (b : ℕ) (t : Table) → strays b (Gpt t) ≡ []
unfolding strays
stray_gpt b t = refl

pub stray_none : (b : ℕ) (rs : List (Option Record)) (chain : List Ebr) → has_any (extended_of rs) ≡ true → strays b (Mbr rs chain) ≡ []
unfolding strays
stray_none b rs chain is = by_case (extended_of rs) refl where
  by_case : (es : List Record) → extended_of rs ≡ es → strays b (Mbr rs chain) ≡ []
  by_case [] e = absurd (let f : has_any (extended_of rs) ≡ false = ap has_any e in let g : true ≡ false = sym is ∙ f in cc)
  by_case (r ∷ es) e = rw (e, strays) refl

pub stray_some : (b : ℕ) (rs : List (Option Record)) (chain : List Ebr) → has_any (extended_of rs) ≡ false
    → strays b (Mbr rs chain) ≡ group_of 1 0 (present (logicals b (Mbr rs chain))) ∷ []
unfolding strays logicals
stray_some b rs chain is = by_case (extended_of rs) refl where
  by_case : (es : List Record) → extended_of rs ≡ es → strays b (Mbr rs chain) ≡ group_of 1 0 (present (logicals b (Mbr rs chain))) ∷ []
  by_case [] e = rw (e, strays) refl
  by_case (r ∷ es) e = absurd (let f : has_any (extended_of rs) ≡ true = ap has_any e in let g : true ≡ false = sym f ∙ is in cc)

-- Disks of which a view is a part.
use Rattle.std.proofs.Common.{◌≡◌, ◌<◌, ℕ, List, [], length, Option, Some, None, ap, sym, subst, ◌∙◌, refl, arith}
use Rattle.std.proofs.lemmas.List.{ext_get_or}
use Rattle.std.proofs.lemmas.List.FromFn.{get_or-map-range_with_len, length-map-range_with_len}
use Rattle.pt_sector.specs.Sectors.{Sectors, sector}
use Rattle.pt_replay.specs.Wanted.{known_or, disk_of, held, IsPartOf}
use Rattle.pt_replay.specs.declared.view.View.{View}

-- sector s of the disk of a view
sector_is : (v : View) (d : Sectors) (s : ℕ) → s < v.sectors → sector (disk_of v.sector_size v d) s ≡ known_or (held v s) (sector d s)
sector_is v d s lt =
    get_or-map-range_with_len (λ (t : ℕ). known_or (held v t) (sector d t)) 0 v.sectors s s [] lt (omega arith)

-- a disk of which a view is a part is the view's, with what stands elsewhere
pub part_is : (v : View) (d : Sectors) → IsPartOf v d → disk_of v.sector_size v d ≡ d
part_is v d part = ext_get_or [] (disk_of v.sector_size v d) d (many ∙ sym part.as_many) alike where
  many : length (disk_of v.sector_size v d) ≡ v.sectors
  many = length-map-range_with_len (λ (t : ℕ). known_or (held v t) (sector d t)) 0 v.sectors

  so : (s : ℕ) → s < v.sectors → (o : Option (List ℕ)) → held v s ≡ o → known_or o (sector d s) ≡ sector d s
  so s lt None is = refl
  so s lt (Some k) is = sym (part.alike s k lt is)

  alike : (s : ℕ) → s < length (disk_of v.sector_size v d) → sector (disk_of v.sector_size v d) s ≡ sector d s
  alike s lt =
      let within : s < v.sectors = subst (λ (n : ℕ). s < n) many lt in
      sector_is v d s within ∙ so s within (held v s) refl

-- each view is a part of some disk: of its own sectors, with anything elsewhere
pub is_part : (v : View) (elsewhere : Sectors) → IsPartOf v (disk_of v.sector_size v elsewhere)
is_part v elsewhere = record {
  as_many = length-map-range_with_len (λ (t : ℕ). known_or (held v t) (sector elsewhere t)) 0 v.sectors;
  alike = λ s k lt is. sector_is v elsewhere s lt ∙ ap (λ (o : Option (List ℕ)). known_or o (sector elsewhere s)) is;
}

-- The walk over the known sectors.
use Rattle.std.proofs.Common.{◌≡◌, ◌++◌, refl, subst, ◌<◌, ℕ, sym, List, [], ◌∷◌, Option, Some, None, ap, ◌∙◌, arith}
use Rattle.std.proofs.lemmas.List.{append_cancel_left}
use Rattle.std.proofs.lemmas.List.FromFn.{get_or-map-range_with_len}
use Rattle.pt_sector.specs.Sectors.{Sectors, sector}
use Rattle.pt_sector.specs.declared.disk.Fault.{Fault}
use Rattle.pt_sector.specs.Device.{with_fault}
use Rattle.pt_sector.specs.declared.address.Lba.{Lba}
use Rattle.pt_sector.specs.declared.disk.Fault.TheVariants.{Read}
use Rattle.pt_replay.specs.Wanted.{known_of, known_or, whole, IsOfNew, AreOfNew, Asks}
use Rattle.pt_replay.specs.inner.Wanted.{AreOf}
use Rattle.pt_replay.proofs.ViewLemmas.{IsAsked}
use Rattle.pt_replay.specs.declared.view.View.{View}

pub known_is_there : (count : ℕ) (ns : List ℕ) (ks : Sectors) (elsewhere : Sectors) (s : ℕ) (v : List ℕ) → s < count
    → known_of ns ks s ≡ Some v → v ≡ sector (whole count ns ks elsewhere) s
known_is_there count ns ks elsewhere s v lt is =
    sym (get_or-map-range_with_len (λ (t : ℕ). known_or (known_of ns ks t) (sector elsewhere t)) 0 count s s [] lt (omega arith)
    ∙ ap (λ (o : Option (List ℕ)). known_or o (sector elsewhere s)) is)

-- the one fault that came is of a read of a sector that isn't known
pub asked_new : (count : ℕ) (ns ns' : List ℕ) (ks ks' : Sectors) (fs fs' : List Fault) (o : Option Fault) → Asks count ns ns' ks ks' fs fs'
    → fs' ≡ with_fault fs o → (f : Fault) → o ≡ Some f → IsOfNew count ns ks f
unfolding AreOfNew
asked_new count ns ns' ks ks' fs fs' o asks one f is =
    let more : asks.more ≡ f ∷ [] = append_cancel_left fs asks.more (f ∷ []) (sym asks.come
    ∙ (one ∙ ap (λ (x : Option Fault). with_fault fs x) is)) in
    (subst (AreOfNew count ns ks) more asks.unknown).0

-- the same of a sector that isn't in the view
pub asked_of : (b : ℕ) (v : View) (count : ℕ) (ns ns' : List ℕ) (ks ks' : Sectors) (fs fs' : List Fault) (o : Option Fault)
    → AreOf b v count ns ks → Asks count ns ns' ks ks' fs fs' → fs' ≡ with_fault fs o → (f : Fault) → o ≡ Some f → IsAsked b v f
asked_of b v count ns ns' ks ks' fs fs' o are asks one f is =
    let new : IsOfNew count ns ks f = asked_new count ns ns' ks ks' fs fs' o asks one f is in
    subst (λ (l : Sectors). IsOfNew v.sectors v.numbers.now l f) are.sectors_are
    (subst (λ (l : List ℕ). IsOfNew v.sectors l ks f) are.numbers_are (subst (λ (n : ℕ). IsOfNew n ns ks f) are.count_is new))

-- a read of a sector that isn't known
pub asks_one : (count : ℕ) (ns : List ℕ) (ks : Sectors) (fs later : List Fault) (at : Lba) → at.0 < count → None ≡ known_of ns ks at.0
    → later ≡ fs ++ Read at ∷ [] → Asks count ns ns ks ks fs later
unfolding AreOfNew
asks_one count ns ks fs later at within unknown is =
    record {
      numbers = refl;
      sectors = refl;
      more = Read at ∷ [];
      come = is;
      unknown =
          (record { within = within; unknown = sym unknown }, tt);
    }

-- What ghost fields of impls are given: the prover wants it in specs/.
use Rattle.std.specs.Prelude.{◌≡◌, ◌++◌, ℕ, List, [], ◌∷◌}
use Rattle.std.proofs.Common.{ap, ◌∙◌, refl, sym, subst, append_assoc}
use Rattle.std.proofs.lemmas.List.{append-nil}
use Rattle.pt_sector.specs.Sectors.{Sectors}
use Rattle.pt_sector.specs.declared.disk.Fault.{Fault}
use Rattle.pt_replay.specs.Wanted.{AreOfNew, Asks}

pub asks_same : (count : ℕ) (ns : List ℕ) (ks : Sectors) (fs : List Fault) → Asks count ns ns ks ks fs fs
unfolding AreOfNew
asks_same count ns ks fs = record { numbers = refl; sectors = refl; more = []; come = sym (append-nil fs); unknown = tt }

on_new : (count : ℕ) (ns : List ℕ) (ks : Sectors) (fs gs : List Fault) → AreOfNew count ns ks fs → AreOfNew count ns ks gs
    → AreOfNew count ns ks (fs ++ gs)
unfolding AreOfNew
on_new count ns ks [] gs a b = b
on_new count ns ks (f ∷ fs) gs a b = (a.0, on_new count ns ks fs gs a.1 b)

pub asks_on : (count count' : ℕ) (n n' n'' : List ℕ) (k k' k'' : Sectors) (f f' f'' : List Fault)
    → count' ≡ count → Asks count n n' k k' f f' → Asks count' n' n'' k' k'' f' f'' → Asks count n n'' k k'' f f''
asks_on count count' n n' n'' k k' k'' f f' f'' same ab bc = record {
  numbers = bc.numbers ∙ ab.numbers;
  sectors = bc.sectors ∙ ab.sectors;
  more = ab.more ++ bc.more;
  come = bc.come ∙ ap (λ (l : List Fault). l ++ bc.more) ab.come ∙ append_assoc f ab.more bc.more;
  unknown = on_new count n k ab.more bc.more ab.unknown
      (subst (λ (c : ℕ). AreOfNew c n k bc.more) same (subst (λ (l : List ℕ). AreOfNew count' l k bc.more) ab.numbers
      (subst (λ (l : Sectors). AreOfNew count' n' l bc.more) ab.sectors bc.unknown)));
}

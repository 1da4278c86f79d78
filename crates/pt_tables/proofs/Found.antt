-- What stands under a name in an object that fields are put into.
use Rattle.std.proofs.Common.{◌≡◌, ◌∙◌, ℕ, List, [], ◌∷◌, ◌++◌, Bool, true, false, Option, Some, None, bytes_eq, refl, sym, ap, true≢false}
use Rattle.std.proofs.lemmas.Slice.Eq.{bytes_eq-Decides}
use Rattle.serde_json.specs.Data.{Data, Members, no_members, put}
use Rattle.serde_json.specs.Find.{get, get_member}
use Rattle.serde_json.proofs.Views.{get_member-put, get_member-put_other}
use Rattle.pt_tables.specs.Fields.{Field, object_of, with_fields}
use Rattle.pt_tables.proofs.Puts.{with_more}

-- another name
abbrev pub Other : List ℕ → List ℕ → Type 0
Other k l = bytes_eq k l ≡ false

-- none of these fields has the name
abbrev pub Lacks : List ℕ → List Field → Type 0
Lacks k [] = Unit {0}
Lacks k (f ∷ fs) = Other k f.0 × Lacks k fs

pub lacks_both : (k : List ℕ) (fs gs : List Field) → Lacks k fs → Lacks k gs → Lacks k (fs ++ gs)
lacks_both k [] gs p q = q
lacks_both k (f ∷ fs) gs p q = (p.0, lacks_both k fs gs p.1 q)

pub apart : (k l : List ℕ) → Other k l → k ≡ l → ⊥
apart k l other same = true≢false (sym ((bytes_eq-Decides k l).1 same) ∙ other)

-- what stands there is what stood there before
passes : (k : List ℕ) (fs : List Field) (ms : Members) → Lacks k fs → get_member k (with_fields fs ms) ≡ get_member k ms
passes k [] ms lacks = refl
passes k (f ∷ fs) ms lacks = passes k fs _ lacks.1 ∙ get_member-put_other k f.0 f.1 ms (apart k f.0 lacks.0)

-- where nothing stands there before, the fields put this there
pub record Tells (k : List ℕ) (fs : List Field) (o : Option Data) : Type 0 where
  pub puts : (ms : Members) → get_member k ms ≡ None → get_member k (with_fields fs ms) ≡ o

pub tells_none : (k : List ℕ) (fs : List Field) → Lacks k fs → Tells k fs None
tells_none k fs lacks = record { puts = λ ms none. passes k fs ms lacks ∙ none }

pub tells_here : (k : List ℕ) (d : Data) (fs : List Field) → Lacks k fs → Tells k ((k, d) ∷ fs) (Some d)
tells_here k d fs lacks = record { puts = λ ms none. passes k fs _ lacks ∙ get_member-put k d ms }

pub tells_later : (k : List ℕ) (f : Field) (fs : List Field) (o : Option Data) → Other k f.0 → Tells k fs o → Tells k (f ∷ fs) o
tells_later k f fs o other tells =
    record { puts = λ ms none. tells.puts _ (get_member-put_other k f.0 f.1 ms (apart k f.0 other) ∙ none) }

pub tells_behind : (k : List ℕ) (fs gs : List Field) (o : Option Data) → Lacks k fs → Tells k gs o → Tells k (fs ++ gs) o
tells_behind k [] gs o lacks tells = tells
tells_behind k (f ∷ fs) gs o lacks tells = tells_later k f (fs ++ gs) o lacks.0 (tells_behind k fs gs o lacks.1 tells)

pub tells_before : (k : List ℕ) (fs gs : List Field) (o : Option Data) → Tells k fs o → Lacks k gs → Tells k (fs ++ gs) o
tells_before k fs gs o tells lacks =
    record { puts = λ ms none. ap (get_member k) (with_more fs gs ms) ∙ passes k gs _ lacks ∙ tells.puts ms none }

-- what is found in the object
pub found : (k : List ℕ) (fs : List Field) (o : Option Data) → Tells k fs o → get k (object_of fs) ≡ o
found k fs o tells = tells.puts no_members refl

-- two objects that are one have one value there
pub one_found : (k : List ℕ) (fs gs : List Field) (o p : Option Data) → Tells k fs o → Tells k gs p → object_of fs ≡ object_of gs → o ≡ p
one_found k fs gs o p here there same = sym (found k fs o here) ∙ ap (get k) same ∙ found k gs p there

pub one_some : (k : List ℕ) (fs gs : List Field) (d e : Data) → Tells k fs (Some d) → Tells k gs (Some e) → object_of fs ≡ object_of gs
    → d ≡ e
one_some k fs gs d e here there same = inside (one_found k fs gs (Some d) (Some e) here there same) where
  inside : Some d ≡ Some e → d ≡ e
  inside is = cc

-- ## What the last of the fields with a name puts there.

abbrev pub or_here : Option Data → Bool → Data → Option Data
or_here (Some e) here d = Some e
or_here None true d = Some d
or_here None false d = None

abbrev pub looked : List ℕ → List Field → Option Data
looked k [] = None
looked k (f ∷ fs) = or_here (looked k fs) (bytes_eq k f.0) f.1

-- what stands there in the end, where something else may have stood there before
tells_last : (k : List ℕ) (fs : List Field) (ms : Members) → ((d : Data) → looked k fs ≡ Some d → get_member k (with_fields fs ms) ≡ Some d)
    × (looked k fs ≡ None → get_member k (with_fields fs ms) ≡ get_member k ms)
tells_last k [] ms = (λ d is. absurd (cc), λ is. refl)
tells_last k (f ∷ fs) ms =
    by_test (looked k fs) (bytes_eq k f.0) refl (tells_last k fs (put f.0 f.1 ms)) where
      by_test : (o : Option Data) (t : Bool) → bytes_eq k f.0 ≡ t
          → ((d : Data) → o ≡ Some d → get_member k (with_fields fs (put f.0 f.1 ms)) ≡ Some d)
          × (o ≡ None → get_member k (with_fields fs (put f.0 f.1 ms)) ≡ get_member k (put f.0 f.1 ms))
          → ((d : Data) → or_here o t f.1 ≡ Some d → get_member k (with_fields fs (put f.0 f.1 ms)) ≡ Some d)
          × (or_here o t f.1 ≡ None → get_member k (with_fields fs (put f.0 f.1 ms)) ≡ get_member k ms)
      by_test (Some e) t is rest = (rest.0, λ no. absurd (cc))
      by_test None true is rest = (
        λ d so. let here : f.1 ≡ d = cc in
            rest.1 refl ∙ ap (λ (x : List ℕ). get_member k (put x f.1 ms)) (sym ((bytes_eq-Decides k f.0).0 is)) ∙ get_member-put k f.1 ms
            ∙ ap Some here,
        λ no. absurd (cc),
      )
      by_test None false is rest = (λ d so. absurd (cc), λ no. rest.1 refl ∙ get_member-put_other k f.0 f.1 ms (apart k f.0 is))

pub tells_looked : (k : List ℕ) (fs : List Field) → Tells k fs (looked k fs)
tells_looked k fs = record { puts = λ ms none. by_result ms none (looked k fs) (tells_last k fs ms) } where
  by_result : (ms : Members) → get_member k ms ≡ None → (o : Option Data)
      → ((d : Data) → o ≡ Some d → get_member k (with_fields fs ms) ≡ Some d)
      × (o ≡ None → get_member k (with_fields fs ms) ≡ get_member k ms) → get_member k (with_fields fs ms) ≡ o
  by_result ms none None last = last.1 refl ∙ none
  by_result ms none (Some d) last = last.0 d refl

-- two objects that are one have what the last field puts there
pub one_looked : (k : List ℕ) (fs gs : List Field) → object_of fs ≡ object_of gs → looked k fs ≡ looked k gs
one_looked k fs gs same = one_found k fs gs (looked k fs) (looked k gs) (tells_looked k fs) (tells_looked k gs) same

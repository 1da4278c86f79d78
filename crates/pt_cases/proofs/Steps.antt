-- The steps of the loops over targets.
use Rattle.std.proofs.Common.{◌≡◌, ◌↔◌, ◌∙◌, ⊎_elim, ℕ, suc, ◌+◌, ◌<◌, ◌≤◌, List, [], ◌∷◌, ◌++◌, length, take, drop, get_or, cond, filter}
use Rattle.std.proofs.Common.{refl, sym, ap, subst, Bool, true, false, Option, Some, None, IsTrue, IfSome, IfNone, is_some, option_to_list}
use Rattle.std.proofs.Common.{Result, Ok, Err, IfOk, Vec, Bor, option_map, append-nil}
use Rattle.std.specs.declared.alloc.Global.{Global}
use Rattle.std.specs.Prelude.{Contains}
use Rattle.std.proofs.Math.Seq.{drop-cons}
use Rattle.std.proofs.lemmas.List.{take_more, take_all, take-append-drop, map-append}
use Rattle.std.proofs.lemmas.List.Elements.{Contains-push_cases, filter-append}
use Rattle.pt_sector.specs.Sectors.{IsAscending, Sectors, Writes}
use Rattle.pt_apply.specs.Plans.{writes_of, PhaseInRange}
use Rattle.pt_apply.specs.declared.plan.Write.{Write}
use Rattle.pt_recover.specs.declared.trace.TracedRun.{TracedRun}
use Rattle.pt_cases.specs.Targets.{NoneHas, AllBelow, targeted, TellDisk, IsOneChange, NotOneChange, AreNewWrites}
use Rattle.pt_cases.specs.inner.Targets.{is_chosen, chosen_writes, only}
use Rattle.pt_cases.specs.declared.targets.target.Target.{Target}
use Rattle.pt_cases.specs.declared.targets.writes.Choice.{Choice}
use Rattle.pt_cases.specs.declared.targets.writes.Choice.TheVariants.{Unmet, UnreadNew}
use Rattle.pt_cases.proofs.SplitsLemmas.{only_one, change_one, change_not_one, new_are, selected_in_range}

-- what a test that failed says
pub unless : (P : Type 0) → (IsTrue false ↔ P) → ¬ P
unless P says holds = (let no : false ≡ true = says.1 holds in absurd cc)

one_more : {X : Type 0} (xs : List X) (i : ℕ) (x : X) → i < length xs → x ≡ get_or xs i x → take (i + 1) xs ≡ take i xs ++ x ∷ []
one_more xs i x lt at = take_more xs i x lt ∙ ap (λ (y : _). take i xs ++ y ∷ []) (sym at)

parts : {X : Type 0} (xs : List X) (i : ℕ) (x : X) → i < length xs → x ≡ get_or xs i x → xs ≡ take i xs ++ x ∷ drop (suc i) xs
parts xs i x lt at =
    sym (take-append-drop i xs) ∙ ap (λ (l : List _). take i xs ++ l) (drop-cons xs i x lt)
    ∙ ap (λ (y : _). take i xs ++ y ∷ drop (suc i) xs) (sym at)

module _ {b : ℕ} (P : Target b → Type 0) (xs : List (Target b)) (i : ℕ) where
  pub none_more : (x : Target b) → i < length xs → x ≡ get_or xs i x → NoneHas P (take i xs) → ¬ P x → NoneHas P (take (i + 1) xs)
  none_more x lt at none not t has holds = ⊎_elim
      (λ there. none t there holds)
      (λ here. not (subst P (sym here) holds))
      (Contains-push_cases (take i xs) x t (subst (λ (l : List (Target b)). Contains l t) (one_more xs i x lt at) has))

  pub none_all : length xs ≤ i → NoneHas P (take i xs) → NoneHas P xs
  none_all past none = subst (NoneHas P) (take_all i xs past) none

-- the write of a target
abbrev put : {b : ℕ} → Target b → ℕ × List ℕ
put t = (t.at.0, t.bytes)

abbrev put_by : {b : ℕ} → Write b → ℕ × List ℕ
put_by w = (w.lba.0, w.bytes)

module _ {b : ℕ} (choice : Choice) where
  chosen_append : (xs ys : List (Target b)) → chosen_writes choice (xs ++ ys) ≡ chosen_writes choice xs ++ chosen_writes choice ys
  chosen_append xs ys =
      ap targeted (filter-append (is_chosen choice) xs ys)
      ∙ map-append put (filter (is_chosen choice) xs) (filter (is_chosen choice) ys)

  at_first : (x : Target b) (xs : List (Target b)) (is : Bool) → is_chosen choice x ≡ is
      → chosen_writes choice (x ∷ xs) ≡ cond is (put x ∷ chosen_writes choice xs) (chosen_writes choice xs)
  at_first x xs true so = ap (λ (c : Bool). targeted (cond c (x ∷ filter (is_chosen choice) xs) (filter (is_chosen choice) xs))) so
  at_first x xs false so = ap (λ (c : Bool). targeted (cond c (x ∷ filter (is_chosen choice) xs) (filter (is_chosen choice) xs))) so

module _ {b : ℕ} (choice : Choice) (xs : List (Target b)) (i : ℕ) (x : Target b) (lt : i < length xs) (at : x ≡ get_or xs i x) where
  -- the writes of one target more
  one_target_more : (is : Bool) → is_chosen choice x ≡ is
      → chosen_writes choice (take (i + 1) xs) ≡ chosen_writes choice (take i xs) ++ cond is (put x ∷ []) []
  one_target_more is so =
      ap (chosen_writes choice) (one_more xs i x lt at) ∙ chosen_append choice (take i xs) (x ∷ [])
      ∙ ap (λ (ws : Writes). chosen_writes choice (take i xs) ++ ws) (at_first choice x [] is so)

  pub pushed : (old new : List (Write b)) (w : Write b) → writes_of old ≡ chosen_writes choice (take i xs) → is_chosen choice x ≡ true
      → w.lba ≡ x.at → w.bytes ≡ x.bytes → new ≡ old ++ w ∷ [] → writes_of new ≡ chosen_writes choice (take (i + 1) xs)
  pushed old new w is so lba bytes more =
      ap writes_of more ∙ map-append put_by old (w ∷ []) ∙ (λ j. is j ++ ((lba j).0, bytes j) ∷ []) ∙ sym (one_target_more true so)

  pub skipped : (old new : List (Write b)) → writes_of old ≡ chosen_writes choice (take i xs) → is_chosen choice x ≡ false → new ≡ old
      → writes_of new ≡ chosen_writes choice (take (i + 1) xs)
  skipped old new is so same =
      ap writes_of same ∙ is ∙ sym (append-nil (chosen_writes choice (take i xs))) ∙ sym (one_target_more false so)

  -- one was found, and here is another
  pub found_two : (found : Option (Write b)) → writes_of (option_to_list found) ≡ chosen_writes choice (take i xs) → is_some found ≡ true
      → is_chosen choice x ≡ true → None ≡ only (chosen_writes choice xs)
  found_two None is some so = absurd cc
  found_two (Some w) is some so =
      let rest = drop (suc i) xs in
      let two : put_by w ∷ put x ∷ chosen_writes choice rest ≡ chosen_writes choice xs =
      (λ j. is j ++ put x ∷ chosen_writes choice rest)
      ∙ ap (λ (ws : Writes). chosen_writes choice (take i xs) ++ ws) (sym (at_first choice x rest true so))
      ∙ sym (chosen_append choice (take i xs) (x ∷ rest)) ∙ ap (chosen_writes choice) (sym (parts xs i x lt at)) in
      ap only two

pub chosen_all : {b : ℕ} (choice : Choice) (xs : List (Target b)) (i : ℕ) (ws : Writes) → length xs ≤ i
    → ws ≡ chosen_writes choice (take i xs) → ws ≡ chosen_writes choice xs
chosen_all choice xs i ws past is = is ∙ ap (chosen_writes choice) (take_all i xs past)

pub only_found : {b : ℕ} (found : Option (Write b)) (ws : Writes) → writes_of (option_to_list found) ≡ ws
    → option_map put_by found ≡ only ws
only_found None ws is = ap only is
only_found (Some w) ws is = ap only is

pub was_none : {X : Type 0} (o : Option X) → is_some o ≡ false → option_to_list o ≡ []
was_none None so = refl
was_none (Some x) so = absurd cc

-- what the loops over targets that are chosen stand on
pub ruleset steps = (pushed, skipped, found_two, chosen_all, only_found, was_none)

module _ {b : ℕ} (ts : List (Target b)) (up : IsAscending (targeted ts)) where
  pub change_some : (r : Option (Write b)) → option_map put_by r ≡ only (chosen_writes Unmet ts)
      → IfSome r (λ w. (d : Sectors) → TellDisk d ts → IsOneChange d ts (w.lba.0, w.bytes))
  change_some None is = tt
  change_some (Some w) is = change_one ts up (put_by w) (only_one (chosen_writes Unmet ts) (put_by w) is)

  pub change_none : (r : Option (Write b)) → option_map put_by r ≡ only (chosen_writes Unmet ts) → IfNone r (NotOneChange ts)
  change_none None is = change_not_one ts up (sym is)
  change_none (Some w) is = tt

  -- what one function says of the writes, another may say
  pub new_ok : {E : Type 0} (guarded : Bor (List TracedRun)) (r : Result (Vec (Write b) Global) E)
      → IfOk r (λ ws. writes_of ws.items ≡ chosen_writes (UnreadNew guarded) ts)
      → IfOk r (λ ws. AreNewWrites guarded.now ts (writes_of ws.items))
  new_ok guarded (Ok ws) is = subst (AreNewWrites guarded.now ts) (sym is) (new_are ts up guarded)
  new_ok guarded (Err e) is = tt

pub new_below : {b : ℕ} {E : Type 0} (choice : Choice) (ts : List (Target b)) → (r : Result (Vec (Write b) Global) E)
    → IfOk r (λ ws. writes_of ws.items ≡ chosen_writes choice ts)
    → IfOk r (λ ws. (n : ℕ) → AllBelow n ts → PhaseInRange n ws.items)
new_below choice ts (Ok ws) is = λ n below. selected_in_range choice ts ws.items is n below
new_below choice ts (Err e) is = tt

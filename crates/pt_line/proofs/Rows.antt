-- What an argument's uses leave in the matches, where none is refused.
use Rattle.std.proofs.Common.{◌≡◌, ◌<◌, ◌≤◌, Bool, cond, true, false, refl, sym, subst, arith, List, [], ◌∷◌, ◌++◌, length, lt-ltb}
use Rattle.std.proofs.Common.{Option, Some, None}
use Rattle.std.specs.Prelude.{IfSome, find, fold}
use Rattle.std.specs.Option.{option_map_or}
use Rattle.std.specs.Str.{bytes_eq}
use Rattle.std.proofs.lemmas.Slice.Eq.{bytes_eq-Decides}
use Rattle.clap.specs.Facts.{parser_of_value, unwrap_or_range}
use Rattle.clap.specs.Kinds.{Kinds, or_else, range_kinds, value_kinds}
use Rattle.clap.specs.Values.{refused_kind}
use Rattle.clap.specs.Walk.{Held, Row, Rule, Text, action_of, arg_by_id, at_row, default_rows, finished, has_row, more_values}
use Rattle.clap.specs.Walk.{most_values, reacted, reading_by, settled, settled_rows, used, used_as, used_by_id, values_or_missing}
use Rattle.clap.specs.Walk.{with_default, with_values, without}
use Rattle.clap.specs.Takes.{value_passes}
use Rattle.clap.specs.Faults.{action_fault, react_fault, repeat_fault, settle_fault, use_fault, values_fault}
use Rattle.clap.specs.declared.builder.action.ArgAction.{ArgAction}
use Rattle.clap.specs.declared.builder.action.ArgAction.TheVariants.{Set, Append, SetTrue, Help, Version}
use Rattle.clap.specs.declared.error.kind.ErrorKind.TheVariants as kind
use Rattle.clap.specs.declared.builder.value_parser.Reading.{Reading}
use Rattle.clap.specs.declared.parser.matches.ValueSource.{ValueSource}
use Rattle.clap.specs.declared.parser.matches.ValueSource.TheVariants.{CommandLine, DefaultValue}

abbrev pub Each : {X : Type 0} → (X → Type 0) → List X → Type 0
Each Q [] = Unit {0}
Each Q (x ∷ xs) = Q x × Each Q xs

pub each_append : {X : Type 0} (Q : X → Type 0) (xs ys : List X) → Each Q xs → Each Q ys → Each Q (xs ++ ys)
each_append Q [] ys a b = b
each_append Q (x ∷ xs) ys a b = (a.0, each_append Q xs ys a.1 b)

pub each_found : {X : Type 0} (Q : X → Type 0) (test : X → Bool) (xs : List X) → Each Q xs → IfSome (find test xs) Q
each_found Q test [] all = tt
each_found Q test (x ∷ xs) all = go (test x) (each_found Q test xs all.1)
  where
    go : (t : Bool) → IfSome (find test xs) Q → IfSome (cond t (Some x) (find test xs)) Q
    go true later = all.0
    go false later = later

some_more : {X : Type 0} (xs ys : List X) → 0 < length ys → 0 < length (xs ++ ys)
some_more [] ys lt = lt
some_more (x ∷ xs) ys lt = omega arith

-- no step of two fails
pub neither : (a b : Kinds) → or_else a b ≡ [] → (a ≡ []) × (b ≡ [])
neither [] b none = (refl, none)
neither (k ∷ ks) b none = absurd cc

-- P id v: the argument of this id may have this value
module _ (P : Text → Text → Type 0) where
  -- an entry has a value, and each of them may be
  abbrev pub IsFull : Row → Type 0
  IsFull r = (0 < length r.values) × Each (P r.id) r.values

  at_row_full : (id : Text) (change : Row → List Row) (missing rows : List Row) → Each IsFull rows
      → ((r : Row) → r.id ≡ id → IsFull r → Each IsFull (change r)) → Each IsFull missing → Each IsFull (at_row id change missing rows)
  at_row_full id change missing [] all on none = none
  at_row_full id change missing (r ∷ rs) all on none = go (bytes_eq r.id id) refl (at_row_full id change missing rs all.1 on none)
    where
      go : (t : Bool) → bytes_eq r.id id ≡ t → Each IsFull (at_row id change missing rs)
          → Each IsFull (cond t (change r ++ rs) (r ∷ at_row id change missing rs))
      go true e later = each_append IsFull (change r) rs (on r ((bytes_eq-Decides r.id id).0 e) all.0) all.1
      go false e later = (all.0, later)

  without_full : (id : Text) (rows : List Row) → Each IsFull rows → Each IsFull (without id rows)
  without_full id rows all = at_row_full id (λ _. []) [] rows all (λ r e full. tt) tt

  pub values_full : (id : Text) (how : Reading) (s : ValueSource) (values : List Text) (rows : List Row) → Each IsFull rows
      → 0 < length values → Each (P id) values
      → Each IsFull (with_values id how s values rows)
  values_full id how s values rows all some may = at_row_full id (more_values s values) _ rows all
      (λ r e full. (
        (
          some_more r.values values some,
          each_append (P r.id) r.values values full.1
              (subst (λ (x : Text). Each (P x) values) (sym e) may),
        ),
        tt,
      ))
      ((some, may), tt)

  -- ---- one use

  abbrev pub MayHave : Rule → Type 0
  MayHave a = (v : Text) → value_passes a v ≡ true → P a.id v

  -- an argument whose uses give it values that may be, or ask for help or for the version; a flag has a value of its own
  abbrev pub Acts : ArgAction → Rule → Type 0
  Acts Set a = (1 ≤ (unwrap_or_range a.range).start_inclusive) × MayHave a
  Acts Append a = (1 ≤ (unwrap_or_range a.range).start_inclusive) × MayHave a
  Acts SetTrue a = (0 < length a.missing) × MayHave a
  Acts Help a = Unit {0}
  Acts Version a = Unit {0}
  Acts _ a = ⊥

  abbrev pub IsSound : Rule → Type 0
  IsSound a = Acts (action_of a) a × Each (P a.id) a.defaults

  value_ok : (a : Rule) (v : Text) (t : Bool) → value_passes a v ≡ t → cond t [] (refused_kind (parser_of_value a.parser) ∷ []) ≡ []
      → value_passes a v ≡ true
  value_ok a v true e none = e
  value_ok a v false e none = absurd cc

  values_ok : (a : Rule) (vs : List Text) → MayHave a → values_fault a vs ≡ [] → Each (P a.id) vs
  values_ok a [] may none = tt
  values_ok a (v ∷ vs) may none =
      let parts = neither (value_kinds a.ignore_case (parser_of_value a.parser) v) (values_fault a vs) none in
      (may v (value_ok a v (value_passes a v) refl parts.0), values_ok a vs may parts.1)

  used_full : (again : Bool) (a : Rule) (values : List Text) (rows : List Row) → IsSound a → use_fault again a values rows ≡ []
      → Each IsFull rows
      → Each IsFull (used a values rows)
  used_full again a values rows sound none all =
      let parts =
      neither (range_kinds (unwrap_or_range a.range).start_inclusive (most_values a) (length values))
      (action_fault (action_of a) again a (values_or_missing a values) rows) none in
      go values (action_of a) sound.0 parts.0 parts.1
    where
      go : (vs : List Text) (x : ArgAction) → Acts x a
          → range_kinds (unwrap_or_range a.range).start_inclusive (most_values a) (length vs) ≡ []
          → action_fault x again a (values_or_missing a vs) rows ≡ []
          → Each IsFull (used_as x a.id (reading_by a) (values_or_missing a vs) rows)
      go [] Set acts range fault =
          let bad : kind.InvalidValue ∷ [] ≡ [] =
          rw (lt-ltb 0 (unwrap_or_range a.range).start_inclusive (omega (arith, acts.0))) at range in
          absurd cc
      go (v ∷ vs) Set acts range fault =
          values_full a.id (reading_by a) CommandLine (v ∷ vs) (without a.id rows) (without_full a.id rows all) (omega arith)
          (values_ok a (v ∷ vs) acts.1 (neither (repeat_fault again a.id rows) (values_fault a (v ∷ vs)) fault).1)
      go [] Append acts range fault =
          let bad : kind.InvalidValue ∷ [] ≡ [] =
          rw (lt-ltb 0 (unwrap_or_range a.range).start_inclusive (omega (arith, acts.0))) at range in
          absurd cc
      go (v ∷ vs) Append acts range fault =
          values_full a.id (reading_by a) CommandLine (v ∷ vs) rows all (omega arith) (values_ok a (v ∷ vs) acts.1 fault)
      go [] SetTrue acts range fault =
          values_full a.id (reading_by a) CommandLine a.missing (without a.id rows) (without_full a.id rows all) acts.0
          (values_ok a a.missing acts.1 (neither (repeat_fault again a.id rows) (values_fault a a.missing) fault).1)
      go (v ∷ vs) SetTrue acts range fault =
          values_full a.id (reading_by a) CommandLine (v ∷ vs) (without a.id rows) (without_full a.id rows all) (omega arith)
          (values_ok a (v ∷ vs) acts.1 (neither (repeat_fault again a.id rows) (values_fault a (v ∷ vs)) fault).1)
      go vs Help acts range fault = all
      go vs Version acts range fault = all
      go vs _ acts range fault = absurd acts

  module _ (c : List Rule) (again : Bool) (sound : Each IsSound c) where
    pub found_sound : (test : Rule → Bool) → IfSome (find test c) IsSound
    found_sound test = each_found IsSound test c sound

    pub settled_full : (h : Held) → settle_fault c again h ≡ [] → Each IsFull h.rows → Each IsFull (settled c h).rows
    settled_full h none all = go h.pending none
      where
        by_id : (values : List Text) (o : Option Rule) → IfSome o IsSound
            → option_map_or (λ (a : Rule). use_fault again a values h.rows) o [] ≡ []
            → Each IsFull (used_by_id o values h.rows)
        by_id values None s e = all
        by_id values (Some a) s e = used_full again a values h.rows s e all

        go : (p : Option (Text × List Text))
            → option_map_or (λ (q : Text × List Text). option_map_or (λ (a : Rule). use_fault again a q.1 h.rows)
            (arg_by_id c q.0) []) p [] ≡ []
            → Each IsFull (settled_rows c p h.rows)
        go None e = all
        go (Some q) e = by_id q.1 (arg_by_id c q.0) (found_sound (λ a. bytes_eq a.id q.0)) e

    pub reacted_full : (a : Rule) (values : List Text) (h : Held) → IsSound a → react_fault c again a values h ≡ [] → Each IsFull h.rows
        → Each IsFull (reacted c a values h).rows
    reacted_full a values h s none all =
        let parts = neither (settle_fault c again h) (use_fault again a values (settled c h).rows) none in
        used_full again a values (settled c h).rows s parts.1 (settled_full h parts.0 all)

    default_full : (a : Rule) (rows : List Row) → IsSound a → Each IsFull rows → Each IsFull (with_default rows a)
    default_full a rows s all = go (has_row a.id rows)
      where
        fill : (vs : List Text) → Each (P a.id) vs → Each IsFull (default_rows a.id (reading_by a) vs rows)
        fill [] may = all
        fill (v ∷ vs) may = values_full a.id (reading_by a) DefaultValue (v ∷ vs) rows all (omega arith) may

        go : (t : Bool) → Each IsFull (cond t rows (default_rows a.id (reading_by a) a.defaults rows))
        go true = all
        go false = fill a.defaults s.1

    defaults_full : (rules : List Rule) (rows : List Row) → Each IsSound rules → Each IsFull rows
        → Each IsFull (fold with_default rows rules)
    defaults_full [] rows s all = all
    defaults_full (a ∷ rest) rows s all = defaults_full rest (with_default rows a) s.1 (default_full a rows s.0 all)

    pub finished_full : (h : Held) → settle_fault c again h ≡ [] → Each IsFull h.rows → Each IsFull (finished c h)
    finished_full h none all = defaults_full c (settled c h).rows sound (settled_full h none all)

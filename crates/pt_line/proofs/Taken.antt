-- What words without fault leave: the subcommand that they enter, and values of its arguments.
use Rattle.std.proofs.Common.{◌≡◌, ◌∙◌, ◌&&◌, ◌||◌, ◌⊎◌, inl, inr, Bool, cond, true, false, not, ◌<◌, arith, length, refl, sym, subst}
use Rattle.std.proofs.Common.{List, [], ◌∷◌, Option, Some, None, true≢false, codes, slice_get, is_some}
use Rattle.std.specs.Prelude.{IfSome, IsSome, find, option_map, option_and_then}
use Rattle.std.specs.Option.{option_map_or}
use Rattle.std.specs.List.{list_any}
use Rattle.std.specs.Str.{bytes_eq}
use Rattle.std.proofs.lemmas.Slice.Eq.{bytes_eq-Decides}
use Rattle.clap.specs.Facts.{explicit_source}
use Rattle.clap.specs.Kinds.{Kinds, check_kinds}
use Rattle.clap.specs.Simple.{App, Shape, entered, label_of, names_of, rows_at}
use Rattle.clap.specs.Takes.{is_given}
use Rattle.clap.specs.Walk.{Names, Row, Rule, Text, all_of, answers_to, finished, first_of, nothing_held, rows_after, settled, walk}
use Rattle.clap.specs.Walk.{walk_from}
use Rattle.clap.specs.Faults.{built_fault, check_fault, defaults_fault, entered_fault, level_fault, settle_fault, walk_fault}
use Rattle.pt_line.proofs.Rows.{Each, IsFull, IsSound, finished_full, neither}
use Rattle.pt_line.proofs.Walks.{GoesWell, StopsWell, goes_well}

found_with : {X : Type 0} (Q : X → Type 0) (test : X → Bool) (xs : List X) → Each Q xs → IfSome (find test xs) (λ x. Q x × (test x ≡ true))
found_with Q test [] all = tt
found_with Q test (x ∷ xs) all = go (test x) refl (found_with Q test xs all.1)
  where
    go : (t : Bool) → test x ≡ t → IfSome (find test xs) (λ y. Q y × (test y ≡ true))
        → IfSome (cond t (Some x) (find test xs)) (λ y. Q y × (test y ≡ true))
    go true e later = (all.0, e)
    go false e later = later

none_of : (test : Rule → Bool) (xs : List Rule) → list_any test xs ≡ false → Each (λ a. test a ≡ false) xs
none_of test [] none = tt
none_of test (a ∷ rest) none = go (test a) refl (λ n. none_of test rest n) none
  where
    go : (t : Bool) → test a ≡ t → (list_any test rest ≡ false → Each (λ b. test b ≡ false) rest) → (t || list_any test rest) ≡ false
        → (test a ≡ false) × Each (λ b. test b ≡ false) rest
    go true e later n = absurd (true≢false n)
    go false e later n = (e, later n)

checks : (help subcommand argument : Bool) → check_kinds help subcommand argument ≡ [] → (subcommand ≡ false) × (argument ≡ false)
checks true s a none = absurd cc
checks false true a none = absurd cc
checks false false true none = absurd cc
checks false false false none = (refl, refl)

met_by : (has required : Bool) → required ≡ true → (not has && required) ≡ false → has ≡ true
met_by true required is none = refl
met_by false required is none = absurd (true≢false (sym is ∙ none))

given_by : (required given : Bool) → required ≡ true → (required && not given) ≡ false → given ≡ true
given_by true true is none = refl
given_by true false is none = absurd (true≢false none)
given_by false given is none = absurd (true≢false (sym is))

-- a word that is `help` asks for help
asks_help : (word : Text) → (bytes_eq (codes "help") word || false) ≡ true → (bytes_eq word (codes "help") && true) ≡ false → ⊥
asks_help word named other = by (bytes_eq (codes "help") word) refl named
  where
    by : (t : Bool) → bytes_eq (codes "help") word ≡ t → (t || false) ≡ true → ⊥
    by true e h =
        let same : codes "help" ≡ word = (bytes_eq-Decides (codes "help") word).0 e in
        true≢false (subst (λ (w : Text). (bytes_eq w (codes "help") && true) ≡ false) (sym same) other)
    by false e h = true≢false (sym h)

abbrev IsGiven : List Row → Rule → Type 0
IsGiven rows a = a.required ≡ true → is_given a.id rows ≡ true

each_given : (rows : List Row) (rules : List Rule) → Each (λ a. (a.required && not (is_given a.id rows)) ≡ false) rules
    → Each (IsGiven rows) rules
each_given rows [] none = tt
each_given rows (a ∷ rest) none = ((λ is. given_by a.required (is_given a.id rows) is none.0), each_given rows rest none.1)

module _ (P : Text → Text → Type 0) where
  -- the matches of a subcommand with these arguments, on some words without fault
  pub record IsFair (rules : List Rule) (rows : List Row) : Type 0 where
    pub full : Each (IsFull P) rows
    pub given : Each (IsGiven rows) rules

  abbrev pub HasSoundRules : Shape → Type 0
  HasSoundRules s = Each (IsSound P) s.rules

  level : (s : Shape) (names : Names) (words : List Text) (has : Bool) (below : Kinds) → HasSoundRules s
      → level_fault s names nothing_held words has below ≡ []
      → GoesWell P s (walk s.rules names nothing_held words) × (below ≡ [])
      × (s.subcommand_negates_reqs ≡ false → IsFair s.rules (rows_after s.rules names words)) × (s.subcommand_required ≡ true → has ≡ true)
  level s names words has below sound none =
      let end = (walk s.rules names nothing_held words).held in
      let a = neither (walk_fault s names (walk_from nothing_held) words) _ none in
      let b = neither below _ a.1 in
      let d = neither (settle_fault s.rules s.args_override_self end) _ b.1 in
      let e = neither (defaults_fault (settled s.rules end).rows s.rules) (check_fault s (finished s.rules end) has) d.1 in
      let well = goes_well P s sound names (walk_from nothing_held) words a.0 (tt, tt) in
      let f = checks _ (not has && s.subcommand_required) _ e.1 in (
        well,
        b.0,
        (λ negates. record {
          full = finished_full P s.rules s.args_override_self sound end d.0 well.0;
          given = each_given (finished s.rules end) s.rules (none_of _ s.rules (rw negates at f.1));
        }),
        (λ required. met_by has s.subcommand_required required f.0),
      )

  module _ (Q : Shape → Type 0) where
    -- the subcommand of an answer, with what is known of it
    pub record HasEntered (met : Option (Text × List Row)) : Type 0 where
      pub shape : Shape
      pub rows : List Row
      pub is : met ≡ Some (shape.name, rows)
      pub of : Q shape
      pub fair : IsFair shape.rules rows

    -- a subcommand is the call for help, or known
    abbrev pub IsKnown : Shape → Type 0
    IsKnown s = (label_of s ≡ (codes "help", [])) ⊎ (Q s × HasSoundRules s × (s.subcommand_negates_reqs ≡ false))

    enters : (a : App) (stop : Option (Text × List Text)) → Each IsKnown a.subs → a.top.disable_help_subcommand ≡ false
        → entered_fault a stop ≡ [] → is_some (entered a stop) ≡ true → StopsWell a.top stop → HasEntered (entered a stop)
    enters a None subs helps none has well = absurd (true≢false (sym has))
    enters a (Some p) subs helps none has well =
        go (find (λ s. answers_to p.0 (label_of s)) a.subs) (found_with IsKnown (λ s. answers_to p.0 (label_of s)) a.subs subs) none has
      where
        known : (s : Shape) → IsKnown s → answers_to p.0 (label_of s) ≡ true
            → option_map_or (λ (x : Shape). level_fault x [] nothing_held p.1 false []) (Some s) [] ≡ []
            → HasEntered (Some (rows_at s p.1))
        known s (inl label) named e =
            absurd (asks_help p.0 (subst (λ (l : Text × List Text). answers_to p.0 l ≡ true) label named)
            (subst (λ (t : Bool). (bytes_eq p.0 (codes "help") && not t) ≡ false) helps well))
        known s (inr k) named e = record {
          shape = s;
          rows = rows_after s.rules [] p.1;
          is = refl;
          of = k.0;
          fair = (level s [] p.1 false [] k.1 e).2 k.2;
        }

        go : (o : Option Shape) → IfSome o (λ s. IsKnown s × (answers_to p.0 (label_of s) ≡ true))
            → option_map_or (λ (s : Shape). level_fault s [] nothing_held p.1 false []) o [] ≡ []
            → is_some (option_map (λ (s : Shape). rows_at s p.1) o) ≡ true
            → HasEntered (option_map (λ (s : Shape). rows_at s p.1) o)
        go None q e h = absurd (true≢false (sym h))
        go (Some s) q e h = known s q.0 q.1 e

    pub taken : (a : App) (words : List Text) → HasSoundRules a.top → Each IsKnown a.subs → a.top.disable_help_subcommand ≡ false
        → a.top.subcommand_required ≡ true → built_fault a nothing_held words ≡ []
        → HasEntered (entered a (walk a.top.rules (names_of a) nothing_held words).stopped)
    taken a words sound subs helps required none =
        let stop = (walk a.top.rules (names_of a) nothing_held words).stopped in
        let here = level a.top (names_of a) words (is_some (entered a stop)) (entered_fault a stop) sound none in
        enters a stop subs helps here.1 (here.3 required) here.0.1

-- what an argument's first value may be
first_may : (P : Text → Text → Type 0) (id : Text) (vs : List Text) → Each (P id) vs → IfSome (slice_get vs 0) (P id)
first_may P id [] may = tt
first_may P id (v ∷ vs) may = may.0

pub value_may : (P : Text → Text → Type 0) (rows : List Row) (id : Text) → Each (IsFull P) rows → IfSome (first_of id rows) (P id)
value_may P [] id full = tt
value_may P (r ∷ rs) id full = by (bytes_eq r.id id) refl (value_may P rs id full.1)
  where
    by : (t : Bool) → bytes_eq r.id id ≡ t → IfSome (first_of id rs) (P id)
        → IfSome (option_and_then (λ (x : Row). slice_get x.values 0) (cond t (Some r) (find (λ x. bytes_eq x.id id) rs))) (P id)
    by true same later =
        first_may P id r.values (subst (λ (x : Text). Each (P x) r.values) ((bytes_eq-Decides r.id id).0 same) full.0.1)
    by false same later = later

-- an argument that was given has a value
pub has_text : (P : Text → Text → Type 0) (rows : List Row) (id : Text) → Each (IsFull P) rows → is_given id rows ≡ true
    → IsSome (first_of id rows) × IsSome (all_of id rows)
has_text P rows id full given = go (find (λ r. bytes_eq r.id id) rows) (found_with (IsFull P) (λ r. bytes_eq r.id id) rows full) given
  where
    first : (vs : List Text) → 0 < length vs → IsSome (slice_get vs 0)
    first [] lt = absurd (omega arith)
    first (v ∷ vs) lt = refl

    go : (o : Option Row) → IfSome o (λ r. IsFull P r × (bytes_eq r.id id ≡ true))
        → option_map_or (λ (r : Row). explicit_source r.source) o false ≡ true
        → IsSome (option_and_then (λ (r : Row). slice_get r.values 0) o) × IsSome (option_map (λ (r : Row). r.values) o)
    go None f e = absurd (true≢false (sym e))
    go (Some r) f e = (first r.values f.0.0, refl)

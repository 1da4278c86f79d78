-- What a walk over words leaves, where no step of it fails: each entry has values that may be, and no call for help was met.
use Rattle.std.proofs.Common.{◌≡◌, ◌&&◌, Bool, cond, true, false, not, ℕ, zero, suc, refl, List, [], ◌∷◌, length, drop, Option, Some}
use Rattle.std.proofs.Common.{None, codes}
use Rattle.std.specs.Prelude.{IfSome, fold, is_some, slice_get, encode_utf8}
use Rattle.std.specs.Option.{option_map_or}
use Rattle.std.specs.Str.{bytes_eq, chars}
use Rattle.clap.specs.Lexer.{long_of, short_of}
use Rattle.clap.specs.Kinds.{Kinds, or_else}
use Rattle.clap.specs.Simple.{Shape}
use Rattle.clap.specs.Walk.{Held, Names, Outcome, Rule, Step, Text, Waiting, Walk, after_flag, after_step, arg_by_id, arg_by_index}
use Rattle.clap.specs.Walk.{arg_by_long, arg_by_short, attached_value, bundle, bundle_met, bundle_step, done, flag_met, has_long}
use Rattle.clap.specs.Walk.{has_short, idle, is_pending, long_met, long_or_other, next, option, option_met, option_word, pushed, plain}
use Rattle.clap.specs.Walk.{plain_word, positional, positional_held, reacted, refused, settled, short_met, short_or_plain, subcommand}
use Rattle.clap.specs.Walk.{subcommand_met, subcommand_or_other, takes_several, takes_values, to_positional, trailing, value, waits}
use Rattle.clap.specs.Walk.{walked, walked_from, word_met}
use Rattle.clap.specs.Faults.{bundle_fault, bundle_step_fault, flag_word_fault, flags_fault, long_fault, option_fault, other_fault}
use Rattle.clap.specs.Faults.{positional_fault, react_fault, settle_fault, short_fault, step_fault, stray_fault, turn_fault, walk_fault}
use Rattle.clap.specs.Faults.{word_fault}
use Rattle.clap.specs.declared.error.kind.ErrorKind.TheVariants as kind
use Rattle.pt_line.proofs.Rows.{Each, IsFull, IsSound, found_sound, neither, reacted_full, settled_full}

-- the subcommand at which a walk stopped is no call for help
abbrev pub StopsWell : Shape → Option (Text × List Text) → Type 0
StopsWell s None = Unit {0}
StopsWell s (Some p) = (bytes_eq p.0 (codes "help") && not s.disable_help_subcommand) ≡ false

abbrev pub GoesWell : (Text → Text → Type 0) → Shape → Walk → Type 0
GoesWell P s w = Each (IsFull P) w.held.rows × StopsWell s w.stopped

module _ (P : Text → Text → Type 0) (s : Shape) (sound : Each (IsSound P) s.rules) where
  abbrev c : List Rule
  c = s.rules

  abbrev again : Bool
  again = s.args_override_self

  abbrev Full : Held → Type 0
  Full h = Each (IsFull P) h.rows

  option_full : (a : Rule) (v : Option Text) (h : Held) → IsSound P a → option_fault c again a v h ≡ [] → Full h
      → Full (option_met c a v h).0
  option_full a (Some v) h ok none all = reacted_full P c again sound a (v ∷ []) h ok none all
  option_full a None h ok none all = settled_full P c again sound h none all

  long_full : (o : Option Rule) (v : Option Text) (h : Held) → IfSome o (IsSound P) → long_fault c again o v h ≡ [] → Full h
      → Full (long_met c o v h).0
  long_full None v h ok none all = absurd cc
  long_full (Some a) v h ok none all = go (takes_values a) v none
    where
      go : (t : Bool) (w : Option Text)
          → cond t (option_fault c again a w h) (cond (is_some w) (kind.TooManyValues ∷ []) (react_fault c again a [] h)) ≡ []
          → Full (cond t (option_met c a w h) (flag_met c a w h)).0
      go true w e = option_full a w h ok e all
      go false None e = reacted_full P c again sound a [] h ok e all
      go false (Some w) e = absurd cc

  short_full : (o : Option Rule) (rest : Text) (h : Held) (go_on : Held → Held × Outcome) (fails : Held → Kinds) → IfSome o (IsSound P)
      → ((k : Held) → fails k ≡ [] → Full k → Full (go_on k).0) → short_fault c again o rest h fails ≡ [] → Full h
      → Full (short_met c o rest h go_on).0
  short_full None rest h go_on fails ok on none all = absurd cc
  short_full (Some a) rest h go_on fails ok on none all = go (takes_values a) none
    where
      go : (t : Bool)
          → cond t (option_fault c again a (attached_value rest) h) (or_else (react_fault c again a [] h) (fails (reacted c a [] h))) ≡ []
          → Full (cond t (option_met c a (attached_value rest) h) (go_on (reacted c a [] h))).0
      go true e = option_full a (attached_value rest) h ok e all
      go false e =
          let parts = neither (react_fault c again a [] h) (fails (reacted c a [] h)) e in
          on (reacted c a [] h) parts.1 (reacted_full P c again sound a [] h ok parts.0 all)

  step_full : (o : Option ℕ) (flags : Text) (skip : ℕ) (so_far : Outcome) (h : Held)
      (go_on : Text → ℕ → Outcome → Held → Held × Outcome) (fails : Text → ℕ → Held → Kinds)
      → ((t : Text) (n : ℕ) (x : Outcome) (k : Held) → fails t n k ≡ [] → Full k → Full (go_on t n x k).0)
      → bundle_step_fault c again o flags skip h fails ≡ [] → Full h → Full (bundle_step c o flags skip so_far h go_on).0
  step_full None flags skip so_far h go_on fails on none all = all
  step_full (Some x) flags zero so_far h go_on fails on none all =
      let rest = drop (length (encode_utf8 x)) flags in
      short_full (arg_by_short c x) rest h (go_on rest 0 done) (fails rest 0)
      (found_sound P c again sound (λ a. not (is_some a.index) && has_short a x))
      (λ k e full. on rest 0 done k e full) none all
  step_full (Some x) flags (suc skip) so_far h go_on fails on none all = on (drop (length (encode_utf8 x)) flags) skip so_far h none all

  bundle_full : (k : ℕ) (flags : Text) (skip : ℕ) (so_far : Outcome) (h : Held) → flags_fault c again k flags skip h ≡ [] → Full h
      → Full (bundle_met c k flags skip so_far h).0
  unfolding bundle_met flags_fault
  bundle_full zero flags skip so_far h none all = all
  bundle_full (suc k) flags skip so_far h none all =
      step_full (slice_get (chars flags) 0) flags skip so_far h (bundle_met c k) (flags_fault c again k)
      (λ t n x j e full. bundle_full k t n x j e full) none all

  -- ---- a word

  -- the subcommand that a step meets is no call for help
  abbrev IsNoHelp : Step → Type 0
  IsNoHelp (subcommand name) = (bytes_eq name (codes "help") && not s.disable_help_subcommand) ≡ false
  IsNoHelp _ = Unit {0}

  abbrev Steps : Held × Step → Type 0
  Steps p = Full p.0 × IsNoHelp p.1

  plain_steps : (waiting : Waiting) (word : Text) (h : Held) → Full h → Steps (plain_word c waiting word h)
  plain_steps idle word h all = (all, tt)
  plain_steps positional word h all = (all, tt)
  plain_steps (option id) word h all = (go (arg_by_id c id), tt)
    where
      go : (o : Option Rule) → Full (option_word o id word h).0
      go None = all
      go (Some a) = all

  flag_steps : (waiting : Waiting) (word : Text) (h : Held) (x : Outcome) → Full h → Steps (after_flag c waiting word h x)
  flag_steps waiting word h done all = (all, tt)
  flag_steps waiting word h (waits id) all = (all, tt)
  flag_steps waiting word h plain all = plain_steps waiting word h all
  flag_steps waiting word h refused all = plain_steps waiting word h all

  short_steps : (waiting : Waiting) (word : Text) (o : Option Text) (h : Held)
      → option_map_or (λ (flags : Text). bundle_fault c again flags h) o [] ≡ [] → Full h
      → Steps (short_or_plain c waiting word o h)
  short_steps waiting word None h none all = plain_steps waiting word h all
  short_steps waiting word (Some flags) h none all =
      flag_steps waiting word (bundle c flags h).0 (bundle c flags h).1
      (bundle_full (length flags) flags h.skip plain (record h { skip = 0 }) none all)

  long_steps : (waiting : Waiting) (word : Text) (o : Option (Text × Option Text)) (h : Held)
      → flag_word_fault c again o word h ≡ [] → Full h
      → Steps (long_or_other c waiting word o h)
  long_steps waiting word (Some p) h none all =
      flag_steps waiting word (long_met c (arg_by_long c p.0) p.1 h).0 (long_met c (arg_by_long c p.0) p.1 h).1
      (long_full (arg_by_long c p.0) p.1 h (found_sound P c again sound (λ a. not (is_some a.index) && has_long a p.0)) none all)
  long_steps waiting word None h none all = short_steps waiting word (short_of word) h none all

  no_help : (t : Bool) → cond t (kind.DisplayHelp ∷ kind.InvalidSubcommand ∷ []) [] ≡ [] → t ≡ false
  no_help true e = absurd cc
  no_help false e = refl

  other_steps : (o : Option Text) (waiting : Waiting) (position : ℕ) (word : Text) (h : Held) → other_fault s o word h ≡ [] → Full h
      → Steps (subcommand_or_other c o waiting position word h)
  other_steps (Some name) waiting position word h none all =
      (all, no_help (bytes_eq name (codes "help") && not s.disable_help_subcommand) none)
  other_steps None waiting position word h none all = go (bytes_eq word (45 ∷ 45 ∷ [])) none
    where
      go : (t : Bool) → cond t [] (flag_word_fault c again (long_of word) word h) ≡ []
          → Steps (cond t (h, trailing position) (long_or_other c waiting word (long_of word) h))
      go true e = (all, tt)
      go false e = long_steps waiting word (long_of word) h e all

  word_steps : (names : Names) (is_trailing : Bool) (waiting : Waiting) (position : ℕ) (word : Text) (h : Held)
      → word_fault s names is_trailing waiting word h ≡ []
      → Full h → Steps (word_met c names is_trailing waiting position word h)
  word_steps names true waiting position word h none all = (all, tt)
  word_steps names false waiting position word h none all = other_steps (subcommand_met names waiting word) waiting position word h none all

  -- ---- the walk

  placed : (a : Rule) (word : Text) (h : Held) → positional_fault c again a h ≡ [] → Full h → Full (positional_held c a word h)
  placed a word h none all = go (is_pending a h.pending && takes_several a) none
    where
      go : (t : Bool) → cond t [] (settle_fault c again h) ≡ [] → Full (pushed a.id word (cond t h (settled c h)))
      go true e = all
      go false e = settled_full P c again sound h e all

  to_place : (o : Option Rule) (word : Text) (w : Walk) (h : Held)
      → option_map_or (λ (a : Rule). positional_fault c again a h) o (stray_fault s) ≡ [] → Full h
      → StopsWell s w.stopped → GoesWell P s (to_positional c o word w h)
  to_place None word w h none all stops = (all, stops)
  to_place (Some a) word w h none all stops = (placed a word h none all, tt)

  stepped : (word : Text) (w : Walk) (h : Held) (x : Step) → step_fault s w.position h x ≡ [] → Full h → IsNoHelp x → StopsWell s w.stopped
      → GoesWell P s (after_step c word w h x)
  stepped word w h (next waiting) none all well stops = (all, stops)
  stepped word w h (trailing position) none all well stops = (all, stops)
  stepped word w h (subcommand name) none all well stops = (all, well)
  stepped word w h value none all well stops = to_place (arg_by_index c w.position) word w h none all stops

  turned : (names : Names) (w : Walk) (word : Text) → turn_fault s names w word ≡ [] → GoesWell P s w → GoesWell P s (walked c names w word)
  unfolding walked
  turned names w word none goes = go w.stopped none goes.1
    where
      go : (o : Option (Text × List Text))
          → cond (is_some o) [] (or_else (word_fault s names w.is_trailing w.waiting word w.held)
          (step_fault s w.position (word_met c names w.is_trailing w.waiting w.position word w.held).0
          (word_met c names w.is_trailing w.waiting w.position word w.held).1)) ≡ []
          → StopsWell s o → GoesWell P s (walked_from c names o w word)
      go (Some p) e stops = (goes.0, stops)
      go None e stops =
          let met = word_met c names w.is_trailing w.waiting w.position word w.held in
          let parts = neither (word_fault s names w.is_trailing w.waiting word w.held) (step_fault s w.position met.0 met.1) e in
          let steps = word_steps names w.is_trailing w.waiting w.position word w.held parts.0 goes.0 in
          stepped word w met.0 met.1 parts.1 steps.0 steps.1 goes.1

  pub goes_well : (names : Names) (w : Walk) (words : List Text) → walk_fault s names w words ≡ [] → GoesWell P s w
      → GoesWell P s (fold (walked c names) w words)
  unfolding walk_fault
  goes_well names w [] none goes = goes
  goes_well names w (word ∷ rest) none goes =
      let parts = neither (turn_fault s names w word) (walk_fault s names (walked c names w word) rest) none in
      goes_well names (walked c names w word) rest parts.1 (turned names w word parts.0 goes)

-- Words that begin with a subcommand's name are read alike by the whole command and by the command with that subcommand alone.
use Rattle.std.proofs.Common.{◌≡◌, ◌∙◌, ◌<◌, arith, ap, ap₂, sym, refl, length, List, [], ◌∷◌, ◌++◌, Option, Some, None, codes, true}
use Rattle.std.specs.Prelude.{IfSome, fold, is_some, slice_index_or}
use Rattle.std.specs.Borrow.{Bor}
use Rattle.std.proofs.lemmas.List.{append_assoc, append-nil}
use Rattle.clap.specs.Faults.{built_fault, check_fault, defaults_fault, entered_fault, settle_fault, turn_fault, walk_fault}
use Rattle.clap.specs.Kinds.{Kinds, or_else}
use Rattle.clap.specs.Simple.{App, Shape, built, entered, names_of}
use Rattle.clap.specs.Walk.{Names, Rule, Text, Walk, finished, nothing_held, settled, texts, walk, walk_from, walked}
use Rattle.clap.specs.Words.{fault_of, is_simple, is_simple_and_free, subcommand_of}
use Rattle.clap.specs.declared.builder.command.Command.{Command}
use Rattle.pt_line.specs.inner.CommandLine.{alone, name_of}
use Rattle.pt_line.specs.CommandLine.{ptab}
use Rattle.pt_line.specs.inner.Lines.{Begins, IsCommand, ReadsAs}
use Rattle.pt_line.specs.declared.pages.Subcommand.{Subcommand}
use Rattle.pt_line.specs.declared.pages.Subcommand.TheVariants.{Show, Verify, Locate, Free, Types, Edit}
use Rattle.pt_line.specs.declared.pages.Subcommand.TheVariants.{Plan, Check, Apply, Repair, Adopt, Set}

-- a walk that stopped at this name, with the words that it passed since
abbrev stopped_at : Text → List Text → Walk
stopped_at name seen = record (walk_from nothing_held) { stopped = Some (name, seen) }

stays : (c : List Rule) (names : Names) (name : Text) (seen rest : List Text)
    → fold (walked c names) (stopped_at name seen) rest ≡ stopped_at name (seen ++ rest)
unfolding walked
stays c names name seen [] = ap (stopped_at name) (sym (append-nil seen))
stays c names name seen (word ∷ rest) = stays c names name (seen ++ word ∷ []) rest
    ∙ ap (stopped_at name) (append_assoc seen (word ∷ []) rest)

no_fault : (s : Shape) (names : Names) (name : Text) (seen rest : List Text) → walk_fault s names (stopped_at name seen) rest ≡ []
unfolding walk_fault walked
no_fault s names name seen [] = refl
no_fault s names name seen (word ∷ rest) = no_fault s names name (seen ++ word ∷ []) rest

-- a level's faults, by what its walk came to and the faults in that
abbrev fault_at : App → Walk → Kinds → Kinds
fault_at a w met =
    or_else met (or_else (entered_fault a w.stopped) (or_else (settle_fault a.top.rules a.top.args_override_self w.held)
    (or_else (defaults_fault (settled a.top.rules w.held).rows a.top.rules)
    (check_fault a.top (finished a.top.rules w.held) (is_some (entered a w.stopped))))))

-- a built command that meets a subcommand of this name at once
module _ (a : App) (name : Text) (meets : walked a.top.rules (names_of a) (walk_from nothing_held) name ≡ stopped_at name [])
    (passes : turn_fault a.top (names_of a) (walk_from nothing_held) name ≡ []) (rest : List Text) where
  stops : walk a.top.rules (names_of a) nothing_held (name ∷ rest) ≡ stopped_at name rest
  stops =
      ap (λ (w : Walk). fold (walked a.top.rules (names_of a)) w rest) meets ∙ stays a.top.rules (names_of a) name [] rest

  met : walk_fault a.top (names_of a) (walk_from nothing_held) (name ∷ rest) ≡ []
  unfolding walk_fault
  met =
      ap₂ or_else passes (ap (λ (w : Walk). walk_fault a.top (names_of a) w rest) meets ∙ no_fault a.top (names_of a) name [] rest)

  faults_by_name : built_fault a nothing_held (name ∷ rest) ≡ fault_at a (stopped_at name rest) []
  faults_by_name = ap₂ (fault_at a) stops met

  entered_by_name : entered a (walk a.top.rules (names_of a) nothing_held (name ∷ rest)).stopped ≡ entered a (Some (name, rest))
  entered_by_name = ap (λ (w : Walk). entered a w.stopped) stops

module _ (sizes : Bor (List (Bor Text))) where
  whole_meets : (s : Subcommand) → walked (built (ptab sizes)).top.rules (names_of (built (ptab sizes))) (walk_from nothing_held)
      (name_of s)
      ≡ stopped_at (name_of s) []
  unfolding walked
  whole_meets Show = refl
  whole_meets Verify = refl
  whole_meets Locate = refl
  whole_meets Free = refl
  whole_meets Types = refl
  whole_meets Edit = refl
  whole_meets Plan = refl
  whole_meets Check = refl
  whole_meets Apply = refl
  whole_meets Repair = refl
  whole_meets Adopt = refl
  whole_meets Set = refl

  whole_passes : (s : Subcommand) → turn_fault (built (ptab sizes)).top (names_of (built (ptab sizes))) (walk_from nothing_held)
      (name_of s) ≡ []
  whole_passes Show = refl
  whole_passes Verify = refl
  whole_passes Locate = refl
  whole_passes Free = refl
  whole_passes Types = refl
  whole_passes Edit = refl
  whole_passes Plan = refl
  whole_passes Check = refl
  whole_passes Apply = refl
  whole_passes Repair = refl
  whole_passes Adopt = refl
  whole_passes Set = refl

  alone_meets : (s : Subcommand) → walked (built (alone sizes s)).top.rules (names_of (built (alone sizes s))) (walk_from nothing_held)
      (name_of s)
      ≡ stopped_at (name_of s) []
  unfolding walked
  alone_meets Show = refl
  alone_meets Verify = refl
  alone_meets Locate = refl
  alone_meets Free = refl
  alone_meets Types = refl
  alone_meets Edit = refl
  alone_meets Plan = refl
  alone_meets Check = refl
  alone_meets Apply = refl
  alone_meets Repair = refl
  alone_meets Adopt = refl
  alone_meets Set = refl

  alone_passes : (s : Subcommand) → turn_fault (built (alone sizes s)).top (names_of (built (alone sizes s))) (walk_from nothing_held)
      (name_of s) ≡ []
  alone_passes Show = refl
  alone_passes Verify = refl
  alone_passes Locate = refl
  alone_passes Free = refl
  alone_passes Types = refl
  alone_passes Edit = refl
  alone_passes Plan = refl
  alone_passes Check = refl
  alone_passes Apply = refl
  alone_passes Repair = refl
  alone_passes Adopt = refl
  alone_passes Set = refl

  module _ (rest : List Text) where
    -- what is left is that subcommand's
    same_fault : (s : Subcommand) → fault_at (built (ptab sizes)) (stopped_at (name_of s) rest) []
        ≡ fault_at (built (alone sizes s)) (stopped_at (name_of s) rest) []
    same_fault Show = refl
    same_fault Verify = refl
    same_fault Locate = refl
    same_fault Free = refl
    same_fault Types = refl
    same_fault Edit = refl
    same_fault Plan = refl
    same_fault Check = refl
    same_fault Apply = refl
    same_fault Repair = refl
    same_fault Adopt = refl
    same_fault Set = refl

    same_entered : (s : Subcommand) → entered (built (ptab sizes)) (Some (name_of s, rest)) ≡ entered (built (alone sizes s)) (Some
        (name_of s, rest))
    same_entered Show = refl
    same_entered Verify = refl
    same_entered Locate = refl
    same_entered Free = refl
    same_entered Types = refl
    same_entered Edit = refl
    same_entered Plan = refl
    same_entered Check = refl
    same_entered Apply = refl
    same_entered Repair = refl
    same_entered Adopt = refl
    same_entered Set = refl

    faults_alone : (s : Subcommand)
        → fault_of (alone sizes s) (codes "ptab" ∷ name_of s ∷ rest) ≡ fault_of (ptab sizes) (codes "ptab" ∷ name_of s ∷ rest)
    faults_alone s =
        faults_by_name (built (alone sizes s)) (name_of s) (alone_meets s) (alone_passes s) rest ∙ sym (same_fault s)
        ∙ sym (faults_by_name (built (ptab sizes)) (name_of s) (whole_meets s) (whole_passes s) rest)

    entered_alone : (s : Subcommand)
        → subcommand_of (alone sizes s) (codes "ptab" ∷ name_of s ∷ rest) ≡ subcommand_of (ptab sizes) (codes "ptab" ∷ name_of s ∷ rest)
    entered_alone s =
        entered_by_name (built (alone sizes s)) (name_of s) (alone_meets s) (alone_passes s) rest ∙ sym (same_entered s)
        ∙ sym (entered_by_name (built (ptab sizes)) (name_of s) (whole_meets s) (whole_passes s) rest)

alone_is_free : (sizes : Bor (List (Bor Text))) (s : Subcommand) → is_simple_and_free (alone sizes s) ≡ true
alone_is_free sizes Show = refl
alone_is_free sizes Verify = refl
alone_is_free sizes Locate = refl
alone_is_free sizes Free = refl
alone_is_free sizes Types = refl
alone_is_free sizes Edit = refl
alone_is_free sizes Plan = refl
alone_is_free sizes Check = refl
alone_is_free sizes Apply = refl
alone_is_free sizes Repair = refl
alone_is_free sizes Adopt = refl
alone_is_free sizes Set = refl

alone_is_simple : (sizes : Bor (List (Bor Text))) (s : Subcommand) → is_simple (alone sizes s) ≡ true
alone_is_simple sizes Show = refl
alone_is_simple sizes Verify = refl
alone_is_simple sizes Locate = refl
alone_is_simple sizes Free = refl
alone_is_simple sizes Types = refl
alone_is_simple sizes Edit = refl
alone_is_simple sizes Plan = refl
alone_is_simple sizes Check = refl
alone_is_simple sizes Apply = refl
alone_is_simple sizes Repair = refl
alone_is_simple sizes Adopt = refl
alone_is_simple sizes Set = refl

-- where the words begin with the name
pub reads_alone : (sizes : Bor (List (Bor Text))) (s : Subcommand) (words : List Text) → Begins (name_of s) words → (c : Command)
    → IsCommand (alone sizes s) c → ReadsAs (ptab sizes) (codes "ptab" ∷ words) c
reads_alone sizes s words begins c is =
    let first = ap (λ (ws : List Text). codes "ptab" ∷ ws) begins.1 in record {
      free = ap is_simple_and_free is.app ∙ alone_is_free sizes s;
      simple = ap is_simple is.app ∙ alone_is_simple sizes s;
      faults = ap₂ fault_of is.app first ∙ faults_alone sizes begins.0 s ∙ sym (ap (fault_of (ptab sizes)) first);
      entered = ap₂ subcommand_of is.app first ∙ entered_alone sizes begins.0 s ∙ sym (ap (subcommand_of (ptab sizes)) first);
    }

pub reads_whole : (sizes : Bor (List (Bor Text))) (words : List Text) (c : Command) → IsCommand (ptab sizes) c
    → ReadsAs (ptab sizes) (codes "ptab" ∷ words) c
reads_whole sizes words c is = record {
  free = ap is_simple_and_free is.app;
  simple = ap is_simple is.app;
  faults = ap (λ (a : App). fault_of a (codes "ptab" ∷ words)) is.app;
  entered = ap (λ (a : App). subcommand_of a (codes "ptab" ∷ words)) is.app;
}

-- the first of some words
first_begins : (d : Bor Text) (xs : List (Bor Text)) (name : Text) → 0 < length xs → (slice_index_or xs 0 d).now ≡ name
    → Begins name (texts xs)
first_begins d [] name lt is = absurd (omega arith)
first_begins d (x ∷ xs) name lt is = (texts xs, ap (λ (word : Text). word ∷ texts xs) is)

pub named_begins : (d : Bor Text) (xs : List (Bor Text)) (o : Option Subcommand) → 0 < length xs
    → IfSome o (λ s. (slice_index_or xs 0 d).now ≡ name_of s) → IfSome o (λ s. Begins (name_of s) (texts xs))
named_begins d xs None lt is = tt
named_begins d xs (Some s) lt is = first_begins d xs (name_of s) lt is

-- What the command makes of its words.
use Rattle.std.proofs.Common.{◌≡◌, ◌∙◌, inl, inr, ⊎_elim, true, refl, sym, ap, subst, List, [], ◌∷◌, Option, Result, Ok, Err}
use Rattle.std.proofs.Common.{codes}
use Rattle.std.proofs.lemmas.Result.{IfOk-weaker}
use Rattle.std.specs.Prelude.{IfOk, MatchResult}
use Rattle.std.specs.Borrow.{Bor}
use Rattle.clap.specs.Kinds.{HasKind}
use Rattle.clap.specs.Simple.{Shape, argument_words, built}
use Rattle.clap.specs.Walk.{Row, Text, texts}
use Rattle.clap.specs.Words.{FailsBy, HasMatchesOf, IsAmong, Kinds, app_of, fault_of, is_simple_and_free, kind_of, subcommand_of}
use Rattle.clap.specs.Words.{subcommand_rows_of}
use Rattle.clap.specs.declared.builder.command.Command.{Command}
use Rattle.clap.specs.declared.error.Error.{Error}
use Rattle.clap.specs.declared.parser.matches.ArgMatches.{ArgMatches}
use Rattle.clap.specs.declared.error.kind.ErrorKind.{ErrorKind}
use Rattle.clap.specs.declared.error.kind.ErrorKind.TheVariants.{DisplayHelp, DisplayVersion, OutOfMemory}
use Rattle.pt_line.specs.CommandLine.{ptab}
use Rattle.pt_line.specs.Lines.{IsJob, IsLineOf, IsSize, IsUsage, MeansAt}
use Rattle.pt_line.specs.inner.Lines.{IsJobOrEmpty, IsLineOrEmpty, IsSizeOrLess, IsUnknown, HasNoJob, MeansJob, ReadsAs, Tells}
use Rattle.pt_line.specs.declared.line.Line.{Line}
use Rattle.pt_line.specs.declared.line.LineError.{LineError}
use Rattle.pt_line.specs.declared.line.LineError.TheVariants.{NotText, Usage, InUseAlone, TwoForms, PlanWithData, Memory}
use Rattle.pt_line.proofs.ByCommand.{adopt_job, apply_job, check_job, edit_job, free_job, locate_job, plan_job, repair_job, show_job, sized}
use Rattle.pt_line.proofs.ByCommand.{set_job, types_job, verify_job}
use Rattle.pt_line.proofs.Rows.{Each}
use Rattle.pt_line.proofs.Sound.{MayBe, free_sound, image_sound, mend_writing_sound}
use Rattle.pt_line.proofs.Sound.{other_writing_sound, place_sound, plan_sound, plan_writing_sound}
use Rattle.pt_line.proofs.Sound.{show_sound, table_writing_sound, types_sound, word_sound, word_writing_sound}
use Rattle.pt_line.proofs.Taken.{HasEntered, IsFair, IsKnown, taken}

-- the texts of the sizes, wherever they lie
abbrev pub some_sizes : Bor (List (Bor Text))
some_sizes = record {
  ref_ptr = (0, 0);
  now = record { ref_ptr = (0, 0); now = codes "512" } ∷ record { ref_ptr = (0, 0); now = codes "4096" } ∷ [];
}

-- what is known of each subcommand
record IsRead (s : Shape) : Type 0 where
  reads : (rows : List Row) → IsFair MayBe s.rules rows → (line : Line) → IsJobOrEmpty s.name rows line.job → IsSizeOrLess rows line.size
      → IsJob s.name rows line.job × IsSize rows line.size
  known : IsUnknown s.name → ⊥

module _ (sizes : Bor (List (Bor Text))) (are : texts sizes.now ≡ codes "512" ∷ codes "4096" ∷ []) where
  each_good : Each (IsKnown MayBe IsRead) (built (ptab sizes)).subs
  each_good = (
    inr (
      record {
        reads = λ rows fair line j z. (
          show_job sizes rows fair line.job j,
          sized rows fair.full line.size z,
        );
        known = λ u. u.0 refl;
      },
      show_sound sizes are,
      refl,
    ),
    (
      inr (
        record {
          reads = λ rows fair line j z. (
            verify_job sizes rows fair line.job j,
            sized rows fair.full line.size z,
          );
          known = λ u. u.1 refl;
        },
        image_sound sizes are,
        refl,
      ),
      (
        inr (
          record {
            reads = λ rows fair line j z. (
              locate_job sizes rows fair line.job j,
              sized rows fair.full line.size z,
            );
            known = λ u. u.2 refl;
          },
          place_sound sizes are,
          refl,
        ),
        (
          inr (
            record {
              reads = λ rows fair line j z. (
                free_job sizes rows fair line.job j,
                sized rows fair.full line.size z,
              );
              known = λ u. u.3 refl;
            },
            free_sound sizes are,
            refl,
          ),
          (
            inr (
              record {
                reads = λ rows fair line j z. (
                  types_job sizes rows fair line.job j,
                  sized rows fair.full line.size z,
                );
                known = λ u. u.4 refl;
              },
              types_sound sizes are,
              refl,
            ),
            (
              inr (
                record {
                  reads = λ rows fair line j z. (
                    edit_job sizes rows fair line.job j,
                    sized rows fair.full line.size z,
                  );
                  known = λ u. u.5 refl;
                },
                word_writing_sound sizes are,
                refl,
              ),
              (
                inr (
                  record {
                    reads = λ rows fair line j z. (
                      plan_job sizes rows fair line.job j,
                      sized rows fair.full line.size z,
                    );
                    known = λ u. u.6 refl;
                  },
                  word_sound sizes are,
                  refl,
                ),
                (
                  inr (
                    record {
                      reads = λ rows fair line j z. (
                        check_job sizes rows fair line.job j,
                        sized rows fair.full line.size z,
                      );
                      known = λ u. u.7 refl;
                    },
                    plan_sound sizes are,
                    refl,
                  ),
                  (
                    inr (
                      record {
                        reads = λ rows fair line j z. (
                          apply_job sizes rows fair line.job j,
                          sized rows fair.full line.size z,
                        );
                        known = λ u. u.8 refl;
                      },
                      plan_writing_sound sizes are,
                      refl,
                    ),
                    (
                      inr (
                        record {
                          reads = λ rows fair line j z. (
                            repair_job sizes rows fair line.job j,
                            sized rows fair.full line.size z,
                          );
                          known = λ u. u.9 refl;
                        },
                        mend_writing_sound sizes are,
                        refl,
                      ),
                      (
                        inr (
                          record {
                            reads = λ rows fair line j z. (
                              adopt_job sizes rows fair line.job j,
                              sized rows fair.full line.size z,
                            );
                            known = λ u. u.10 refl;
                          },
                          other_writing_sound sizes are,
                          refl,
                        ),
                        (
                          inr (
                            record {
                              reads = λ rows fair line j z. (
                                set_job sizes rows fair line.job j,
                                sized rows fair.full line.size z,
                              );
                              known = λ u. u.11 refl;
                            },
                            table_writing_sound sizes are,
                            refl,
                          ),
                          (inl refl, tt),
                        ),
                      ),
                    ),
                  ),
                ),
              ),
            ),
          ),
        ),
      ),
    ),
  )

  module _ (words : List Text) where
    by_error : (e : Error) (result : Result Line LineError) → HasKind (fault_of (ptab sizes) words) e → Tells (kind_of e) result
        → MeansAt (ptab sizes) words result
    by_error e (Ok line) (inl memory) tells = absurd (⊎_elim
        (λ is. (let bad : DisplayHelp ≡ OutOfMemory = sym is ∙ memory in cc))
        (λ is. (let bad : DisplayVersion ≡ OutOfMemory = sym is ∙ memory in cc))
        tells.0)
    by_error e (Ok line) (inr among) tells = inl (
      tells.1,
      ⊎_elim
          (λ is. inl (subst (λ (k : ErrorKind). IsAmong k (fault_of (ptab sizes) words)) is among))
          (λ is. inr (subst (λ (k : ErrorKind). IsAmong k (fault_of (ptab sizes) words)) is among))
          tells.0,
    )
    by_error e (Err NotText) kind tells = absurd tells
    by_error e (Err InUseAlone) kind tells = absurd tells
    by_error e (Err TwoForms) kind tells = absurd tells
    by_error e (Err PlanWithData) kind tells = absurd tells
    by_error e (Err Memory) kind tells = tt
    by_error e (Err (Usage told)) (inl memory) tells = absurd (tells.1.2 memory)
    by_error e (Err (Usage told)) (inr among) tells =
        subst (λ (k : ErrorKind). IsUsage (fault_of (ptab sizes) words) k) (sym tells.0) (among, tells.1)

    met : fault_of (ptab sizes) words ≡ [] → HasEntered MayBe IsRead (subcommand_of (ptab sizes) words)
    met none =
        taken MayBe IsRead (built (ptab sizes)) (argument_words (ptab sizes) words) ((tt, tt), ((tt, tt), tt)) each_good refl refl none

    by_matches : (result : Result Line LineError) → fault_of (ptab sizes) words ≡ []
        → MeansJob (subcommand_of (ptab sizes) words) result → MeansAt (ptab sizes) words result
    by_matches result none means = go result (met none) means
      where
        go : (r : Result Line LineError) → HasEntered MayBe IsRead (subcommand_of (ptab sizes) words)
            → MeansJob (subcommand_of (ptab sizes) words) r
            → MeansAt (ptab sizes) words r
        go (Ok line) met m =
            let h = subst (λ (o : Option (Text × List Row)). IsLineOrEmpty o line) met.is m in
            let read = met.of.reads met.rows met.fair line h.0 h.1 in
            inr (none, subst (λ (o : Option (Text × List Row)). IsLineOf o line) (sym met.is) (read.0, read.1, h.2, h.3, h.4))
        go (Err InUseAlone) met m = (none, m)
        go (Err TwoForms) met m = (none, m)
        go (Err PlanWithData) met m = (none, m)
        go (Err NotText) met m = absurd (subst (λ (o : Option (Text × List Row)). MeansJob o (Err NotText)) met.is m)
        go (Err Memory) met m = tt
        go (Err (Usage told)) met m = absurd (subst (λ (o : Option (Text × List Row)). MeansJob o (Err (Usage told))) met.is m)

    -- words without fault name a subcommand
    pub has_job : (found : Result ArgMatches Error) → FailsBy (fault_of (ptab sizes) words) found
        → IfOk found (λ m. subcommand_rows_of m ≡ subcommand_of (ptab sizes) words) → IfOk found (λ m. ¬ HasNoJob (subcommand_rows_of m))
    has_job (Err e) fails is = tt
    has_job (Ok m) fails is = λ none.
        let entered = met fails in
        entered.of.known (subst HasNoJob (is ∙ entered.is) none)

    -- what `clap` gave at the command, and what that comes to
    pub by_result : (found : Result ArgMatches Error) (result : Result Line LineError) → FailsBy (fault_of (ptab sizes) words) found
        → IfOk found (λ m. subcommand_rows_of m ≡ subcommand_of (ptab sizes) words)
        → MatchResult found (λ m. MeansJob (subcommand_rows_of m) result) (λ e. Tells (kind_of e) result)
        → MeansAt (ptab sizes) words result
    by_result (Ok m) result fails met means =
        by_matches result fails (subst (λ (o : Option (Text × List Row)). MeansJob o result) met means)
    by_result (Err e) result fails met means = by_error e result fails means

-- what `clap` finds, where it reads other words of the same texts by a command that takes them alike
pub found_by : (sizes : Bor (List (Bor Text))) (words : List Text) (command : Command) → ReadsAs (ptab sizes) words command
    → (given : List Text) → given ≡ words → (found : Result ArgMatches Error)
    → (is_simple_and_free (app_of command) ≡ true → FailsBy (fault_of (app_of command) given) found)
    → IfOk found (HasMatchesOf (app_of command) given)
    → FailsBy (fault_of (ptab sizes) words) found × IfOk found (λ m. subcommand_rows_of m ≡ subcommand_of (ptab sizes) words)
found_by sizes words command reads given same found fails matches = (
  subst (λ (kinds : Kinds). FailsBy kinds found) (ap (fault_of (app_of command)) same ∙ reads.faults) (fails reads.free),
  IfOk-weaker found _ _ (λ m is. (is reads.simple).1 ∙ ap (subcommand_of (app_of command)) same ∙ reads.entered) matches,
)

-- The job of each command, by the values of its arguments.
use Rattle.std.proofs.Common.{◌≡◌, ⊎_elim, true, refl, sym, ap, List, [], Option, Some, None, true≢false, codes}
use Rattle.std.specs.Prelude.{IsSome, IfSome, unwrap_or}
use Rattle.std.specs.Borrow.{Bor}
use Rattle.std.specs.Str.{bytes_eq}
use Rattle.clap.specs.Takes.{is_given}
use Rattle.clap.specs.Walk.{Row, Text, all_of, first_of}
use Rattle.pt_line.specs.CommandLine.{free_rules, image_rules, mend_rules, other_rules, place_rules, plan_rules, show_rules}
use Rattle.pt_line.specs.CommandLine.{table_rules, word_rules, writing}
use Rattle.pt_line.specs.Lines.{IsJob, IsSize}
use Rattle.pt_line.specs.inner.Lines.{IsJobOrEmpty, IsSizeOrLess}
use Rattle.pt_line.specs.declared.line.Job.{Job}
use Rattle.pt_line.specs.declared.line.Job.TheVariants as job
use Rattle.pt_line.specs.declared.line.SectorSize.{SectorSize}
use Rattle.pt_line.specs.declared.line.SectorSize.TheVariants.{Bytes512, Bytes4096}
use Rattle.pt_line.proofs.Rows.{Each, IsFull}
use Rattle.pt_line.proofs.Sound.{MayBe, built_rules}
use Rattle.pt_line.proofs.Taken.{IsFair, has_text, value_may}

one_text : (o : Option Text) (t : Text) → t ≡ unwrap_or o [] → IsSome o → o ≡ Some t
one_text None t e some = absurd (true≢false (sym some))
one_text (Some v) t e some = ap (λ (x : Text). Some x) (sym e)

all_texts : (o : Option (List Text)) (ts : List Text) → ts ≡ unwrap_or o [] → IsSome o → o ≡ Some ts
all_texts None ts e some = absurd (true≢false (sym some))
all_texts (Some vs) ts e some = ap (λ (x : List Text). Some x) (sym e)

pub sized : (rows : List Row) → Each (IsFull MayBe) rows → (z : Option SectorSize) → IsSizeOrLess rows z → IsSize rows z
sized rows full None is = is
sized rows full (Some Bytes4096) is = is
sized rows full (Some Bytes512) less = go (first_of (codes "sector-size") rows) (value_may MayBe rows (codes "sector-size") full) less.0
    less.1
  where
    go : (o : Option Text) → IfSome o (MayBe (codes "sector-size")) → IsSome o → (o ≡ Some (codes "4096") → ⊥) → o ≡ Some (codes "512")
    go None may some never = absurd (true≢false (sym some))
    go (Some v) may some never = ⊎_elim (λ e. ap (λ (x : Text). Some x) e) (λ e. absurd (never (ap (λ (x : Text). Some x) e))) (may refl)

module _ (rows : List Row) (full : Each (IsFull MayBe) rows) where
  text_given : (id t : Text) → is_given id rows ≡ true → t ≡ unwrap_or (first_of id rows) [] → first_of id rows ≡ Some t
  text_given id t given e = one_text (first_of id rows) t e (has_text MayBe rows id full given).0

  texts_given : (id : Text) (ts : List Text) → is_given id rows ≡ true → ts ≡ unwrap_or (all_of id rows) [] → all_of id rows ≡ Some ts
  texts_given id ts given e = all_texts (all_of id rows) ts e (has_text MayBe rows id full given).1

module _ (sizes : Bor (List (Bor Text))) (rows : List Row) where
  pub show_job : IsFair MayBe (built_rules (show_rules sizes)) rows → (j : Job) → IsJobOrEmpty (codes "show") rows j
      → IsJob (codes "show") rows j
  show_job fair (job.Help t) h = absurd h
  show_job fair (job.Show image after copy form) h =
      (h.0, text_given rows fair.full (codes "IMAGE") _ (fair.given.0 refl) h.1, h.2, h.3, h.4)
  show_job fair job.Types h = absurd (true≢false (ap (bytes_eq (codes "show")) h))
  show_job fair _ h = absurd (true≢false (ap (bytes_eq (codes "show")) h.0))

  pub verify_job : IsFair MayBe (built_rules (image_rules sizes)) rows → (j : Job) → IsJobOrEmpty (codes "verify") rows j
      → IsJob (codes "verify") rows j
  verify_job fair (job.Help t) h = absurd h
  verify_job fair (job.Verify image) h = (h.0, text_given rows fair.full (codes "IMAGE") _ (fair.given.0 refl) h.1)
  verify_job fair job.Types h = absurd (true≢false (ap (bytes_eq (codes "verify")) h))
  verify_job fair _ h = absurd (true≢false (ap (bytes_eq (codes "verify")) h.0))

  pub repair_job : IsFair MayBe (built_rules (writing (mend_rules sizes))) rows → (j : Job) → IsJobOrEmpty (codes "repair") rows j
      → IsJob (codes "repair") rows j
  repair_job fair (job.Help t) h = absurd h
  repair_job fair (job.Repair image primary locked_by) h =
      (h.0, text_given rows fair.full (codes "IMAGE") _ (fair.given.0 refl) h.1, h.2, h.3)
  repair_job fair job.Types h = absurd (true≢false (ap (bytes_eq (codes "repair")) h))
  repair_job fair _ h = absurd (true≢false (ap (bytes_eq (codes "repair")) h.0))

  pub locate_job : IsFair MayBe (built_rules (place_rules sizes)) rows → (j : Job) → IsJobOrEmpty (codes "locate") rows j
      → IsJob (codes "locate") rows j
  locate_job fair (job.Help t) h = absurd h
  locate_job fair (job.Locate image path place) h = (
    h.0,
    text_given rows fair.full (codes "IMAGE") _ (fair.given.0 refl) h.1,
    text_given rows fair.full (codes "PATH") _ (fair.given.1.0 refl) h.2,
    text_given rows fair.full (codes "K") _ (fair.given.1.1.0 refl) h.3,
  )
  locate_job fair job.Types h = absurd (true≢false (ap (bytes_eq (codes "locate")) h))
  locate_job fair _ h = absurd (true≢false (ap (bytes_eq (codes "locate")) h.0))

  pub free_job : IsFair MayBe (built_rules (free_rules sizes)) rows → (j : Job) → IsJobOrEmpty (codes "free") rows j
      → IsJob (codes "free") rows j
  free_job fair (job.Help t) h = absurd h
  free_job fair (job.Free image form) h = (h.0, text_given rows fair.full (codes "IMAGE") _ (fair.given.0 refl) h.1, h.2)
  free_job fair job.Types h = absurd (true≢false (ap (bytes_eq (codes "free")) h))
  free_job fair _ h = absurd (true≢false (ap (bytes_eq (codes "free")) h.0))

  pub types_job : IsFair MayBe (built_rules []) rows → (j : Job) → IsJobOrEmpty (codes "types") rows j → IsJob (codes "types") rows j
  types_job fair (job.Help t) h = absurd h
  types_job fair job.Types h = h
  types_job fair _ h = absurd (true≢false (ap (bytes_eq (codes "types")) h.0))

  pub edit_job : IsFair MayBe (built_rules (writing (word_rules sizes))) rows → (j : Job) → IsJobOrEmpty (codes "edit") rows j
      → IsJob (codes "edit") rows j
  edit_job fair (job.Help t) h = absurd h
  edit_job fair (job.Edit image fresh list primary locked_by) h = (
    h.0,
    text_given rows fair.full (codes "IMAGE") _ (fair.given.0 refl) h.1,
    h.2,
    texts_given rows fair.full (codes "WORD") _ (fair.given.1.1.1.1.1.0 refl) h.3,
    h.4,
    h.5,
  )
  edit_job fair job.Types h = absurd (true≢false (ap (bytes_eq (codes "edit")) h))
  edit_job fair _ h = absurd (true≢false (ap (bytes_eq (codes "edit")) h.0))

  pub plan_job : IsFair MayBe (built_rules (word_rules sizes)) rows → (j : Job) → IsJobOrEmpty (codes "plan") rows j
      → IsJob (codes "plan") rows j
  plan_job fair (job.Help t) h = absurd h
  plan_job fair (job.Plan image fresh list primary) h = (
    h.0,
    text_given rows fair.full (codes "IMAGE") _ (fair.given.0 refl) h.1,
    h.2,
    texts_given rows fair.full (codes "WORD") _ (fair.given.1.1.1.1.1.0 refl) h.3,
    h.4,
  )
  plan_job fair job.Types h = absurd (true≢false (ap (bytes_eq (codes "plan")) h))
  plan_job fair _ h = absurd (true≢false (ap (bytes_eq (codes "plan")) h.0))

  pub check_job : IsFair MayBe (built_rules (plan_rules sizes)) rows → (j : Job) → IsJobOrEmpty (codes "check") rows j
      → IsJob (codes "check") rows j
  check_job fair (job.Help t) h = absurd h
  check_job fair (job.Check image file) h = (
    h.0,
    text_given rows fair.full (codes "IMAGE") _ (fair.given.0 refl) h.1,
    text_given rows fair.full (codes "PLANFILE") _ (fair.given.1.0 refl) h.2,
  )
  check_job fair job.Types h = absurd (true≢false (ap (bytes_eq (codes "check")) h))
  check_job fair _ h = absurd (true≢false (ap (bytes_eq (codes "check")) h.0))

  pub apply_job : IsFair MayBe (built_rules (writing (plan_rules sizes))) rows → (j : Job) → IsJobOrEmpty (codes "apply") rows j
      → IsJob (codes "apply") rows j
  apply_job fair (job.Help t) h = absurd h
  apply_job fair (job.Apply image file locked_by) h = (
    h.0,
    text_given rows fair.full (codes "IMAGE") _ (fair.given.0 refl) h.1,
    text_given rows fair.full (codes "PLANFILE") _ (fair.given.1.0 refl) h.2,
    h.3,
  )
  apply_job fair job.Types h = absurd (true≢false (ap (bytes_eq (codes "apply")) h))
  apply_job fair _ h = absurd (true≢false (ap (bytes_eq (codes "apply")) h.0))

  pub adopt_job : IsFair MayBe (built_rules (writing (other_rules sizes))) rows → (j : Job) → IsJobOrEmpty (codes "adopt") rows j
      → IsJob (codes "adopt") rows j
  adopt_job fair (job.Help t) h = absurd h
  adopt_job fair (job.Adopt image other medium file adoption primary locked_by) h = (
    h.0,
    text_given rows fair.full (codes "IMAGE") _ (fair.given.0 refl) h.1,
    text_given rows fair.full (codes "OTHER") _ (fair.given.1.0 refl) h.2,
    h.3,
    h.4,
    h.5,
    h.6,
    h.7,
  )
  adopt_job fair job.Types h = absurd (true≢false (ap (bytes_eq (codes "adopt")) h))
  adopt_job fair _ h = absurd (true≢false (ap (bytes_eq (codes "adopt")) h.0))

  pub set_job : IsFair MayBe (built_rules (writing (table_rules sizes))) rows → (j : Job) → IsJobOrEmpty (codes "set") rows j
      → IsJob (codes "set") rows j
  set_job fair (job.Help t) h = absurd h
  set_job fair (job.Set image table fresh adoption primary locked_by) h = (
    h.0,
    text_given rows fair.full (codes "IMAGE") _ (fair.given.0 refl) h.1,
    text_given rows fair.full (codes "TABLE") _ (fair.given.1.0 refl) h.2,
    h.3,
    h.4,
    h.5,
    h.6,
  )
  set_job fair job.Types h = absurd (true≢false (ap (bytes_eq (codes "set")) h))
  set_job fair _ h = absurd (true≢false (ap (bytes_eq (codes "set")) h.0))

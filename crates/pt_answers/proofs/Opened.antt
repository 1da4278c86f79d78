-- Images that were opened, used and closed.
use Rattle.std.proofs.Common.{◌≡◌, ◌∷◌, ◌∙◌, List, ap, refl, Ok, Err}
use Rattle.std.specs.Prelude.{Result, ℕ}
use Rattle.pt_disks.specs.declared.device.NoDevice.{NoDevice}
use Rattle.pt_disks.specs.declared.open.Access.{Access}
use Rattle.pt_report.specs.declared.reply.Reply.{Reply}
use Rattle.pt_answers.specs.Images.{Call, Closed, OnImage, OnImages, Opened}
use Rattle.pt_answers.specs.declared.failure.Failure.{Failure}
use Rattle.pt_answers.specs.declared.failure.Failure.TheVariants as failure
use Rattle.pt_answers.specs.declared.images.Opening.{Opening}

pub on_image : {D T : Type 0} (path : List ℕ) (opening : Opening) (access : Access) (Does : D → D → Result Reply Failure → Type 0)
    (opened : Result D NoDevice) (disk left : D) (old between new : List (Call D T)) (answer : Result Reply Failure)
    → opened ≡ Ok disk → between ≡ Opened path opening access opened ∷ old → new ≡ Closed left ∷ between → Does disk left answer
    → OnImage path opening access Does old new answer
on_image path opening access Does opened disk left old between new answer is opens closed does = (
  Ok disk,
  (
    left,
    closed ∙ ap (λ (calls : List (Call _ _)). Closed left ∷ calls) (opens
        ∙ ap (λ (r : Result _ NoDevice). Opened path opening access r ∷ old) is),
    does,
  ),
)

-- the image isn't opened, and the other one, which was, is closed
pub other_alone : {D T : Type 0} (path : List ℕ) (opening : Opening) (access : Access) (other_path : List ℕ) (other_opening : Opening)
    (other_access : Access) (Does : D → D → D → D → Result Reply Failure → Type 0) (opened beside : Result D NoDevice)
    (other : D) (why : NoDevice) (old first second new : List (Call D T))
    → opened ≡ Ok other → first ≡ Opened other_path other_opening other_access opened ∷ old
    → beside ≡ Err why → second ≡ Opened path opening access beside ∷ first → new ≡ Closed other ∷ second
    → OnImages path opening access other_path other_opening other_access Does old new (Err (failure.Opening why))
other_alone path opening access other_path other_opening other_access Does opened beside other why old first second new
    is opens is_beside opens_beside closes = (
      Ok other,
      (
        Err why,
        (
          closes ∙ ap (λ (calls : List (Call _ _)). Closed other ∷ calls)
              (opens_beside ∙ (ap (λ (r : Result _ NoDevice). Opened path opening access r ∷ first) is_beside
              ∙ ap (λ (calls : List (Call _ _)). Opened path opening access (Err why) ∷ calls)
              (opens ∙ ap (λ (r : Result _ NoDevice). Opened other_path other_opening other_access r ∷ old) is))),
          refl,
        ),
      ),
    )

pub on_images : {D T : Type 0} (path : List ℕ) (opening : Opening) (access : Access) (other_path : List ℕ) (other_opening : Opening)
    (other_access : Access) (Does : D → D → D → D → Result Reply Failure → Type 0) (opened beside : Result D NoDevice)
    (other disk left other_left : D) (old first second third new : List (Call D T)) (answer : Result Reply Failure)
    → opened ≡ Ok other → first ≡ Opened other_path other_opening other_access opened ∷ old
    → beside ≡ Ok disk → second ≡ Opened path opening access beside ∷ first
    → third ≡ Closed left ∷ second → new ≡ Closed other_left ∷ third → Does disk left other other_left answer
    → OnImages path opening access other_path other_opening other_access Does old new answer
on_images path opening access other_path other_opening other_access Does opened beside other disk left other_left old first second third
    new answer
    is opens is_beside opens_beside closes closes_other does = (
      Ok other,
      (
        Ok disk,
        (
          left,
          other_left,
          closes_other ∙ ap (λ (calls : List (Call _ _)). Closed other_left ∷ calls) (closes
              ∙ ap (λ (calls : List (Call _ _)). Closed left ∷ calls)
              (opens_beside ∙ (ap (λ (r : Result _ NoDevice). Opened path opening access r ∷ first) is_beside
              ∙ ap (λ (calls : List (Call _ _)). Opened path opening access (Ok disk) ∷ calls)
              (opens ∙ ap (λ (r : Result _ NoDevice). Opened other_path other_opening other_access r ∷ old) is)))),
          does,
        ),
      ),
    )

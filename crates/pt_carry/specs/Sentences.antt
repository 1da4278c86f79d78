-- What is printed where a disk doesn't become like another one, with its data.
use Rattle.std.specs.Prelude.{ℕ, List, ◌++◌, codes, decimal}
use Rattle.pt_sector.specs.Sentences.{fault_sentence, unread}
use Rattle.pt_plan.specs.Sentences.{like_error_sentence}
use Rattle.pt_carry.specs.declared.error.CarryError.{CarryError}
use Rattle.pt_carry.specs.declared.error.CarryError.TheVariants.{NotLike, Refused, Unread, Device, Differs, Table}
use Rattle.pt_carry.specs.declared.run_text.RunsError.{RunsError}
use Rattle.pt_carry.specs.declared.run_text.RunsError.TheVariants as runs
use Rattle.pt_carry.specs.declared.error.Unfit.{Unfit}
use Rattle.pt_carry.specs.declared.error.Unfit.TheVariants as unfit

abbrev pub unfit_sentence : Unfit → List ℕ
unfit_sentence unfit.Outside = codes "the disk ends before it"
unfit_sentence unfit.Owned = codes "a partition of the disk owns it"
unfit_sentence unfit.Table = codes "it is one of the disk's tables"
unfit_sentence unfit.NewTable = codes "it is one of the other disk's tables"
unfit_sentence unfit.Read = codes "the disk's table is read from it"

abbrev pub carry_error_sentence : CarryError → List ℕ
carry_error_sentence (NotLike error) = like_error_sentence error
carry_error_sentence (Refused at why) =
    codes "data of sector " ++ (decimal at.0 ++ (codes " isn't carried: " ++ unfit_sentence why))
carry_error_sentence (Unread at) = codes "the other disk: " ++ unread at
carry_error_sentence (Device fault) = fault_sentence fault
carry_error_sentence (Differs at) = codes "sector " ++ decimal at.0 ++ codes " doesn't read as it was written"
carry_error_sentence (Table error) = like_error_sentence error

abbrev pub runs_error_sentence : RunsError → List ℕ
runs_error_sentence (runs.BadLine n) = codes "line " ++ (decimal n ++ codes " isn't a run's, FIRST LAST")
runs_error_sentence runs.Memory = codes "out of memory"

-- What is printed of a plan that is refused, and where there is no answer.
use Rattle.std.specs.Prelude.{ℕ, List, ◌++◌, codes, decimal}
use Rattle.pt_sector.specs.Sentences.{fault_sentence, no_memory}
use Rattle.pt_layout.specs.Sentences.{finding_sentence}
use Rattle.pt_check.specs.declared.answer.Why.{Why}
use Rattle.pt_check.specs.declared.answer.Why.TheVariants as why
use Rattle.pt_check.specs.declared.error.CheckError.{CheckError}
use Rattle.pt_check.specs.declared.error.CheckError.TheVariants as check

abbrev pub why_sentence : Why → List ℕ
why_sentence why.TooManyWrites = codes "more than 4096 writes"
why_sentence (why.OutOfRange write) = codes "write " ++ decimal write ++ codes " is of a sector past the last"
why_sentence (why.BootCode write) = codes "write " ++ decimal write ++ codes " changes boot code, bytes 0 to 439 of sector 0"
why_sentence (why.ReadSector phase at) = codes "phase "
    ++ (decimal phase ++ (codes " has several writes, and sector " ++ (decimal at.0 ++ codes " is one that decides the layout")))
why_sentence (why.Neither phase) = codes "after phase "
    ++ (decimal phase ++ codes " the layout is neither the old nor the new one, or the old one again once the new one was there")
why_sentence (why.NotATable at) = codes "sector " ++ decimal at.0 ++ codes " is written, and is in the tables of neither layout"
why_sentence (why.Owned at) =
    codes "sector " ++ decimal at.0 ++ codes " is written, and a partition of the old or the new layout owns it"
why_sentence (why.Final finding) = codes "the finished disk isn't healthy: " ++ finding_sentence finding

abbrev pub check_error_sentence : CheckError → List ℕ
check_error_sentence (check.Device fault) = fault_sentence fault
check_error_sentence check.Memory = no_memory

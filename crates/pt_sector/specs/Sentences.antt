-- What the failures of a disk's calls print of themselves.
use Rattle.std.specs.Prelude.{ℕ, List, ◌++◌, codes, decimal}
use Rattle.pt_sector.specs.declared.address.Lba.{Lba}
use Rattle.pt_sector.specs.declared.disk.Fault.{Fault}
use Rattle.pt_sector.specs.declared.disk.Fault.TheVariants.{Read, Write, Flush}
use Rattle.pt_sector.specs.declared.reading.FailedRead.{FailedRead}
use Rattle.pt_sector.specs.declared.reading.Failure.{Failure}
use Rattle.pt_sector.specs.declared.reading.Failure.TheVariants as failure

-- no memory was left, in the words of the errors of disks, tables and plans; that of a command line has another word
abbrev pub no_memory : List ℕ
no_memory = codes "out of memory"

-- a read failed, in the words of each error that tells it
abbrev pub unread : Lba → List ℕ
unread at = codes "sector " ++ decimal at.0 ++ codes " can't be read"

abbrev pub fault_sentence : Fault → List ℕ
fault_sentence (Read at) = unread at
fault_sentence (Write at) = codes "sector " ++ decimal at.0 ++ codes " can't be written"
fault_sentence Flush = codes "the disk can't be flushed"

abbrev pub failed_read_sentence : FailedRead → List ℕ
failed_read_sentence failed = unread failed.0

abbrev pub failure_sentence : Failure → List ℕ
failure_sentence (failure.Device at) = unread at
failure_sentence failure.Memory = no_memory

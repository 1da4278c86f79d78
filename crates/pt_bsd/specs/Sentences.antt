-- What the faults of a label print of themselves.
use Rattle.std.specs.Prelude.{ℕ, List, codes}
use Rattle.pt_bsd.specs.declared.label.LabelError.{LabelError}
use Rattle.pt_bsd.specs.declared.label.LabelError.TheVariants.{Magic, Count, Checksum, SectorSize, RawPartition}

abbrev pub label_error_sentence : LabelError → List ℕ
label_error_sentence Magic = codes "the label lacks one of its two magic numbers"
label_error_sentence Count = codes "the label doesn't count 3 to 8 entries"
label_error_sentence Checksum = codes "the label's checksum is wrong"
label_error_sentence SectorSize = codes "the label's sectors don't have 512 bytes"
label_error_sentence RawPartition = codes "the label's entry c isn't the slice"

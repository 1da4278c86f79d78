-- What the faults of a copy print of themselves.
use Rattle.std.specs.Prelude.{ℕ, List, codes}
use Rattle.pt_sector.specs.Sentences.{no_memory, unread}
use Rattle.pt_gpt.specs.declared.error.CopyError.{CopyError}
use Rattle.pt_gpt.specs.declared.error.CopyError.TheVariants.{Signature, Revision, HeaderSize, HeaderCrc, MyLba, ArrayPlace, EntryShape}
use Rattle.pt_gpt.specs.declared.error.CopyError.TheVariants.{UsableRange, ArrayCrc, Device, Memory}

abbrev pub copy_error_sentence : CopyError → List ℕ
copy_error_sentence Signature = codes "the signature isn't EFI PART"
copy_error_sentence Revision = codes "the revision isn't 1.0"
copy_error_sentence HeaderSize = codes "the header's size isn't from 92 to that of a sector"
copy_error_sentence HeaderCrc = codes "the header's CRC is wrong"
copy_error_sentence MyLba = codes "the header names another sector as its own"
copy_error_sentence ArrayPlace = codes "the array isn't beside the header"
copy_error_sentence EntryShape = codes "there aren't 1 to 128 entries of 128 bytes"
copy_error_sentence UsableRange = codes "the usable sectors aren't in order and clear of both copies"
copy_error_sentence ArrayCrc = codes "the array's CRC is wrong"
copy_error_sentence (Device at) = unread at
copy_error_sentence Memory = no_memory

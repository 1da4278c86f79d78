-- What is printed of a disk that denotes no layout.
use Rattle.std.specs.Prelude.{ℕ, List, ◌++◌, codes}
use Rattle.pt_sector.specs.Sentences.{no_memory, unread}
use Rattle.pt_mbr.specs.Sentences.{chain_error_sentence}
use Rattle.pt_gpt.specs.Sentences.{copy_error_sentence}
use Rattle.pt_recover.specs.declared.error.NoTable.{NoTable}
use Rattle.pt_recover.specs.declared.error.NoTable.TheVariants.{NoCopy, Chain, TwoExtended, TooSmall, Device, Memory}

abbrev pub no_table_sentence : NoTable → List ℕ
no_table_sentence (NoCopy primary backup) = codes "no MBR, and neither copy of a GPT exists: "
    ++ (copy_error_sentence primary ++ (codes " (primary); " ++ (copy_error_sentence backup ++ codes " (backup)")))
no_table_sentence (Chain error) = chain_error_sentence error
no_table_sentence TwoExtended = codes "two records of type 05 or 0F"
no_table_sentence TooSmall = codes "no MBR, and fewer sectors than a GPT takes"
no_table_sentence (Device at) = unread at
no_table_sentence Memory = no_memory

-- What the faults of a chain print of themselves.
use Rattle.std.specs.Prelude.{ℕ, List, ◌++◌, codes, decimal}
use Rattle.pt_sector.specs.Sentences.{unread}
use Rattle.pt_mbr.specs.declared.chain.ChainError.{ChainError}
use Rattle.pt_mbr.specs.declared.chain.ChainError.TheVariants.{NoSignature, BadRecord, NotUpward, OutsideExtended, TooLong, Device}

abbrev pub chain_error_sentence : ChainError → List ℕ
chain_error_sentence (NoSignature at) = codes "the extended boot record at sector " ++ decimal at.0 ++ codes " lacks 55 AA"
chain_error_sentence (BadRecord at) =
    codes "the extended boot record at sector " ++ decimal at.0 ++ codes " has a record that it may not have"
chain_error_sentence (NotUpward at) = codes "the link at sector " ++ decimal at.0 ++ codes " leads to its own sector or to a lower one"
chain_error_sentence (OutsideExtended at) =
    codes "the chain leads to sector " ++ decimal at.0 ++ codes ", outside the extended partition or the disk"
chain_error_sentence TooLong = codes "the chain has more than 128 extended boot records"
chain_error_sentence (Device at) = unread at

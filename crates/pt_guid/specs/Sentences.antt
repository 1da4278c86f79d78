-- What a text that is no GUID is told.
use Rattle.std.specs.Prelude.{ℕ, List, codes}
use Rattle.pt_guid.specs.declared.guid.GuidError.{GuidError}
use Rattle.pt_guid.specs.declared.guid.GuidError.TheVariants.{NotAGuid}

abbrev pub guid_error_sentence : GuidError → List ℕ
guid_error_sentence NotAGuid = codes "not a GUID"

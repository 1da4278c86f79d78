-- What is looked for in the table.
use Rattle.std.specs.Prelude.{Bool, bytes_eq}
use Rattle.pt_types.specs.Tables.{EntryRow}
use Rattle.pt_types.specs.Types.{has_code}
use Rattle.pt_types.specs.declared.lookup.Sought.{Sought}
use Rattle.pt_types.specs.declared.lookup.Sought.TheVariants.{Name, Code, Guid}

abbrev pub is_sought : Sought → EntryRow → Bool
is_sought (Name text) r = bytes_eq r.name text.now
is_sought (Code code) r = has_code r.code code
is_sought (Guid text) r = bytes_eq r.guid text.now

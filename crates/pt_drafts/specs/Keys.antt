-- The names of faults.
use Rattle.std.specs.Prelude.{ℕ, List, ◌++◌, Option, Some, None, codes, decimal}
use Rattle.pt_drafts.specs.declared.fault.Key.{Key}
use Rattle.pt_drafts.specs.declared.fault.Key.TheVariants as key
use Rattle.pt_drafts.specs.declared.fault.DraftError.{DraftError}
use Rattle.pt_drafts.specs.declared.fault.DraftError.TheVariants.{Fault, Memory}
use Rattle.pt_drafts.specs.declared.fault.TextFault.{TextFault}

-- a key as it is shown: the name that a text has for it
abbrev pub key_text : Key → List ℕ
key_text key.Text = codes "text"
key_text key.Table = codes "partitiontable"
key_text key.Unknown = codes "unknown"
key_text key.Label = codes "label"
key_text key.Device = codes "device"
key_text key.Unit = codes "unit"
key_text key.SectorSize = codes "sectorsize"
key_text key.Sectors = codes "sectors"
key_text key.Id = codes "id"
key_text key.FirstLba = codes "firstlba"
key_text key.LastLba = codes "lastlba"
key_text key.Entries = codes "entries"
key_text key.TableLength = codes "table-length"
key_text key.Partitions = codes "partitions"
key_text key.Chain = codes "chain"
key_text key.Number = codes "number"
key_text key.Node = codes "node"
key_text key.Start = codes "start"
key_text key.Size = codes "size"
key_text key.Last = codes "last"
key_text key.Offset = codes "offset"
key_text key.Type = codes "type"
key_text key.TypeName = codes "type_name"
key_text key.Uuid = codes "uuid"
key_text key.Name = codes "name"
key_text key.NameUnits = codes "name_units"
key_text key.Attributes = codes "attributes"
key_text key.Attrs = codes "attrs"
key_text key.Bootable = codes "bootable"
key_text key.Boot = codes "boot"
key_text key.StartChs = codes "start_chs"
key_text key.EndChs = codes "end_chs"
key_text key.Record = codes "record"
key_text key.Bsd = codes "bsd"

-- ## What a fault prints.

abbrev pub part_sentence : Option ℕ → Key → List ℕ
part_sentence None key = codes "the table's text has a fault at `" ++ (key_text key ++ codes "`")
part_sentence (Some part) key =
    codes "object " ++ (decimal part ++ (codes " of `partitions` has a fault at `" ++ (key_text key ++ codes "`")))

abbrev pub fault_sentence : TextFault → List ℕ
fault_sentence fault = part_sentence fault.part fault.key

abbrev pub draft_error_sentence : DraftError → List ℕ
draft_error_sentence (Fault fault) = fault_sentence fault
draft_error_sentence Memory = codes "there is no memory"

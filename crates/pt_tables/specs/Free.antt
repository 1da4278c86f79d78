-- Blocks of free sectors as JSON.
use Rattle.std.specs.Prelude.{ℕ, List, [], ◌∷◌, Option, Some, None, codes, map}
use Rattle.serde_json.specs.Data.{Data}
use Rattle.pt_edit.specs.declared.free.FreeBlock.{FreeBlock}
use Rattle.pt_tables.specs.Fields.{Field, object_of, array_of, num, end_field}

-- the number of the extended partition or of the slice that a block lies inside
abbrev pub inside_fields : Option ℕ → List Field
inside_fields None = []
inside_fields (Some n) = (codes "inside", num n) ∷ []

abbrev pub block_fields : FreeBlock → List Field
block_fields b = (codes "start", num b.first) ∷ end_field b.first b.last ∷ inside_fields b.inside

abbrev pub block_data : FreeBlock → Data
block_data b = object_of (block_fields b)

-- all blocks, in their order
abbrev pub free_data : List FreeBlock → Data
free_data blocks = object_of ((codes "freeblocks", array_of (map block_data blocks)) ∷ [])

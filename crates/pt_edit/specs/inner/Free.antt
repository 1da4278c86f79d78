-- Lists of blocks: what private contracts cite.
use Rattle.std.specs.Prelude.{◌++◌, List}
use Rattle.pt_edit.specs.declared.free.FreeBlock.{FreeBlock}
use Rattle.pt_edit.specs.Free.{AreFree, Place}

-- the blocks of some places come behind those of others
abbrev pub Adds : List Place → List FreeBlock → List FreeBlock → Type 0
Adds more old new = (ps : List Place) → AreFree ps old → AreFree (ps ++ more) new

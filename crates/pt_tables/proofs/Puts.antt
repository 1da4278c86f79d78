-- Fields that are put into an object one after another.
use Rattle.std.proofs.Common.{◌≡◌, List, [], ◌∷◌, ◌++◌, refl}
use Rattle.serde_json.specs.Data.{Members, put}
use Rattle.pt_tables.specs.Fields.{Field, with_fields}

pub with_more : (fs gs : List Field) (ms : Members) → with_fields (fs ++ gs) ms ≡ with_fields gs (with_fields fs ms)
with_more [] gs ms = refl
with_more (f ∷ fs) gs ms = with_more fs gs (put f.0 f.1 ms)

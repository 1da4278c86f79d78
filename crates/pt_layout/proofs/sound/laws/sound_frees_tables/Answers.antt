use Rattle.pt_layout.proofs.Terms.{sound_frees_tables_lem}
use Rattle.pt_layout.proofs.sound.laws.sound_frees_tables.Goals as goal

pub returns : goal.returns
returns c = sound_frees_tables_lem

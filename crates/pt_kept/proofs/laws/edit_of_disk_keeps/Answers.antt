use Rattle.pt_kept.proofs.Recovered.{edit_of_disk_keeps_lem}
use Rattle.pt_kept.proofs.laws.edit_of_disk_keeps.Goals as goal

pub returns : goal.returns
returns c = edit_of_disk_keeps_lem

use Rattle.std.proofs.Common.{refl}
use Rattle.pt_sector.specs.inner.ForFields.{no_faults}
use Rattle.test_units.proofs.plans.huge.SparseDiskDisk512.read.Goals as goal

pub returns-clause-same : goal.returns-clause-same
returns-clause-same c = record { same_count = refl; same_name = refl; through = tt; same = λ t. absurd t; came = no_faults _ _ refl }

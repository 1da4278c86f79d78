use Rattle.std.proofs.Common.{refl}
use Rattle.pt_sector.specs.inner.ForFields.{no_faults}
use Rattle.pt_sector.proofs.CallsLemmas.{one_fault}
use Rattle.pt_disks.proofs.in_memory.crash.CrashDiskDisk.read.Goals as goal

pub returns-then-counts_down-clause-same : goal.returns-then-counts_down-clause-same
returns-then-counts_down-clause-same g c =
    record {
      same_count = refl;
      same_name = refl;
      through = tt;
      same = λ tells. refl;
      came = one_fault _ _ _ c.args.lba refl c.and-self.ensures;
    }

pub returns-clause-same : goal.returns-clause-same
returns-clause-same g c = record { same_count = refl; same_name = refl; through = tt; same = λ tells. refl; came = no_faults _ _ refl }

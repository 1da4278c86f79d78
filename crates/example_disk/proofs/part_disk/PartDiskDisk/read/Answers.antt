use Rattle.std.proofs.Common.{refl, ap}
use Rattle.jawefon.specs.ForFields.{no_faults}
use Rattle.jawefon.proofs.CallsLemmas.{one_fault}
use Rattle.example_disk.specs.Window.{told_in}
use Rattle.example_disk.proofs.part_disk.PartDiskDisk.read.Goals as goal

pub returns-in-Ok-clause-same : goal.returns-in-Ok-clause-same
returns-in-Ok-clause-same g c = record {
  same_count = refl;
  same_name = c.in-Ok.ensures.same.same_name;
  through = tt;
  same = λ tells. ap (told_in c.args.self.now.first c.args.self.now.sectors) (c.in-Ok.ensures.same.same tells);
  came = no_faults _ _ refl;
}

pub returns-in-Err-clause-same : goal.returns-in-Err-clause-same
returns-in-Err-clause-same g c = record {
  same_count = refl;
  same_name = c.in-Err.ensures.same.same_name;
  through = tt;
  same = λ tells. ap (told_in c.args.self.now.first c.args.self.now.sectors) (c.in-Err.ensures.same.same tells);
  came = one_fault _ _ _ c.args.lba refl c.and-self.ensures;
}

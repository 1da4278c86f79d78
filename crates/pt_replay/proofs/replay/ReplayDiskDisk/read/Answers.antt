use Rattle.std.proofs.Common.{refl}
use Rattle.pt_sector.specs.inner.ForFields.{no_faults}
use Rattle.pt_sector.proofs.CallsLemmas.{one_fault}
use Rattle.pt_replay.specs.inner.ForFields.{asks_same}
use Rattle.pt_replay.proofs.Walk.{asks_one}
use Rattle.pt_replay.proofs.replay.ReplayDiskDisk.read.Goals as goal

pub returns-in-Some-clause-same : goal.returns-in-Some-clause-same
returns-in-Some-clause-same g c = record {
  same_count = refl;
  same_name = refl;
  through = (refl, asks_same _ _ _ _);
  same = λ tells. refl;
  came = no_faults _ _ refl;
}

pub returns-in-None-clause-same : goal.returns-in-None-clause-same
returns-in-None-clause-same g c = record {
  same_count = refl;
  same_name = refl;
  through = (refl, asks_one _ _ _ _ _ c.args.lba c.requires c.in-None.ensures c.and-self.ensures);
  same = λ tells. refl;
  came = one_fault _ _ _ c.args.lba refl c.and-self.ensures;
}

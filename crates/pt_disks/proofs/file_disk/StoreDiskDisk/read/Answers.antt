use Rattle.std.proofs.Common.{refl, sym, ◌∙◌, length, ◌≡◌}
use Rattle.pt_sector.specs.inner.ForFields.{no_faults}
use Rattle.pt_sector.proofs.CallsLemmas.{one_fault}
use Rattle.pt_disks.proofs.BlocksLemmas.{sector-sectors_of}
use Rattle.pt_disks.proofs.file_disk.StoreDiskDisk.read.Goals as goal

pub returns-then-read_whole-clause-same : goal.returns-then-read_whole-clause-same
returns-then-read_whole-clause-same g c =
    record { same_count = refl; same_name = refl; through = tt; same = λ tells. refl; came = no_faults _ _ refl }

pub returns-then-read_whole-clause-bytes : goal.returns-then-read_whole-clause-bytes
returns-then-read_whole-clause-bytes g c = λ tells.
    let long : length c.read_whole.new.into ≡ g.row.B = c.read_whole.auto.into ∙ c.told-into in
    rw long at (c.read_whole.ensures tells c.if-read_whole.true)
    ∙ sym (sector-sectors_of g.row.B c.args.self.now.sectors c.args.lba.0 _ c.requires)

pub returns-clause-same : goal.returns-clause-same
returns-clause-same g c =
    record {
      same_count = refl;
      same_name = refl;
      through = tt;
      same = λ tells. refl;
      came = one_fault _ _ _ c.args.lba refl c.and-self.ensures;
    }

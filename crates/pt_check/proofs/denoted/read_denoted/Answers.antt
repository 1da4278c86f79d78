use Rattle.pt_recover.proofs.Told.{found_denotes}
use Rattle.pt_check.proofs.denoted.read_denoted.Goals as goal

pub returns-clause-known : goal.returns-clause-known
returns-clause-known g c = λ tells. rw c.ok.ensures.value (record {
  denotes = found_denotes g.row.B (g.D.Disk.told c.args.disk.now).seen c.in_ok-found.found (c.in_ok-found.ensures.found tells);
  reads = c.in_ok-found.ensures.traced tells;
})

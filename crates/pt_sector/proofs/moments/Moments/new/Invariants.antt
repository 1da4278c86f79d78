use Rattle.std.proofs.Common.{[]}
use Rattle.pt_sector.proofs.moments.Moments.new.Given as goal

abbrev pub ghost-any : goal.ghost-any
ghost-any g a = []

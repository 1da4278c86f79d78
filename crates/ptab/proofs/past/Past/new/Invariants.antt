use Rattle.std.proofs.Common.{[]}
use Rattle.ptab.proofs.past.Past.new.Given as goal

abbrev pub ghost-of : goal.ghost-of
ghost-of g a = []

-- What stands in the sectors that the caller hasn't given is what stands there on the disk.
use Rattle.pt_c.proofs.ptab_set_plan.Given as goal

abbrev pub ghost-any : goal.ghost-any
ghost-any g a = g.disk

abbrev pub ghost-any-2 : goal.ghost-any-2
ghost-any-2 g a = g.disk

-- What stands in the sectors that the caller hasn't given is what stands there on the disks.
use Rattle.pt_c.proofs.ptab_adopt_plan.Given as goal

abbrev pub ghost-any : goal.ghost-any
ghost-any g a = g.disks.disk

abbrev pub ghost-any-2 : goal.ghost-any-2
ghost-any-2 g a = g.disks.disk

abbrev pub ghost-beyond : goal.ghost-beyond
ghost-beyond g a = g.disks.other

abbrev pub ghost-beyond-2 : goal.ghost-beyond-2
ghost-beyond-2 g a = g.disks.other

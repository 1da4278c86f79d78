use Rattle.pt_disks.proofs.Parts.{fewer}
use Rattle.pt_disks.proofs.uses.source_in.Goals as goal

pub loop-part-smaller : goal.loop-part-smaller
loop-part-smaller c = fewer c.loop-part.rest.now c.in-Some.part.now c.in-Some.after.now c.in-Some.ensures.some

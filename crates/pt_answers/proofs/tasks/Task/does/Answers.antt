use Rattle.pt_answers.proofs.tasks.Task.does.Goals as goal

pub returns-in-Edit : goal.returns-in-Edit
returns-in-Edit g c =
    rw (c.in-Edit.is) (rw (c.as_slice-edits.ensures.value, c.as_slice-guids.ensures.value, c.primary_of.ensures) at
    c.edit_disk.ensures.edits)

pub returns-in-Apply : goal.returns-in-Apply
returns-in-Apply g c = rw (c.in-Apply.is) c.apply_disk.ensures.applies

pub returns-in-Repair : goal.returns-in-Repair
returns-in-Repair g c = rw (c.in-Repair.is) (rw (c.primary_of-in-Repair.ensures) at c.repair_disk.ensures.repairs)

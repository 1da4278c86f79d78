-- What is done on an image, or on an image beside another one, and for what that is opened.
use Rattle.std.specs.Prelude.{Result}
use Rattle.pt_sector.specs.declared.disk.Disk.{Ghosts}
use Rattle.pt_apply.specs.Plans.{phases_of}
use Rattle.pt_disks.specs.declared.open.Access.{Access}
use Rattle.pt_disks.specs.declared.open.Access.TheVariants.{Read}
use Rattle.pt_report.specs.declared.reply.Reply.{Reply}
use Rattle.pt_answers.specs.Data.{CarriesFrom}
use Rattle.pt_answers.specs.OnDisks.{AdoptsFrom, AppliesTo, ChecksOn, EditsDisk, FreesOn, LocatesOn, PlansAdopting, PlansOn, RepairsDisk}
use Rattle.pt_answers.specs.OnDisks.{ShowsAfter, ShowsCopy, ShowsDisk, VerifiesDisk}
use Rattle.pt_answers.specs.Runs.{choice_of, writing}
use Rattle.pt_answers.specs.Sets.{PlansSetting, SetsDisk}
use Rattle.pt_answers.specs.Wanted.{words_of}
use Rattle.pt_answers.specs.declared.failure.Failure.{Failure}
use Rattle.pt_answers.specs.declared.tasks.Task.{Task}
use Rattle.pt_answers.specs.declared.tasks.Task.TheVariants as task
use Rattle.pt_answers.specs.declared.tasks.TaskBeside.{TaskBeside}
use Rattle.pt_answers.specs.declared.tasks.TaskBeside.TheVariants as beside

-- ## One image.

abbrev pub access_of : {B : _} → Task B → Access
access_of task.Show = Read
access_of (task.ShowAfter plan) = Read
access_of (task.ShowCopy side) = Read
access_of task.Verify = Read
access_of (task.Locate path k) = Read
access_of task.Free = Read
access_of (task.Edit wanted primary locked_by) = writing locked_by
access_of (task.Plan wanted primary) = Read
access_of (task.Check plan) = Read
access_of (task.Apply plan locked_by) = writing locked_by
access_of (task.Repair primary locked_by) = writing locked_by
access_of (task.Set draft fresh primary locked_by) = writing locked_by
access_of (task.PlanSet draft fresh primary) = Read

abbrev pub Does : {D B : _} → Ghosts D B → Task B → D → D → Result Reply Failure → Type 0
Does g task.Show = ShowsDisk g
Does g (task.ShowAfter plan) = ShowsAfter g (phases_of plan.now)
Does g (task.ShowCopy side) = ShowsCopy g side
Does g task.Verify = VerifiesDisk g
Does g (task.Locate path k) = LocatesOn g path.now k
Does g task.Free = FreesOn g
Does g (task.Edit wanted primary locked_by) = EditsDisk (choice_of primary) g (words_of wanted.now)
Does g (task.Plan wanted primary) = PlansOn (choice_of primary) g (words_of wanted.now)
Does g (task.Check plan) = ChecksOn g (phases_of plan.now)
Does g (task.Apply plan locked_by) = AppliesTo g (phases_of plan.now)
Does g (task.Repair primary locked_by) = RepairsDisk (choice_of primary) g
Does g (task.Set draft fresh primary locked_by) = SetsDisk (choice_of primary) g draft.now fresh.now
Does g (task.PlanSet draft fresh primary) = PlansSetting (choice_of primary) g draft.now fresh.now

-- ## An image beside another one.

abbrev pub access_beside : TaskBeside → Access
access_beside (beside.Adopt primary locked_by) = writing locked_by
access_beside (beside.AdoptWith runs primary locked_by) = writing locked_by
access_beside (beside.PlanAdopt primary) = Read

abbrev pub DoesBeside : {D E B : _} → Ghosts D B → Ghosts E B → TaskBeside → D → D → E → E → Result Reply Failure → Type 0
DoesBeside g h (beside.Adopt primary locked_by) = AdoptsFrom (choice_of primary) g h
DoesBeside g h (beside.AdoptWith runs primary locked_by) = CarriesFrom (choice_of primary) g h runs.now
DoesBeside g h (beside.PlanAdopt primary) = PlansAdopting (choice_of primary) g h

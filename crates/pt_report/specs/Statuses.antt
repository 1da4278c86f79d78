-- Exit statuses, and that of each answer.
use Rattle.std.specs.Prelude.{ℕ, List, [], ◌∷◌, None}
use Rattle.pt_check.specs.declared.answer.Answer.TheVariants as answer
use Rattle.pt_edit.specs.declared.free.FreeBlock.{FreeBlock}
use Rattle.pt_layout.specs.declared.sound.finding.Verdict.TheVariants as verdict
use Rattle.pt_report.specs.declared.reply.Reply.{Reply}
use Rattle.pt_report.specs.declared.reply.Reply.TheVariants as reply
use Rattle.pt_report.specs.declared.status.Status.{Status}
use Rattle.pt_report.specs.declared.status.Status.TheVariants.{Done, No, Usage, Refused, NoTable, Device, Memory}

-- the numbers, of which the library for C has the same
abbrev pub status_code : Status → ℕ
status_code Done = 0
status_code No = 1
status_code Usage = 2
status_code Refused = 3
status_code NoTable = 4
status_code Device = 5
status_code Memory = 6

-- that there is none is a no
abbrev pub blocks_status : List FreeBlock → Status
blocks_status [] = No
blocks_status (b ∷ bs) = Done

-- of an answer: a finding, no such sector, no block and the checker's no are a no
abbrev pub reply_status : Reply → Status
reply_status (reply.Verdict (verdict.No finding)) = No
reply_status (reply.Place None) = No
reply_status (reply.Free blocks) = blocks_status blocks.items
reply_status (reply.Checked (answer.No why)) = No
reply_status _ = Done

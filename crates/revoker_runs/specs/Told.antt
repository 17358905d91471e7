-- The lines of a log that a run writes.
use Rattle.std.specs.Prelude.{ℕ, List, ◌++◌, codes, flat_map}
use Rattle.std.specs.Fmt.{decimal}
use Rattle.heap_reply.specs.Display.{hexadecimal_text}
use Rattle.heap_reply.specs.ReplyText.{text_of_reply}
use Rattle.heap_reply.specs.declared.reply.Reply.{Reply}
use Rattle.revoker_steps.specs.declared.command.RevokerCommand.{RevokerCommand}
use Rattle.revoker_steps.specs.declared.command.RevokerCommand.TheVariants.{Paint, Release, UntagGranule, UntagRegister, Visit}
use Rattle.revoker_steps.specs.RevokerText.{text_of_revoker_reply}
use Rattle.revokers.specs.declared.acts.Act.{Act}

-- A step of a revoker, as a line asks it.
abbrev pub step_text : RevokerCommand → List ℕ
step_text Paint = codes "paint"
step_text (Visit page) = codes "visit " ++ decimal page
step_text (UntagGranule address) = codes "untag " ++ hexadecimal_text address
step_text (UntagRegister r) = codes "untag c" ++ decimal r
step_text Release = codes "release"

-- Its line, with its answer.
abbrev pub act_line : Act → List ℕ
act_line act = step_text act.command ++ (codes " -> " ++ (text_of_revoker_reply act.reply ++ codes "\n"))

abbrev pub act_lines : List Act → List ℕ
act_lines acts = flat_map act_line acts

-- A line as it was read, with the answer to the command in it.
abbrev pub answered_line : List ℕ → Reply → List ℕ
answered_line line answer = line ++ (codes " -> " ++ (text_of_reply answer ++ codes "\n"))

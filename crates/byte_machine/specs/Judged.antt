-- What became of an answer, before it is written.
use Rattle.std.specs.Prelude.{◌≡◌, ℕ, List, length}
use Rattle.machine_steps.specs.Follow.{Follows}
use Rattle.heap_reply.specs.declared.reply.Reply.{Reply}
use Rattle.state_bytes.specs.Text.{text_length}
use Rattle.trace_text.specs.declared.trace.Command.{Command}
use Rattle.byte_machine.specs.Calls.{LeadsTo, Refuses}
use Rattle.byte_machine.specs.declared.following.Judged.{Judged}
use Rattle.byte_machine.specs.declared.following.Judged.TheVariants.{Agrees, Differs}

abbrev pub IsJudgedBy : List ℕ → Command → Reply → Judged → Type 0
IsJudgedBy old command answer (Agrees machine) = LeadsTo Follows old command answer machine × (text_length (length machine.dirty) ≡ length old)
IsJudgedBy old command answer (Differs why) = Refuses old command answer why

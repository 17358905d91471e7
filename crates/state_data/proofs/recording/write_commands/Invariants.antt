-- The commands so far were done and told.
use Rattle.std.proofs.Common.{take}
use Rattle.state_data.specs.Recording.{Recorded}
use Rattle.state_data.proofs.recording.write_commands.Given as goal

abbrev pub invariant-loop-line : goal.invariant-loop-line
invariant-loop-line g l = Recorded l.fn.machine.state (take l.line-index l.commands) l.machine.state l.snapshot l.fn.so_far.text.items l.so_far.text.items

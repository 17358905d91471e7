use Rattle.std.proofs.Common.{◌≡◌, ◌≤◌, ◌+◌, length, All}
use Rattle.trace_text.specs.Command.{IsListed}
use Rattle.trace_text.specs.Lines.{lines_of}
use Rattle.trace_text.specs.Reading.{commands_from}
use Rattle.trace_text.proofs.Reading.{with_front}
use Rattle.trace_text.proofs.text.read_commands.Given as goal

-- the commands so far and those of the text that is left are those of the whole text
abbrev pub invariant-loop-line : goal.invariant-loop-line
invariant-loop-line l = record {
  valid : All IsListed l.list.items;
  number : l.number + length l.rest ≤ l.first + length l.text;
  told : with_front l.list.items (commands_from l.number (lines_of l.rest)) ≡ commands_from l.first (lines_of l.text);
}

abbrev pub decreases-loop-line : goal.decreases-loop-line
decreases-loop-line l = length l.rest

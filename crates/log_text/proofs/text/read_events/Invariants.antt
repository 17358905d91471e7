use Rattle.std.proofs.Common.{◌≡◌, ◌≤◌, ◌+◌, length, All}
use Rattle.trace_text.specs.Lines.{lines_of}
use Rattle.log_text.specs.Log.{IsListedEvent, events_from}
use Rattle.log_text.proofs.Texts.{with_front}
use Rattle.log_text.proofs.text.read_events.Given as goal

-- the events so far and those of the text that is left are those of the whole text
abbrev pub invariant-loop-line : goal.invariant-loop-line
invariant-loop-line l = record {
  valid : All IsListedEvent l.list.items;
  few : l.first + length l.list.items ≤ l.number;
  number : l.number + length l.rest ≤ l.first + length l.text;
  told : with_front l.list.items (events_from l.number (lines_of l.rest)) ≡ events_from l.first (lines_of l.text);
}

abbrev pub decreases-loop-line : goal.decreases-loop-line
decreases-loop-line l = length l.rest

use Rattle.std.proofs.Common.{◌≡◌, ◌≤◌, ◌+◌, length, All}
use Rattle.trace_text.specs.Lines.{lines_of}
use Rattle.log_text.specs.Log.{IsListedGiven, givens_from}
use Rattle.log_text.proofs.Texts.{with_givens}
use Rattle.log_text.proofs.text.read_givens.Given as goal

-- the given lines so far and those of the text that is left are those of the whole text
abbrev pub invariant-loop-line : goal.invariant-loop-line
invariant-loop-line l = record {
  valid : All IsListedGiven l.givens.items;
  number : l.next + length l.rest ≤ l.first + length l.text;
  told : with_givens l.givens.items (givens_from l.next (lines_of l.rest)) ≡ givens_from l.first (lines_of l.text);
}

abbrev pub decreases-loop-line : goal.decreases-loop-line
decreases-loop-line l = length l.rest

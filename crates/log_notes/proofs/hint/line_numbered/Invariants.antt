use Rattle.std.proofs.Common.{◌-◌, ◌≡◌, slice_get}
use Rattle.trace_text.specs.Lines.{lines_of}
use Rattle.log_notes.proofs.hint.line_numbered.Given as goal

-- so many lines are left up to the one that is looked for
abbrev pub invariant-loop-left : goal.invariant-loop-left
invariant-loop-left l = slice_get (lines_of l.rest) (l.left - 1) ≡ slice_get (lines_of l.text) (l.number - 1)

abbrev pub decreases-loop-left : goal.decreases-loop-left
decreases-loop-left l = l.left

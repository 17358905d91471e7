-- The text has the lines of the granules so far.
use Rattle.std.proofs.Common.{◌≡◌, take}
use Rattle.trace_report.specs.Image.{image_of}
use Rattle.trace_report.proofs.image.image_lines.Given as goal

abbrev pub invariant-loop-i : goal.invariant-loop-i
invariant-loop-i l = l.text.items ≡ image_of l.memory.base (take l.i l.memory.granules)

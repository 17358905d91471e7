use Rattle.std.proofs.Common.{◌≡◌, drop}
use Rattle.log_text.specs.Log.{first_line}
use Rattle.heap_log.specs.Origin.{gives}
use Rattle.heap_log.proofs.origin.given_line.Given as goal

-- no line before gives the block
abbrev pub invariant-loop-line : goal.invariant-loop-line
invariant-loop-line l = first_line (gives l.block) (drop l.line-index l.givens) ≡ first_line (gives l.block) l.givens

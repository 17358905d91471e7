use Rattle.std.proofs.Common.{◌≡◌}
use Rattle.data_tokens.specs.Changes.{below, register_change}
use Rattle.data_tokens.specs.Line.{with_tokens}
use Rattle.data_tokens.proofs.changes.put_registers.Given as goal

abbrev pub invariant-loop-k : goal.invariant-loop-k
invariant-loop-k l = l.line ≡ with_tokens l.fn.line (below (register_change l.old l.new) l.k)

use Rattle.std.proofs.Common.{◌≡◌, ◌++◌, take}
use Rattle.std.specs.Prelude.{flat_map}
use Rattle.revoker_runs.specs.Told.{act_line}
use Rattle.revoker_runs.proofs.lines.push_acts.Given as goal

abbrev pub invariant-loop-act : goal.invariant-loop-act
invariant-loop-act l = l.text.items ≡ l.fn.text.items ++ flat_map act_line (take l.act-index l.acts)

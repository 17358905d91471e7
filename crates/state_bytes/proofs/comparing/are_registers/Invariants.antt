use Rattle.state_bytes.specs.Text.{register_text, texts_below}
use Rattle.state_bytes.specs.Writing.{StandsAt}
use Rattle.state_bytes.proofs.comparing.are_registers.Given as goal

abbrev pub invariant-loop-r : goal.invariant-loop-r
invariant-loop-r l = StandsAt l.bytes l.start (texts_below (register_text l.registers) l.r)

use Rattle.state_bytes.specs.Text.{register_text, texts_below}
use Rattle.state_bytes.specs.Writing.{IsWritten}
use Rattle.state_bytes.proofs.encoding.put_registers.Given as goal

abbrev pub invariant-loop-r : goal.invariant-loop-r
invariant-loop-r l = IsWritten l.fn.out l.start (texts_below (register_text l.registers) l.r) l.out

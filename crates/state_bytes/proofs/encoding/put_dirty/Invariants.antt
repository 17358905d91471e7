use Rattle.state_bytes.specs.Text.{dirty_text, texts_below}
use Rattle.state_bytes.specs.Writing.{IsWritten}
use Rattle.state_bytes.proofs.encoding.put_dirty.Given as goal

abbrev pub invariant-loop-page : goal.invariant-loop-page
invariant-loop-page l = IsWritten l.fn.out l.start (texts_below (dirty_text l.memory.dirty) l.page) l.out

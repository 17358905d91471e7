use Rattle.state_bytes.specs.Text.{dirty_text, texts_below}
use Rattle.state_bytes.specs.Writing.{StandsAt}
use Rattle.state_bytes.proofs.comparing.are_dirty.Given as goal

abbrev pub invariant-loop-page : goal.invariant-loop-page
invariant-loop-page l = StandsAt l.bytes l.start (texts_below (dirty_text l.memory.dirty) l.page)

use Rattle.heap_reply.specs.Shown.{shown_of}
use Rattle.heap_reply.proofs.reply.Shown.of.Goals as goal

pub returns : goal.returns
unfolding shown_of
returns c = rw (c.fields-f.ensures.value, c.bounds-within.ensures.value, c.exponent.ensures.value)

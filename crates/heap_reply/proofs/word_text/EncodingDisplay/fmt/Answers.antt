use Rattle.std.proofs.Common.{append-nil}
use Rattle.heap_reply.proofs.word_text.EncodingDisplay.fmt.Goals as goal

pub returns-clause-writes : goal.returns-clause-writes
returns-clause-writes g c =
    let shown = rw (c.flag_number-internal.ensures, c.in_radix.ensures, c.in_radix-2.ensures) at c.write.ensures.writes in
    λ plain ok. rw append-nil (shown plain ok)

use Rattle.std.specs.Prelude.{◌==◌}
use Rattle.trace_text.proofs.FirstByte.{first_place}
use Rattle.trace_text.proofs.FirstWord.{ends}
use Rattle.trace_text.proofs.words.bytes_before_feed.Goals as goal

pub returns : goal.returns
returns c =
    rw c.unwrap_or.ensures (ends (λ byte. byte == 10) c.args.text.now c.next.result
    (first_place (λ byte. byte == 10) c.args.text.now c.memchr_iter.result c.next.new.self c.next.result c.memchr_iter.ensures.value c.next.ensures.steps))

use Rattle.heap_reply.proofs.ShortTextLaws.{put_is}
use Rattle.heap_reply.proofs.short_text.ShortText.put.Goals as goal

pub invariant_of-self : goal.invariant_of-self
invariant_of-self c =
    put_is c.as_bytes.result.now _ _ _ _ c.as_bytes.ensures.utf8 c.self.invariant c.write_text-self-inside.ensures.start c.write_text-self-inside.ensures.written

use Rattle.std.proofs.Common.{subst, sym}
use Rattle.std.specs.Str.{IsUtf8}
use Rattle.heap_reply.proofs.ShortTextLaws.{put_is, utf8_bytes}
use Rattle.heap_reply.proofs.short_text.ShortText.put_bytes.Goals as goal

pub invariant_of-self : goal.invariant_of-self
invariant_of-self c =
    put_is c.encode_to_slice.new.output _ _ _ _ (subst IsUtf8 (sym c.in-Ok.ensures.written) (utf8_bytes c.args.bytes)) c.self.invariant
    c.write_text-self-inside.ensures.start c.write_text-self-inside.ensures.written

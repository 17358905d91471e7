-- What `show` shows of a register.
use Rattle.std.specs.Prelude.{Bool}
use Rattle.cap_codec.specs.declared.word.Word.{Word}
use Rattle.cap_codec.specs.Fields.{fields_of}
use Rattle.cap_codec.specs.Mantissas.{exponent_of}
use Rattle.cap_codec.specs.Words.{address_in, bounds_in}
use Rattle.heap_reply.specs.declared.reply.Shown.{Shown as ShownCell}

-- Of a word and its tag.
unfoldable pub shown_of : Word × Bool → ShownCell
shown_of c = record {
  tag = c.1;
  address = address_in c.0;
  base = (bounds_in c.0).base;
  top = (bounds_in c.0).top;
  perms = (fields_of c.0).perms;
  otype = (fields_of c.0).otype;
  exponent = exponent_of (fields_of c.0);
}

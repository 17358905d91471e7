-- Blocks of this crate, as the definitions have them.
use Rattle.std.specs.Prelude.{List, map}
use Rattle.heap_model.specs.Blocks.{Span}
use Rattle.data_tokens.specs.declared.blocks.HeldBlock.{HeldBlock}

abbrev pub span_of : HeldBlock → Span
span_of block = (block.base, block.length)

abbrev pub spans_of : List HeldBlock → List Span
spans_of blocks = map span_of blocks
